-- A transaction keeps its scope: at each of its steps a task and the tasks that it forks have names that are there.
use Rattle.std.proofs.Common.{◌≡◌, ◌∙◌, ◌⊎◌, inl, inr, ℕ, zero, suc, ◌+◌, Bool, true, false, cond, List, [], ◌∷◌, ◌++◌, refl, sym, ap, subst}
use Rattle.std.specs.Prelude.{Option, None, Some, All}
use Rattle.std.specs.Option.{IsSome}
use Rattle.std.proofs.lemmas.List.Elements.{All-nil, All-push, All-weaker}
use Rattle.value_core.specs.Place.{Spot}
use Rattle.value_core.specs.declared.code.Code.{Code}
use Rattle.value_core.specs.declared.code.Code.TheVariants as code
use Rattle.value_core.specs.declared.value.Value.{Value as Datum}
use Rattle.value_core.specs.declared.value.Value.TheVariants as value
use Rattle.value_core.specs.Futures.{holds_future}
use Rattle.value_core.specs.Within.{Within}
use Rattle.value_core.proofs.Within.{Within-structural, Within-weaker, Within-Ref, Within-Actor, Within-Future, ref_within, actor_within, future_within, Within-any_futures, all_within-any_futures}
use Rattle.core_syntax.specs.declared.node_id.NodeId.{NodeId}
use Rattle.serial_model.specs.declared.answer.Answer.{Answer}
use Rattle.serial_model.specs.declared.answer.Answer.TheVariants as answer
use Rattle.serial_model.specs.declared.effect.Effect.{Effect}
use Rattle.serial_model.specs.declared.effect.What.{What}
use Rattle.serial_model.specs.declared.effect.What.TheVariants as what
use Rattle.serial_model.specs.declared.halt.Halt.{Halt}
use Rattle.serial_model.specs.declared.halt.Halt.TheVariants as halt
use Rattle.serial_model.specs.declared.request.Request.{Request}
use Rattle.serial_model.specs.declared.request.Request.TheVariants as request
use Rattle.serial_model.specs.Carried.{OfAnswer, OfRequest, OfHalt, IsSealed, IsThere}
use Rattle.serial_model.specs.Ahead.{of_turn, self_of}
use Rattle.serial_model.specs.Eval.{next}
use Rattle.serial_model.specs.Log.{Log, new_log, with_effect, with_made, with_write, merged}
use Rattle.value_core.specs.Named.{Name, Named, with_named, over, is_among, made_by}
use Rattle.serial_model.specs.Operation.{some_future}
use Rattle.serial_model.specs.Task.{Around, Outcome, Value, Fault, Spent, Blocked, Result, Known, Nothing, And, Here, Moved, On, End, Call, result_of, with_known, read_in, replied, gets, looks_up, next_made, with_child, forks, joins, joins_found, if_turn, asks, joins_child, then_moves, closes, goes, task_step, follows, turns, fresh, uncalled, task, root_task}
use Rattle.serial_model.proofs.evaluation.Carries.{next-carries, ask-is-sealed, ask-is-there}
use Rattle.serial_model.proofs.Early.{IsEarlier}
use Rattle.serial_model.proofs.tasks.KnownScope.{FuturesIn, WritesWithin, EffectsWithin, IsWithin, KnownWithin, all-put, IsFoundWithin, found-within, IsValueOf, IsScoped, known-wider, refs-more, actors-more, value-more, writes-more, effects-more, known-more, scoped-more, scoped-answered, scoped-joined, child-value, IsTask, IsStored, ref-read, child-task}
use Rattle.value_core.proofs.NamedLaws.{still_named, some-here}
use Rattle.serial_model.proofs.runs.ScopeEffects.{effect-weaker}
use Rattle.serial_model.proofs.tasks.TaskNames.{AnActor, InKnown, IsUnder, IsFound, as_result, early-next, made-next, spawned-in, in-spawned, effects-right, found-there, named-first}
use Rattle.serial_model.proofs.tasks.TaskScope.{NoFuture, Spawns, RefsWith, ActorsWith, EffectWithin, IsAround, IsWaitedFor, IsKept, TransactionsKeep}
use Rattle.serial_model.proofs.tasks.TaskThings.{IsMore, more-itself, AreGiven, IsOrderly, fresh-orderly, known-given, wrote-orderly, made-orderly, effect-more, effect-orderly, fork-more, fork-orderly, joint-more, child-more, join-orderly, joined-more}

-- where a task of that name is, that was given those results and has these values
pub record IsHere (around : Around) (F R A : Name → Type 0) (given : Known) (values : List Datum) (name : Name) (here : Here) : Type 0 where
  pub named : here.log.name ≡ name
  pub orderly : IsOrderly given here.log here.known
  pub scoped : IsScoped around F R A values here.log here.known here.answers

-- how it ended
pub record IsEnded (around : Around) (F R A : Name → Type 0) (given : Known) (name : Name) (result : Result) : Type 0 where
  pub named : result.log.name ≡ name
  pub orderly : IsOrderly given result.log result.known
  pub within : IsWithin around F R A result
  pub inner : KnownWithin around F result.known (RefsWith R result.log) (ActorsWith A result.log)

-- each task that is called keeps its scope
abbrev pub CallKeeps : (around : Around) (F : Name → Type 0) → ℕ → Call → Type 1
CallKeeps around F zero call = Unit {1}
CallKeeps around F (suc levels) call =
    (R A : Name → Type 0) (view : Named Datum) (given : Known) (name : Name) (body : NodeId) (values : List Datum) → IsTask around F R A view → AreGiven name given
    → KnownWithin around F given R A → All (Within R A (FuturesIn F given)) values → IsEnded around F R A given name (call name body values view given)

module _ (around : Around) (F R A : Name → Type 0) (view : Named Datum) (runs : IsTask around F R A view) (given : Known) (values : List Datum) (name : Name) where
  abbrev Stands : Here → Type 0
  Stands here = IsHere around F R A given values name here

  abbrev Ends : Outcome → Here → Type 0
  Ends outcome here = IsEnded around F R A given name (as_result outcome here.log here.known)

  abbrev Keeps : Moved → Type 0
  Keeps (On after) = Stands after
  Keeps (End outcome after) = Ends outcome after

  abbrev ValueAt : Here → Datum → Type 0
  ValueAt here v = IsValueOf F R A here.log here.known v

  -- ---- an end
  ends : (outcome : Outcome) (here : Here) → Stands here → (outcome ≡ Blocked → IsWaitedFor around F) → ((v : Datum) → outcome ≡ Value v → ValueAt here v) → Ends outcome here
  ends outcome here is waits holds = record {
    named = is.named;
    orderly = is.orderly;
    within = record { waits = waits; value = holds; writes = is.scoped.writes; effects = is.scoped.effects };
    inner = is.scoped.known;
  }

  ends-fault : (here : Here) (code : Code) (at : Spot) → Stands here → Ends (Fault code at) here
  ends-fault here code at is = ends (Fault code at) here is (λ same. cc) (λ v same. cc)

  ends-spent : (here : Here) → Stands here → Ends Spent here
  ends-spent here is = ends Spent here is (λ same. cc) (λ v same. cc)

  ends-blocked : (here : Here) → Stands here → IsWaitedFor around F → Ends Blocked here
  ends-blocked here is waits = ends Blocked here is (λ same. waits) (λ v same. cc)

  ends-value : (here : Here) (v : Datum) → Stands here → ValueAt here v → Ends (Value v) here
  ends-value here v is holds = ends (Value v) here is (λ same. cc) (λ w same. let equal : v ≡ w = cc in subst (ValueAt here) equal holds)

  -- ---- an answer
  replies : (here : Here) (a : Answer) → Stands here → OfAnswer (ValueAt here) a → Keeps (replied here here.log a)
  replies here a is holds = record { named = is.named; orderly = is.orderly; scoped = scoped-answered around F R A values here.log here.known here.answers a is.scoped holds }

  -- with more done
  does : (here : Here) (log : Log) (known : Known) (v : Datum) → Stands here → log.name ≡ here.log.name → IsOrderly given log known → IsMore here.log here.known log known
      → WritesWithin (RefsWith R log) (ActorsWith A log) log.writes → EffectsWithin around.program (RefsWith R log) (ActorsWith A log) log.effects
      → KnownWithin around F known (RefsWith R log) (ActorsWith A log) → IsValueOf F R A log known v
      → Stands (record { answers = here.answers ++ answer.Value v ∷ []; log = log; known = known })
  does here log known v is same orderly more writes effects knows holds = record {
    named = same ∙ is.named;
    orderly = orderly;
    scoped = scoped-answered around F R A values log known here.answers (answer.Value v)
        (scoped-more F R A here.log here.known log known more around values here.answers is.scoped writes effects knows) holds;
  }

  module _ (here : Here) (is : Stands here) where
    abbrev log : Log
    log = here.log

    abbrev known : Known
    known = here.known

    nil_is : (log : Log) (known : Known) → IsValueOf F R A log known value.Nil
    nil_is log known = (Within-structural (RefsWith R log) (ActorsWith A log) (FuturesIn F known)).nil

    sealed : (v : Datum) → holds_future v ≡ false → ValueAt here v → Within (RefsWith R log) (ActorsWith A log) NoFuture v
    sealed v none holds = Within-any_futures (RefsWith R log) (ActorsWith A log) (FuturesIn F known) NoFuture v none holds

    all_sealed : (vs : List Datum) → some_future vs ≡ false → All (ValueAt here) vs → All (Within (RefsWith R log) (ActorsWith A log) NoFuture) vs
    all_sealed vs none holds = all_within-any_futures (RefsWith R log) (ActorsWith A log) (FuturesIn F known) NoFuture vs none holds

    unsealed : (v : Datum) → Within (RefsWith R log) (ActorsWith A log) NoFuture v → ValueAt here v
    unsealed v holds = Within-weaker (RefsWith R log) (ActorsWith A log) NoFuture (RefsWith R log) (ActorsWith A log) (FuturesIn F known) (λ n there. there) (λ n there. there) (λ n none. absurd none) v holds

    fault-reply : (code : Code) → Keeps (replied here log (answer.Fault code))
    fault-reply code = replies here (answer.Fault code) is tt

    value-reply : (v : Datum) → ValueAt here v → Keeps (gets here log v)
    value-reply v holds = replies here (answer.Value v) is holds

    -- an effect that was within the scope is within the wider one
    stronger : {after : Log} {others : Known} (more : IsMore log known after others) (done : What) → EffectWithin around.program (RefsWith R log) (ActorsWith A log) done
        → EffectWithin around.program (RefsWith R after) (ActorsWith A after) done
    stronger {after} {others} more done within =
        effect-weaker around.program (RefsWith R log) (ActorsWith A log) (RefsWith R after) (ActorsWith A after) (refs-more F R A log known after others more) (actors-more F R A log known after others more)
        done within

    -- ---- effects
    effect_kept : (done : What) → ((a : Name) → ¬ Spawns a done) → EffectWithin around.program (RefsWith R log) (ActorsWith A log) done → Keeps (gets here (with_effect log done) value.Nil)
    effect_kept done none within =
        does here (with_effect log done) known value.Nil is refl (effect-orderly given log known is.orderly done log.made (λ x early. early) begins) more
        (writes-more F R A log known (with_effect log done) known more log.writes is.scoped.writes)
        (All-push (λ (e : Effect). EffectWithin around.program (RefsWith R (with_effect log done)) (ActorsWith A (with_effect log done)) e.what) log.effects added
        (effects-more F R A log known (with_effect log done) known more around.program log.effects is.scoped.effects) (stronger more done within))
        (known-more F R A log known (with_effect log done) known more around known is.scoped.known)
        (nil_is (with_effect log done) known)
      where
        added : Effect
        added = record { task = log.name; number = log.own; what = done }

        begins : (a : Name) → Spawns a done → (a ≡ made_by log.name log.made) × IsEarlier (made_by log.name log.made) (made_by log.name log.made)
        begins a spawns = absurd (none a spawns)

        more : IsMore log known (with_effect log done) known
        more = effect-more given log known is.orderly done log.made (λ x early. early) begins

    -- an actor that begins
    spawns-one : (behaviour : ℕ) (state : List Datum) → EffectWithin around.program (RefsWith R log) (ActorsWith A log) (what.Spawn (next_made here) behaviour state)
        → Keeps (gets here (with_made (with_effect log (what.Spawn (next_made here) behaviour state))) (value.Actor (next_made here)))
    spawns-one behaviour state within =
        does here after known (value.Actor (next_made here)) is refl (effect-orderly given log known is.orderly done (log.made + 1) (λ x early. early-next log.name log.made x early) begins) more
        (writes-more F R A log known after known more log.writes is.scoped.writes)
        (All-push (λ (e : Effect). EffectWithin around.program (RefsWith R after) (ActorsWith A after) e.what) log.effects added
        (effects-more F R A log known after known more around.program log.effects is.scoped.effects)
        (stronger more (what.Spawn (next_made here) behaviour state) within))
        (known-more F R A log known after known more around known is.scoped.known)
        (Within-Actor (RefsWith R after) (ActorsWith A after) (FuturesIn F known) (next_made here)
        (inr (in-spawned (next_made here) after.effects (effects-right (AnActor (next_made here)) log.effects (added ∷ []) (inl refl)))))
      where
        done : What
        done = what.Spawn (next_made here) behaviour state

        added : Effect
        added = record { task = log.name; number = log.own; what = what.Spawn (next_made here) behaviour state }

        after : Log
        after = with_made (with_effect log (what.Spawn (next_made here) behaviour state))

        begins : (a : Name) → Spawns a (what.Spawn (next_made here) behaviour state) → (a ≡ made_by log.name log.made) × IsEarlier (made_by log.name log.made) (made_by log.name (log.made + 1))
        begins a same = (same, made-next log.name log.made)

        more : IsMore log known after known
        more = effect-more given log known is.orderly done (log.made + 1) (λ x early. early-next log.name log.made x early) begins

    -- ---- writes
    -- a write of a value with no future, and perhaps a thing made
    puts : (ref : Name) (v : Datum) (made : ℕ) → IsOrderly given (record log { writes = with_named log.writes ref v; made = made }) known → holds_future v ≡ false → ValueAt here v
        → (w : Datum) → IsValueOf F R A (record log { writes = with_named log.writes ref v; made = made }) known w
        → Keeps (gets here (record log { writes = with_named log.writes ref v; made = made }) w)
    puts ref v made orderly none holds w gives =
        does here after known w is refl orderly more
        (all-put (Within (RefsWith R after) (ActorsWith A after) NoFuture) ref v log.writes (writes-more F R A log known after known more log.writes is.scoped.writes)
        (Within-weaker (RefsWith R log) (ActorsWith A log) NoFuture (RefsWith R after) (ActorsWith A after) NoFuture (refs-more F R A log known after known more) (actors-more F R A log known after known more)
        (λ n never. never) v (sealed v none holds)))
        (effects-more F R A log known after known more around.program log.effects is.scoped.effects)
        (known-more F R A log known after known more around known is.scoped.known)
        gives
      where
        after : Log
        after = record log { writes = with_named log.writes ref v; made = made }

        more : IsMore log known after known
        more = record { refs = λ n there. still_named n ref v log.writes there; actors = λ n there. there; futures = λ n there. there }

    put-more : (ref : Name) (v : Datum) → IsMore log known (with_write log ref v) known
    put-more ref v = record { refs = λ n there. still_named n ref v log.writes there; actors = λ n there. there; futures = λ n there. there }

    sets-ref : (ref : Name) (v : Datum) → holds_future v ≡ false → ValueAt here v → Keeps (gets here (with_write log ref v) v)
    sets-ref ref v none holds =
        puts ref v log.made (wrote-orderly given log known is.orderly (with_named log.writes ref v) (λ n there. still_named n ref v log.writes there)) none holds v
        (value-more F R A log known (with_write log ref v) known (put-more ref v) v holds)

    makes-ref : (v : Datum) → holds_future v ≡ false → ValueAt here v → Keeps (gets here (with_made (with_write log (next_made here) v)) (value.Ref (next_made here)))
    makes-ref v none holds =
        puts (next_made here) v (log.made + 1)
        (made-orderly given (with_write log (next_made here) v) known
        (wrote-orderly given log known is.orderly (with_named log.writes (next_made here) v) (λ n there. still_named n (next_made here) v log.writes there)))
        none holds (value.Ref (next_made here))
        (Within-Ref (RefsWith R (with_write log (next_made here) v)) (ActorsWith A log) (FuturesIn F known) (next_made here) (inr (some-here (next_made here) v log.writes)))

    -- ---- a read
    reads : (ref : Name) → ValueAt here (value.Ref ref) → Keeps (looks_up here (read_in around view log ref))
    reads ref holds =
        let read = ref-read around F R A view runs log is.scoped.writes ref (ref_within (RefsWith R log) (ActorsWith A log) (FuturesIn F known) ref holds) in
        subst (λ o. Keeps (looks_up here o)) (sym read.read) (value-reply read.value (unsealed read.value read.within))

    -- ---- a fork
    forks-keep : (levels : ℕ) (call : Call) → CallKeeps around F levels call → (body : NodeId) (vs : List Datum) → All (ValueAt here) vs → Keeps (forks levels call view here body vs)
    forks-keep zero call keeps body vs all = fault-reply code.ForkTooDeep
    forks-keep (suc levels) call keeps body vs all =
        forked (call (next_made here) body vs (over log.writes view) known)
        (keeps (RefsWith R log) (ActorsWith A log) (over log.writes view) known (next_made here) body vs (child-task around F R A view runs log is.scoped.writes) (known-given given log known is.orderly)
        is.scoped.known all)
      where
        forked : (child : Result) → IsEnded around F (RefsWith R log) (ActorsWith A log) known (next_made here) child → Keeps (with_child here (next_made here) child)
        forked child ended =
            does here (with_made log) (And (next_made here) child.outcome child.log child.known known) (value.Future (next_made here)) is refl
            (fork-orderly given log known is.orderly child ended.orderly ended.named) (fork-more given log known is.orderly child ended.orderly ended.named)
            is.scoped.writes is.scoped.effects (ended.within, ended.inner, is.scoped.known)
            (Within-Future (RefsWith R log) (ActorsWith A log) (FuturesIn F (And (next_made here) child.outcome child.log child.known known)) (next_made here)
            (inr (named-first (next_made here) child.outcome child.log child.known known)))

    -- ---- a join
    joins-keep : (future : Name) (child : Result) → result_of future known ≡ Some child → (go : Here → Datum → Moved)
        → ((after : Here) (v : Datum) → Stands after → IsMore log known after.log after.known → ValueAt after v → Keeps (go after v))
        → Keeps (joins here future child child.outcome go)
    joins-keep future child is_known go keeps = on child.outcome refl
      where
        found : IsFound known future child
        found = found-there future known child is_known

        within : IsFoundWithin around F (RefsWith R log) (ActorsWith A log) child
        within = found-within around F known (RefsWith R log) (ActorsWith A log) future child is_known is.scoped.known

        joint : Here
        joint = record here { log = merged here.log child.log; known = with_known here.known child.known }

        more : IsMore log known (merged log child.log) (with_known known child.known)
        more = joint-more given log known is.orderly future child found

        theirs : IsMore child.log child.known (merged log child.log) (with_known known child.known)
        theirs = child-more given log known is.orderly future child found

        joint-stands : Stands joint
        joint-stands = record {
          named = is.named;
          orderly = join-orderly given log known is.orderly future child found;
          scoped = scoped-joined around F R A values log known here.answers child more theirs is.scoped within;
        }

        after : (v : Datum) → child.outcome ≡ Value v → (b : Bool) → is_among future log.joined ≡ b → Keeps (go (cond b here joint) v)
        after v same true among =
            keeps here v is (more-itself log known)
            (child-value around F R A log known child log known (more-itself log known) (joined-more given log known is.orderly future child found among) within.itself v same)
        after v same false among = keeps joint v joint-stands more (child-value around F R A log known child joint.log joint.known more theirs within.itself v same)

        on : (outcome : Outcome) → child.outcome ≡ outcome → Keeps (joins here future child outcome go)
        on (Value v) same = after v same (is_among future log.joined) refl
        on (Fault code at) same = ends-fault here code at is
        on Spent same = ends-spent here is
        on Blocked same = ends-blocked here is (within.itself.waits same)

    joins-found : (future : Name) → ValueAt here (value.Future future) → Keeps (joins_found around here future (result_of future known))
    joins-found future holds = on (result_of future known) refl (future_within (RefsWith R log) (ActorsWith A log) (FuturesIn F known) future holds)
      where
        plain : (finished : Option Datum) → around.finished future ≡ finished → F future → Keeps (looks_up here finished)
        plain None unfinished there = ends-blocked here is (record { future = future; known = there; unfinished = unfinished })
        plain (Some v) finished there =
            value-reply v (Within-weaker R A F (RefsWith R log) (ActorsWith A log) (FuturesIn F known) (λ n there. inl there) (λ n there. inl there) (λ n there. inl there) v
            (runs.units_hold future v there finished))

        on : (found : Option Result) → result_of future known ≡ found → F future ⊎ IsSome found → Keeps (joins_found around here future found)
        on None none (inl there) = plain (around.finished future) refl there
        on None none (inr absent) = absurd (cc)
        on (Some child) is_known there =
            joins-keep future child is_known (λ after v. gets after after.log v) (λ after v stands more value. replies after (answer.Value v) stands value)

    -- ---- what is for turns alone
    becomes : (done : What) → ((a : Name) → ¬ Spawns a done) → EffectWithin around.program (RefsWith R log) (ActorsWith A log) done
        → Keeps (replied here (if_turn around.actor log (with_effect log done)) (of_turn around.actor (answer.Value value.Nil)))
    becomes done none within = on around.actor
      where
        on : (o : Option Name) → Keeps (replied here (if_turn o log (with_effect log done)) (of_turn o (answer.Value value.Nil)))
        on None = fault-reply code.NoTurn
        on (Some actor) = effect_kept done none within

    selves : Keeps (replied here log (self_of around.actor))
    selves = on around.actor refl
      where
        on : (o : Option Name) → around.actor ≡ o → Keeps (replied here log (self_of o))
        on None same = fault-reply code.NoTurn
        on (Some actor) same = value-reply (value.Actor actor) (Within-Actor (RefsWith R log) (ActorsWith A log) (FuturesIn F known) actor (inl (runs.actor_there actor same)))

    -- ---- requests
    asks-keep : (levels : ℕ) (call : Call) → CallKeeps around F levels call → (asked : Request) → OfRequest (ValueAt here) asked → IsSealed asked → IsThere around.program true asked
        → Keeps (asks around levels call view here asked)
    asks-keep levels call keeps (request.Print text) holds closed there = effect_kept (what.Bytes text) (λ a none. none) tt
    asks-keep levels call keeps (request.NewRef v) holds closed there = makes-ref v closed holds
    asks-keep levels call keeps (request.Deref ref) holds closed there = reads ref holds
    asks-keep levels call keeps (request.RefSet ref v) holds closed there = sets-ref ref v closed holds.1
    asks-keep levels call keeps (request.Fork body vs) holds closed there = forks-keep levels call keeps body vs holds
    asks-keep levels call keeps (request.Join future) holds closed there = joins-found future holds
    asks-keep levels call keeps (request.Dosync body vs) holds closed there = absurd (let never = there.1 in cc)
    asks-keep levels call keeps (request.Spawn behaviour state) holds closed there = spawns-one behaviour state (there, all_sealed state closed holds)
    asks-keep levels call keeps (request.Send actor message) holds closed there =
        effect_kept (what.Send actor message) (λ a none. none) (actor_within (RefsWith R log) (ActorsWith A log) (FuturesIn F known) actor holds.0, all_sealed message closed holds.1)
    asks-keep levels call keeps (request.Become behaviour state) holds closed there =
        becomes (what.Become behaviour state) (λ a none. none) (there, all_sealed state closed holds)
    asks-keep levels call keeps request.SelfActor holds closed there = selves

  -- ---- the end of a task that has its value
  closes-keep : (v : Datum) (k n : ℕ) (here : Here) → Stands here → ValueAt here v → Keeps (closes v k n here)
  closes-keep v k zero here is holds = ends-value here v is holds
  closes-keep v k (suc n) here is holds = among (is_among child here.log.joined) (λ after stands holds. closes-keep v (suc k) n after stands holds)
    where
      child : Name
      child = made_by here.log.name k

      Rest : Type 0
      Rest = (after : Here) → Stands after → ValueAt after v → Keeps (closes v (suc k) n after)

      -- a child that is joined
      joined : (result : Result) → result_of child here.known ≡ Some result → Rest → (outcome : Outcome) → result.outcome ≡ outcome
          → Keeps (then_moves (joins here child result outcome (λ after joined. On after)) (λ after. closes v (suc k) n after))
      joined result same rest (Value w) out =
          let keeps = joins-keep here is child result same (λ after joined. closes v (suc k) n after)
          (λ after w stands more value. rest after stands (value-more F R A here.log here.known after.log after.known more v holds)) in
          subst (λ o. Keeps (joins here child result o (λ after joined. closes v (suc k) n after))) out keeps
      joined result same rest (Fault code at) out = ends-fault here code at is
      joined result same rest Spent out = ends-spent here is
      joined result same rest Blocked out =
          let keeps = joins-keep here is child result same (λ after joined. closes v (suc k) n after)
          (λ after w stands more value. rest after stands (value-more F R A here.log here.known after.log after.known more v holds)) in
          subst (λ o. Keeps (joins here child result o (λ after joined. closes v (suc k) n after))) out keeps

      found : (o : Option Result) → result_of child here.known ≡ o → Rest → Keeps (then_moves (joins_child here child o) (λ after. closes v (suc k) n after))
      found None same rest = rest here is holds
      found (Some result) same rest = joined result same rest result.outcome refl

      among : (b : Bool) → Rest → Keeps (then_moves (joins_child here child (cond b None (result_of child here.known))) (λ after. closes v (suc k) n after))
      among true rest = rest here is holds
      among false rest = found (result_of child here.known) refl rest

  -- ---- steps
  step-keeps : (levels : ℕ) (call : Call) → CallKeeps around F levels call → (body : NodeId) (here : Here) → Stands here → Keeps (task_step around levels call body values view here)
  step-keeps levels call keeps body here is =
      on (next around.program body values true here.answers around.fuel) refl
      (next-carries (ValueAt here) (Within-structural (RefsWith R here.log) (ActorsWith A here.log) (FuturesIn F here.known)) around.program body values true here.answers around.fuel
      is.scoped.values is.scoped.answers)
    where
      on : (end : Halt) → next around.program body values true here.answers around.fuel ≡ end → OfHalt (ValueAt here) end → Keeps (goes around levels call view here end)
      on (halt.Ask asked at) same holds =
          asks-keep here is levels call keeps asked holds (ask-is-sealed around.program body values true here.answers around.fuel asked at same)
          (ask-is-there around.program runs.formed body values true here.answers around.fuel asked at same)
      on (halt.Value v) same holds = closes-keep v 0 here.log.made here is holds
      on (halt.Fault code at) same holds = ends-fault here code at is
      on halt.Spent same holds = ends-spent here is

  follows-ends : (moved : Moved) (go : Here → Result) → Keeps moved → ((after : Here) → Stands after → IsEnded around F R A given name (go after)) → IsEnded around F R A given name (follows moved go)
  follows-ends (On after) go keeps rest = rest after keeps
  follows-ends (End outcome after) go keeps rest = keeps

  turns-keep : (levels : ℕ) (call : Call) → CallKeeps around F levels call → (body : NodeId) (n : ℕ) (here : Here) → Stands here → IsEnded around F R A given name (turns around levels call body values view n here)
  unfolding turns
  turns-keep levels call keeps body zero here is = ends-spent here is
  turns-keep levels call keeps body (suc n) here is =
      follows-ends (task_step around levels call body values view here) (λ after. turns around levels call body values view n after) (step-keeps levels call keeps body here is)
      (λ after stands. turns-keep levels call keeps body n after stands)

  fresh-stands : AreGiven name given → KnownWithin around F given R A → All (Within R A (FuturesIn F given)) values → Stands (fresh name given)
  fresh-stands are known all = record {
    named = refl;
    orderly = fresh-orderly name given are;
    scoped = record {
      values = All-weaker (Within R A (FuturesIn F given)) (IsValueOf F R A (new_log name) given)
          (λ v holds. Within-weaker R A (FuturesIn F given) (RefsWith R (new_log name)) (ActorsWith A (new_log name)) (FuturesIn F given) (λ n there. inl there) (λ n there. inl there) (λ n there. there) v holds)
          values all;
      answers = All-nil (OfAnswer (IsValueOf F R A (new_log name) given));
      writes = All-nil (λ (e : Name × Datum). Within (RefsWith R (new_log name)) (ActorsWith A (new_log name)) NoFuture e.1);
      effects = All-nil (λ (e : Effect). EffectWithin around.program (RefsWith R (new_log name)) (ActorsWith A (new_log name)) e.what);
      known = known-wider around F given R A (RefsWith R (new_log name)) (ActorsWith A (new_log name)) (λ n there. inl there) (λ n there. inl there) known;
    };
  }

-- a task with any levels below it
pub task-keeps : (around : Around) (F : Name → Type 0) (levels : ℕ) → CallKeeps around F (suc levels) (λ name body values view known. task around levels name body values view known)
unfolding task
task-keeps around F zero R A view given name body values runs are known all =
    turns-keep around F R A view runs given values name zero uncalled tt body (suc around.fuel) (fresh name given) (fresh-stands around F R A view runs given values name are known all)
task-keeps around F (suc levels) R A view given name body values runs are known all =
    turns-keep around F R A view runs given values name (suc levels) (λ name body values view known. task around levels name body values view known) (task-keeps around F levels) body (suc around.fuel)
    (fresh name given) (fresh-stands around F R A view runs given values name are known all)

-- ---- the root
root-task : (around : Around) (R A F : Name → Type 0) → IsAround around R A F → IsTask around F R A []
root-task around R A F is = record {
  formed = is.formed;
  viewed = λ name v none. cc;
  refs_there = λ ref there. inr (on ref there (around.store ref) refl (is.refs_there ref there));
  units_hold = is.units_hold;
  actor_there = is.actor_there;
}
  where
    on : (ref : Name) → R ref → (found : Option Datum) → around.store ref ≡ found → IsSome found → IsStored around R A ref
    on ref there None stored none = absurd (cc)
    on ref there (Some v) stored some = record { value = v; stored = stored; within = is.refs_hold ref v there stored }

none-given : (name : Name) → AreGiven name Nothing
none-given name = record { early = λ x none. absurd none; together = λ x y none also. absurd none; sound = λ x none. absurd none }

-- what the root of a transaction keeps
root-kept : (around : Around) (R A F : Name → Type 0) (name : Name) (result : Result) → IsEnded around F R A Nothing name result → IsKept around R A F name result
root-kept around R A F name result is = record {
  waits = is.within.waits;
  value = is.within.value;
  writes = is.within.writes;
  effects = is.within.effects;
  below = λ actor spawned. below actor (is.orderly.from (AnActor actor) (inl (spawned-in actor result.log.effects spawned)));
  apart = λ actor other k rest one two same.
      (is.orderly.together (AnActor actor) (AnActor other) (inl (spawned-in actor result.log.effects one)) (inl (spawned-in other result.log.effects two))).0 (k, rest, same);
}
  where
    below : (actor : Name) → InKnown Nothing (AnActor actor) ⊎ IsUnder result.log.name (AnActor actor) → (rest : List ℕ) × (actor ≡ name ++ rest)
    below actor (inl none) = absurd none
    below actor (inr under) = (under.0 ∷ under.1, under.2 ∙ ap (λ n. n ++ under.0 ∷ under.1) is.named)

-- each transaction keeps its scope
pub transactions-keep : TransactionsKeep
transactions-keep around R A F is name body values all =
    root-kept around R A F name (root_task around name body values)
    (task-keeps around F 16 R A [] Nothing name body values (root-task around R A F is) (none-given name) tt
    (All-weaker (Within R A F) (Within R A (FuturesIn F Nothing)) (λ v holds. Within-weaker R A F R A (FuturesIn F Nothing) (λ n there. there) (λ n there. there) (λ n there. inl there) v holds) values all))
