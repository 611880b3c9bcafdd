-- Each step keeps the names in a state's values to those that are there.
use Rattle.std.proofs.Common.{◌≡◌, inl, inr, ℕ, suc, true, false, List, [], ◌∷◌, ◌++◌, refl, sym, subst, arith}
use Rattle.std.specs.Prelude.{Option, None, Some, All}
use Rattle.std.specs.Option.{IsSome, option_and_then}
use Rattle.std.proofs.lemmas.List.Elements.{All-nil, All-head, All-tail, All-append, All-push, All-weaker}
use Rattle.value_core.specs.Futures.{holds_future}
use Rattle.value_core.specs.Place.{Spot}
use Rattle.value_core.specs.declared.value.Value.{Value}
use Rattle.value_core.specs.declared.value.Value.TheVariants as value
use Rattle.value_core.specs.Within.{Within}
use Rattle.value_core.proofs.Within.{Within-structural, Within-weaker, Within-any_futures, Within-Ref, Within-Actor, Within-Future, actor_within, future_within}
use Rattle.core_syntax.specs.declared.behaviour.Behaviour.{Behaviour}
use Rattle.core_syntax.specs.declared.node_id.NodeId.{NodeId}
use Rattle.core_syntax.specs.Table.{Table}
use Rattle.core_syntax.specs.WellFormed.{IsWellFormed}
use Rattle.serial_model.specs.declared.actor_state.ActorState.{ActorState}
use Rattle.serial_model.specs.declared.entry.Entry.{Entry}
use Rattle.serial_model.specs.declared.halt.Halt.{Halt}
use Rattle.serial_model.specs.declared.halt.Halt.TheVariants as halt
use Rattle.serial_model.specs.declared.request.Request.{Request}
use Rattle.serial_model.specs.declared.request.Request.TheVariants as request
use Rattle.serial_model.specs.Carried.{OfAnswer, OfHalt, IsSealed, IsThere}
use Rattle.serial_model.specs.Log.{Log}
use Rattle.value_core.specs.Named.{Name, Named, named, with_named, over, made_by}
use Rattle.serial_model.specs.State.{Setup, Becoming, UnitState, Queues, State, opening, new_unit, main_name}
use Rattle.serial_model.specs.Step.{step, gets, answered, with_made, with_unit, next_made, spawned, sent, becoming, released, finishes, commits, value_of, around, next_of, idle, after_turn, queue_of, with_queue, take_effects}
use Rattle.serial_model.specs.Task as task
use Rattle.serial_model.specs.Task.{Around, Result, root_task}
use Rattle.serial_model.proofs.evaluation.Carries.{next-carries, ask-is-sealed, ask-is-there}
use Rattle.serial_model.proofs.Early.{earlier-made, earlier-joined}
use Rattle.serial_model.proofs.runs.EffectLaws.{effects-keep}
use Rattle.value_core.proofs.NamedLaws.{each-put, still_named, some-here, still_over, named_over}
use Rattle.serial_model.proofs.runs.Scope.{Scope, IsWider, EarlyUnit, IsSealedIn, IsSeenIn, IsBecoming, UnitScoped, AreScoped, sealed-wider, seen-wider, seen-later, sealed-seen, seen-sealed, all_seen-sealed, becoming-wider, unit-wider, answered-scoped, made-scoped, becoming-scoped, finished-scoped, task-scoped, turn-scoped, scoped-wider, unit-put, ref-put, refs-over, actor-put, queue-put, queue-sealed}
use Rattle.serial_model.proofs.runs.ScopeEffects.{StandsIn, effects-scoped, effects-actors, effect-weaker}
use Rattle.serial_model.proofs.runs.StepCases.{IsRunning, IsTaking, RunRows, StepRows, forked, begun, step-cases}
use Rattle.serial_model.proofs.tasks.TaskScope.{NoFuture, RefsWith, ActorsWith, FuturesWith, EffectWithin, IsAround, IsKept, TransactionsKeep}

-- what there is in these maps
abbrev pub scope_of : Named Value → Named ActorState → Named UnitState → Scope
scope_of refs actors units = record { refs = λ name. IsSome (named name refs); actors = λ name. IsSome (named name actors); units = λ name. IsSome (named name units) }

abbrev pub Stands : Table → Named Value → Named UnitState → Named ActorState → Queues → Type 0
Stands table refs units actors queues = AreScoped table (scope_of refs actors units) refs units actors queues

-- the values of the state name what there is
abbrev pub IsScoped : Setup → State → Type 0
IsScoped setup s = Stands setup.program s.refs s.units s.actors s.queues

pub opening-scoped : (setup : Setup) → IsScoped setup (opening setup)
opening-scoped setup = record {
  each_ref = λ name v none. cc;
  each_unit = each-put (UnitScoped setup.program (scope_of [] [] ((main_name, new_unit None setup.program.main []) ∷ []))) main_name (new_unit None setup.program.main []) [] (λ name unit none. cc) (record {
    values = All-nil (IsSeenIn (scope_of [] [] ((main_name, new_unit None setup.program.main []) ∷ [])) main_name 0);
    answers = All-nil (OfAnswer (IsSeenIn (scope_of [] [] ((main_name, new_unit None setup.program.main []) ∷ [])) main_name 0));
    finished = λ v none. cc;
    becomes = λ b none. cc;
    actor = λ actor none. cc;
  });
  each_actor = λ name actor none. cc;
  each_queue = λ name mail none. cc;
}

-- the value of a unit is that of one that is finished
pub record IsValueOf (units : Named UnitState) (name : Name) (v : Value) : Type 0 where
  pub unit : UnitState
  pub there : named name units ≡ Some unit
  pub over : unit.finished ≡ Some v

pub value_of-is : (s : State) (name : Name) (v : Value) → value_of s name ≡ Some v → IsValueOf s.units name v
value_of-is s name v is = on (named name s.units) refl is
  where
    on : (found : Option UnitState) → named name s.units ≡ found → option_and_then (λ unit. unit.finished) found ≡ Some v → IsValueOf s.units name v
    on None there over = cc
    on (Some unit) there over = record { unit = unit; there = there; over = over }

-- what is new in a map is there beside what was there
more_units : (s : State) (name : Name) (unit : UnitState) → IsWider (scope_of s.refs s.actors s.units) (scope_of s.refs s.actors (with_named s.units name unit))
more_units s name unit = record { refs = λ n there. there; actors = λ n there. there; units = λ n there. still_named n name unit s.units there }

refs_there : (refs : Named Value) (log : Log) (name : Name) → RefsWith (λ n. IsSome (named n refs)) log name → IsSome (named name (over log.writes refs))
refs_there refs log name (inl there) = still_over name log.writes refs there
refs_there refs log name (inr there) = named_over name log.writes refs there

-- at the end of a turn its actor is what it becomes
released-scoped : (setup : Setup) (s : State) → IsScoped setup s → (actor : Option Name) (becomes : Option Becoming)
    → ((b : Becoming) → becomes ≡ Some b → IsBecoming setup.program (scope_of s.refs s.actors s.units) b.behaviour b.state) → IsScoped setup (released actor s becomes)
released-scoped setup s scoped None becomes is = scoped
released-scoped setup s scoped (Some name) becomes is = on (named name s.actors) refl
  where
    turned : (actor : ActorState) → named name s.actors ≡ Some actor → (becomes : Option Becoming)
        → ((b : Becoming) → becomes ≡ Some b → IsBecoming setup.program (scope_of s.refs s.actors s.units) b.behaviour b.state)
        → IsBecoming setup.program (scope_of s.refs s.actors s.units) (after_turn becomes actor).behaviour (after_turn becomes actor).state
    turned actor there None is = scoped.each_actor name actor there
    turned actor there (Some b) is = is b refl

    on : (found : Option ActorState) → named name s.actors ≡ found → IsScoped setup (released (Some name) s becomes)
    on None there = rw there scoped
    on (Some actor) there =
        let S = scope_of s.refs s.actors s.units in
        let T = scope_of s.refs (with_named s.actors name (after_turn becomes actor)) s.units in
        let wider : IsWider S T = record { refs = λ n there. there; actors = λ n there. still_named n name (after_turn becomes actor) s.actors there; units = λ n there. there } in
        rw there (scoped-wider setup.program S s.refs s.units (with_named s.actors name (after_turn becomes actor)) s.queues
        (actor-put setup.program S s.refs s.units s.actors s.queues scoped name (after_turn becomes actor) (turned actor there becomes is)) T wider)

module _ (setup : Setup) (formed : IsWellFormed setup.program) (s : State) (scoped : IsScoped setup s) where
  abbrev table : Table
  table = setup.program

  abbrev S : Scope
  S = scope_of s.refs s.actors s.units

  -- a unit's value is seen where the unit is early
  value_seen : (name : Name) (k : ℕ) (future : Name) (v : Value) → EarlyUnit S name k future → value_of s future ≡ Some v → IsSeenIn S name k v
  value_seen name k future v known is =
      let of = value_of-is s future v is in
      let seen = (scoped.each_unit future of.unit of.there).finished v of.over in
      seen-later S future name of.unit.made k (λ g early. earlier-joined g future (made_by name k) of.unit.made early known.1) v seen

  module _ (name : Name) (unit : UnitState) (running : IsRunning s name unit) where
    abbrev Seen : Value → Type 0
    Seen = IsSeenIn S name unit.made

    here : UnitScoped table S name unit
    here = scoped.each_unit name unit running.there

    structural-seen : IsSeenIn S name unit.made value.Nil
    structural-seen = (Within-structural S.refs S.actors (EarlyUnit S name unit.made)).nil

    pub carries : (end : Halt) → next_of setup unit ≡ end → OfHalt Seen end
    carries end is =
        subst (OfHalt Seen) is (next-carries Seen (Within-structural S.refs S.actors (EarlyUnit S name unit.made)) table unit.body unit.values false unit.answers setup.limits.fuel here.values here.answers)

    is_sealed : (asked : Request) (at : Spot) → next_of setup unit ≡ halt.Ask asked at → IsSealed asked
    is_sealed asked at is = ask-is-sealed table unit.body unit.values false unit.answers setup.limits.fuel asked at is

    is_there : (asked : Request) (at : Spot) → next_of setup unit ≡ halt.Ask asked at → IsThere table false asked
    is_there asked at is = ask-is-there table formed unit.body unit.values false unit.answers setup.limits.fuel asked at is

    -- the unit is answered, and no name is new
    gets-scoped : (before : UnitState) (v : Value) (queues : Queues) → AreScoped table S s.refs s.units s.actors queues → UnitScoped table S name before → IsSeenIn S name before.made v
        → Stands table s.refs (with_named s.units name (answered before v)) s.actors queues
    gets-scoped before v queues parts is seen =
        scoped-wider table S s.refs (with_named s.units name (answered before v)) s.actors queues
        (unit-put table S s.refs s.units s.actors queues parts name (answered before v) (answered-scoped table S name before v is seen))
        (scope_of s.refs s.actors (with_named s.units name (answered before v))) (more_units s name (answered before v))

    -- the unit is answered with the name of a new ref, actor or unit
    made-row : (T : Scope) → IsWider S T → (v : Value) → IsSeenIn T name (suc unit.made) v → UnitScoped table T name (answered (with_made unit) v)
    made-row T wider v seen = answered-scoped table T name (with_made unit) v (made-scoped table T name unit (unit-wider table S T wider name unit here)) seen

    refs-row : (v : Value) (at : Spot) → next_of setup unit ≡ halt.Ask (request.NewRef v) at
        → IsScoped setup (gets (record s { refs = with_named s.refs (next_made name unit) v }) name (with_made unit) (value.Ref (next_made name unit)))
    refs-row v at asks =
        let child = next_made name unit in
        let after = answered (with_made unit) (value.Ref child) in
        let T = scope_of (with_named s.refs child v) s.actors (with_named s.units name after) in
        let wider : IsWider S T = record { refs = λ n there. still_named n child v s.refs there; actors = λ n there. there; units = λ n there. still_named n name after s.units there } in
        let sealed = sealed-wider S T wider v (seen-sealed S name unit.made v (is_sealed (request.NewRef v) at asks) (carries (halt.Ask (request.NewRef v) at) asks)) in
        unit-put table T (with_named s.refs child v) s.units s.actors s.queues
        (ref-put table T s.refs s.units s.actors s.queues (scoped-wider table S s.refs s.units s.actors s.queues scoped T wider) child v sealed)
        name after (made-row T wider (value.Ref child) (Within-Ref T.refs T.actors (EarlyUnit T name (suc unit.made)) child (some-here child v s.refs)))

    forks-row : (body : NodeId) (values : List Value) (at : Spot) → next_of setup unit ≡ halt.Ask (request.Fork body values) at → IsScoped setup (forked s name unit body values)
    forks-row body values at asks =
        let child = next_made name unit in
        let new = new_unit None body values in
        let after = answered (with_made unit) (value.Future child) in
        let T = scope_of s.refs s.actors (with_named (with_named s.units child new) name after) in
        let wider : IsWider S T = record {
          refs = λ n there. there;
          actors = λ n there. there;
          units = λ n there. still_named n name after (with_named s.units child new) (still_named n child new s.units there);
        } in
        let seen = All-weaker Seen (IsSeenIn T name unit.made) (seen-wider S T wider name unit.made) values (carries (halt.Ask (request.Fork body values) at) asks) in
        let there : T.units child = still_named child name after (with_named s.units child new) (some-here child new s.units) in
        unit-put table T s.refs (with_named s.units child new) s.actors s.queues
        (unit-put table T s.refs s.units s.actors s.queues (scoped-wider table S s.refs s.units s.actors s.queues scoped T wider) child new (task-scoped table T name unit.made body values seen))
        name after
        (made-row T wider (value.Future child)
        (Within-Future T.refs T.actors (EarlyUnit T name (suc unit.made)) child (there, earlier-made name unit.made (suc unit.made) (omega arith))))

    spawns-row : (behaviour : ℕ) (state : List Value) (at : Spot) → next_of setup unit ≡ halt.Ask (request.Spawn behaviour state) at
        → IsScoped setup (gets (spawned s (next_made name unit) behaviour state) name (with_made unit) (value.Actor (next_made name unit)))
    spawns-row behaviour state at asks =
        let child = next_made name unit in
        let new = idle behaviour state in
        let after = answered (with_made unit) (value.Actor child) in
        let T = scope_of s.refs (with_named s.actors child new) (with_named s.units name after) in
        let wider : IsWider S T = record { refs = λ n there. there; actors = λ n there. still_named n child new s.actors there; units = λ n there. still_named n name after s.units there } in
        let becoming_is : IsBecoming table S behaviour state = record {
          there = is_there (request.Spawn behaviour state) at asks;
          sealed = all_seen-sealed S name unit.made state (is_sealed (request.Spawn behaviour state) at asks) (carries (halt.Ask (request.Spawn behaviour state) at) asks);
        } in
        unit-put table T s.refs s.units (with_named s.actors child new) s.queues
        (actor-put table T s.refs s.units s.actors s.queues (scoped-wider table S s.refs s.units s.actors s.queues scoped T wider) child new (becoming-wider table S T wider behaviour state becoming_is))
        name after (made-row T wider (value.Actor child) (Within-Actor T.refs T.actors (EarlyUnit T name (suc unit.made)) child (some-here child new s.actors)))

    sends-row : (actor : Name) (message : List Value) (at : Spot) → next_of setup unit ≡ halt.Ask (request.Send actor message) at → IsScoped setup (gets (sent s actor name message) name unit value.Nil)
    sends-row actor message at asks =
        let seen = carries (halt.Ask (request.Send actor message) at) asks in
        let there = actor_within S.refs S.actors (EarlyUnit S name unit.made) actor seen.0 in
        let sealed = all_seen-sealed S name unit.made message (is_sealed (request.Send actor message) at asks) seen.1 in
        let queue = queue_of s.queues actor name in
        gets-scoped unit value.Nil (with_queue s.queues actor name (queue ++ message ∷ []))
        (queue-put table S s.refs s.units s.actors s.queues scoped actor name (queue ++ message ∷ []) there
        (All-push (All (IsSealedIn S)) queue message (queue-sealed table S s.refs s.units s.actors s.queues scoped actor name) sealed))
        here structural-seen

    becomes-row : (behaviour : ℕ) (state : List Value) (at : Spot) → next_of setup unit ≡ halt.Ask (request.Become behaviour state) at → IsScoped setup (gets s name (becoming unit behaviour state) value.Nil)
    becomes-row behaviour state at asks =
        let becoming_is : IsBecoming table S behaviour state = record {
          there = is_there (request.Become behaviour state) at asks;
          sealed = all_seen-sealed S name unit.made state (is_sealed (request.Become behaviour state) at asks) (carries (halt.Ask (request.Become behaviour state) at) asks);
        } in
        gets-scoped (becoming unit behaviour state) value.Nil s.queues scoped (becoming-scoped table S name unit behaviour state here becoming_is) structural-seen

    finishes-row : (v : Value) → next_of setup unit ≡ halt.Value v → IsScoped setup (finishes s name unit v)
    finishes-row v is =
        let over = record unit { finished = Some v } in
        let base = with_unit s name over in
        let T = scope_of s.refs s.actors base.units in
        let stands : IsScoped setup base =
        scoped-wider table S s.refs base.units s.actors s.queues
        (unit-put table S s.refs s.units s.actors s.queues scoped name over (finished-scoped table S name unit v here (carries (halt.Value v) is))) T (more_units s name over)
        in released-scoped setup base stands unit.actor unit.becomes (λ b said. becoming-wider table S T (more_units s name over) b.behaviour b.state (here.becomes b said))

    -- what a transaction of the unit is run with
    is_around : IsAround (around setup s unit) S.refs S.actors (EarlyUnit S name unit.made)
    is_around = record {
      formed = formed;
      refs_there = λ ref there. there;
      refs_hold = λ ref v there is. scoped.each_ref ref v is;
      units_hold = λ future v known is. value_seen name unit.made future v known is;
      actor_there = λ actor of. here.actor actor of;
    }

    pub transaction-kept : TransactionsKeep → (body : NodeId) (values : List Value) (at : Spot) → next_of setup unit ≡ halt.Ask (request.Dosync body values) at
        → IsKept (around setup s unit) S.refs S.actors (EarlyUnit S name unit.made) (next_made name unit) (root_task (around setup s unit) (next_made name unit) body values)
    transaction-kept keep body values at asks =
        keep (around setup s unit) S.refs S.actors (EarlyUnit S name unit.made) is_around (next_made name unit) body values (carries (halt.Ask (request.Dosync body values) at) asks)

    commits-row : (result : Result) (v : Value) → IsKept (around setup s unit) S.refs S.actors (EarlyUnit S name unit.made) (next_made name unit) result
        → result.outcome ≡ task.Value v → holds_future v ≡ false → IsScoped setup (commits s name unit result.log v)
    commits-row result v kept out held =
        let base = record s { refs = over result.log.writes s.refs } in
        let done = take_effects name result.log.effects base unit in
        let same = effects-keep name result.log.effects base unit in
        let after = answered (with_made done.1) v in
        let T = scope_of done.0.refs done.0.actors (with_named done.0.units name after) in
        let refs : (n : Name) → RefsWith S.refs result.log n → T.refs n = λ n there. subst (λ all. IsSome (named n all)) (sym same.base.refs) (refs_there s.refs result.log n there) in
        let actors : (n : Name) → ActorsWith S.actors result.log n → T.actors n = λ n there. effects-actors name result.log.effects base unit n there in
        let wider : IsWider S T = record {
          refs = λ n there. refs n (inl there);
          actors = λ n there. actors n (inl there);
          units = λ n there. still_named n name after done.0.units (subst (λ all. IsSome (named n all)) (sym same.base.units) there);
        } in
        let sealed : (w : Value) → Within (RefsWith S.refs result.log) (ActorsWith S.actors result.log) NoFuture w → IsSealedIn T w =
        λ w holds. Within-weaker (RefsWith S.refs result.log) (ActorsWith S.actors result.log) NoFuture T.refs T.actors NoFuture refs actors (λ n none. none) w holds in
        let value_sealed : IsSealedIn T v =
        sealed v (Within-any_futures (RefsWith S.refs result.log) (ActorsWith S.actors result.log) (FuturesWith (EarlyUnit S name unit.made) result) NoFuture v held (kept.value v out)) in
        let writes = All-weaker (λ e. Within (RefsWith S.refs result.log) (ActorsWith S.actors result.log) NoFuture e.1) (λ e. IsSealedIn T e.1) (λ e holds. sealed e.1 holds) result.log.writes kept.writes in
        let effects = All-weaker (λ e. EffectWithin table (RefsWith S.refs result.log) (ActorsWith S.actors result.log) e.what) (λ e. EffectWithin table T.refs T.actors e.what)
        (λ e within. effect-weaker table (RefsWith S.refs result.log) (ActorsWith S.actors result.log) T.refs T.actors refs actors e.what within) result.log.effects kept.effects in
        let stands : StandsIn table T name (base, unit) = record {
          state = refs-over table T s.refs s.units s.actors s.queues (scoped-wider table S s.refs s.units s.actors s.queues scoped T wider) result.log.writes writes;
          unit = unit-wider table S T wider name unit here;
        } in
        let ends = effects-scoped table T name result.log.effects base unit stands effects in
        unit-put table T done.0.refs done.0.units done.0.actors done.0.queues ends.state name after
        (answered-scoped table T name (with_made done.1) v (made-scoped table T name done.1 ends.unit) (sealed-seen T name (suc done.1.made) v value_sealed))

    run_rows : TransactionsKeep → RunRows setup s (IsScoped setup) name unit
    run_rows keep = record {
      prints = λ text at asks. gets-scoped unit value.Nil s.queues scoped here structural-seen;
      new_ref = refs-row;
      derefs = λ ref at v asks there. gets-scoped unit v s.queues scoped here (sealed-seen S name unit.made v (scoped.each_ref ref v there));
      forks = λ body values at asks room. forks-row body values at asks;
      joins = λ future at v asks found.
          gets-scoped unit v s.queues scoped here
          (value_seen name unit.made future v (future_within S.refs S.actors (EarlyUnit S name unit.made) future (carries (halt.Ask (request.Join future) at) asks)) found);
      commits = λ body values at result v asks is out held.
          commits-row result v (subst (IsKept (around setup s unit) S.refs S.actors (EarlyUnit S name unit.made) (next_made name unit)) is (transaction-kept keep body values at asks)) out held;
      spawns = spawns-row;
      sends = sends-row;
      becomes = λ behaviour state at actor asks of. becomes-row behaviour state at asks;
      selves = λ at actor asks of.
          gets-scoped unit (value.Actor actor) s.queues scoped here (Within-Actor S.refs S.actors (EarlyUnit S name unit.made) actor (here.actor actor of));
      finishes = finishes-row;
    }

  begins-row : (name sender : Name) (actor : ActorState) (behaviour : Behaviour) (message : List Value) (messages : List (List Value))
      → IsTaking setup s name sender actor behaviour message messages → IsScoped setup (begun s name sender actor behaviour message messages)
  begins-row name sender actor behaviour message messages taking =
      let child = made_by name actor.turns in
      let new = new_unit (Some name) behaviour.body (actor.state ++ message) in
      let after = record actor { turns = suc actor.turns; busy = true } in
      let T = scope_of s.refs (with_named s.actors name after) (with_named s.units child new) in
      let wider : IsWider S T = record { refs = λ n there. there; actors = λ n there. still_named n name after s.actors there; units = λ n there. still_named n child new s.units there } in
      let is = scoped.each_actor name actor taking.there in
      let queue = subst (All (All (IsSealedIn S))) taking.waits (queue-sealed table S s.refs s.units s.actors s.queues scoped name sender) in
      let first = All-head (All (IsSealedIn S)) message messages queue in
      let rest = All-tail (All (IsSealedIn S)) message messages queue in
      let values = All-weaker (IsSealedIn S) (IsSealedIn T) (sealed-wider S T wider) (actor.state ++ message) (All-append (IsSealedIn S) actor.state message is.sealed first) in
      let rest_sealed = All-weaker (All (IsSealedIn S)) (All (IsSealedIn T)) (λ m holds. All-weaker (IsSealedIn S) (IsSealedIn T) (sealed-wider S T wider) m holds) messages rest in
      let there : T.actors name = some-here name after s.actors in
      queue-put table T s.refs (with_named s.units child new) (with_named s.actors name after) s.queues
      (actor-put table T s.refs (with_named s.units child new) s.actors s.queues
      (unit-put table T s.refs s.units s.actors s.queues (scoped-wider table S s.refs s.units s.actors s.queues scoped T wider)
      child new (turn-scoped table T child name behaviour.body (actor.state ++ message) there values))
      name after (becoming-wider table S T wider actor.behaviour actor.state is))
      name sender messages there rest_sealed

  step_rows : TransactionsKeep → StepRows setup s (IsScoped setup)
  step_rows keep = record {
    ends = λ going end. scoped;
    runs = λ name unit running. run_rows name unit running keep;
    begins = λ name sender actor behaviour message messages taking room. begins-row name sender actor behaviour message messages taking;
  }

-- each step keeps the names of a state's values to those that are there
pub step-scoped : (setup : Setup) → IsWellFormed setup.program → TransactionsKeep → (s t : State) (entry : Entry) → IsScoped setup s → step setup s entry ≡ Some t → IsScoped setup t
step-scoped setup formed keep s t entry scoped stepped = step-cases setup s (IsScoped setup) entry t (step_rows setup formed s scoped keep) stepped
