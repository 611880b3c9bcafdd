-- Settled, where it is a commit.
use Rattle.std.proofs.Common.{◌≡◌, ◌∙◌, ℕ, Bool, true, false, cond, [], ◌∷◌, ◌++◌, map, append_assoc, refl, sym, ap, ap₂, subst, subst₂}
use Rattle.std.specs.Prelude.{Contains, Option, None, Some}
use Rattle.value_core.proofs.NamedLaws.{named-with_named, same_name-equal, same_name-itself}
use Rattle.value_core.specs.Named.{Name, named, with_named, over, same_name}
use Rattle.value_core.specs.Place.{Spot}
use Rattle.value_core.specs.declared.code.Code.{Code}
use Rattle.value_core.specs.declared.value.Value.{Value}
use Rattle.core_syntax.specs.WellFormed.{IsWellFormed}
use Rattle.serial_model.proofs.runs.EffectLaws.{EffectsKeep, effects-keep}
use Rattle.serial_model.proofs.runs.SpawnedActors.{not-spawned}
use Rattle.serial_model.proofs.runs.StepCases.{IsRunning}
use Rattle.serial_model.proofs.runs.Stuck.{IsSound}
use Rattle.serial_model.proofs.tasks.TaskScope.{IsSpawned}
use Rattle.serial_model.specs.State.{Setup, UnitState, State}
use Rattle.serial_model.specs.Step.{step, goes_on, next_of, next_made, queue_of, around, value_of, after_transaction, commits, fails, take_effects, answered, with_made, ended}
use Rattle.serial_model.specs.Task as task
use Rattle.serial_model.specs.Task.{Around, Result, root_task, transaction}
use Rattle.serial_model.specs.declared.actor_state.ActorState.{ActorState}
use Rattle.serial_model.specs.declared.end.End.TheVariants as end
use Rattle.serial_model.specs.declared.entry.Entry.TheVariants.{Run}
use Rattle.serial_model.specs.declared.halt.Halt.TheVariants as halt
use Rattle.serial_model.specs.declared.request.Request.TheVariants as request
use Rattle.actor_mailbox.specs.declared.message.Message.{Message}
use Rattle.actor_mailbox.specs.Messages.{is_from, passes, definite, settle_one, settle}
use Rattle.serial_model.specs.Sends.{effects_to}
use Rattle.world_model.specs.Message.{tentative}
use Rattle.world_model.specs.StandsFor.{UnitStands, QueueStands, Agrees, ComesTo, IsEnd, IsAttempt, AttemptStands, StandsFor}
use Rattle.world_model.specs.World.{LiveUnit, AttemptEnd, Attempt, World, line, sends, kept_sends, held_sends, attempt_sends}
use Rattle.world_model.specs.rows.Commits.{IsOver, committed, committed_unit, effects_actors, effects_unit, effects_bytes, over_at}
use Rattle.world_model.proofs.lists.Lists.{each-right, each-map, each-of-map, each-to, one-from, map-append}
use Rattle.world_model.proofs.lists.Queues.{AreNotFrom, queue-kept, queue-commits, queue-settles-other, queue-others}
use Rattle.world_model.proofs.records.Effects.{TakesEffects, takes-effects, over-as}
use Rattle.world_model.proofs.records.Frames.{at-here, at-other, IsMoved, unit-moves, taken-again}
use Rattle.world_model.proofs.records.Names.{maker, no-unit-of-root}
use Rattle.world_model.proofs.records.Sends.{sends-each, sends-tentative}
use Rattle.world_model.proofs.records.SettledUnits.{IsSettledUnit, settled-unit, holds-nothing}
use Rattle.world_model.proofs.records.Spawned.{spawned-stays}
use Rattle.world_model.proofs.records.Steps.{Settles, step-runs}

module _ (setup : Setup) (w : World) (s : State) (u : Name) (x : LiveUnit) (at : Attempt) (e : AttemptEnd) (formed : IsWellFormed setup.program) (st : StandsFor setup w s) (sound : IsSound setup s) (row : IsOver setup w u x at e) (known : (f : Name) (v : Value) → Contains at.joined (f, v) → value_of s f ≡ Some v) where
  is : IsSettledUnit setup s u x
  is = settled-unit setup w s u x st row.there row.takes

  same : x.from ≡ x.now
  same = holds-nothing setup u x.from x.now x.held row.held is.runs

  attempt : IsAttempt setup u x at
  attempt = subst₂ (λ live found. AttemptStands setup u live found) row.there row.attempt (st.attempts u)

  is_end : IsEnd setup x.now.actor at (Some e)
  is_end = subst (IsEnd setup x.now.actor at) row.ended attempt.end

  -- ---- the transaction, on the store now
  agrees : Agrees setup x.now.actor at (around setup s x.from)
  agrees = record {
    program = refl;
    fuel = refl;
    actor = ap (λ (unit : UnitState). unit.actor) same;
    reads = λ r read. sym (st.refs r) ∙ row.valid r read;
    joined = known;
  }

  abbrev result : Result
  result = transaction (around setup s x.from) (next_made u x.from) at.at at.body at.values

  comes : ComesTo (transaction (around setup s x.from) (next_made u x.from) at.at at.body at.values) at.effects e
  comes = subst (λ root. ComesTo (transaction (around setup s x.from) root at.at at.body at.values) at.effects e) (attempt.root ∙ ap (next_made u) (sym same)) (is_end (around setup s x.from) agrees)

  running : IsRunning s u x.from
  running = record { going = sym st.end ∙ row.going; there = is.there; unfinished = ap (λ (unit : UnitState). unit.finished) same ∙ attempt.unfinished }

  asks : next_of setup x.from ≡ halt.Ask (request.Dosync at.body at.values) at.at
  asks = ap (next_of setup) same ∙ attempt.asks

  -- what the root comes to is what the transaction comes to now
  pub over-steps : step setup s (Run u) ≡ after_transaction s u x.from result.log result.outcome
  over-steps = step-runs setup s u x.from running ∙ ap (goes_on setup s u x.from) asks

  pub fault-steps : (failed : Code) (place : Spot) → e.outcome ≡ task.Fault failed place → step setup s (Run u) ≡ Some (fails s u failed place)
  fault-steps failed place is = over-steps ∙ ap (after_transaction s u x.from result.log) (comes.outcome ∙ is)

  pub spent-steps : e.outcome ≡ task.Spent → step setup s (Run u) ≡ Some (ended s (end.Spent u))
  spent-steps is = over-steps ∙ ap (after_transaction s u x.from result.log) (comes.outcome ∙ is)

  module _ (v : Value) (value : e.outcome ≡ task.Value v) where
    effects : result.log.effects ≡ at.effects
    effects = comes.effects_same v value

    -- what is spawned is new
    pub fresh : (b : Name) (o : ActorState) → w.actors b ≡ Some o → effects_actors at.effects w.actors b ≡ Some o
    fresh b o there = spawned-stays at.effects w.actors b
        (subst (λ es. ¬ (IsSpawned b es)) effects (not-spawned setup formed s sound u x.from running at.body at.values at.at asks (root_task (around setup s x.from) (next_made u x.from) at.body at.values) refl b o (sym (st.actors b) ∙ there))) ∙ there

    abbrev w2 : World
    w2 = committed w u x at e v

    abbrev base : State
    base = record s { refs = over result.log.writes s.refs }

    abbrev done : State × UnitState
    done = take_effects u result.log.effects base x.from

    abbrev after : State
    after = commits s u x.from result.log v

    steps : step setup s (Run u) ≡ Some after
    steps = over-steps ∙ ap (after_transaction s u x.from result.log) (comes.outcome ∙ value)

    kept : EffectsKeep base x.from done
    kept = effects-keep u result.log.effects base x.from

    took : TakesEffects u (λ b. effects_to b at.effects) (effects_actors at.effects (λ q. named q s.actors)) (effects_unit at.effects x.from) (effects_bytes at.effects) base done
    took = subst (λ es. TakesEffects u (λ b. effects_to b es) (effects_actors es (λ q. named q s.actors)) (effects_unit es x.from) (effects_bytes es) base done) effects
        (takes-effects u result.log.effects base x.from)

    abbrev new : UnitState
    new = answered (with_made done.1) v

    -- ---- units
    is_now : new ≡ (committed_unit x at.effects v).now
    is_now = ap (λ unit. answered (with_made unit) v) (took.to_unit ∙ ap (effects_unit at.effects) same)

    moves : (b : Name) (o : ActorState) (n : Message) → w.actors b ≡ Some o → w.taken b ≡ n ∷ [] → IsMoved w2.actors w2.taken b o n
    moves b o n there took = record {
      moved = settle_one (same_name at.root) n;
      there = fresh b o there;
      took = ap (settle (same_name at.root)) took;
      args = args (passes (same_name at.root) n.depends);
    }
      where
        args : (p : Bool) → (cond p (definite n) n).args ≡ n.args
        args true = refl
        args false = refl

    unit : (q : Name) (c : Bool) → same_name q u ≡ c → UnitStands setup w2.actors w2.taken q (cond c (Some (committed_unit x at.effects v)) (w.units q)) (cond c (Some new) (named q s.units))
    unit q true e = (is_now, refl)
    unit q false e = unit-moves setup w.actors w2.actors w.taken w2.taken q (w.units q) (named q s.units) (λ b o n there called took. moves b o n there took) (st.units q)

    units : (q : Name) → UnitStands setup w2.actors w2.taken q (w2.units q) (named q after.units)
    units q = subst (λ all. UnitStands setup w2.actors w2.taken q (w2.units q) (named q (with_named all u new))) (sym kept.base.units)
        (subst (λ found. UnitStands setup w2.actors w2.taken q (w2.units q) found) (sym (named-with_named q u new s.units)) (unit q (same_name q u) refl))

    -- ---- queues
    sent : (b : Name) → sends w u b ≡ map (tentative u at.root) (effects_to b at.effects)
    sent b = ap₂ (λ live found. held_sends u b live ++ attempt_sends u b found) row.there row.attempt
        ∙ ap (λ rs. held_sends u b (Some (record { from = x.from; now = x.now; takes = x.takes; held = rs })) ++ map (tentative u at.root) (effects_to b at.effects)) row.held

    is_kept : (b : Name) → kept_sends w u b ≡ (st.queues b u).kept
    is_kept b = queue-kept u (line w b) (sends w u b) (queue_of s.queues b u) (sends-tentative w u b) (st.queues b u)

    whole_line : (b : Name) → settle (same_name at.root) (line w b) ++ settle (same_name at.root) (kept_sends w u b) ≡ line w2 b
    whole_line b =
        ap (λ l. l ++ settle (same_name at.root) (kept_sends w u b)) (map-append (settle_one (same_name at.root)) (w.taken b) (w.mails b))
        ∙ append_assoc (settle (same_name at.root) (w.taken b)) (settle (same_name at.root) (w.mails b)) (settle (same_name at.root) (kept_sends w u b))
        ∙ ap (λ l. settle (same_name at.root) (w.taken b) ++ l) (sym (map-append (settle_one (same_name at.root)) (w.mails b) (kept_sends w u b)))

    own : (b : Name) → QueueStands u (line w2 b) (sends w2 u b) (queue_of after.queues b u)
    own b = subst₂ (λ l p. QueueStands u l p (queue_of after.queues b u)) (ap (λ k. settle (same_name at.root) (line w b) ++ settle (same_name at.root) k) (sym (is_kept b)) ∙ whole_line b) (sym none)
        (subst (QueueStands u (settle (same_name at.root) (line w b) ++ settle (same_name at.root) (st.queues b u).kept) []) (sym (took.own b))
        (queue-commits u at.root (same_name at.root) (line w b) (sends w u b) (queue_of s.queues b u) (effects_to b at.effects) (same_name-itself at.root) (sent b) (st.queues b u)))
      where
        none : sends w2 u b ≡ []
        none = ap₂ (λ live found. held_sends u b live ++ attempt_sends u b found) (at-here w.units u (Some (committed_unit x at.effects v))) (at-here w.attempts u None)

    -- no other unit's send depends on this attempt
    not_root : (q : Name) (y : LiveUnit) → w.units q ≡ Some y → same_name at.root q ≡ false
    not_root q y there = on (same_name at.root q) refl
      where
        none : w.units at.root ≡ None
        none = no-unit-of-root setup w s st sound.made u at row.attempt

        on : (c : Bool) → same_name at.root q ≡ c → c ≡ false
        on false e = refl
        on true e = let no : Some y ≡ None = sym there ∙ ap w.units (sym (same_name-equal at.root q e)) ∙ none in cc

    not_other : (q : Name) (other : Attempt) → same_name q u ≡ false → w.attempts q ≡ Some other → same_name at.root other.root ≡ false
    not_other q other apart there = on (same_name at.root other.root) refl
      where
        root : (live : Option LiveUnit) → AttemptStands setup q live (Some other) → (k : ℕ) × (other.root ≡ q ++ k ∷ [])
        root None stands = absurd stands
        root (Some y) stands = (y.now.made, stands.root)

        on : (c : Bool) → same_name at.root other.root ≡ c → c ≡ false
        on false e = refl
        on true e =
            let of = root (w.units q) (subst (AttemptStands setup q (w.units q)) there (st.attempts q)) in
            let makers : u ≡ q = maker u q x.now.made of.0 (sym attempt.root ∙ same_name-equal at.root other.root e ∙ of.1) in
            let no : same_name q u ≡ true = ap (same_name q) makers ∙ same_name-itself q in cc

    others : (b q : Name) → same_name q u ≡ false → QueueStands q (line w2 b) (sends w2 q b) (queue_of after.queues b q)
    others b q e = subst₂ (λ l p. QueueStands q l p (queue_of after.queues b q)) (whole_line b) same_sends
        (subst (QueueStands q (settle (same_name at.root) (line w b) ++ settle (same_name at.root) (kept_sends w u b)) (sends w q b)) (sym (took.others b q e))
        (queue-others q (settle (same_name at.root) (line w b)) (settle (same_name at.root) (kept_sends w u b)) (sends w q b) (queue_of s.queues b q) not_from
        (queue-settles-other q (same_name at.root) (line w b) (sends w q b) (queue_of s.queues b q)
        (sends-each w q b (λ m. passes (same_name at.root) m.depends ≡ false) (λ y args there. not_root q y there) (λ other args there. not_other q other e there)) (st.queues b q))))
      where
        same_sends : sends w q b ≡ sends w2 q b
        same_sends = sym (ap₂ (λ live found. held_sends q b live ++ attempt_sends q b found) (at-other w.units u q (Some (committed_unit x at.effects v)) e) (at-other w.attempts u q None e))

        all : AreNotFrom q (kept_sends w u b)
        all = subst (AreNotFrom q) (sym (is_kept b)) (each-right (λ m. is_from q m ≡ false) (st.queues b u).put (st.queues b u).kept
            (subst (AreNotFrom q) (sym (sent b) ∙ (st.queues b u).whole) (each-map (λ m. is_from q m ≡ false) (tentative u at.root) (effects_to b at.effects) (λ args. e))))

        not_from : AreNotFrom q (settle (same_name at.root) (kept_sends w u b))
        not_from = each-of-map (λ m. is_from q m ≡ false) (settle_one (same_name at.root)) (kept_sends w u b)
            (each-to (λ m. is_from q m ≡ false) (λ m. is_from q (settle_one (same_name at.root) m) ≡ false) (kept_sends w u b) (λ m is. one-from q (same_name at.root) m ∙ is) all)

    queues : (b q : Name) → QueueStands q (line w2 b) (sends w2 q b) (queue_of after.queues b q)
    queues b q = on (same_name q u) refl
      where
        on : (c : Bool) → same_name q u ≡ c → QueueStands q (line w2 b) (sends w2 q b) (queue_of after.queues b q)
        on true e = subst (λ n. QueueStands n (line w2 b) (sends w2 n b) (queue_of after.queues b n)) (sym (same_name-equal q u e)) (own b)
        on false e = others b q e

    -- ---- the rest
    attempts : (q : Name) (c : Bool) → same_name q u ≡ c → AttemptStands setup q (cond c (Some (committed_unit x at.effects v)) (w.units q)) (cond c None (w.attempts q))
    attempts q true e = tt
    attempts q false e = st.attempts q

    actors : (b : Name) → w2.actors b ≡ named b after.actors
    actors b = ap (λ f. effects_actors at.effects f b) (λ i q. st.actors q i) ∙ sym (λ i. took.to_actors i b)

    refs : (r : Name) → w2.refs r ≡ named r after.refs
    refs r = ap (λ writes. over_at writes w.refs r) (sym (comes.writes v value)) ∙ ap (λ f. over_at result.log.writes f r) (λ i q. st.refs q i) ∙ sym (λ i. over-as result.log.writes s.refs i r) ∙ ap (named r) (sym kept.base.refs)

    pub commits-stands : Settles setup s (Run u) (committed w u x at e v)
    commits-stands = record {
      after = after;
      steps = steps;
      stands = record {
        refs = refs;
        units = units;
        actors = actors;
        queues = queues;
        attempts = λ q. attempts q (same_name q u) refl;
        bytes = ap (λ b. b ++ effects_bytes at.effects) st.bytes ∙ sym took.to_bytes;
        made = st.made ∙ sym kept.base.made;
        end = st.end ∙ sym kept.base.end;
        turns = λ b. taken-again w.actors w2.actors w.units b u (committed_unit x at.effects v) (w.taken b) (w2.taken b)
            (λ y there takes. let both : Some y ≡ Some x = sym there ∙ row.there in let same : y ≡ x = cc in let no : Some b ≡ None = sym takes ∙ ap (λ (z : LiveUnit). z.takes) same ∙ row.takes in cc)
            (fresh b) (λ e. ap (settle (same_name at.root)) e) (st.turns b);
      };
    }
