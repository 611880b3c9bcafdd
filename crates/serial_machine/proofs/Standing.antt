-- How a run by one thread goes from state to state, and where it is over.
use Rattle.std.proofs.Common.{◌≡◌, List, refl, sym, ap, subst, Option, Some, None}
use Rattle.std.specs.Option.{IsSome, option_and_then}
use Rattle.core_syntax.specs.WellFormed.{IsWellFormed}
use Rattle.serial_model.specs.declared.end.End.{End}
use Rattle.serial_model.specs.declared.end.End.TheVariants.{Done}
use Rattle.serial_model.specs.declared.entry.Entry.{Entry}
use Rattle.serial_model.specs.declared.entry.Entry.TheVariants.{Run, Take}
use Rattle.serial_model.specs.First.{first_of, unless_over}
use Rattle.value_core.specs.Named.{Name, named}
use Rattle.serial_model.specs.Replay.{replay, IsOver, set, still}
use Rattle.serial_model.specs.State.{Setup, State}
use Rattle.serial_model.specs.Step.{step, run_step, take_step, unless_ended}
use Rattle.serial_model.proofs.runs.Firsts.{none_is_over}
use Rattle.serial_model.proofs.runs.Stuck.{first-is-enabled}
use Rattle.serial_model.proofs.tasks.TaskScope.{TransactionsKeep}

-- where the run is not over, no end is set
pub not_ended : (s : State) → IsSome (first_of s) → s.end ≡ None
not_ended s some = on s.end refl some
  where
    on : (e : Option End) → s.end ≡ e → IsSome (unless_over e (first_of (record s { end = None }))) → s.end ≡ None
    on None is some = is
    on (Some e) is some = cc

-- without an end an entry does what its row says
pub step_run : (setup : Setup) (s : State) (name : Name) → s.end ≡ None → step setup s (Run name) ≡ run_step setup s name
unfolding step
step_run setup s name going = ap (λ e. unless_ended e (run_step setup s name)) going

pub step_take : (setup : Setup) (s : State) (actor sender : Name) → s.end ≡ None
    → step setup s (Take actor sender) ≡ option_and_then (take_step setup s actor sender) (named actor s.actors)
unfolding step
step_take setup s actor sender going = ap (λ e. unless_ended e (option_and_then (take_step setup s actor sender) (named actor s.actors))) going

-- where the run is over, no entry is enabled
pub over_is_still : (setup : Setup) (s : State) (entry : Entry) → first_of s ≡ None → step setup s entry ≡ None
unfolding step
over_is_still setup s entry none = on s.end refl
  where
    ended : (e : End) → s.end ≡ Some e → (entry : Entry) → step setup s entry ≡ None
    ended e is (Run name) = ap (λ end. unless_ended end (run_step setup s name)) is
    ended e is (Take actor sender) = ap (λ end. unless_ended end (option_and_then (take_step setup s actor sender) (named actor s.actors))) is

    by : IsOver setup s Done → s.end ≡ None → step setup s entry ≡ None
    by (set is) going = cc
    by (still going all) same = all entry

    on : (e : Option End) → s.end ≡ e → step setup s entry ≡ None
    on None going = by (none_is_over setup s going none) going
    on (Some e) is = ended e is entry

-- where no end is set and one thread finds an entry, the state is over with no end
pub not_over : TransactionsKeep → (setup : Setup) → IsWellFormed setup.program → (entries : List Entry) (s : State) (entry : Entry) → replay setup entries ≡ Some s → first_of s ≡ Some entry
    → (end : End) → IsOver setup s end → ⊥
not_over keep setup formed entries s entry replays first end over = on end over
  where
    enabled : IsSome (step setup s entry)
    enabled = first-is-enabled keep setup formed entries s entry replays first

    no_step : (next : Option State) → IsSome next → next ≡ None → ⊥
    no_step None some none = cc
    no_step (Some t) some none = cc

    on : (end : End) → IsOver setup s end → ⊥
    on end (set is) = let going = not_ended s (subst IsSome (sym first) refl) in cc
    on end (still going all) = no_step (step setup s entry) enabled (all entry)
