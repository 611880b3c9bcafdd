-- The entries that end the run.
use Rattle.std.proofs.Common.{◌≡◌, ◌∙◌, suc, ◌==◌, sym, ap}
use Rattle.std.specs.Prelude.{None, Some, if◌then◌else◌, Contains}
use Rattle.value_core.specs.Named.{Name}
use Rattle.value_core.specs.declared.value.Value.TheVariants as value
use Rattle.value_core.specs.declared.value.Value.{Value}
use Rattle.core_syntax.specs.WellFormed.{IsWellFormed}
use Rattle.serial_model.proofs.runs.Stuck.{IsSound}
use Rattle.serial_model.specs.Ahead.{of_turn, self_of}
use Rattle.serial_model.specs.State.{Setup, State, new_unit}
use Rattle.serial_model.specs.Step.{step, value_of, ended, gives, gets, becoming, with_unit, with_made, next_made}
use Rattle.serial_model.specs.declared.answer.Answer.TheVariants as answer
use Rattle.serial_model.specs.declared.end.End.TheVariants as end
use Rattle.serial_model.specs.declared.end.End.{End}
use Rattle.serial_model.specs.declared.entry.Entry.{Entry}
use Rattle.serial_model.specs.declared.halt.Halt.TheVariants as halt
use Rattle.serial_model.specs.declared.request.Request.TheVariants as request
use Rattle.world_model.specs.StandsFor.{StandsFor}
use Rattle.world_model.specs.World.{Attempt, World}
use Rattle.world_model.specs.rows.Endings as row
use Rattle.world_model.specs.rows.Endings.{EndsRun}
use Rattle.world_model.proofs.rows.Commits.{fault-steps, spent-steps}
use Rattle.world_model.proofs.rows.MovesOn.{steps}
use Rattle.world_model.proofs.rows.SettlesHeld.{is-next, settles-steps}
use Rattle.world_model.proofs.rows.SettlesTake.{full-take}
use Rattle.world_model.proofs.rows.TakesNow.{full-now}

pub ends-steps : (setup : Setup) → IsWellFormed setup.program → (w : World) (s : State) (entry : Entry) (end : End) → StandsFor setup w s → IsSound setup s → ((u : Name) (at : Attempt) → w.attempts u ≡ Some at → (f : Name) (v : Value) → Contains at.joined (f, v) → value_of s f ≡ Some v) → EndsRun setup w entry end → step setup s entry ≡ Some (ended s end)
ends-steps setup formed w s entry over st sound known (row.fault u x failed at r is) = steps setup w s u x st r (halt.Fault failed at) is
ends-steps setup formed w s entry over st sound known (row.spent u x r is) = steps setup w s u x st r halt.Spent is
ends-steps setup formed w s entry over st sound known (row.ref_set u x ref v at r is) = steps setup w s u x st r (halt.Ask (request.RefSet ref v) at) is
ends-steps setup formed w s entry over st sound known (row.no_turn u x behaviour state at r is none) =
    steps setup w s u x st r (halt.Ask (request.Become behaviour state) at) is ∙ ap (λ actor. Some (gives s u (becoming x.now behaviour state) at (of_turn actor (answer.Value value.Nil)))) none
ends-steps setup formed w s entry over st sound known (row.no_self u x at r is none) =
    steps setup w s u x st r (halt.Ask request.SelfActor at) is ∙ ap (λ actor. Some (gives s u x.now at (self_of actor))) none
ends-steps setup formed w s entry over st sound known (row.full_fork u x body values at r is full) =
    steps setup w s u x st r (halt.Ask (request.Fork body values) at) is
    ∙ ap (λ b. Some (if b then ended s end.UnitsSpent else gets (with_unit (record s { made = suc s.made }) (next_made u x.now) (new_unit None body values)) u (with_made x.now) (value.Future (next_made u x.now)))) (ap (λ n. n == setup.limits.units) (sym st.made) ∙ full)
ends-steps setup formed w s entry over st sound known (row.full_held_fork u x body values rest after r full) =
    let is = is-next setup w s u x (request.Fork body values) rest after st r in
    settles-steps setup w s u x (request.Fork body values) rest after st r is
    ∙ ap (λ b. Some (if b then ended s end.UnitsSpent else gets (with_unit (record s { made = suc s.made }) (next_made u x.from) (new_unit None body values)) u (with_made x.from) (value.Future (next_made u x.from)))) (ap (λ n. n == setup.limits.units) (sym st.made) ∙ full)
ends-steps setup formed w s entry over st sound known (row.attempt_fault u x at result failed place r is) = fault-steps setup w s u x at result formed st sound r (known u at r.attempt) failed place is
ends-steps setup formed w s entry over st sound known (row.attempt_spent u x at result r is) = spent-steps setup w s u x at result formed st sound r (known u at r.attempt) is
ends-steps setup formed w s entry over st sound known (row.full_held_take a x m actor r full) = full-take setup w s a x m actor st r full
ends-steps setup formed w s entry over st sound known (row.full_take a m ms actor behaviour r going definite full) = full-now setup w s a m ms actor behaviour st sound.made r going definite full
