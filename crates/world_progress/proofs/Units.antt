-- A unit that is kept and not finished: something can be done with it, or its mark says what it waits for.
use Rattle.std.proofs.Common.{◌≡◌, ◌∙◌, true, false, refl, sym, ap}
use Rattle.std.specs.Option.{option_map}
use Rattle.std.specs.Prelude.{Option, None, Some}
use Rattle.serial_model.specs.State.{UnitState}
use Rattle.shared_world.proofs.Live.{unit-piece}
use Rattle.shared_world.specs.Ahead.{Ahead}
use Rattle.shared_world.specs.Marks.{AreMarked, UnitSays}
use Rattle.shared_world.specs.Marks as marked
use Rattle.shared_world.specs.rows.Leading.{can_settle}
use Rattle.shared_world.specs.Shared.{Shared, finished_by, state_at, unit_state}
use Rattle.unit_table.specs.Board.{marks_ready, unit_at}
use Rattle.unit_table.specs.declared.mark.Mark.{Mark}
use Rattle.unit_table.specs.declared.mark.Mark.TheVariants as mark
use Rattle.unit_table.specs.declared.mark.WaitOn.{WaitOn}
use Rattle.unit_table.specs.declared.mark.WaitOn.TheVariants as wait
use Rattle.unit_table.specs.declared.unit.Unit.{Unit as Doing}
use Rattle.unit_table.specs.Piece.{says_ready}
use Rattle.value_core.specs.Named.{Name, named}
use Rattle.world_progress.specs.Progress.{HasWork}

-- where something can be done if it waits, something can be done
pub unit-works : (s : Shared) → AreMarked s → (u : Name) (k : UnitState) → state_at s.board u ≡ Some k → k.finished ≡ None
    → ((x : Doing) → unit_at s.board u ≡ Some x → unit_state x ≡ k → (on : WaitOn) → UnitSays s u x (mark.Waiting on) → HasWork s) → HasWork s
unit-works s marks u k there unfinished waits = on (unit_at s.board u) refl there
  where
    by : (x : Doing) → unit_at s.board u ≡ Some x → unit_state x ≡ k → (m : Mark) → x.mark ≡ m → UnitSays s u x m → HasWork s
    by x is same (mark.Ready w) marked says = record { name = u; ready = ap marks_ready (unit-piece s.board u x is) ∙ ap says_ready marked }
    by x is same (mark.Waiting on) marked says = waits x is same on says
    by x is same mark.Resting marked says = absurd says
    by x is same (mark.Finished v) marked says = let no : Some v ≡ None = sym (ap finished_by marked) ∙ ap (λ (y : UnitState). y.finished) same ∙ unfinished in cc
    by x is same mark.Dropped marked says = absurd says

    on : (found : Option Doing) → unit_at s.board u ≡ found → option_map unit_state found ≡ Some k → HasWork s
    on None is e = cc
    on (Some x) is e = let same : unit_state x ≡ k = cc in by x is same x.mark refl (marks.units u x is)

-- a turn that runs ahead and can be settled waits for nothing
pub settles-works : (s : Shared) → AreMarked s → (u : Name) (k : UnitState) → state_at s.board u ≡ Some k → k.finished ≡ None → (h : Ahead) → named u s.aheads ≡ Some h → can_settle s u ≡ true → HasWork s
settles-works s marks u k there unfinished h leads settles = unit-works s marks u k there unfinished (λ x is same. by x)
  where
    by : (x : Doing) (on : WaitOn) → UnitSays s u x (mark.Waiting on) → HasWork s
    by x (wait.Finish f) (marked.root not_yet tree has rooted) = let no : false ≡ true = sym not_yet ∙ settles in cc
    by x (wait.Finish f) (marked.join level none at asks still) = let no : None ≡ Some h = sym level ∙ leads in cc
    by x (wait.Definite turn) says = let no : false ≡ true = sym says.1.not_yet ∙ settles in cc
