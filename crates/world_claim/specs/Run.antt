-- What comes of a claim.
use Rattle.std.specs.Prelude.{◌≡◌, Option, None, Some}
use Rattle.core_syntax.specs.Table.{Table}
use Rattle.eval_step.specs.Evaluation.{Evaluation, IsAsk, IsAsking}
use Rattle.serial_model.specs.declared.halt.Halt.{Halt}
use Rattle.shared_world.specs.Returned.{IsSameMachine, Returned, halt_of}
use Rattle.unit_table.specs.declared.mark.Work.{Work}
use Rattle.unit_table.specs.declared.mark.Work.TheVariants as work
use Rattle.world_claim.specs.declared.parts.Parts.{Parts}
use Rattle.world_claim.specs.Lent.{IsMachineOf, Lent}

-- where a machine stops that was claimed to be evaluated
abbrev pub halts_of : Work → Table → Option Evaluation → Option Halt
halts_of work.Eval table (Some m) = Some (halt_of table m)
halts_of _ table m = None

-- a machine that halted at a request asks
abbrev pub AsksWhereHalted : Option Evaluation → Option Halt → Type 0
AsksWhereHalted (Some m) (Some h) = IsAsk h → IsAsking m
AsksWhereHalted _ _ = Unit {0}

-- The machine is one of the program; it was evaluated exactly where it was claimed for that, and then to where it stops.
pub record IsRunOf (r : Returned) : Type 0 where
  pub machine : IsMachineOf r.program r.machine
  pub halts : r.halts ≡ halts_of r.work r.program r.machine
  pub asks : AsksWhereHalted r.machine r.halts

-- what was lent came to this
pub record IsDoneOf (l : Lent) (r : Returned) : Type 0 where
  pub program : r.program ≡ l.program
  pub ticket : r.ticket ≡ l.ticket
  pub work : r.work ≡ l.work
  pub machine : IsSameMachine l.machine r.machine
  pub halts : r.halts ≡ halts_of l.work l.program l.machine

-- the parts of a result, of that program
abbrev pub returned_of : Table → Parts → Returned
returned_of table p = record { program = table; ticket = p.ticket; work = p.work; machine = p.machine; halts = p.halt }

-- the parts of a result
abbrev pub parts_of : Returned → Parts
parts_of r = record { ticket = r.ticket; work = r.work; machine = r.machine; halt = r.halts }
