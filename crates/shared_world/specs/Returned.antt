-- A result that is given back.
use Rattle.std.specs.Prelude.{◌≡◌, Option, None, Some, refl}
use Rattle.std.specs.Coded.{Coded, code_by, coded×, coded_option}
use Rattle.core_syntax.specs.Table.{Table}
use Rattle.core_syntax.specs.contracts.program.Program as program
use Rattle.eval_step.specs.Evaluation.{Evaluation, IsSame, evaluation_code}
use Rattle.serial_model.specs.contracts.halt.Halt as halting
use Rattle.serial_model.specs.declared.halt.Halt.{Halt}
use Rattle.serial_model.specs.Eval.{next}
use Rattle.shared_world.specs.Shared.{Shared, claimed, kept_machine, kept_work}
use Rattle.unit_table.specs.contracts.mark.Work as work_row
use Rattle.unit_table.specs.declared.mark.Work.{Work}
use Rattle.value_core.specs.contracts.ticket.Ticket as ticket_row
use Rattle.value_core.specs.declared.ticket.Ticket.{Ticket}
use Rattle.value_core.specs.Named.{Name}

-- The program of the world that lent it, the claim's ticket, what it was claimed for, the machine, where the piece has one, and
-- the halt to which it was evaluated, where it was.
pub record Returned : Type 0 where
  pub program : Table
  pub ticket : Ticket
  pub work : Work
  pub machine : Option Evaluation
  pub halts : Option Halt

-- it is stored as its parts
abbrev pub returned_code : Coded Returned
returned_code =
    code_by (Table × (Ticket × (Work × (Option Evaluation × Option Halt))))
    (coded× (program.the_row).coded (coded× (ticket_row.the_row).coded (coded× (work_row.the_row).coded (coded× (coded_option evaluation_code) (coded_option (halting.the_row).coded)))))
    (λ r. (r.program, (r.ticket, (r.work, (r.machine, r.halts)))))
    (λ p. record { program = p.0; ticket = p.1.0; work = p.1.1.0; machine = p.1.1.1.0; halts = p.1.1.1.1 })
    (λ _. refl)

-- where a machine stops
abbrev pub halt_of : Table → Evaluation → Halt
halt_of table m = next table m.body m.values m.inside m.answers m.fuel

-- both have no machine, or machines that evaluate the same and have the same answers
abbrev pub IsSameMachine : Option Evaluation → Option Evaluation → Type 0
IsSameMachine None None = Unit {0}
IsSameMachine (Some kept) (Some lent) = IsSame kept lent
IsSameMachine _ _ = ⊥

-- what was lent is what is kept under that name
pub record IsCurrent (s : Shared) (name : Name) (r : Returned) : Type 0 where
  pub work : kept_work s name ≡ Some r.work
  pub machine : IsSameMachine (kept_machine s name) r.machine

-- its claim is out, and what it lent is what is kept
pub record IsLive (s : Shared) (r : Returned) (name : Name) : Type 0 where
  pub claim : claimed s r.ticket ≡ Some name
  pub current : IsCurrent s name r
