-- What a claim lends.
use Rattle.std.specs.Prelude.{ℕ, List, Option, None, Some, refl}
use Rattle.std.specs.Coded.{Coded, code_by, coded×, coded_list, coded_option, coded_ℕ}
use Rattle.core_syntax.specs.Table.{Table}
use Rattle.core_syntax.specs.contracts.program.Program as program
use Rattle.eval_step.specs.Evaluation.{Evaluation, IsOf, evaluation_code}
use Rattle.unit_table.specs.contracts.mark.Work as work_row
use Rattle.unit_table.specs.declared.mark.Work.{Work}
use Rattle.value_core.specs.contracts.ticket.Ticket as ticket_row
use Rattle.value_core.specs.declared.ticket.Ticket.{Ticket}
use Rattle.value_core.specs.Named.{Name}

-- The program of the world that lends it, the claimed piece, the claim's ticket, what it was claimed for, and the machine, where
-- the piece has one.
pub record Lent : Type 0 where
  pub program : Table
  pub piece : Name
  pub ticket : Ticket
  pub work : Work
  pub machine : Option Evaluation

-- it is stored as its parts
abbrev pub lent_code : Coded Lent
lent_code =
    code_by (Table × (List ℕ × (Ticket × (Work × Option Evaluation))))
    (coded× (program.the_row).coded (coded× (coded_list coded_ℕ) (coded× (ticket_row.the_row).coded (coded× (work_row.the_row).coded (coded_option evaluation_code)))))
    (λ l. (l.program, (l.piece, (l.ticket, (l.work, l.machine)))))
    (λ p. record { program = p.0; piece = p.1.0; ticket = p.1.1.0; work = p.1.1.1.0; machine = p.1.1.1.1 })
    (λ _. refl)

-- a machine that is there is one of the program
abbrev pub IsMachineOf : Table → Option Evaluation → Type 0
IsMachineOf table None = Unit {0}
IsMachineOf table (Some m) = IsOf table m
