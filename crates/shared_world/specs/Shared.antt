-- What the threads share, as it is kept.
use Rattle.std.specs.Prelude.{ℕ, List, Option, None, Some, Bool, true, false, ◌&&◌, refl, if◌then◌else◌}
use Rattle.std.specs.Coded.{Coded, code_by, coded×, coded_list, coded_option, coded_ℕ}
use Rattle.std.specs.Option.{option_and_then, option_map}
use Rattle.actor_mailbox.specs.contracts.message.Message as message_row
use Rattle.actor_mailbox.specs.declared.message.Message.{Message}
use Rattle.actor_mails.specs.Mails.{Mail, mail_code}
use Rattle.core_syntax.specs.Table.{Table}
use Rattle.core_syntax.specs.contracts.program.Program as program
use Rattle.eval_step.specs.Evaluation.{Evaluation}
use Rattle.ref_store.specs.contracts.version.Version as version
use Rattle.ref_store.specs.declared.version.Version.{Version}
use Rattle.ref_store.specs.Store.{versions_of}
use Rattle.ref_store.specs.Version.{newest}
use Rattle.serial_model.specs.contracts.end.End as ending
use Rattle.serial_model.specs.contracts.entry.Entry as entry
use Rattle.serial_model.specs.contracts.limits.Limits as limits
use Rattle.serial_model.specs.declared.end.End.{End}
use Rattle.serial_model.specs.declared.entry.Entry.{Entry}
use Rattle.serial_model.specs.Limits.{Budget}
use Rattle.serial_model.specs.State.{Becoming, Setup, UnitState}
use Rattle.shared_world.specs.Ahead.{Ahead, ahead_code}
use Rattle.task_fork_join.specs.Attempt.{Attempt, attempt_code, machine_of}
use Rattle.unit_table.specs.Board.{Board, board_code, is_ready, lent_to, mark_at, piece_at, unit_at}
use Rattle.unit_table.specs.declared.mark.Mark.{Mark}
use Rattle.unit_table.specs.declared.mark.Mark.TheVariants as mark
use Rattle.unit_table.specs.declared.mark.Work.{Work}
use Rattle.unit_table.specs.declared.piece.Piece.{Piece}
use Rattle.unit_table.specs.declared.piece.Piece.TheVariants as piece
use Rattle.unit_table.specs.declared.unit.Becoming.{Becoming as Turned}
use Rattle.unit_table.specs.declared.unit.Unit.{Unit}
use Rattle.unit_table.specs.declared.unit.UnitKind.{UnitKind}
use Rattle.unit_table.specs.declared.unit.UnitKind.TheVariants as kind
use Rattle.value_core.specs.declared.ticket.Ticket.{Ticket}
use Rattle.value_core.specs.declared.value.Value.{Value}
use Rattle.value_core.specs.Named.{Name, Named, named}

-- What is run; the entries so far; the versions of refs; the pieces with their marks and claims; the mail of each actor, and the
-- message of its turn whose begin is held; of each turn that runs ahead where the history left it; the attempt of each unit that has
-- one, and of each task the unit whose attempt it is of; the bytes printed; the number of units made; and the end, where one is set.
pub record Shared : Type 0 where
  pub setup : Setup
  pub history : List Entry
  pub versions : Named (List Version)
  pub board : Board
  pub mails : Mail
  pub taken : Named Message
  pub aheads : Named Ahead
  pub attempts : Named Attempt
  pub owners : Named Name
  pub bytes : List ℕ
  pub made : ℕ
  pub end : Option End

-- it is stored as its parts
abbrev pub shared_code : Coded Shared
shared_code =
    code_by ((Table × Budget) × (List Entry × (Named (List Version) × (Board × (Mail × (Named Message × (Named Ahead × (Named Attempt × (Named Name × (List ℕ × (ℕ × Option End)))))))))))
    (coded× (coded× (program.the_row).coded (limits.the_row).coded) (coded× (coded_list (entry.the_row).coded)
    (coded× (coded_list (coded× (coded_list coded_ℕ) (coded_list (version.the_row).coded))) (coded× board_code (coded× mail_code
    (coded× (coded_list (coded× (coded_list coded_ℕ) (message_row.the_row).coded)) (coded× (coded_list (coded× (coded_list coded_ℕ) ahead_code))
    (coded× (coded_list (coded× (coded_list coded_ℕ) attempt_code)) (coded× (coded_list (coded× (coded_list coded_ℕ) (coded_list coded_ℕ)))
    (coded× (coded_list coded_ℕ) (coded× coded_ℕ (coded_option (ending.the_row).coded))))))))))))
    (λ s. ((s.setup.program, s.setup.limits), (s.history, (s.versions, (s.board, (s.mails, (s.taken, (s.aheads, (s.attempts, (s.owners, (s.bytes, (s.made, s.end))))))))))))
    (λ p. record { setup = record { program = p.0.0; limits = p.0.1 }; history = p.1.0; versions = p.1.1.0; board = p.1.1.1.0; mails = p.1.1.1.1.0; taken = p.1.1.1.1.1.0; aheads = p.1.1.1.1.1.1.0; attempts = p.1.1.1.1.1.1.1.0; owners = p.1.1.1.1.1.1.1.1.0; bytes = p.1.1.1.1.1.1.1.1.1.0; made = p.1.1.1.1.1.1.1.1.1.1.0; end = p.1.1.1.1.1.1.1.1.1.1.1 })
    (λ _. refl)

-- no end is set
abbrev pub is_going : Option End → Bool
is_going None = true
is_going (Some end) = false

-- what a ref holds now: the value of its newest version
abbrev pub ref_now : Named (List Version) → Name → Option Value
ref_now versions ref = option_map (λ (v : Version). v.value) (newest (versions_of versions ref))

-- the value of a piece that is finished with one
abbrev pub finished_by : Mark → Option Value
finished_by (mark.Finished v) = Some v
finished_by _ = None

-- the actor whose turn a unit is
abbrev pub actor_of : UnitKind → Option Name
actor_of kind.Main = None
actor_of kind.Plain = None
actor_of (kind.Turn actor) = Some actor

-- what an actor becomes, as the meaning has it
abbrev pub becoming_of : Turned → Becoming
becoming_of next = record { behaviour = next.behaviour; state = next.state }

-- a unit as the meaning has it
abbrev pub unit_state : Unit → UnitState
unit_state x = record {
  actor = actor_of x.kind;
  body = x.machine.body;
  values = x.machine.values;
  answers = x.machine.answers;
  made = x.made;
  becomes = option_map becoming_of x.becomes;
  finished = finished_by x.mark;
}

-- what the meaning has under a name
abbrev pub state_at : Board → Name → Option UnitState
state_at board u = option_map unit_state (unit_at board u)

-- the value of a finished unit
abbrev pub finished_at : Board → Name → Option Value
finished_at board u = option_and_then (λ (unit : UnitState). unit.finished) (state_at board u)

-- the attempt that a task is of
abbrev pub tree_with : Shared → Name → Option Attempt
tree_with s task = option_and_then (λ u. named u s.attempts) (named task s.owners)

-- the machine of a piece, where it has one
abbrev pub machine_in : Shared → Name → Piece → Option Evaluation
machine_in s name (piece.Unit x) = Some x.machine
machine_in s name (piece.Task m) = option_and_then (λ tree. machine_of tree name) (tree_with s name)
machine_in s name (piece.Actor a) = None

abbrev pub kept_machine : Shared → Name → Option Evaluation
kept_machine s name = option_and_then (machine_in s name) (piece_at s.board name)

-- what can be done with a piece of that mark
abbrev pub work_in : Mark → Option Work
work_in (mark.Ready work) = Some work
work_in _ = None

abbrev pub kept_work : Shared → Name → Option Work
kept_work s name = option_and_then work_in (mark_at s.board name)

-- what a claim lends; once the run has ended no claim is out
abbrev pub claimed : Shared → Ticket → Option Name
claimed s ticket = if is_going s.end then lent_to s.board ticket else None

-- something can be done with the piece, and it is not lent; once the run has ended nothing can
abbrev pub ready : Shared → Name → Bool
ready s name = is_going s.end && is_ready s.board name
