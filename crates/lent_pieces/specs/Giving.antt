-- Results that are given back.
use Rattle.std.specs.Prelude.{◌≡◌, Err, IsSome, None, Ok, Option, Result, Some, ⊤}
use Rattle.std.specs.declared.alloc.AllocError.{AllocError}
use Rattle.core_syntax.specs.Table.{Table}
use Rattle.eval_step.specs.Evaluation.{Evaluation, IsAsk, IsAsking, IsOf, IsSame}
use Rattle.lent_pieces.specs.declared.giving.Moved.{Moved}
use Rattle.lent_pieces.specs.declared.giving.Stander.{Stander}
use Rattle.lent_pieces.specs.declared.giving.Stander.TheVariants as stander
use Rattle.attempt_steps.specs.Tasks.{IsOwned, IsWanting}
use Rattle.serial_model.specs.declared.halt.Halt.{Halt}
use Rattle.shared_world.specs.declared.given.Given.{Given}
use Rattle.shared_world.specs.Gave.{GaveTask, GaveUnit}
use Rattle.shared_world.specs.Returned.{halt_of}
use Rattle.shared_world.specs.rows.Turns.{GaveActor}
use Rattle.shared_world.specs.Shared.{Shared, finished_by}
use Rattle.unit_table.specs.Board.{Board, actor_at, unit_at}
use Rattle.unit_table.specs.declared.unit.Unit.{Unit}
use Rattle.value_core.specs.Named.{Name, named}

-- it evaluates the same as the machine that is kept, has the same answers, and was moved to where that one halts
pub record IsMovedOn (table : Table) (kept : Evaluation) (m : Moved) : Type 0 where
  pub same : IsSame kept m.machine
  pub of : IsOf table m.machine
  pub halts_so : m.halt ≡ halt_of table kept
  pub asks : IsAsk m.halt → IsAsking m.machine

-- a unit of that name is not finished
abbrev pub IsOpenUnit : Board → Name → Type 0
IsOpenUnit b name = (x : Unit) → unit_at b name ≡ Some x → finished_by x.mark ≡ None

-- where it was evaluated it halted there, and asks where it halted at a request
pub record HasHaltedAt (table : Table) (machine : Evaluation) (h : Halt) : Type 0 where
  pub halts_so : h ≡ halt_of table machine
  pub asks : IsAsk h → IsAsking machine

abbrev pub HasHalted : Table → Option Evaluation → Option Halt → Type 0
HasHalted table (Some machine) (Some h) = HasHaltedAt table machine h
HasHalted table _ _ = ⊤

-- a unit stands under the name, where the history left it
pub record IsLevelUnit (s : Shared) (name : Name) : Type 0 where
  pub some : IsSome (unit_at s.board name)
  pub level : named name s.aheads ≡ None

-- a unit stands under the name, a task of the attempt of that unit, or an actor
abbrev pub IsStanderOf : Shared → Name → Stander → Type 0
IsStanderOf s name stander.Unit = IsLevelUnit s name
IsStanderOf s name (stander.Task owner) = IsOwned s name owner
IsStanderOf s name stander.Actor = IsSome (actor_at s.board name)

-- what the piece comes to
pub data PieceGave (old : Shared) (name : Name) (found : Given) (new : Shared) : Type 0 where
  unit : GaveUnit old name found new → PieceGave old name found new
  task : GaveTask old name found new → PieceGave old name found new
  actor : GaveActor old name found new → PieceGave old name found new

abbrev pub GivesTo : Shared → Name → Shared → Result Given AllocError → Type 0
GivesTo old name new (Ok found) = PieceGave old name found new
GivesTo old name new (Err e) = IsWanting old name new
