-- A unit that has moved.
use Rattle.std.specs.Prelude.{◌≡◌, [], ℕ, None, Some, suc}
use Rattle.eval_step.specs.Evaluation.{Evaluation}
use Rattle.world_steps.specs.declared.units.Forking.{Forking}
use Rattle.world_steps.specs.declared.units.Made.{Made}
use Rattle.serial_model.specs.State.{Setup}
use Rattle.shared_world.specs.rows.Pieces.{IsSet}
use Rattle.shared_world.specs.Shared.{Shared}
use Rattle.shared_world.specs.Stands.{IsMachine}
use Rattle.unit_table.specs.Board.{Board, HasPlace, IsPutAt, IsUnlent, piece_at, unit_at}
use Rattle.unit_table.specs.declared.mark.Mark.{Mark}
use Rattle.unit_table.specs.declared.mark.Mark.TheVariants as mark
use Rattle.unit_table.specs.declared.mark.Work.TheVariants as work
use Rattle.unit_table.specs.declared.piece.Piece.TheVariants as piece
use Rattle.unit_table.specs.declared.unit.Unit.{Unit}
use Rattle.unit_table.specs.declared.unit.UnitKind.TheVariants as kind
use Rattle.value_core.specs.Named.{Name, made_by}

-- the unit has that machine and mark, has made so many things, and is lent no more; what had a place has one
pub record IsMoved (name : Name) (x : Unit) (machine : Evaluation) (made : ℕ) (m : Mark) (old new : Board) : Type 0 where
  pub set : IsSet name (piece.Unit (record x { machine = machine; made = made; mark = m })) m old new
  pub unlent : IsUnlent name old new
  pub places : (other : Name) → HasPlace old other → HasPlace new other

-- the next thing that a unit makes which has made so many, and how many it has made then
pub record IsMadeNext (name : Name) (made : ℕ) (m : Made) : Type 0 where
  pub name_is : m.name ≡ made_by name made
  pub told_is : m.told ≡ made_by name made
  pub count_is : m.count ≡ suc made

-- the machine is to begin the body of a plain unit
pub record IsBegun (setup : Setup) (machine : Evaluation) : Type 0 where
  pub is : IsMachine setup machine
  pub none : machine.answers ≡ []

-- a plain unit that this machine evaluates, which has made nothing and can go on
abbrev pub IsPlainPut : Name → Evaluation → Board → Board → Type 0
IsPlainPut name machine old new = IsPutAt name (Some (piece.Unit (record { name = name; kind = kind.Plain; machine = machine; made = 0; becomes = None; mark = mark.Ready work.Eval }))) old new

-- The unit that is forked next: nothing stands under its name, and there is a place for it.
pub record IsForking (s : Shared) (name : Name) (f : Forking) : Type 0 where
  pub made : (x : Unit) → unit_at s.board name ≡ Some x → IsMadeNext name x.made f.made
  pub none : piece_at s.board f.made.name ≡ None
  pub place : HasPlace s.board f.made.name
  pub units : f.units ≡ suc s.made
