-- What the world keeps, as it is shared.
use Rattle.std.specs.Prelude.{◌≡◌, None, Some}
use Rattle.std.specs.Arc.{arc_value}
use Rattle.actor_mails.specs.Mails.{held}
use Rattle.eval_step.specs.Evaluation.{Evaluation, IsOf, IsSame}
use Rattle.world_steps.specs.declared.kept.Kept.{Kept}
use Rattle.shared_world.specs.Shared.{Shared, finished_by}
use Rattle.unit_table.specs.Board.{SameClaims, SamePieces, unit_at}
use Rattle.turns_ahead.specs.Leading.{ahead_of}
use Rattle.unit_table.specs.declared.unit.Unit.{Unit}
use Rattle.value_core.specs.Named.{Name, each_as}
use Rattle.value_core.specs.Placed.{filled}

-- the messages that are taken are those in their places, and the turns that run ahead are seen without what they foretell
abbrev pub shared_of : Kept → Shared
shared_of k = record {
  setup = record { program = arc_value k.program; limits = k.limits };
  history = k.history.items;
  versions = k.store.versions;
  board = k.units;
  mails = held k.mails;
  taken = filled k.taken;
  aheads = each_as ahead_of k.aheads.entries;
  attempts = k.attempts.entries;
  owners = filled k.owners;
  bytes = k.output.items;
  made = k.made;
  end = k.end;
}

-- nothing has changed but the room that is there
pub record IsSameBut (old new : Shared) : Type 0 where
  pub pieces : SamePieces old.board new.board
  pub claims : SameClaims old.board new.board
  pub rest : new ≡ record old { board = new.board }

-- the unit of that name is not finished, evaluates the same as the machine, and has the same answers
pub record IsUnitOf (s : Shared) (name : Name) (moved : Evaluation) : Type 0 where
  pub unit : Unit
  pub there : unit_at s.board name ≡ Some unit
  pub same : IsSame unit.machine moved
  pub of : IsOf s.setup.program moved
  pub unfinished : finished_by unit.mark ≡ None
