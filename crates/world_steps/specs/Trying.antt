-- Attempts that begin, and tasks that go.
use Rattle.std.specs.Prelude.{◌≡◌, ℕ, Bool, List, length, None, Some}
use Rattle.core_syntax.specs.declared.node_id.NodeId.{NodeId}
use Rattle.eval_step.specs.Evaluation.{Evaluation}
use Rattle.attempt_names.specs.declared.trying.Trying.{Trying}
use Rattle.attempt_names.specs.Trying.{AreTryingNames}
use Rattle.world_steps.specs.declared.kept.Kept.{Kept}
use Rattle.world_steps.specs.Kept.{IsSameBut, shared_of}
use Rattle.shared_world.specs.declared.given.Given.{Given}
use Rattle.shared_world.specs.declared.given.Given.TheVariants as given
use Rattle.shared_world.specs.rows.Attempts.{IsFreshAttempt}
use Rattle.shared_world.specs.rows.Leading.{mark_ahead}
use Rattle.shared_world.specs.Shared.{Shared}
use Rattle.world_steps.specs.Moved.{IsMoved}
use Rattle.task_fork_join.specs.Attempt.{Attempt}
use Rattle.unit_table.specs.Board.{Board, HasPlace, IsPutAt, SameClaims, piece_at, unit_at}
use Rattle.unit_table.specs.declared.mark.Mark.TheVariants as mark
use Rattle.unit_table.specs.declared.mark.WaitOn.TheVariants as wait
use Rattle.unit_table.specs.declared.mark.Work.TheVariants as work
use Rattle.unit_table.specs.declared.piece.Piece.TheVariants as piece
use Rattle.unit_table.specs.declared.unit.Unit.{Unit}
use Rattle.value_core.specs.declared.value.Value.{Value}
use Rattle.value_core.specs.Named.{Name, named, with_named}
use Rattle.value_core.specs.Place.{Spot}
use Rattle.value_core.specs.Placed.{HasPlace as HasOwnerPlace}

-- there is room for the root of an attempt of the unit, and nothing stands under its name
pub record HasRootRoom (k : Kept) (name : Name) (t : Trying) : Type 0 where
  pub names : (x : Unit) → unit_at k.units name ≡ Some x → AreTryingNames name x.made (length k.history.items) t
  pub none : piece_at k.units t.root ≡ None
  pub place : HasPlace k.units t.root
  pub owner_place : HasOwnerPlace t.root k.owners

-- the unit has no attempt, and there is room for the root of one
pub record AreTrying (k : Kept) (name : Name) (t : Trying) : Type 0 where
  pub free : named name k.attempts.entries ≡ None
  pub room : HasRootRoom k name t

-- a tree of the root alone, on the refs as they are now
abbrev pub IsTree : Shared → Name → Trying → NodeId → List Value → Spot → Attempt → Type 0
IsTree s name trying body values at tree = (x : Unit) → unit_at s.board name ≡ Some x → AreTryingNames name x.made (length s.history) trying → IsFreshAttempt s name x body values at tree

-- the unit has such an attempt, and there is room for its root
pub record HasTried (old : Shared) (k : Kept) (name : Name) (body : NodeId) (values : List Value) (at : Spot) (t : Trying) : Type 0 where
  pub tree : Attempt
  pub fresh : (x : Unit) → unit_at old.board name ≡ Some x → IsFreshAttempt old name x body values at tree
  pub free : named name old.attempts ≡ None
  pub room : HasRootRoom k name t
  pub same : IsSameBut old (record (shared_of k) { attempts = old.attempts })
  pub attempts : k.attempts.entries ≡ with_named old.attempts name tree

-- the root is there, and its unit waits for it, or is ready to settle what it holds
pub record HasRoot (old : Shared) (name : Name) (moved : Evaluation) (t : Trying) (settles : Bool) (new : Shared) (found : Given) : Type 0 where
  pub found_is : found ≡ given.Began t.snapshot
  pub board : Board
  pub put : IsPutAt t.root (Some (piece.Task (mark.Ready work.Eval))) old.board board
  pub kept : SameClaims old.board board
  pub moves : (x : Unit) → unit_at old.board name ≡ Some x → IsMoved name x moved x.made (mark_ahead settles (mark.Waiting (wait.Finish t.wait))) board new.board
  pub others : new ≡ record old { owners = with_named old.owners t.root t.owner; board = new.board }
