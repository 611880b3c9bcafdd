-- A turn that goes on ahead with an answer.
use Rattle.std.specs.Prelude.{◌≡◌, ◌+◌, ◌++◌, ◌∷◌, [], Option, Some, false}
use Rattle.ahead_steps.specs.declared.holding.Going.{Going}
use Rattle.ahead_steps.specs.Leads.{IsLead}
use Rattle.eval_step.specs.Evaluation.{Evaluation}
use Rattle.serial_model.specs.Ahead.{answer_ahead}
use Rattle.serial_model.specs.declared.answer.Answer.TheVariants as answer
use Rattle.serial_model.specs.declared.request.Request.{Request}
use Rattle.shared_world.specs.Ahead.{Ahead}
use Rattle.shared_world.specs.rows.Leading.{becomes_after, mark_ahead}
use Rattle.shared_world.specs.Shared.{Shared, actor_of}
use Rattle.task_fork_join.specs.Stepping.{IsGiven}
use Rattle.tentative_turn.specs.Turn.{things_made}
use Rattle.turns_ahead.specs.Leading.{becomes_or}
use Rattle.unit_table.specs.Board.{Board, IsPutAt, IsUnlent, unit_at}
use Rattle.unit_table.specs.declared.mark.Mark.TheVariants as mark
use Rattle.unit_table.specs.declared.mark.Work.TheVariants as work
use Rattle.unit_table.specs.declared.piece.Piece.TheVariants as piece
use Rattle.unit_table.specs.declared.unit.Becoming.{Becoming}
use Rattle.unit_table.specs.declared.unit.Unit.{Unit}
use Rattle.value_core.specs.declared.value.Value.{Value}
use Rattle.value_core.specs.Named.{Name, Named, made_by, named, with_named}

-- what the unit is answered ahead to that request
abbrev pub IsTold : Name → Unit → Request → Value → Type 0
IsTold name unit r told = answer_ahead (actor_of unit.kind) (made_by name unit.made) r ≡ Some (answer.Value told)

-- the unit has made what the request makes, and its actor becomes what that says
pub record IsGoing (name : Name) (unit : Unit) (moved : Evaluation) (r : Request) (g : Going) : Type 0 where
  pub told : Value
  pub told_is : IsTold name unit r told
  pub given : IsGiven moved (answer.Value told) g.machine
  pub made : g.made ≡ unit.made + things_made r
  pub becomes : (before : Option Becoming) → becomes_or g.becomes before ≡ becomes_after r before

-- the unit of that name is to go on so, as a turn that runs ahead
pub record IsGoingAt (s : Shared) (name : Name) (moved : Evaluation) (r : Request) (g : Going) : Type 0 where
  pub unit : Unit
  pub there : unit_at s.board name ≡ Some unit
  pub going : IsGoing name unit moved r g
  pub lead : IsLead s name g.definite

-- the request is the last that the turn holds, and it does not wait
abbrev pub HoldsLast : Name → Request → Named Ahead → Named Ahead → Type 0
HoldsLast name r old new = (h : Ahead) → named name old ≡ Some h → new ≡ with_named old name (record h { held = h.held ++ r ∷ []; waits = false })

-- the unit goes on so, and is lent no more
pub record GoesOn (name : Name) (x : Unit) (g : Going) (old new : Board) : Type 0 where
  pub put : IsPutAt name (Some (piece.Unit (record x { machine = g.machine; made = g.made; becomes = becomes_or g.becomes x.becomes; mark = mark_ahead g.definite (mark.Ready work.Eval) }))) old new
  pub unlent : IsUnlent name old new
