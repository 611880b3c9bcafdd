-- Pieces and their marks.
use Rattle.std.specs.Prelude.{ℕ, Bool, Option, None, Some, cond, false, not, true}
use Rattle.std.specs.Option.{option_map}
use Rattle.unit_table.specs.declared.mark.Mark.{Mark}
use Rattle.unit_table.specs.declared.mark.Mark.TheVariants as mark
use Rattle.unit_table.specs.declared.mark.WaitOn.TheVariants as wait
use Rattle.unit_table.specs.declared.mark.Work.TheVariants as work
use Rattle.unit_table.specs.declared.piece.Piece.{Piece}
use Rattle.unit_table.specs.declared.piece.Piece.TheVariants as piece
use Rattle.unit_table.specs.declared.unit.Becoming.{Becoming}
use Rattle.unit_table.specs.declared.unit.Unit.{Unit}
use Rattle.eval_step.specs.Evaluation.{Evaluation}
use Rattle.serial_model.specs.declared.actor_state.ActorState.{ActorState}
use Rattle.value_core.specs.Named.{Name, same_name}

-- the mark of a piece
abbrev pub mark_in : Piece → Mark
mark_in (piece.Unit unit) = unit.mark
mark_in (piece.Task mark) = mark
mark_in (piece.Actor actor) = actor.mark

-- the piece with that mark
abbrev pub with_mark : Piece → Mark → Piece
with_mark (piece.Unit unit) mark = piece.Unit (record unit { mark = mark })
with_mark (piece.Task old) mark = piece.Task mark
with_mark (piece.Actor actor) mark = piece.Actor (record actor { mark = mark })

-- a unit with that machine, which has made so many things; anything else as it was
abbrev pub moved : Evaluation → ℕ → Piece → Piece
moved machine made (piece.Unit unit) = piece.Unit (record unit { machine = machine; made = made })
moved machine made p = p

-- a unit whose actor becomes that at its end, where that is said; anything else as it was
abbrev pub becoming : Option Becoming → Piece → Piece
becoming next (piece.Unit unit) = piece.Unit (record unit { becomes = next })
becoming next p = p

-- an actor with that state; anything else as it was
abbrev pub with_state : ActorState → Piece → Piece
with_state state (piece.Actor actor) = piece.Actor (record actor { state = state })
with_state state p = p

abbrev pub unit_in : Piece → Option Unit
unit_in (piece.Unit unit) = Some unit
unit_in p = None

abbrev pub actor_in : Piece → Option ActorState
actor_in (piece.Actor actor) = Some actor.state
actor_in p = None

-- something can be done with a piece of that mark
abbrev pub says_ready : Mark → Bool
says_ready (mark.Ready work) = true
says_ready _ = false

-- a piece of that mark is finished
abbrev pub says_finished : Mark → Bool
says_finished (mark.Finished v) = true
says_finished _ = false

-- the piece is a unit that is not finished
abbrev pub goes_on : Piece → Bool
goes_on (piece.Unit unit) = not (says_finished unit.mark)
goes_on p = false

-- a piece of that mark is gone
abbrev pub says_dropped : Mark → Bool
says_dropped mark.Dropped = true
says_dropped _ = false

-- for whose finish a piece of that mark waits
abbrev pub awaited : Mark → Option Name
awaited (mark.Waiting (wait.Finish name)) = Some name
awaited _ = None

abbrev pub is_for : Name → Option Name → Bool
is_for name None = false
is_for name (Some other) = same_name other name

-- a piece that waits for the finish of that name is ready to settle; another one is as it was
abbrev pub woken : Name → Piece → Piece
woken name p = cond (is_for name (awaited (mark_in p))) (with_mark p (mark.Ready work.Settle)) p

-- the piece with that mark; it is gone where it is dropped
abbrev pub marked : Mark → Piece → Option Piece
marked mark p = cond (says_dropped mark) None (Some (with_mark p mark))

-- what stands elsewhere, once that name has that mark: where it is finished, who waited for it is woken
abbrev pub beside : Name → Mark → Option Piece → Option Piece
beside name mark found = cond (says_finished mark) (option_map (woken name) found) found
