-- What the pieces are to actors.
use Rattle.std.proofs.Common.{◌≡◌, ◌∙◌, Bool, true, false, cond, refl, sym, ap}
use Rattle.std.specs.Option.{option_and_then, option_map}
use Rattle.std.specs.Prelude.{Option, None, Some}
use Rattle.serial_model.specs.declared.actor_state.ActorState.{ActorState}
use Rattle.serial_model.specs.State.{UnitState}
use Rattle.shared_world.specs.rows.Actors.{roused, roused_unless}
use Rattle.shared_world.specs.rows.Pieces.{IsSet, task_gone}
use Rattle.shared_world.specs.Shared.{state_at, unit_state}
use Rattle.unit_table.specs.Board.{Board, IsPutAt, SamePieces, actor_at, piece_at}
use Rattle.unit_table.specs.declared.mark.Mark.{Mark}
use Rattle.unit_table.specs.declared.mark.Mark.TheVariants as mark
use Rattle.unit_table.specs.declared.mark.Work.TheVariants as work
use Rattle.unit_table.specs.declared.piece.Actor.{Actor}
use Rattle.unit_table.specs.declared.piece.Piece.{Piece}
use Rattle.unit_table.specs.declared.piece.Piece.TheVariants as piece
use Rattle.unit_table.specs.Piece.{actor_in, awaited, beside, is_for, says_finished, unit_in, with_mark, woken}
use Rattle.value_core.proofs.NamedLaws.{same_name-equal, same_name-itself}
use Rattle.value_core.specs.Named.{Name, same_name}

-- a piece, as an actor
abbrev pub actor_of_piece : Option Piece → Option ActorState
actor_of_piece found = option_and_then actor_in found

-- the same actors stand under each name
abbrev pub SameActors : Board → Board → Type 0
SameActors old new = (a : Name) → actor_at new a ≡ actor_at old a

-- another name is not this one
pub not-same : (q n : Name) → same_name q n ≡ false → q ≡ n → ⊥
not-same q n e same = let no : true ≡ false = sym (same_name-itself n) ∙ ap (λ k. same_name k n) (sym same) ∙ e in cc

-- an actor that is woken is the same
woken-actor : (name : Name) (p : Piece) → actor_of_piece (Some (woken name p)) ≡ actor_of_piece (Some p)
woken-actor name (piece.Task m) = on (is_for name (awaited m))
  where
    on : (c : Bool) → actor_of_piece (Some (cond c (piece.Task (mark.Ready work.Settle)) (piece.Task m))) ≡ None
    on true = refl
    on false = refl
woken-actor name (piece.Actor a) = on (is_for name (awaited a.mark))
  where
    on : (c : Bool) → actor_of_piece (Some (cond c (with_mark (piece.Actor a) (mark.Ready work.Settle)) (piece.Actor a))) ≡ Some a.state
    on true = refl
    on false = refl
woken-actor name (piece.Unit x) = on (is_for name (awaited x.mark))
  where
    on : (c : Bool) → actor_of_piece (Some (cond c (piece.Unit (record x { mark = mark.Ready work.Settle })) (piece.Unit x))) ≡ None
    on true = refl
    on false = refl

beside-actor : (name : Name) (m : Mark) (found : Option Piece) → actor_of_piece (beside name m found) ≡ actor_of_piece found
beside-actor name m None = on (says_finished m)
  where
    on : (c : Bool) → actor_of_piece (cond c (option_map (woken name) None) None) ≡ None
    on true = refl
    on false = refl
beside-actor name m (Some p) = on (says_finished m)
  where
    on : (c : Bool) → actor_of_piece (cond c (Some (woken name p)) (Some p)) ≡ actor_of_piece (Some p)
    on true = woken-actor name p
    on false = refl

-- an actor that has mail now is the same
pub roused-actor : (found : Option Piece) → actor_of_piece (option_map roused found) ≡ actor_of_piece found
roused-actor None = refl
roused-actor (Some (piece.Unit x)) = refl
roused-actor (Some (piece.Task m)) = refl
roused-actor (Some (piece.Actor a)) = refl

-- whether it is roused or not
pub roused-same : (c : Bool) (found : Option Piece) → actor_of_piece (roused_unless c found) ≡ actor_of_piece found
roused-same true found = refl
roused-same false found = roused-actor found

pub same-pieces-actors : (old new : Board) → SamePieces old new → SameActors old new
same-pieces-actors old new same a = ap actor_of_piece (same a)

-- what is set is no actor, and none stood there
pub actors-set : (n : Name) (p : Piece) (m : Mark) (old new : Board) → actor_of_piece (Some p) ≡ None → actor_at old n ≡ None → IsSet n p m old new → SameActors old new
actors-set n p m old new none was set q = on (same_name q n) refl
  where
    on : (c : Bool) → same_name q n ≡ c → actor_at new q ≡ actor_at old q
    on true e = let is : q ≡ n = same_name-equal q n e in ap (actor_at new) is ∙ ap actor_of_piece set.here ∙ none ∙ sym (ap (actor_at old) is ∙ was)
    on false e = ap actor_of_piece (set.others q (not-same q n e)) ∙ beside-actor n m (piece_at old q)

-- what is put is no actor, and none stood there
pub actors-put : (n : Name) (p : Option Piece) (old new : Board) → actor_of_piece p ≡ actor_at old n → IsPutAt n p old new → SameActors old new
actors-put n p old new was put q = on (same_name q n) refl
  where
    on : (c : Bool) → same_name q n ≡ c → actor_at new q ≡ actor_at old q
    on true e = let is : q ≡ n = same_name-equal q n e in ap (actor_at new) is ∙ ap actor_of_piece put.here ∙ was ∙ sym (ap (actor_at old) is)
    on false e = ap actor_of_piece (put.others q (not-same q n e))

-- an actor that is put
pub actor-put : (n : Name) (x : Actor) (old new : Board) → IsPutAt n (Some (piece.Actor x)) old new → (q : Name) → actor_at new q ≡ cond (same_name q n) (Some x.state) (actor_at old q)
actor-put n x old new put q = on (same_name q n) refl
  where
    on : (c : Bool) → same_name q n ≡ c → actor_at new q ≡ cond c (Some x.state) (actor_at old q)
    on true e = ap (actor_at new) (same_name-equal q n e) ∙ ap actor_of_piece put.here
    on false e = ap actor_of_piece (put.others q (not-same q n e))

-- no actor stands where a unit does, or nothing
pub unit-no-actor : (b : Board) (u : Name) (k : UnitState) → state_at b u ≡ Some k → actor_at b u ≡ None
unit-no-actor b u k there = on (piece_at b u) refl there
  where
    on : (found : Option Piece) → piece_at b u ≡ found → option_map unit_state (option_and_then unit_in found) ≡ Some k → actor_at b u ≡ None
    on None is e = ap actor_of_piece is
    on (Some (piece.Unit x)) is e = ap actor_of_piece is
    on (Some (piece.Task m)) is e = ap actor_of_piece is
    on (Some (piece.Actor a)) is e = cc

-- a unit or a task has no state of an actor, and an actor none of a unit
pub actor-no-unit : (b : Board) (a : Name) (x : Actor) → piece_at b a ≡ Some (piece.Actor x) → state_at b a ≡ None
actor-no-unit b a x there = ap (λ found. option_map unit_state (option_and_then unit_in found)) there

-- tasks that go are nothing to actors
pub gone-actor : (found : Option Piece) (c : Bool) → actor_of_piece (cond c (task_gone found) found) ≡ actor_of_piece found
gone-actor found false = refl
gone-actor None true = refl
gone-actor (Some (piece.Unit x)) true = refl
gone-actor (Some (piece.Task m)) true = refl
gone-actor (Some (piece.Actor a)) true = refl
