-- A unit that forks, and what is the same but for room.
use Rattle.std.proofs.Common.{◌≡◌, ◌∙◌, Bool, false, ◌==◌, List, refl, sym, ap, subst, le_trans, suc}
use Rattle.std.specs.Option.{option_and_then}
use Rattle.std.specs.Prelude.{Err, None, Ok, Option, Result, Some, if◌then◌else◌}
use Rattle.std.specs.declared.alloc.AllocError.{AllocError}
use Rattle.core_syntax.specs.declared.node_id.NodeId.{NodeId}
use Rattle.eval_step.specs.Evaluation.{Evaluation, IsOf}
use Rattle.world_steps.specs.Kept.{IsSameBut, IsUnitOf}
use Rattle.world_steps.specs.Moved.{IsPlainPut}
use Rattle.world_steps.specs.Rows.{Comes, ForksOr}
use Rattle.serial_model.specs.declared.end.End.{End}
use Rattle.serial_model.specs.declared.halt.Halt.TheVariants as halt
use Rattle.serial_model.specs.declared.request.Request.TheVariants as request
use Rattle.shared_world.proofs.Live.{unit-piece}
use Rattle.shared_world.proofs.ActorPieces.{same-pieces-actors}
use Rattle.shared_world.proofs.Standing.{same-states}
use Rattle.shared_world.proofs.States.{machines-same, same-pieces}
use Rattle.shared_world.specs.declared.given.Given.{Given}
use Rattle.shared_world.specs.rows.Units.{Forks, ForksIfAllowed}
use Rattle.serial_model.specs.Step.{answered, next_made, with_made}
use Rattle.shared_world.specs.rows.Pieces.{ClaimsEnd, Settles, but_gone}
use Rattle.shared_world.specs.Shared.{Shared, claimed, is_going, unit_state}
use Rattle.value_core.specs.declared.value.Value.TheVariants as value
use Rattle.shared_world.specs.Stands.{IsMachine, Stands}
use Rattle.unit_table.specs.Board.{Board, lent_to, piece_at, unit_at}
use Rattle.unit_table.specs.declared.piece.Piece.TheVariants as piece
use Rattle.unit_table.specs.declared.unit.Unit.{Unit}
use Rattle.unit_table.specs.Piece.{unit_in}
use Rattle.value_core.specs.declared.ticket.Ticket.{Ticket}
use Rattle.value_core.specs.declared.value.Value.{Value}
use Rattle.value_core.specs.Named.{Name, same_name}
use Rattle.value_core.specs.Place.{Spot}

-- a unit stands still, where another one is put under a name where nothing stood
pub still-there : (old new : Board) (child : Name) (machine : Evaluation) (name : Name) (x : Unit) → unit_at old name ≡ Some x → piece_at old child ≡ None → IsPlainPut child machine old new → unit_at new name ≡ Some x
still-there old new child machine name x there none put =
    ap (option_and_then unit_in) (put.others name (λ same. let no : None ≡ Some (piece.Unit x) = sym none ∙ ap (piece_at old) (sym same) ∙ unit-piece old name x there in cc)) ∙ there

-- what is the same but for room stands
pub same-stands : (old new : Shared) → Stands old → IsSameBut old new → Stands new
same-stands old new st is = subst Stands (sym is.rest) (same-states old st new.board (same-pieces old.board new.board is.pieces) (same-pieces-actors old.board new.board is.pieces) (machines-same (IsMachine old.setup) old.board new.board is.pieces st.machines))

pub same-after : (old mid new : Shared) → IsSameBut old mid → IsSameBut mid new → IsSameBut old new
same-after old mid new one two = record {
  pieces = λ n. two.pieces n ∙ one.pieces n;
  claims = record { lent = λ n. two.claims.lent n ∙ one.claims.lent n; to = λ t. two.claims.to t ∙ one.claims.to t; later = λ k. let a = one.claims.later k in let b = two.claims.later k in le_trans a b };
  rest = two.rest ∙ ap (λ (s : Shared). record s { board = new.board }) one.rest;
}

-- the unit of what is the same but for room
pub same-unit : (old new : Shared) (name : Name) (moved : Evaluation) → IsSameBut old new → IsUnitOf old name moved → IsUnitOf new name moved
same-unit old new name moved is of = record {
  unit = of.unit;
  there = ap (option_and_then unit_in) (is.pieces name) ∙ of.there;
  same = of.same;
  of = subst (λ (s : Shared). IsOf s.setup.program moved) (sym is.rest) of.of;
  unfinished = of.unfinished;
}

pub same-claimed : (old new : Shared) → IsSameBut old new → (t : Ticket) → claimed new t ≡ claimed old t
same-claimed old new is t = ap (λ (s : Shared). claimed s t) is.rest ∙ on old.end
  where
    on : (end : Option End) → (if is_going end then lent_to new.board t else None) ≡ (if is_going end then lent_to old.board t else None)
    on None = is.claims.to t
    on (Some e) = refl

-- what follows what is the same but for room
pub forks-again : (old mid new : Shared) (name : Name) (x : Unit) (body : NodeId) (values : List Value) (found : Given) → IsSameBut old mid → Forks mid name x body values found new → Forks old name x body values found new
forks-again old mid new name x body values found is r = record {
  none = sym (is.pieces _) ∙ r.none;
  child = r.child;
  board = r.board;
  begins = record { state = r.begins.state; machine = subst (λ (s : Shared). IsMachine s.setup r.child.machine) is.rest r.begins.machine; mark = r.begins.mark };
  put = record { here = r.put.here; others = λ other ne. r.put.others other ne ∙ is.pieces other };
  settles = subst (λ (s : Shared). Settles (record s { made = suc s.made; board = r.board }) name x (answered (with_made (unit_state x)) (value.Future (next_made name (unit_state x)))) found new) is.rest r.settles;
}

pub claims-again : (gone : Name → Bool) (old mid new : Shared) → IsSameBut old mid → ClaimsEnd gone mid new → ClaimsEnd gone old new
claims-again gone old mid new is ends going ticket = ends going ticket ∙ ap (but_gone gone) (same-claimed old mid is ticket)

pub fork-came : (old mid new : Shared) (name : Name) (body : NodeId) (values : List Value) (b : NodeId) (vs : List Value) (at : Spot) → b ≡ body → vs ≡ values → IsSameBut old mid → (old.made == old.setup.limits.units) ≡ false
    → (result : Result Given AllocError) → ForksOr mid name b vs new result → Comes old name (halt.Ask (request.Fork body values) at) new result
fork-came old mid new name body values b vs at is_b is_vs is room (Err e) r = same-after old mid new is r
fork-came old mid new name body values b vs at is_b is_vs is room (Ok found) r = record {
  row = λ x there. subst (λ full. ForksIfAllowed old name x body values full found new) (sym room)
      (subst (λ k. Forks old name x k values found new) is_b (subst (λ ks. Forks old name x b ks found new) is_vs (forks-again old mid new name x b vs found is (r.row x (ap (option_and_then unit_in) (is.pieces name) ∙ there)))));
  claims = claims-again (λ q. same_name q name) old mid new is r.claims;
}
