-- What units come to that act on actors.
use Rattle.std.proofs.Common.{◌≡◌, ◌∙◌, ℕ, Bool, false, true, cond, inl, inr, List, [], ◌∷◌, ◌++◌, refl, sym, ap, subst, suc}
use Rattle.std.specs.Borrow.{Bor}
use Rattle.std.specs.Option.{is_some, option_and_then, option_copied, option_map}
use Rattle.std.specs.Prelude.{Err, IfSome, None, Ok, Option, Result, Some, if◌then◌else◌}
use Rattle.std.specs.declared.alloc.AllocError.{AllocError}
use Rattle.actor_mails.specs.Mails.{mail_at}
use Rattle.serial_model.specs.declared.end.End.{End}
use Rattle.serial_model.specs.declared.halt.Halt.TheVariants as halt
use Rattle.serial_model.specs.declared.request.Request.TheVariants as request
use Rattle.serial_model.specs.declared.actor_state.ActorState.{ActorState}
use Rattle.serial_model.specs.State.{Becoming, UnitState}
use Rattle.serial_model.specs.Step.{answered, idle, next_made, with_made}
use Rattle.shared_world.proofs.States.{roused-is}
use Rattle.shared_world.specs.declared.given.Given.{Given}
use Rattle.shared_world.specs.rows.Actors.{Spawns, actor_with, roused_unless}
use Rattle.shared_world.specs.rows.Pieces.{ClaimsEnd, Settles, but_gone}
use Rattle.shared_world.specs.Shared.{Shared, becoming_of, claimed, is_going, unit_state}
use Rattle.unit_table.specs.Board.{Board, IsPutAt, SameClaims, lent_to, piece_at, unit_at}
use Rattle.unit_table.specs.declared.piece.Piece.{Piece}
use Rattle.unit_table.specs.declared.piece.Piece.TheVariants as piece
use Rattle.unit_table.specs.declared.unit.Becoming.{Becoming as Turned}
use Rattle.unit_table.specs.declared.unit.Unit.{Unit}
use Rattle.unit_table.specs.Piece.{beside, unit_in}
use Rattle.value_core.proofs.NamedLaws.{same_or_not}
use Rattle.value_core.specs.declared.value.Value.{Value}
use Rattle.value_core.specs.declared.value.Value.TheVariants as value
use Rattle.value_core.specs.Named.{Name, same_name}
use Rattle.value_core.specs.Place.{Spot}
use Rattle.world_steps.proofs.Forking.{claims-again, same-after}
use Rattle.world_steps.specs.Kept.{IsSameBut}
use Rattle.world_steps.specs.Rows.{Comes, HasTurnedInto, SpawnsOr}

-- what is put elsewhere leaves a unit as it is
pub unit-apart : (old new : Board) (n : Name) (p : Option Piece) (name : Name) (x : Unit) → (n ≡ name → ⊥) → unit_at old name ≡ Some x → IsPutAt n p old new → unit_at new name ≡ Some x
unit-apart old new n p name x apart there put = ap (option_and_then unit_in) (put.others name (λ same. apart (sym same))) ∙ there

-- a unit is not where nothing is, nor where something else is
pub apart-from : (b : Board) (n name : Name) (x : Unit) (found : Option Piece) → unit_at b name ≡ Some x → piece_at b n ≡ found → option_and_then unit_in found ≡ None → n ≡ name → ⊥
apart-from b n name x found there is none same = let no : None ≡ Some x = sym none ∙ sym (ap (option_and_then unit_in) is) ∙ ap (unit_at b) same ∙ there in cc

-- what follows what is the same but for room
spawns-again : (old mid new : Shared) (name : Name) (x : Unit) (behaviour : ℕ) (state : List Value) (found : Given) → IsSameBut old mid → Spawns mid name x behaviour state found new → Spawns old name x behaviour state found new
spawns-again old mid new name x behaviour state found is r = record {
  none = sym (is.pieces _) ∙ r.none;
  board = r.board;
  put = record {
    here = r.put.here ∙ ap (λ (s : Shared). Some (actor_with (idle behaviour state) (mail_at s.mails (next_made name (unit_state x))))) is.rest;
    others = λ other ne. r.put.others other ne ∙ is.pieces other;
  };
  settles = subst (λ (s : Shared). Settles (record s { board = r.board }) name x (answered (with_made (unit_state x)) (value.Actor (next_made name (unit_state x)))) found new) is.rest r.settles;
}

pub spawn-came : (old mid new : Shared) (name : Name) (behaviour : ℕ) (state : List Value) (at : Spot) → IsSameBut old mid → (result : Result Given AllocError) → SpawnsOr mid name behaviour state new result
    → Comes old name (halt.Ask (request.Spawn behaviour state) at) new result
spawn-came old mid new name behaviour state at is (Err e) r = same-after old mid new is r
spawn-came old mid new name behaviour state at is (Ok found) r = record {
  row = λ x there. spawns-again old mid new name x behaviour state found is (r.row x (ap (option_and_then unit_in) (is.pieces name) ∙ there));
  claims = claims-again (λ q. same_name q name) old mid new is r.claims;
}

-- a unit that went on, whose actor is to become that
pub turned-so : (old mid new : Shared) (name : Name) (x : Unit) (next : Turned) (found : Given) → Settles old name x (answered (unit_state x) value.Nil) found mid
    → IfSome (unit_at mid.board name) (λ unit. IsPutAt name (Some (piece.Unit (record unit { becomes = Some next }))) mid.board new.board) → new ≡ record mid { board = new.board }
    → Settles old name x (answered (record (unit_state x) { becomes = Some (becoming_of next) }) value.Nil) found new
turned-so old mid new name x next found r put others = record {
  found_is = r.found_is;
  unit = record r.unit { becomes = Some next };
  stands = record {
    state = ap (λ (k : UnitState). record k { becomes = Some (becoming_of next) }) r.stands.state;
    machine = r.stands.machine;
    mark = r.stands.mark;
  };
  set = record { here = is_put.here; others = λ other ne. is_put.others other ne ∙ r.set.others other ne };
  others = others ∙ ap (λ (s : Shared). record s { board = new.board }) r.others;
}
  where
    is_put : IsPutAt name (Some (piece.Unit (record r.unit { becomes = Some next }))) mid.board new.board
    is_put = subst (λ found_unit. IfSome found_unit (λ unit. IsPutAt name (Some (piece.Unit (record unit { becomes = Some next }))) mid.board new.board)) (ap (option_and_then unit_in) r.set.here) put

-- the claims are those that were out
pub claims-stay : (gone : Name → Bool) (old mid new : Shared) → new ≡ record mid { board = new.board } → SameClaims mid.board new.board → ClaimsEnd gone old mid → ClaimsEnd gone old new
claims-stay gone old mid new others same ends going ticket =
    ap (λ (s : Shared). claimed s ticket) others ∙ on mid.end ∙ ends (ap (λ (s : Shared). is_going s.end) (sym others) ∙ going) ticket
  where
    on : (end : Option End) → (if is_going end then lent_to new.board ticket else None) ≡ (if is_going end then lent_to mid.board ticket else None)
    on None = same.to ticket
    on (Some e) = refl

-- what is there is seen
pub same-some : {X Y : Type 0} (f : X → Y) (o : Option X) → is_some o ≡ is_some (option_map f o)
same-some f None = refl
same-some f (Some x) = refl

-- a reference is there where what it refers to is
pub copied-there : {X : Type 0} (o : Option (Bor X)) → is_some o ≡ is_some (option_copied o)
copied-there None = refl
copied-there (Some x) = refl

-- units are as they were, where an actor has mail now
pub roused-units : (begun : Bool) (old new : Board) (to : Name) → IsPutAt to (roused_unless begun (piece_at old to)) old new → (q : Name) → unit_at new q ≡ unit_at old q
roused-units begun old new to put q = elim (same_or_not q to) [
  | inl same ↦ ap (unit_at new) same ∙ ap (option_and_then unit_in) put.here ∙ roused-is begun (piece_at old to) ∙ sym (ap (unit_at old) same)
  | inr apart ↦ ap (option_and_then unit_in) (put.others q apart)
]

-- the claims that were out are those on the pieces as they are meanwhile
pub claims-from : (gone : Name → Bool) (old new : Shared) (board : Board) → SameClaims old.board board → ClaimsEnd gone (record old { board = board }) new → ClaimsEnd gone old new
claims-from gone old new board same ends going ticket = ends going ticket ∙ ap (but_gone gone) (on old.end)
  where
    on : (end : Option End) → (if is_going end then lent_to board ticket else None) ≡ (if is_going end then lent_to old.board ticket else None)
    on None = same.to ticket
    on (Some e) = refl
