-- Where something can be done the run is not over.
use Rattle.std.proofs.Common.{◌≡◌, ◌∙◌, Bool, true, false, refl, sym, ap}
use Rattle.std.specs.Prelude.{[], ◌∷◌, Err, IsErrAnd, IsErrOf, List, None, Ok, Option, Result, Some, ◌&&◌, not}
use Rattle.actor_mailbox.specs.declared.message.Message.{Message}
use Rattle.run_end.proofs.Ends.{over-none-tried}
use Rattle.run_end.proofs.Finished.{over-rests}
use Rattle.lent_pieces.proofs.Lending.{and-left, ready-goes}
use Rattle.interleave_core.specs.declared.error.ClaimNo.{ClaimNo}
use Rattle.interleave_core.specs.declared.error.ClaimNo.TheVariants as no
use Rattle.run_end.specs.Over.{IsOverWith, IsRunOver}
use Rattle.serial_model.specs.declared.end.End.{End}
use Rattle.shared_world.specs.Marks.{AreMarked, HasMarks}
use Rattle.shared_world.specs.Rest.{IsAtRest}
use Rattle.shared_world.specs.rows.Actors.{actor_mark, has_turn}
use Rattle.shared_world.specs.Shared.{Shared, is_going, ready}
use Rattle.shared_world.specs.Stands.{Stands}
use Rattle.unit_table.specs.Board.{marks_ready, piece_at}
use Rattle.unit_table.specs.declared.mark.Mark.{Mark}
use Rattle.unit_table.specs.declared.mark.Mark.TheVariants as mark
use Rattle.unit_table.specs.declared.piece.Piece.{Piece}
use Rattle.unit_table.specs.declared.piece.Piece.TheVariants as piece
use Rattle.unit_table.specs.Piece.{goes_on, says_finished, says_ready}
use Rattle.value_core.specs.Named.{Name}
use Rattle.value_core.specs.NameSet.{holds_at}

and-right : (a b : Bool) → (a && b) ≡ true → b ≡ true
and-right true b is = is
and-right false b is = cc

-- no memory is not the end of the run
pub memory-not-over : {T : Type 0} (r : Result T ClaimNo) → IsErrAnd r (λ refusal. refusal ≡ no.Memory) → IsErrOf r no.Over → ⊥
memory-not-over (Ok x) so refused = cc
memory-not-over (Err e) so refused = let over : e ≡ no.Over = cc in let both : no.Memory ≡ no.Over = sym so ∙ over in cc

unended : (end : Option End) → is_going end ≡ true → end ≡ None
unended None is = refl
unended (Some end) is = cc

-- what can go on is not finished
ready-open : (m : Mark) → says_ready m ≡ true → not (says_finished m) ≡ true
ready-open (mark.Ready w) is = refl
ready-open (mark.Waiting w) is = cc
ready-open mark.Resting is = cc
ready-open (mark.Finished v) is = cc
ready-open mark.Dropped is = cc

-- with no mail an actor rests
mailless : (busy : Bool) (mail : List Message) → mail ≡ [] → says_ready (actor_mark busy mail) ≡ false
mailless true mail none = refl
mailless false [] none = refl
mailless false (m ∷ ms) none = cc

module _ (s : Shared) (st : Stands s) (marks : HasMarks s) (name : Name) (is_so : ready s name ≡ true) where
  going : is_going s.end ≡ true
  going = ready-goes s name is_so

  marked : AreMarked s
  marked = marks going

  can : marks_ready (piece_at s.board name) ≡ true
  can = and-left _ _ (and-right _ _ is_so)

  not-rest : (end : End) → IsOverWith s end → IsAtRest s → ⊥
  not-rest end over rest = on (piece_at s.board name) refl can
    where
      on : (found : Option Piece) → piece_at s.board name ≡ found → marks_ready found ≡ true → ⊥
      on None is says = cc
      on (Some (piece.Unit x)) is says = let no : true ≡ false = sym (ready-open x.mark says) ∙ sym (ap (holds_at goes_on) is) ∙ rest.units name in cc
      on (Some (piece.Task m)) is says =
          let of = marked.tasks name m is in
          let no : None ≡ Some of.tree = sym (over-none-tried s st end over (unended s.end going) of.owner) ∙ of.attempt in
          cc
      on (Some (piece.Actor a)) is says =
          let no : true ≡ false = sym says ∙ ap says_ready (marked.actors name a is) ∙ mailless (has_turn s.taken name a.state) _ (rest.mail name) in
          cc

  -- where the piece is ready the run is not over
  pub ready-not-over : IsRunOver s → ⊥
  ready-not-over over = not-rest over.0 over.1 (over-rests s st over.0 (unended s.end going) over.1)
