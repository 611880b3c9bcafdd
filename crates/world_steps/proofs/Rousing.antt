-- Actors that stand under a name.
use Rattle.std.proofs.Common.{◌≡◌, ◌∙◌, Bool, true, false, cond, inl, inr, List, [], ◌∷◌, refl, sym, ap, subst}
use Rattle.std.specs.Option.{option_and_then, option_map}
use Rattle.std.specs.Prelude.{Option, None, Some}
use Rattle.actor_mailbox.specs.declared.message.Message.{Message}
use Rattle.serial_model.specs.declared.actor_state.ActorState.{ActorState}
use Rattle.shared_world.specs.rows.Actors.{actor_mark, actor_with, mark_roused, roused}
use Rattle.unit_table.specs.Board.{AreTied, Board, IsMarked, IsPutAt, IsUnlent, LentAreReady, SameClaims, but_for, lent_at, lent_to, marks_ready, piece_at}
use Rattle.unit_table.specs.declared.mark.Mark.{Mark}
use Rattle.unit_table.specs.declared.mark.Mark.TheVariants as mark
use Rattle.unit_table.specs.declared.mark.Work.TheVariants as work
use Rattle.unit_table.specs.declared.piece.Actor.{Actor}
use Rattle.unit_table.specs.declared.piece.Piece.{Piece}
use Rattle.unit_table.specs.declared.piece.Piece.TheVariants as piece
use Rattle.unit_table.specs.Piece.{marked}
use Rattle.value_core.proofs.NamedLaws.{same_name-equal, same_or_not}
use Rattle.value_core.specs.declared.ticket.Ticket.{Ticket}
use Rattle.value_core.specs.NameSet.{holds_at}
use Rattle.value_core.specs.Named.{Name, same_name}
use Rattle.world_steps.specs.Acting.{is_at_rest, says_resting}

-- an idle actor that rests is roused, and is not ready before
rouses : (found : Option Piece) → holds_at is_at_rest found ≡ true → (option_and_then (marked (mark.Ready work.Begin)) found ≡ option_map roused found) × (marks_ready found ≡ false)
rouses None is = cc
rouses (Some (piece.Unit x)) is = cc
rouses (Some (piece.Task m)) is = cc
rouses (Some (piece.Actor a)) is = on a.state.busy a.mark refl refl is
  where
    on : (busy : Bool) (m : Mark) → a.state.busy ≡ busy → a.mark ≡ m → holds_at is_at_rest (Some (piece.Actor a)) ≡ true
        → (option_and_then (marked (mark.Ready work.Begin)) (Some (piece.Actor a)) ≡ option_map roused (Some (piece.Actor a))) × (marks_ready (Some (piece.Actor a)) ≡ false)
    on true m is_busy is_m so = cc
    on false mark.Resting is_busy is_m so = (ap (λ k. Some (piece.Actor (record a { mark = k }))) (sym (ap (λ b. mark_roused b a.mark) is_busy ∙ ap (mark_roused false) is_m)), ap (λ k. marks_ready (Some (piece.Actor (record a { mark = k })))) is_m)
    on false (mark.Ready w) is_busy is_m so = cc
    on false (mark.Waiting w) is_busy is_m so = cc
    on false (mark.Finished v) is_busy is_m so = cc
    on false mark.Dropped is_busy is_m so = cc

-- anything else stays
stays-roused : (found : Option Piece) → holds_at is_at_rest found ≡ false → option_map roused found ≡ found
stays-roused None is = refl
stays-roused (Some (piece.Unit x)) is = refl
stays-roused (Some (piece.Task m)) is = refl
stays-roused (Some (piece.Actor a)) is = on a.state.busy a.mark refl refl is
  where
    same : mark_roused a.state.busy a.mark ≡ a.mark → option_map roused (Some (piece.Actor a)) ≡ Some (piece.Actor a)
    same e = ap (λ k. Some (piece.Actor (record a { mark = k }))) e

    on : (busy : Bool) (m : Mark) → a.state.busy ≡ busy → a.mark ≡ m → holds_at is_at_rest (Some (piece.Actor a)) ≡ false → option_map roused (Some (piece.Actor a)) ≡ Some (piece.Actor a)
    on true m is_busy is_m so = same (ap (λ b. mark_roused b a.mark) is_busy)
    on false mark.Resting is_busy is_m so = cc
    on false (mark.Ready w) is_busy is_m so = same (ap (λ b. mark_roused b a.mark) is_busy ∙ ap (mark_roused false) is_m ∙ sym is_m)
    on false (mark.Waiting w) is_busy is_m so = same (ap (λ b. mark_roused b a.mark) is_busy ∙ ap (mark_roused false) is_m ∙ sym is_m)
    on false (mark.Finished v) is_busy is_m so = same (ap (λ b. mark_roused b a.mark) is_busy ∙ ap (mark_roused false) is_m ∙ sym is_m)
    on false mark.Dropped is_busy is_m so = same (ap (λ b. mark_roused b a.mark) is_busy ∙ ap (mark_roused false) is_m ∙ sym is_m)

pub roused-put : (old new : Board) (name : Name) → holds_at is_at_rest (piece_at old name) ≡ true → IsMarked name (mark.Ready work.Begin) old new → IsPutAt name (option_map roused (piece_at old name)) old new
roused-put old new name rests is = record { here = is.here ∙ (rouses (piece_at old name) rests).0; others = is.others }

pub roused-same : (b : Board) (name : Name) → holds_at is_at_rest (piece_at b name) ≡ false → IsPutAt name (option_map roused (piece_at b name)) b b
roused-same b name other = record { here = sym (stays-roused (piece_at b name) other); others = λ q ne. refl }

-- a claim on what was not lent ends: that is none
pub none-ended : (old new : Board) (name : Name) → AreTied old → LentAreReady old → marks_ready (piece_at old name) ≡ false → IsUnlent name old new → SameClaims old new
none-ended old new name tied ready resting is = record {
  lent = λ q. elim (same_or_not q name) [
    | inl same ↦ ap (lent_at new) same ∙ is.here ∙ sym (ap (lent_at old) same ∙ free (lent_at old name) refl)
    | inr apart ↦ is.others q apart
  ];
  to = λ claim. is.to claim ∙ kept claim (lent_to old claim) refl;
  later = is.later;
}
  where
    no-claim : (claim : Ticket) → lent_to old claim ≡ Some name → ⊥
    no-claim claim lent = let no : false ≡ true = sym resting ∙ ready claim name lent in cc

    free : (found : Option Ticket) → lent_at old name ≡ found → lent_at old name ≡ None
    free None none = none
    free (Some claim) lent = absurd (no-claim claim (tied.lent claim name lent))

    kept : (claim : Ticket) (found : Option Name) → lent_to old claim ≡ found → but_for name found ≡ found
    kept claim None lent = refl
    kept claim (Some q) lent = on (same_name q name) refl
      where
        on : (c : Bool) → same_name q name ≡ c → but_for name (Some q) ≡ Some q
        on true e = absurd (no-claim claim (lent ∙ ap Some (same_name-equal q name e)))
        on false e = ap (λ c. cond c None (Some q)) e

pub rests-not-ready : (b : Board) (name : Name) → holds_at is_at_rest (piece_at b name) ≡ true → marks_ready (piece_at b name) ≡ false
rests-not-ready b name rests = (rouses (piece_at b name) rests).1

-- the mark of an actor by its mail
mark-with-none : (busy : Bool) → actor_mark busy [] ≡ mark.Resting
mark-with-none true = refl
mark-with-none false = refl

mark-with-some : (busy : Bool) (m : Message) (ms : List Message) → mark_roused busy mark.Resting ≡ actor_mark busy (m ∷ ms)
mark-with-some true m ms = refl
mark-with-some false m ms = refl

-- an actor that rests is as its mail says, where it has none
pub woken-none : (b : Board) (name : Name) (actor : ActorState) (mail : List Message) → mail ≡ [] → piece_at b name ≡ Some (piece.Actor (record { state = actor; mark = mark.Resting })) → IsPutAt name (Some (actor_with actor mail)) b b
woken-none b name actor mail none there = record {
  here = there ∙ ap (λ k. Some (piece.Actor (record { state = actor; mark = k }))) (sym (ap (actor_mark actor.busy) none ∙ mark-with-none actor.busy));
  others = λ q ne. refl;
}

-- and where it has some, once it is roused
pub woken-some : (old new : Board) (name : Name) (actor : ActorState) (mail : List Message) (m : Message) (ms : List Message) → mail ≡ m ∷ ms → piece_at old name ≡ Some (piece.Actor (record { state = actor; mark = mark.Resting }))
    → IsPutAt name (option_map roused (piece_at old name)) old new → IsPutAt name (Some (actor_with actor mail)) old new
woken-some old new name actor mail m ms some there put = record {
  here = put.here ∙ ap (option_map roused) there ∙ ap (λ k. Some (piece.Actor (record { state = actor; mark = k }))) (mark-with-some actor.busy m ms ∙ sym (ap (actor_mark actor.busy) some));
  others = put.others;
}
