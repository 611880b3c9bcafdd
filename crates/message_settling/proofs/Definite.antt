-- Turns that are definite once their message is settled.
use Rattle.std.proofs.Common.{◌≡◌, ◌∙◌, ◌∷◌, ◌||◌, ◌&&◌, ◌⊎◌, [], Bool, true, false, cond, inl, inr, refl, sym, ap, subst}
use Rattle.std.specs.Option.{IsSome, option_and_then, option_map}
use Rattle.std.specs.Prelude.{Option, None, Some, is_some}
use Rattle.actor_mailbox.specs.declared.message.Message.{Message}
use Rattle.actor_mailbox.specs.Messages.{definite, passes}
use Rattle.message_settling.specs.Settling.{MarksSettled, changes, changes_mark}
use Rattle.shared_world.specs.rows.Commits.{hangs_on}
use Rattle.piece_table.specs.Table.{is_free}
use Rattle.shared_world.proofs.Live.{unit-piece}
use Rattle.shared_world.specs.rows.Leading.{IsChanged, mark_settles, settles_now}
use Rattle.shared_world.specs.Seen.{one_or_none}
use Rattle.unit_table.specs.Board.{AreTied, Board, IsMarked, IsUnlent, LentAreReady, SameClaims, but_for, is_ready, lent_at, lent_to, marks_ready, piece_at, unit_at}
use Rattle.unit_table.specs.declared.mark.Mark.{Mark}
use Rattle.unit_table.specs.declared.mark.Mark.TheVariants as mark
use Rattle.unit_table.specs.declared.mark.Work.TheVariants as work
use Rattle.unit_table.specs.declared.piece.Piece.{Piece}
use Rattle.unit_table.specs.declared.piece.Piece.TheVariants as piece
use Rattle.unit_table.specs.declared.unit.Unit.{Unit}
use Rattle.unit_table.specs.Piece.{marked, unit_in}
use Rattle.value_core.proofs.NamedLaws.{named-with_named, same_name-equal, same_or_not}
use Rattle.value_core.specs.declared.ticket.Ticket.{Ticket}
use Rattle.value_core.specs.Named.{Name, Named, named, same_name, with_named}
use Rattle.value_core.specs.Placed.{Placed, HasPlace, filled, if_filled}
use Rattle.world_model.specs.rows.Effects.{has_put}

-- ---- the message that a turn took
-- it is definite in its place
pub made-definite : (to : Name) (m : Message) (old mid new : Named Message) → ((q : Name) → named q mid ≡ cond (same_name q to) None (named q old)) → new ≡ with_named mid to (definite m) → IsChanged to (Some (definite m)) old new
made-definite to m old mid new taken put q = ap (named q) put ∙ named-with_named q to (definite m) mid ∙ on (same_name q to) (taken q)
  where
    on : (c : Bool) → named q mid ≡ cond c None (named q old) → cond c (Some (definite m)) (named q mid) ≡ cond c (Some (definite m)) (named q old)
    on true is = refl
    on false is = is

-- what is shown has a place
pub has-place : {X : Type 0} (k : Name) (all : Placed X) (x : X) → named k (filled all) ≡ Some x → HasPlace k all
has-place k [] x is = cc
has-place {X} k (e ∷ es) x is = on e.1 (λ so. has-place k es x so) is
  where
    more : (c : Bool) → HasPlace k es → IsSome (cond c (Some e.1) (named k es))
    more true have = refl
    more false have = have

    on : (o : Option X) → (named k (filled es) ≡ Some x → HasPlace k es) → named k (if_filled o e.0 (filled es)) ≡ Some x → IsSome (cond (same_name k e.0) (Some e.1) (named k es))
    on None rest so = more (same_name k e.0) (rest so)
    on (Some y) rest so = by (same_name k e.0) refl so
      where
        by : (c : Bool) → same_name k e.0 ≡ c → cond c (Some y) (named k (filled es)) ≡ Some x → IsSome (cond (same_name k e.0) (Some e.1) (named k es))
        by true f at = subst (λ c. IsSome (cond c (Some e.1) (named k es))) (sym f) refl
        by false f at = more (same_name k e.0) (rest at)

-- what hangs on a name depends on that
pub hangs-so : (u : Name) (found : Option Message) → hangs_on u found ≡ true → (m : Message) × (found ≡ Some m) × (m.depends ≡ Some u)
hangs-so u None is = cc
hangs-so u (Some m) is = (m, refl, on m.depends is)
  where
    on : (d : Option Name) → passes (same_name u) d ≡ true → d ≡ Some u
    on None so = cc
    on (Some n) so = ap Some (sym (same_name-equal u n so))

pub hangs-not : (u : Name) (found : Option Message) → hangs_on u found ≡ false → has_put u (one_or_none found) ≡ false
hangs-not u None is = refl
hangs-not u (Some m) is = on (passes (same_name u) m.depends) is
  where
    on : (c : Bool) → c ≡ false → (c || false) ≡ false
    on true so = cc
    on false so = refl

-- ---- the turn that is definite by that
-- a mark that changes is one of these
changes-so : (lent : Bool) (x : Unit) → changes_mark true x.mark ≡ true → (lent ≡ false) ⊎ (changes_mark false x.mark ≡ true) → piece.Unit (record x { mark = mark.Ready work.Settle }) ≡ settles_now lent (piece.Unit x)
changes-so lent x is free = ap (λ k. piece.Unit (record x { mark = k })) (on lent x.mark is free)
  where
    on : (l : Bool) (m : Mark) → changes_mark true m ≡ true → (l ≡ false) ⊎ (changes_mark false m ≡ true) → mark.Ready work.Settle ≡ mark_settles l m
    on true (mark.Waiting w) so how = refl
    on false (mark.Waiting w) so how = refl
    on l (mark.Ready work.Eval) so (inl e) = ap (λ b. mark_settles b (mark.Ready work.Eval)) (sym e)
    on l (mark.Ready work.Eval) so (inr e) = cc
    on l (mark.Ready work.Settle) so how = cc
    on l (mark.Ready work.Begin) so how = cc
    on l mark.Resting so how = cc
    on l (mark.Finished v) so how = cc
    on l mark.Dropped so how = cc

-- whether it is lent is told by whether it is ready
free-of : (b : Board) (turn : Name) (x : Unit) → piece_at b turn ≡ Some (piece.Unit x) → changes_mark (is_ready b turn) x.mark ≡ true → (is_some (lent_at b turn) ≡ false) ⊎ (changes_mark false x.mark ≡ true)
free-of b turn x there is = on x.mark refl is
  where
    free : (o : Option Ticket) (r : Bool) → (r && is_free o) ≡ true → is_some o ≡ false
    free None r so = refl
    free (Some t) true so = cc
    free (Some t) false so = cc

    on : (m : Mark) → x.mark ≡ m → changes_mark (is_ready b turn) m ≡ true → (is_some (lent_at b turn) ≡ false) ⊎ (changes_mark false m ≡ true)
    on (mark.Waiting w) e so = inr refl
    on (mark.Ready work.Eval) e so = inl (free (lent_at b turn) (marks_ready (piece_at b turn)) so)
    on (mark.Ready work.Settle) e so = cc
    on (mark.Ready work.Begin) e so = cc
    on mark.Resting e so = cc
    on (mark.Finished v) e so = cc
    on mark.Dropped e so = cc

changes-more : (free : Bool) (m : Mark) → changes_mark free m ≡ true → changes_mark true m ≡ true
changes-more true m is = is
changes-more false (mark.Waiting w) is = refl
changes-more false (mark.Ready work.Eval) is = cc
changes-more false (mark.Ready work.Settle) is = cc
changes-more false (mark.Ready work.Begin) is = cc
changes-more false mark.Resting is = cc
changes-more false (mark.Finished v) is = cc
changes-more false mark.Dropped is = cc

-- the unit that changes
changing : (found : Option Unit) (free : Bool) → changes free found ≡ true → (x : Unit) × (found ≡ Some x) × (changes_mark free x.mark ≡ true)
changing None free is = cc
changing (Some x) free is = (x, refl, is)

pub settles-put : (old new : Board) (turn : Name) → changes (is_ready old turn) (unit_at old turn) ≡ true → IsMarked turn (mark.Ready work.Settle) old new → MarksSettled turn old new
settles-put old new turn is marked_so =
    let at = changing (unit_at old turn) (is_ready old turn) is in
    let there = unit-piece old turn at.0 at.1 in
    record {
      here = marked_so.here ∙ ap (option_and_then (marked (mark.Ready work.Settle))) there
          ∙ ap Some (changes-so (is_some (lent_at old turn)) at.0 (changes-more (is_ready old turn) at.0.mark at.2) (free-of old turn at.0 there at.2))
          ∙ sym (ap (option_map (settles_now (is_some (lent_at old turn)))) there);
      others = marked_so.others;
    }

-- what does not change stays
stays-mark : (b : Board) (turn : Name) (x : Unit) → piece_at b turn ≡ Some (piece.Unit x) → changes_mark (is_ready b turn) x.mark ≡ false → mark_settles (is_some (lent_at b turn)) x.mark ≡ x.mark
stays-mark b turn x there is = on (is_some (lent_at b turn)) x.mark refl refl is
  where
    some : (o : Option Ticket) → is_free o ≡ false → is_some o ≡ true
    some None so = cc
    some (Some t) so = refl

    lent-is : x.mark ≡ mark.Ready work.Eval → is_ready b turn ≡ false → is_some (lent_at b turn) ≡ true
    lent-is e so = some (lent_at b turn) (sym (ap (λ o. marks_ready o && is_free (lent_at b turn)) (there ∙ ap (λ m. Some (piece.Unit (record x { mark = m }))) e)) ∙ so)

    on : (l : Bool) (m : Mark) → is_some (lent_at b turn) ≡ l → x.mark ≡ m → changes_mark (is_ready b turn) m ≡ false → mark_settles l m ≡ m
    on l (mark.Waiting w) is_l e so = cc
    on true (mark.Ready work.Eval) is_l e so = refl
    on false (mark.Ready work.Eval) is_l e so = let no : true ≡ false = sym (lent-is e so) ∙ is_l in cc
    on true (mark.Ready work.Settle) is_l e so = refl
    on false (mark.Ready work.Settle) is_l e so = refl
    on true (mark.Ready work.Begin) is_l e so = refl
    on false (mark.Ready work.Begin) is_l e so = refl
    on true mark.Resting is_l e so = refl
    on false mark.Resting is_l e so = refl
    on true (mark.Finished v) is_l e so = refl
    on false (mark.Finished v) is_l e so = refl
    on true mark.Dropped is_l e so = refl
    on false mark.Dropped is_l e so = refl

pub settles-same : (b : Board) (turn : Name) → changes (is_ready b turn) (unit_at b turn) ≡ false → MarksSettled turn b b
settles-same b turn is = record { here = on (piece_at b turn) refl; others = λ q ne. refl }
  where
    on : (found : Option Piece) → piece_at b turn ≡ found → piece_at b turn ≡ option_map (settles_now (is_some (lent_at b turn))) (piece_at b turn)
    on None e = e ∙ sym (ap (option_map (settles_now (is_some (lent_at b turn)))) e)
    on (Some (piece.Task m)) e = e ∙ sym (ap (option_map (settles_now (is_some (lent_at b turn)))) e)
    on (Some (piece.Actor a)) e = e ∙ sym (ap (option_map (settles_now (is_some (lent_at b turn)))) e)
    on (Some (piece.Unit x)) e =
        let so : changes_mark (is_ready b turn) x.mark ≡ false = sym (ap (λ o. changes (is_ready b turn) (option_and_then unit_in o)) e) ∙ is in
        e ∙ ap (λ m. Some (piece.Unit (record x { mark = m }))) (sym (stays-mark b turn x e so)) ∙ sym (ap (option_map (settles_now (is_some (lent_at b turn)))) e)

-- what changes is not lent
none-lent : (b : Board) (turn : Name) → AreTied b → LentAreReady b → changes (is_ready b turn) (unit_at b turn) ≡ true → lent_at b turn ≡ None
none-lent b turn tied ready is = on (lent_at b turn) refl
  where
    at : (x : Unit) × (unit_at b turn ≡ Some x) × (changes_mark (is_ready b turn) x.mark ≡ true)
    at = changing (unit_at b turn) (is_ready b turn) is

    there : piece_at b turn ≡ Some (piece.Unit at.0)
    there = unit-piece b turn at.0 at.1

    waiting : (m : Mark) → changes_mark false m ≡ true → marks_ready (Some (piece.Unit (record at.0 { mark = m }))) ≡ false
    waiting (mark.Waiting w) so = refl
    waiting (mark.Ready work.Eval) so = cc
    waiting (mark.Ready work.Settle) so = cc
    waiting (mark.Ready work.Begin) so = cc
    waiting mark.Resting so = cc
    waiting (mark.Finished v) so = cc
    waiting mark.Dropped so = cc

    on : (o : Option Ticket) → lent_at b turn ≡ o → lent_at b turn ≡ None
    on None e = e
    on (Some claim) e = elim (free-of b turn at.0 there at.2) [
      | inl free ↦ let no : true ≡ false = sym (ap is_some e) ∙ free in cc
      | inr waits ↦ let no : false ≡ true = sym (ap marks_ready there ∙ waiting at.0.mark waits) ∙ ready claim turn (tied.lent claim turn e) in cc
    ]

pub settles-claims : (old new : Board) (turn : Name) → AreTied old → LentAreReady old → changes (is_ready old turn) (unit_at old turn) ≡ true → IsUnlent turn old new → SameClaims old new
settles-claims old new turn tied ready is unlent = record {
  lent = λ q. elim (same_or_not q turn) [
    | inl same ↦ ap (lent_at new) same ∙ unlent.here ∙ sym (ap (lent_at old) same ∙ none)
    | inr apart ↦ unlent.others q apart
  ];
  to = λ claim. unlent.to claim ∙ kept claim (lent_to old claim) refl;
  later = unlent.later;
}
  where
    none : lent_at old turn ≡ None
    none = none-lent old turn tied ready is

    kept : (claim : Ticket) (found : Option Name) → lent_to old claim ≡ found → but_for turn found ≡ found
    kept claim None lent = refl
    kept claim (Some q) lent = on (same_name q turn) refl
      where
        on : (c : Bool) → same_name q turn ≡ c → but_for turn (Some q) ≡ Some q
        on true e = let no : None ≡ Some claim = sym none ∙ tied.lends claim turn (lent ∙ ap Some (same_name-equal q turn e)) in cc
        on false e = ap (λ c. cond c None (Some q)) e
