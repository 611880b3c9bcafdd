-- The set of the slots of units that are not finished.
use Rattle.std.proofs.Common.{◌≡◌, ◌<◌, ◌≤◌, ◌∙◌, ℕ, Bool, List, Option, Some, None, IsSome, true, false, length, inl, inr, refl, sym, ap, subst, arith, set, length-set, true≢false, cond, not}
use Rattle.std.specs.Option.{IfSome, option_and_then, option_map}
use Rattle.std.proofs.lemmas.Bool.{cases_eq}
use Rattle.std.proofs.lemmas.List.{get_or-set_other, get_or-set_same}
use Rattle.slot_set.specs.SlotSet.{has_slot}
use Rattle.unit_table.specs.Board.{Board, HasPlace, IsMarked, IsPutAt, SamePieces, is_unfinished, name_in, piece_at, unit_at}
use Rattle.unit_table.specs.Keeping.{AreUnfinished, HasSlot, IsKept, IsUnfinishedNoted, KeepsSlots, SameSlots, slot_at, ticket_at}
use Rattle.unit_table.specs.Piece.{awaited, beside, goes_on, is_for, mark_in, says_finished, unit_in, with_mark, woken}
use Rattle.unit_table.specs.declared.mark.Mark.{Mark}
use Rattle.unit_table.specs.declared.mark.Mark.TheVariants as mark
use Rattle.unit_table.specs.declared.mark.Work.TheVariants as work
use Rattle.unit_table.specs.declared.piece.Piece.{Piece}
use Rattle.unit_table.specs.declared.piece.Piece.TheVariants as piece
use Rattle.unit_table.specs.declared.record.Record.{Record}
use Rattle.unit_table.proofs.Slots.{has_place, slot_of, slot_of_ticket, slot_placed, stands_placed}
use Rattle.unit_table.proofs.Wakes.{one_slot}
use Rattle.eval_step.specs.declared.machine.Machine.{Machine}
use Rattle.value_core.proofs.NamedLaws.{same_or_not}
use Rattle.value_core.specs.NameSet.{holds_at}
use Rattle.value_core.specs.Named.{Name, named}
use Rattle.value_core.specs.declared.ticket.Ticket.{Ticket}

some_same : {X : Type 0} (x y : X) → Some x ≡ Some y → x ≡ y
some_same x y e = cc

none_some : {X P : Type 0} (o : Option X) (x : X) → o ≡ None → o ≡ Some x → P
none_some o x none some = absurd (cc)

-- a unit stands there that is not finished
abbrev pub goes_on_at : Option Piece → Bool
goes_on_at found = holds_at goes_on found

-- who is woken was not finished
woken_goes_on : (name : Name) (p : Piece) → goes_on (woken name p) ≡ goes_on p
woken_goes_on name p = on (is_for name (awaited (mark_in p))) refl
  where
    on_piece : (q : Piece) → is_for name (awaited (mark_in q)) ≡ true → goes_on (with_mark q (mark.Ready work.Settle)) ≡ goes_on q
    on_piece (piece.Unit unit) waits = on_mark unit.mark waits
      where
        on_mark : (m : Mark) → is_for name (awaited m) ≡ true → true ≡ not (says_finished m)
        on_mark (mark.Ready work) is = refl
        on_mark (mark.Waiting on) is = refl
        on_mark mark.Resting is = refl
        on_mark (mark.Finished v) is = absurd (true≢false (sym is))
        on_mark mark.Dropped is = refl
    on_piece (piece.Task old) waits = refl
    on_piece (piece.Actor actor) waits = refl

    on : (t : Bool) → is_for name (awaited (mark_in p)) ≡ t → goes_on (cond t (with_mark p (mark.Ready work.Settle)) p) ≡ goes_on p
    on true waits = on_piece p waits
    on false rests = refl

beside_goes_on : (name : Name) (m : Mark) (found : Option Piece) → goes_on_at (beside name m found) ≡ goes_on_at found
beside_goes_on name m found = on (says_finished m) found
  where
    on : (t : Bool) (found : Option Piece) → goes_on_at (cond t (option_map (woken name) found) found) ≡ goes_on_at found
    on true None = refl
    on true (Some p) = woken_goes_on name p
    on false found = refl

-- where the places have the slots that they had
module _ (b b_2 : Board) (slots : SameSlots b b_2) where
  moved : (slot : ℕ) → HasSlot b slot → HasSlot b_2 slot
  moved slot has = slot_placed b_2 has.name slot (slots has.name ∙ slot_of b slot has)

  -- the same units are finished
  pub same_unfinished : (unfinished : List Bool) → AreUnfinished b unfinished → ((name : Name) → is_unfinished b_2 name ≡ is_unfinished b name) → AreUnfinished b_2 unfinished
  same_unfinished unfinished are same = record {
    room = λ q slot is. are.room q slot (sym (slots q) ∙ is);
    flag = λ q slot is. are.flag q slot (sym (slots q) ∙ is) ∙ sym (same q);
    only = λ slot has. moved slot (are.only slot has);
  }

  -- the flag of one name is put
  pub put_unfinished : (waits : List (Option ℕ)) (unfinished : List Bool) (name : Name) (slot : ℕ) (t : Bool) → IsKept b waits → AreUnfinished b unfinished
      → slot_at b.records name ≡ Some slot → is_unfinished b_2 name ≡ t → ((q : Name) → ¬ (q ≡ name) → is_unfinished b_2 q ≡ is_unfinished b q)
      → AreUnfinished b_2 (set unfinished slot t)
  put_unfinished waits unfinished name slot t kept are at here others = record {
    room = λ q s is. omega (arith, are.room q s (sym (slots q) ∙ is), length-set unfinished slot t);
    flag = flag;
    only = only;
  }
    where
      within : slot < length unfinished
      within = are.room name slot at

      written : has_slot (set unfinished slot t) slot ≡ t
      written = get_or-set_same unfinished slot t false within

      flag : (q : Name) (s : ℕ) → slot_at b_2.records q ≡ Some s → has_slot (set unfinished slot t) s ≡ is_unfinished b_2 q
      flag q s is = elim (same_or_not q name) [
        | inl same ↦
            let it : s ≡ slot = some_same s slot (sym is ∙ ap (slot_at b_2.records) same ∙ slots name ∙ at) in
            ap (has_slot (set unfinished slot t)) it ∙ written ∙ sym here ∙ ap (is_unfinished b_2) (sym same)
        | inr apart ↦
            let was : slot_at b.records q ≡ Some s = sym (slots q) ∙ is in
            get_or-set_other unfinished slot s t false (λ e. apart (one_slot b waits kept q name slot (was ∙ ap Some e) at)) ∙ are.flag q s was ∙ sym (others q apart)
      ]

      only : (s : ℕ) → has_slot (set unfinished slot t) s ≡ true → HasSlot b_2 s
      only s has = elim (cases_eq s slot) [
        | inl same ↦ slot_placed b_2 name s (slots name ∙ at ∙ ap Some (sym same))
        | inr apart ↦ moved s (are.only s (sym (get_or-set_other unfinished slot s t false apart) ∙ has))
      ]

  -- a piece is put that goes on as what stood there did
  pub put_same : (name : Name) (now : Option Piece) (unfinished : List Bool) → AreUnfinished b unfinished → IsPutAt name now b b_2 → goes_on_at now ≡ is_unfinished b name → AreUnfinished b_2 unfinished
  put_same name now unfinished are put goes = same_unfinished unfinished are (λ q. elim (same_or_not q name) [
    | inl same ↦ ap (is_unfinished b_2) same ∙ ap goes_on_at put.here ∙ goes ∙ ap (is_unfinished b) (sym same)
    | inr apart ↦ ap goes_on_at (put.others q apart)
  ])

  -- the unit of the name has another machine, and has made so many things
  pub moved_unfinished : (unfinished : List Bool) (name : Name) (machine : Machine) (made : ℕ) → AreUnfinished b unfinished → IsSome (unit_at b name)
      → IfSome (unit_at b name) (λ unit. IsPutAt name (Some (piece.Unit (record unit { machine = machine; made = made }))) b b_2) → AreUnfinished b_2 unfinished
  moved_unfinished unfinished name machine made are there put = on (piece_at b name) refl there put
    where
      on : (found : Option Piece) → piece_at b name ≡ found → IsSome (option_and_then unit_in found)
          → IfSome (option_and_then unit_in found) (λ unit. IsPutAt name (Some (piece.Unit (record unit { machine = machine; made = made }))) b b_2) → AreUnfinished b_2 unfinished
      on None at there put = absurd (true≢false (sym there))
      on (Some (piece.Unit unit)) at there put = put_same name _ unfinished are put (sym (ap goes_on_at at))
      on (Some (piece.Task mark)) at there put = absurd (true≢false (sym there))
      on (Some (piece.Actor actor)) at there put = absurd (true≢false (sym there))

  -- a unit is put that is not finished
  pub add_unfinished : (waits : List (Option ℕ)) (unfinished : List Bool) (name : Name) (ticket : Ticket) (now : Option Piece) → IsKept b waits → AreUnfinished b unfinished
      → ticket_at b.records name ≡ Some ticket → IsPutAt name now b b_2 → goes_on_at now ≡ true → AreUnfinished b_2 (set unfinished ticket.slot true)
  add_unfinished waits unfinished name ticket now kept are at put goes =
      put_unfinished waits unfinished name ticket.slot true kept are (slot_of_ticket b name ticket at) (ap goes_on_at put.here ∙ goes) (λ q apart. ap goes_on_at (put.others q apart))

  -- a mark is put, and noted
  pub mark_unfinished : (waits : List (Option ℕ)) (unfinished unfinished_2 : List Bool) (name : Name) (m : Mark) → IsKept b waits → AreUnfinished b unfinished
      → IsMarked name m b b_2 → IsSome (piece_at b name) → IsUnfinishedNoted b_2 name unfinished unfinished_2 → AreUnfinished b_2 unfinished_2
  mark_unfinished waits unfinished unfinished_2 name m kept are marked there noted =
      let has = stands_placed b name there in
      let at : slot_at b.records name ≡ Some has.0.ticket.slot = ap (option_map (λ (r : Record). r.ticket.slot)) has.1 in
      let new : unfinished_2 ≡ set unfinished has.0.ticket.slot (is_unfinished b_2 name) =
      subst (λ o. IfSome o (λ slot. unfinished_2 ≡ set unfinished slot (is_unfinished b_2 name))) (slots name ∙ at) noted in
      subst (AreUnfinished b_2) (sym new)
      (put_unfinished waits unfinished name has.0.ticket.slot (is_unfinished b_2 name) kept are at refl (λ q apart. ap goes_on_at (marked.others q apart) ∙ beside_goes_on name m (piece_at b q)))

-- there is more room
pub grown_unfinished : (b : Board) (old new : List Bool) → AreUnfinished b old → ((slot : ℕ) → has_slot new slot ≡ has_slot old slot) → length old ≤ length new → AreUnfinished b new
grown_unfinished b old new are same room = record {
  room = λ q slot is. omega (arith, are.room q slot is, room);
  flag = λ q slot is. same slot ∙ are.flag q slot is;
  only = λ slot has. are.only slot (sym (same slot) ∙ has);
}

-- a place is made, for which there is room
module _ (b b_2 : Board) (waits : List (Option ℕ)) (unfinished : List Bool) (are : AreUnfinished b unfinished) (kept : IsKept b_2 waits) (slots : KeepsSlots b b_2) (pieces : SamePieces b b_2)
    (room : length b.table.pieces.places < length unfinished) where
  still_at : (slot : ℕ) (has : HasSlot b slot) → slot_at b_2.records has.name ≡ Some slot
  still_at slot has = slots.kept has.name (has_place b has.name slot (slot_of b slot has)) ∙ slot_of b slot has

  -- a name that had no place has a slot that no other has
  new_flag : (q : Name) (slot : ℕ) → slot_at b_2.records q ≡ Some slot → named q b.records ≡ None → has_slot unfinished slot ≡ is_unfinished b_2 q
  new_flag q slot is absent = on (has_slot unfinished slot) refl ∙ sym none_here
    where
      none_here : is_unfinished b_2 q ≡ false
      none_here = ap goes_on_at (pieces q ∙ ap (option_and_then (λ (r : Record). r.piece)) absent)

      on : (t : Bool) → has_slot unfinished slot ≡ t → t ≡ false
      on false has = refl
      on true has =
          let had = are.only slot has in
          let same : had.name ≡ q = one_slot b_2 waits kept had.name q slot (still_at slot had) is in
          absurd (none_some (named q b.records) had.place absent (ap (λ n. named n b.records) (sym same) ∙ had.there))

  old_flag : (q : Name) (slot : ℕ) → slot_at b_2.records q ≡ Some slot → HasPlace b q → has_slot unfinished slot ≡ is_unfinished b_2 q
  old_flag q slot is has = are.flag q slot (sym (slots.kept q has) ∙ is) ∙ sym (ap goes_on_at (pieces q))

  pub made_unfinished : AreUnfinished b_2 unfinished
  made_unfinished = record {
    room = λ q slot is. elim (slots.near q slot is) [
      | inl has ↦ are.room q slot (sym (slots.kept q has) ∙ is)
      | inr near ↦ omega (arith, near, room)
    ];
    flag = λ q slot is. by_place q slot is (named q b.records) refl;
    only = λ slot has. let had = are.only slot has in slot_placed b_2 had.name slot (still_at slot had);
  }
    where
      by_place : (q : Name) (slot : ℕ) → slot_at b_2.records q ≡ Some slot → (found : Option Record) → named q b.records ≡ found → has_slot unfinished slot ≡ is_unfinished b_2 q
      by_place q slot is None absent = new_flag q slot is absent
      by_place q slot is (Some r) there = old_flag q slot is (subst (λ o. IsSome o) (sym there) refl)

-- a slot of the set has the name of a unit that is not finished
pub first_unfinished : (b : Board) (waits : List (Option ℕ)) (unfinished : List Bool) (slot : ℕ) → IsKept b waits → AreUnfinished b unfinished → has_slot unfinished slot ≡ true
    → (name : Name) × (name_in b.names slot ≡ Some name) × (is_unfinished b name ≡ true)
first_unfinished b waits unfinished slot kept are has =
    let it = are.only slot has in
    let place = kept.places it.name it.place it.there in
    (it.name, ap (name_in b.names) (sym it.slot_is) ∙ place.called, sym (are.flag it.name slot (slot_of b slot it)) ∙ has)

-- where the set is empty, each unit is finished
pub none_unfinished : (b : Board) (unfinished : List Bool) → AreUnfinished b unfinished → ((slot : ℕ) → has_slot unfinished slot ≡ false) → (name : Name) → is_unfinished b name ≡ false
none_unfinished b unfinished are none name = by_place (named name b.records) refl
  where
    by_place : (found : Option Record) → named name b.records ≡ found → is_unfinished b name ≡ false
    by_place None absent = ap goes_on_at (ap (option_and_then (λ (r : Record). r.piece)) absent)
    by_place (Some r) there = sym (are.flag name r.ticket.slot (slot_of b r.ticket.slot (record { name = name; place = r; there = there; slot_is = refl }))) ∙ none r.ticket.slot
