-- Who waits for a finish is ready to settle.
use Rattle.std.proofs.Common.{◌≡◌, ◌≢◌, ◌<◌, ◌∙◌, ℕ, Bool, List, Option, Some, None, IsSome, true, false, cond, is_some, length, inl, inr, refl, sym, ap, subst, arith}
use Rattle.std.specs.Option.{IfSome, option_and_then, option_map}
use Rattle.std.proofs.Common.{length-set, set}
use Rattle.std.proofs.lemmas.List.{get_or-set_other, get_or-set_same}
use Rattle.std.proofs.lemmas.List.Sums.{sum_by-set}
use Rattle.piece_table.specs.Table.{AreTied as AreTiedIn, Table}
use Rattle.record_pool.specs.Tickets.{IsPut}
use Rattle.record_pool.specs.Pool.{find}
use Rattle.unit_table.specs.Board.{Board, NoneWaits, SameClaims, marks_ready, name_in, piece_at}
use Rattle.unit_table.specs.Keeping.{HasSlot, IsFlagged, IsKept, IsMarkedAs, IsPlace, IsSettled, IsWokenOrSame, SameSlots, board_of, need_at, slot_at, waiting_count, waits_for}
use Rattle.unit_table.specs.Piece.{awaited, is_for, mark_in, marked, says_ready, with_mark, woken}
use Rattle.unit_table.specs.declared.mark.Mark.{Mark}
use Rattle.unit_table.specs.declared.mark.Mark.TheVariants as mark
use Rattle.unit_table.specs.declared.places.Places.{Places}
use Rattle.unit_table.proofs.Changes as changes
use Rattle.unit_table.proofs.Changes.{Changes}
use Rattle.unit_table.specs.declared.mark.Work.TheVariants as work
use Rattle.unit_table.specs.declared.piece.Piece.{Piece}
use Rattle.unit_table.specs.declared.piece.Piece.TheVariants as piece
use Rattle.unit_table.specs.declared.record.Record.{Record}
use Rattle.value_core.proofs.NamedLaws.{named-here, named-other, same_name-equal, same_name-itself, same_or_not}
use Rattle.value_core.specs.Named.{IsChangedTo, Name, Named, named, same_name, with_named}
use Rattle.wait_lists.specs.WaitLists.{need_of}

some_same : {X : Type 0} (x y : X) → Some x ≡ Some y → x ≡ y
some_same x y e = cc

none_some : {X P : Type 0} (o : Option X) (x : X) → o ≡ None → o ≡ Some x → P
none_some o x none some = absurd (cc)

-- what stands in a place that waits, and for what
pub record Waiter (b : Board) (r : Record) (need : ℕ) : Type 0 where
  pub stood : Piece
  pub stands : r.piece ≡ Some stood
  pub for : Name
  pub awaits : awaited (mark_in stood) ≡ Some for
  pub slot : slot_at b.records for ≡ Some need

-- a place whose need is that slot waits
pub waiter_of : (b : Board) (r : Record) (need : ℕ) → need_at b.records (waits_for r.piece) ≡ Some need → Waiter b r need
waiter_of b r need is = on r.piece refl
  where
    on_for : (p : Piece) (for : Option Name) → r.piece ≡ Some p → awaited (mark_in p) ≡ for → need_at b.records for ≡ Some need → Waiter b r need
    on_for p None stands awaits e = absurd (cc)
    on_for p (Some f) stands awaits e = record { stood = p; stands = stands; for = f; awaits = awaits; slot = e }

    on : (found : Option Piece) → r.piece ≡ found → Waiter b r need
    on None none = none_some (need_at b.records (waits_for r.piece)) need (ap (λ o. need_at b.records (waits_for o)) none) is
    on (Some p) stands = on_for p (awaited (mark_in p)) stands refl (sym (ap (λ o. need_at b.records (waits_for o)) stands) ∙ is)

module _ (b : Board) (waits : List (Option ℕ)) (kept : IsKept b waits) where
  -- two names of the same slot are one
  pub one_slot : (one two : Name) (slot : ℕ) → slot_at b.records one ≡ Some slot → slot_at b.records two ≡ Some slot → one ≡ two
  one_slot one two slot is_one is_two = on (named one b.records) refl (named two b.records) refl
    where
      on : (found : Option Record) → named one b.records ≡ found → (found_2 : Option Record) → named two b.records ≡ found_2 → one ≡ two
      on None none found_2 is = none_some (slot_at b.records one) slot (ap (option_map (λ (p : Record). p.ticket.slot)) none) is_one
      on (Some p) here None none = none_some (slot_at b.records two) slot (ap (option_map (λ (p : Record). p.ticket.slot)) none) is_two
      on (Some p) here (Some q) there =
          let slot_p : p.ticket.slot ≡ slot = some_same _ _ (sym (ap (option_map (λ (x : Record). x.ticket.slot)) here) ∙ is_one) in
          let slot_q : q.ticket.slot ≡ slot = some_same _ _ (sym (ap (option_map (λ (x : Record). x.ticket.slot)) there) ∙ is_two) in
          some_same _ _ (sym (kept.places one p here).called ∙ ap (name_in b.names) (slot_p ∙ sym slot_q) ∙ (kept.places two q there).called)

  -- where no slot waits for that of the name, nothing waits for its finish
  pub none_waits : (name : Name) (slot : ℕ) → slot_at b.records name ≡ Some slot → ((other : ℕ) → need_of waits other ≢ Some slot) → NoneWaits name b
  none_waits name slot is none other p stands = on (awaited (mark_in p)) refl
    where
      on_place : (f : Name) → awaited (mark_in p) ≡ Some f → same_name f name ≡ true → (found : Option Record) → named other b.records ≡ found → true ≡ false
      on_place f awaits same None absent = none_some (piece_at b other) p (ap (option_and_then (λ (x : Record). x.piece)) absent) stands
      on_place f awaits same (Some r) there =
          let piece : r.piece ≡ Some p = sym (ap (option_and_then (λ (x : Record). x.piece)) there) ∙ stands in
          let for : waits_for r.piece ≡ Some f = ap waits_for piece ∙ awaits in
          let need : need_of waits r.ticket.slot ≡ Some slot = (kept.places other r there).need ∙ ap (need_at b.records) for ∙ ap (slot_at b.records) (same_name-equal f name same) ∙ is in
          absurd (none r.ticket.slot need)

      by_name : (f : Name) → awaited (mark_in p) ≡ Some f → (t : Bool) → same_name f name ≡ t → t ≡ false
      by_name f awaits true same = on_place f awaits same (named other b.records) refl
      by_name f awaits false same = refl

      on : (for : Option Name) → awaited (mark_in p) ≡ for → is_for name for ≡ false
      on None none = refl
      on (Some f) awaits = by_name f awaits (same_name f name) refl

-- a piece that waits for the finish of the name is woken
pub woken_is : (name : Name) (p : Piece) → awaited (mark_in p) ≡ Some name → woken name p ≡ with_mark p (mark.Ready work.Settle)
woken_is name p awaits = ap (λ t. cond t (with_mark p (mark.Ready work.Settle)) p) (ap (is_for name) awaits ∙ same_name-itself name)

-- one that doesn't is as it was
pub not_woken : (name : Name) (p : Piece) → is_for name (awaited (mark_in p)) ≡ false → woken name p ≡ p
not_woken name p apart = ap (λ t. cond t (with_mark p (mark.Ready work.Settle)) p) apart

-- a piece of the mark Ready is ready and doesn't wait
pub ready_mark : (p : Piece) → mark_in (with_mark p (mark.Ready work.Settle)) ≡ mark.Ready work.Settle
ready_mark (piece.Unit unit) = refl
ready_mark (piece.Task old) = refl
ready_mark (piece.Actor actor) = refl

-- one that waits is woken
module _ (old : Places) (waits_2 : List (Option ℕ)) (records : Named Record) (table : Table) (name : Name) (slot waiting : ℕ)
    (kept : IsKept (board_of old) old.waits) (is : slot_at old.records.entries name ≡ Some slot) (waits_for_it : need_of old.waits waiting ≡ Some slot) (stopped : waits_2 ≡ set old.waits waiting None)
    (settled : IfSome (name_in old.names.items waiting) (λ n. IsSettled n old.records.entries records old.table table)) (tied : AreTiedIn table.pieces table.claims) where
  abbrev has : HasSlot (board_of old) waiting
  has = kept.waiting waiting slot waits_for_it

  abbrev r : Record
  r = has.place

  abbrev place : IsPlace (board_of old) old.waits has.name r
  place = kept.places has.name r has.there

  abbrev waiter : Waiter (board_of old) r slot
  waiter = waiter_of (board_of old) r slot (sym place.need ∙ ap (need_of old.waits) has.slot_is ∙ waits_for_it)

  abbrev woken_piece : Piece
  woken_piece = with_mark waiter.stood (mark.Ready work.Settle)

  abbrev b_2 : Board
  b_2 = record { records = records; names = old.names.items; table = table }

  called : name_in old.names.items waiting ≡ Some has.name
  called = ap (name_in old.names.items) (sym has.slot_is) ∙ place.called

  settled_here : IsSettled has.name old.records.entries records old.table table
  settled_here = subst (λ o. IfSome o (λ n. IsSettled n old.records.entries records old.table table)) called settled

  to : IsChangedTo has.name old.records.entries records (IsMarkedAs (mark.Ready work.Settle)) r
  to = settled_here.marked r has.there

  flagged : IsFlagged old.table table r.ticket true
  flagged = subst (λ o. IfSome o (λ (p : Record). IsFlagged old.table table p.ticket true)) has.there settled_here.flagged

  after_is : to.item ≡ record r { piece = Some woken_piece }
  after_is = to.related ∙ ap (λ o. record r { piece = option_and_then (marked (mark.Ready work.Settle)) o }) waiter.stands

  now : records ≡ with_named old.records.entries has.name (record r { piece = Some woken_piece })
  now = to.put ∙ ap (with_named old.records.entries has.name) after_is

  in_range : waiting < length old.waits
  in_range = subst (λ n. n < length old.waits) has.slot_is place.room

  ready : marks_ready (Some woken_piece) ≡ true
  ready = ap says_ready (ready_mark waiter.stood)

  idle_for : waits_for (Some woken_piece) ≡ None
  idle_for = ap awaited (ready_mark waiter.stood)

  wakes_it : Changes (board_of old) b_2 old.waits waits_2 has.name r (Some woken_piece) None
  wakes_it = record {
    there = has.there;
    here = ap (named has.name) now ∙ named-here has.name _ old.records.entries;
    others = λ q apart. ap (named q) now ∙ named-other q has.name _ old.records.entries apart;
    names = refl;
    put = subst (λ t. IsPut old.table.pieces table.pieces r.ticket (Some (record { is_ready = t; lent = None }))) (sym ready) flagged.put;
    idle = λ _. refl;
    tied = tied;
    need_here = ap (need_of waits_2) has.slot_is ∙ ap (λ ws. need_of ws waiting) stopped ∙ get_or-set_same old.waits waiting None None in_range ∙ ap (need_at old.records.entries) (sym idle_for);
    need_others = λ other apart. ap (λ ws. need_of ws other) stopped ∙ get_or-set_other old.waits waiting other None None (λ e. apart (e ∙ sym has.slot_is));
    room = omega (arith, ap length stopped, length-set old.waits waiting None);
    can_wait = subst (λ o. IfSome o (λ q. IsSome (named q old.records.entries))) (sym idle_for) tt;
  }

  pub wakes_keeps : IsKept b_2 waits_2
  wakes_keeps = changes.keeps (board_of old) b_2 old.waits waits_2 has.name r (Some woken_piece) None kept wakes_it

  was_idle : place.kept.is_ready ≡ false
  was_idle = place.ready ∙ ap marks_ready waiter.stands ∙ waits_not_ready (mark_in waiter.stood) waiter.for waiter.awaits
    where
      waits_not_ready : (m : Mark) (f : Name) → awaited m ≡ Some f → says_ready m ≡ false
      waits_not_ready (mark.Ready work) f is = absurd (cc)
      waits_not_ready (mark.Waiting on) f is = refl
      waits_not_ready mark.Resting f is = refl
      waits_not_ready (mark.Finished v) f is = refl
      waits_not_ready mark.Dropped f is = refl

  pub wakes_claims : SameClaims (board_of old) b_2
  unfolding wakes_it
  wakes_claims = changes.same_claims (board_of old) b_2 old.waits waits_2 has.name r (Some woken_piece) kept wakes_it flagged.unlent (place.idle was_idle)

  pub wakes_places : (q : Name) → IsSome (named q old.records.entries) → IsSome (named q records)
  wakes_places = changes.there_still (board_of old) b_2 old.waits waits_2 has.name r (Some woken_piece) None kept wakes_it

  pub wakes_slots : SameSlots (board_of old) b_2
  wakes_slots = changes.slot_same (board_of old) b_2 old.waits waits_2 has.name r (Some woken_piece) None kept wakes_it

  pub wakes_slot : slot_at records name ≡ Some slot
  wakes_slot = wakes_slots name ∙ is

  pub wakes_pieces : IsWokenOrSame name (board_of old) b_2
  wakes_pieces other = elim (same_or_not other has.name) [
    | inl same ↦
        let put = changes.put (board_of old) b_2 old.waits waits_2 has.name r (Some woken_piece) None kept wakes_it in
        let its : waiter.for ≡ name = one_slot (board_of old) old.waits kept waiter.for name slot waiter.slot is in
        let stood : piece_at (board_of old) other ≡ Some waiter.stood = ap (piece_at (board_of old)) same ∙ ap (option_and_then (λ (p : Record). p.piece)) has.there ∙ waiter.stands in
        let it : woken name waiter.stood ≡ woken_piece = woken_is name waiter.stood (waiter.awaits ∙ ap Some its) in
        inr (ap (piece_at b_2) same ∙ put.here ∙ sym (ap (option_map (woken name)) stood ∙ ap Some it))
    | inr apart ↦ inl ((changes.put (board_of old) b_2 old.waits waits_2 has.name r (Some woken_piece) None kept wakes_it).others other apart)
  ]

  pub wakes_fewer : waiting_count waits_2 < waiting_count old.waits
  wakes_fewer =
      let counted = sum_by-set (λ (o : Option ℕ). cond (is_some o) 1 0) old.waits waiting None None in_range in
      let one : ℕ = 1 in let had : cond (is_some (need_of old.waits waiting)) 1 0 ≡ one = ap (λ (o : Option ℕ). cond (is_some o) 1 0) waits_for_it in
      omega (arith, counted, had, ap waiting_count stopped)

-- the slot of a name is in range
pub slot_in_range : (b : Board) (waits : List (Option ℕ)) → IsKept b waits → (name : Name) (slot : ℕ) → slot_at b.records name ≡ Some slot → slot < length waits
slot_in_range b waits kept name slot is = on (named name b.records) refl
  where
    on : (found : Option Record) → named name b.records ≡ found → slot < length waits
    on None none = none_some (slot_at b.records name) slot (ap (option_map (λ (p : Record). p.ticket.slot)) none) is
    on (Some p) there = subst (λ n. n < length waits) (some_same _ _ (sym (ap (option_map (λ (x : Record). x.ticket.slot)) there) ∙ is)) (kept.places name p there).room

-- what waits has a name, and a piece of the table
module _ (b : Board) (waits : List (Option ℕ)) (kept : IsKept b waits) (slot waiting : ℕ) (waits_for_it : need_of waits waiting ≡ Some slot) where
  abbrev its_slot : HasSlot b waiting
  its_slot = kept.waiting waiting slot waits_for_it

  its_name : name_in b.names waiting ≡ Some its_slot.name
  its_name = ap (name_in b.names) (sym its_slot.slot_is) ∙ (kept.places its_slot.name its_slot.place its_slot.there).called

  pub waiter_called : IsSome (name_in b.names waiting)
  waiter_called = subst (λ o. IsSome o) (sym its_name) refl

  pub waiter_there : IfSome (name_in b.names waiting) (λ name. IfSome (named name b.records) (λ (p : Record). IsSome (find b.table.pieces p.ticket)))
  waiter_there = subst (λ o. IfSome o (λ name. IfSome (named name b.records) (λ (p : Record). IsSome (find b.table.pieces p.ticket)))) (sym its_name)
      (subst (λ o. IfSome o (λ (p : Record). IsSome (find b.table.pieces p.ticket))) (sym its_slot.there)
      (subst (λ o. IsSome o) (sym (kept.places its_slot.name its_slot.place its_slot.there).there) refl))

-- what is woken twice is woken once
pub woken_twice : (name : Name) (p : Piece) → woken name (woken name p) ≡ woken name p
woken_twice name p = on (is_for name (awaited (mark_in p))) refl
  where
    on : (t : Bool) → is_for name (awaited (mark_in p)) ≡ t → woken name (woken name p) ≡ woken name p
    on true waits =
        let it : woken name p ≡ with_mark p (mark.Ready work.Settle) = ap (λ t. cond t (with_mark p (mark.Ready work.Settle)) p) waits in
        ap (woken name) it ∙ not_woken name (with_mark p (mark.Ready work.Settle)) (ap (λ m. is_for name (awaited m)) (ready_mark p)) ∙ sym it
    on false rests = ap (woken name) (not_woken name p rests)

woken_twice_at : (name : Name) (found : Option Piece) → option_map (woken name) (option_map (woken name) found) ≡ option_map (woken name) found
woken_twice_at name None = refl
woken_twice_at name (Some p) = ap Some (woken_twice name p)

-- one after the other
pub woken_more : (name : Name) (a b c : Board) → IsWokenOrSame name a b → IsWokenOrSame name b c → IsWokenOrSame name a c
woken_more name a b c first second other = elim (second other) [
  | inl same ↦ elim (first other) [
    | inl still ↦ inl (same ∙ still)
    | inr is ↦ inr (same ∙ is)
  ]
  | inr is ↦ elim (first other) [
    | inl still ↦ inr (is ∙ ap (option_map (woken name)) still)
    | inr was ↦ inr (is ∙ ap (option_map (woken name)) was ∙ woken_twice_at name (piece_at a other))
  ]
]

-- where none waits any more, all were woken
pub woken_all : (name : Name) (a b : Board) → IsWokenOrSame name a b → NoneWaits name b → (other : Name) → piece_at b other ≡ option_map (woken name) (piece_at a other)
woken_all name a b so none other = elim (so other) [
  | inl same ↦ same ∙ on (piece_at a other) (same)
  | inr is ↦ is
]
  where
    on : (found : Option Piece) → piece_at b other ≡ found → found ≡ option_map (woken name) found
    on None stands = refl
    on (Some p) stands = ap Some (sym (not_woken name p (none other p stands)))

pub same_claims_more : (a b c : Board) → SameClaims a b → SameClaims b c → SameClaims a c
same_claims_more a b c first second = record {
  lent = λ name. second.lent name ∙ first.lent name;
  to = λ claim. second.to claim ∙ first.to claim;
  later = λ slot. omega (arith, first.later slot, second.later slot);
}
