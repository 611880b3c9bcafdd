-- A piece is noted in the table, and put into its place.
use Rattle.std.proofs.Common.{◌≡◌, ◌<◌, ◌∙◌, ℕ, Bool, List, Option, Some, None, IsSome, length, refl, sym, ap, subst, arith}
use Rattle.std.specs.Option.{IfSome, option_and_then, option_map}
use Rattle.std.specs.BTreeMap.{BTreeMap}
use Rattle.record_pool.specs.Pool.{find}
use Rattle.unit_table.specs.Board.{Board, CanWait, IsPutAt, IsUnlent, SameClaims, marks_ready, name_in, piece_at}
use Rattle.unit_table.specs.Keeping.{IsEmptyPlace, IsKept, IsMarkedAs, IsNoted, SameSlots, board_of, need_at, ticket_at, waits_for}
use Rattle.unit_table.specs.Piece.{awaited, mark_in, marked, says_ready, with_mark}
use Rattle.unit_table.specs.declared.mark.Mark.{Mark}
use Rattle.unit_table.specs.declared.mark.Mark.TheVariants as marking
use Rattle.unit_table.specs.declared.piece.Piece.{Piece}
use Rattle.unit_table.specs.declared.piece.Piece.TheVariants as piece
use Rattle.unit_table.specs.declared.places.Places.{Places}
use Rattle.unit_table.specs.declared.record.Record.{Record}
use Rattle.unit_table.proofs.Changes as changes
use Rattle.unit_table.proofs.Changes.{Changes}
use Rattle.unit_table.proofs.Lending.{place_of}
use Rattle.value_core.proofs.NamedLaws.{named-here, named-other}
use Rattle.value_core.specs.Named.{IsChanged, IsChangedTo, Name, Named, named, with_named}
use Rattle.value_core.specs.declared.ticket.Ticket.{Ticket}

some_same : {X : Type 0} (x y : X) → Some x ≡ Some y → x ≡ y
some_same x y e = cc

-- the mark that is put
mark_put : (mark : Mark) (p : Piece) → mark_in (with_mark p mark) ≡ mark
mark_put mark (piece.Unit unit) = refl
mark_put mark (piece.Task old) = refl
mark_put mark (piece.Actor actor) = refl

-- the board of noted places, with these records
abbrev pub noted_board : Places → Named Record → Board
noted_board mid records = record { records = records; names = mid.names.items; table = mid.table }

-- what is needed of a place before it is noted
module _ (b : Board) (waits : List (Option ℕ)) (kept : IsKept b waits) (name : Name) (ticket : Ticket) (is : ticket_at b.records name ≡ Some ticket) where
  abbrev at_place : (r : Record) × (named name b.records ≡ Some r) × (r.ticket ≡ ticket)
  at_place = place_of b name ticket is

  pub ticket_there : IsSome (find b.table.pieces ticket)
  ticket_there =
      let place = kept.places name at_place.0 at_place.1 in
      subst (λ o. IsSome o) (sym (ap (find b.table.pieces) (sym at_place.2) ∙ place.there)) refl

  pub ticket_room : ticket.slot < length waits
  ticket_room = let place = kept.places name at_place.0 at_place.1 in subst (λ (t : Ticket). t.slot < length waits) at_place.2 place.room

  pub ticket_called : name_in b.names ticket.slot ≡ Some name
  ticket_called = let place = kept.places name at_place.0 at_place.1 in ap (λ (t : Ticket). name_in b.names t.slot) (sym at_place.2) ∙ place.called

  -- the slot of what it waits for has room too
  pub need_room : (for : Option Name) → IfSome for (λ f. IsSome (named f b.records)) → IfSome (need_at b.records for) (λ n. n < length waits)
  need_room None can = tt
  need_room (Some f) can = on (named f b.records) refl
    where
      on : (found : Option Record) → named f b.records ≡ found → IfSome (option_map (λ (p : Record). p.ticket.slot) (named f b.records)) (λ n. n < length waits)
      on None none = subst (λ o. IfSome (option_map (λ (p : Record). p.ticket.slot) o) (λ n. n < length waits)) (sym none) tt
      on (Some p) there = subst (λ o. IfSome (option_map (λ (q : Record). q.ticket.slot) o) (λ n. n < length waits)) (sym there) (kept.places f p there).room

module _ (old mid : Places) (records : Named Record) (name : Name) (ticket : Ticket) (piece : Option Piece) (R : Record → Record → Type 0)
    (kept : IsKept (board_of old) old.waits) (is : ticket_at old.records.entries name ≡ Some ticket)
    (noted : IsNoted old mid ticket (marks_ready piece) (need_at old.records.entries (waits_for piece)))
    (changed : IsChanged name old.records.entries records R) (puts : (r after : Record) → named name old.records.entries ≡ Some r → R r after → after ≡ record r { piece = piece })
    (can_wait : IfSome (waits_for piece) (λ f. IsSome (named f old.records.entries))) where
  abbrev place_at : (r : Record) × (named name old.records.entries ≡ Some r) × (r.ticket ≡ ticket)
  place_at = place_of (board_of old) name ticket is

  abbrev r : Record
  r = place_at.0

  abbrev b_2 : Board
  b_2 = noted_board mid records

  noted_r : IsNoted old mid r.ticket (marks_ready piece) (need_at old.records.entries (waits_for piece))
  noted_r = subst (λ t. IsNoted old mid t (marks_ready piece) (need_at old.records.entries (waits_for piece))) (sym place_at.2) noted

  to : IsChangedTo name old.records.entries records R r
  to = changed r place_at.1

  now : records ≡ with_named old.records.entries name (record r { piece = piece })
  now = to.put ∙ ap (with_named old.records.entries name) (puts r to.item place_at.1 to.related)

  noted_changes : Changes (board_of old) b_2 old.waits mid.waits name r piece None
  noted_changes = record {
    there = place_at.1;
    here = ap (named name) now ∙ named-here name _ old.records.entries;
    others = λ q apart. ap (named q) now ∙ named-other q name _ old.records.entries apart;
    names = ap (λ (v : _). v.items) noted_r.names;
    put = noted_r.flagged.put;
    idle = λ _. refl;
    tied = noted_r.tied;
    need_here = noted_r.need_here;
    need_others = noted_r.need_others;
    room = omega (arith, noted_r.room);
    can_wait = can_wait;
  }

  pub noted_keeps : IsKept b_2 mid.waits
  noted_keeps = changes.keeps (board_of old) b_2 old.waits mid.waits name r piece None kept noted_changes

  pub noted_put : IsPutAt name piece (board_of old) b_2
  noted_put = changes.put (board_of old) b_2 old.waits mid.waits name r piece None kept noted_changes

  pub noted_unlent : IsUnlent name (board_of old) b_2
  noted_unlent = changes.unlent (board_of old) b_2 old.waits mid.waits name r piece kept noted_changes noted_r.flagged.unlent

  pub noted_places : (q : Name) → IsSome (named q old.records.entries) → IsSome (named q records)
  noted_places = changes.there_still (board_of old) b_2 old.waits mid.waits name r piece None kept noted_changes

  pub noted_slots : SameSlots (board_of old) b_2
  noted_slots = changes.slot_same (board_of old) b_2 old.waits mid.waits name r piece None kept noted_changes

  pub noted_ticket : ticket_at records name ≡ Some ticket
  noted_ticket = ap (option_map (λ (p : Record). p.ticket)) noted_changes.here ∙ ap Some place_at.2

  -- where nothing stood there, the same is lent
  pub noted_claims : piece_at (board_of old) name ≡ None → SameClaims (board_of old) b_2
  noted_claims empty =
      let place = kept.places name r noted_changes.there in
      let stands : r.piece ≡ None = sym (ap (option_and_then (λ (p : Record). p.piece)) place_at.1) ∙ empty in
      changes.same_claims (board_of old) b_2 old.waits mid.waits name r piece kept noted_changes noted_r.flagged.unlent (place.idle (place.ready ∙ ap marks_ready stands))

-- a piece is put into its empty place
module _ (old mid : Places) (records : Named Record) (ticket : Ticket) (piece : Piece) (flag : Bool)
    (kept : IsKept (board_of old) old.waits) (place : IsEmptyPlace (board_of old) ticket) (idle : awaited (mark_in piece) ≡ None)
    (noted : IsNoted old mid ticket flag None) (flag_is : flag ≡ says_ready (mark_in piece))
    (filled : IfSome (name_in mid.names.items ticket.slot) (λ name. IsChanged name mid.records.entries records (λ r after. after ≡ record r { piece = Some piece }))) where
  called : name_in mid.names.items ticket.slot ≡ Some place.name
  called = ap (λ (v : _). name_in v.items ticket.slot) noted.names ∙ ticket_called (board_of old) old.waits kept place.name ticket place.there

  changes_place : IsChanged place.name old.records.entries records (λ r after. after ≡ record r { piece = Some piece })
  changes_place = subst (λ (m : _). IsChanged place.name m.entries records (λ r after. after ≡ record r { piece = Some piece })) noted.records
      (subst (λ o. IfSome o (λ name. IsChanged name mid.records.entries records (λ r after. after ≡ record r { piece = Some piece }))) called filled)

  notes : IsNoted old mid ticket (marks_ready (Some piece)) (need_at old.records.entries (waits_for (Some piece)))
  notes = subst (λ t. IsNoted old mid ticket t (need_at old.records.entries (awaited (mark_in piece)))) flag_is
      (subst (λ o. IsNoted old mid ticket flag (need_at old.records.entries o)) (sym idle) noted)

  waits_none : IfSome (waits_for (Some piece)) (λ f. IsSome (named f old.records.entries))
  waits_none = subst (λ o. IfSome o (λ f. IsSome (named f old.records.entries))) (sym idle) tt

  pub filled_keeps : IsKept (noted_board mid records) mid.waits
  filled_keeps = noted_keeps old mid records place.name ticket (Some piece) _ kept place.there notes changes_place (λ r after there is. is) waits_none

  pub filled_claims : SameClaims (board_of old) (noted_board mid records)
  filled_claims = noted_claims old mid records place.name ticket (Some piece) _ kept place.there notes changes_place (λ r after there is. is) waits_none place.empty

  pub filled_places : (q : Name) → IsSome (named q old.records.entries) → IsSome (named q records)
  filled_places = noted_places old mid records place.name ticket (Some piece) _ kept place.there notes changes_place (λ r after there is. is) waits_none

  pub filled_slots : SameSlots (board_of old) (noted_board mid records)
  filled_slots = noted_slots old mid records place.name ticket (Some piece) _ kept place.there notes changes_place (λ r after there is. is) waits_none

  pub filled_put : (name : Name) → ticket_at old.records.entries name ≡ Some ticket → IsPutAt name (Some piece) (board_of old) (noted_board mid records)
  filled_put name is =
      let same : place.name ≡ name = some_same _ _ (sym (ticket_called (board_of old) old.waits kept place.name ticket place.there) ∙ ticket_called (board_of old) old.waits kept name ticket is) in
      subst (λ n. IsPutAt n (Some piece) (board_of old) (noted_board mid records)) same
      (noted_put old mid records place.name ticket (Some piece) _ kept place.there notes changes_place (λ r after there is. is) waits_none)

-- a mark is put on a piece
module _ (old mid : Places) (records : BTreeMap Name Record) (name : Name) (ticket : Ticket) (mark : Mark) (flag : Bool) (need : Option ℕ)
    (kept : IsKept (board_of old) old.waits) (is : ticket_at old.records.entries name ≡ Some ticket) (there : IsSome (piece_at (board_of old) name)) (can_wait : CanWait (board_of old) mark)
    (noted : IsNoted (record old { records = records }) mid ticket flag need) (flag_is : flag ≡ says_ready mark) (need_is : need ≡ need_at old.records.entries (awaited mark))
    (changed : IsChanged name old.records.entries records.entries (IsMarkedAs mark)) where
  abbrev pub then : Option Piece
  then = option_and_then (marked mark) (piece_at (board_of old) name)

  waits_same : waits_for then ≡ awaited mark
  waits_same = on (piece_at (board_of old) name) there
    where
      on_piece : (m : Mark) (p : Piece) → waits_for (marked m p) ≡ awaited m
      on_piece (marking.Ready work) p = ap awaited (mark_put (marking.Ready work) p)
      on_piece (marking.Waiting on) p = ap awaited (mark_put (marking.Waiting on) p)
      on_piece marking.Resting p = ap awaited (mark_put marking.Resting p)
      on_piece (marking.Finished v) p = ap awaited (mark_put (marking.Finished v) p)
      on_piece marking.Dropped p = refl

      on : (found : Option Piece) → IsSome found → waits_for (option_and_then (marked mark) found) ≡ awaited mark
      on None none = absurd (cc)
      on (Some p) stands = on_piece mark p

  ready_same : marks_ready then ≡ says_ready mark
  ready_same = on (piece_at (board_of old) name) there
    where
      on_piece : (m : Mark) (p : Piece) → marks_ready (marked m p) ≡ says_ready m
      on_piece (marking.Ready work) p = ap says_ready (mark_put (marking.Ready work) p)
      on_piece (marking.Waiting on) p = ap says_ready (mark_put (marking.Waiting on) p)
      on_piece marking.Resting p = ap says_ready (mark_put marking.Resting p)
      on_piece (marking.Finished v) p = ap says_ready (mark_put (marking.Finished v) p)
      on_piece marking.Dropped p = refl

      on : (found : Option Piece) → IsSome found → marks_ready (option_and_then (marked mark) found) ≡ says_ready mark
      on None none = absurd (cc)
      on (Some p) stands = on_piece mark p

  -- the same, before the mark is put
  abbrev unput : Places
  unput = record mid { records = old.records }

  notes_unput : IsNoted old unput ticket flag need
  notes_unput = record {
    records = refl;
    names = noted.names;
    flagged = noted.flagged;
    tied = noted.tied;
    need_here = noted.need_here;
    need_others = noted.need_others;
    room = noted.room;
  }

  notes_mark : IsNoted old unput ticket (marks_ready then) (need_at old.records.entries (waits_for then))
  notes_mark = subst (λ t. IsNoted old unput ticket t (need_at old.records.entries (waits_for then))) (flag_is ∙ sym ready_same)
      (subst (λ n. IsNoted old unput ticket flag n) (need_is ∙ ap (need_at old.records.entries) (sym waits_same)) notes_unput)

  -- what holds of the board with these records holds of that board
  on_board : (P : Board → Type 0) → P (noted_board unput records.entries) → P (board_of mid)
  on_board P holds = subst (λ (m : BTreeMap Name Record). P (noted_board unput m.entries)) (sym noted.records) holds

  puts_mark : (r after : Record) → named name old.records.entries ≡ Some r → IsMarkedAs mark r after → after ≡ record r { piece = then }
  puts_mark r after found is_marked = is_marked ∙ ap (λ o. record r { piece = option_and_then (marked mark) o }) (sym (ap (option_and_then (λ (x : Record). x.piece)) found))

  waits_there : IfSome (waits_for then) (λ f. IsSome (named f old.records.entries))
  waits_there = subst (λ o. IfSome o (λ f. IsSome (named f old.records.entries))) (sym waits_same) can_wait

  pub marked_keeps : IsKept (board_of mid) mid.waits
  marked_keeps = on_board (λ b. IsKept b mid.waits) (noted_keeps old unput records.entries name ticket then (IsMarkedAs mark) kept is notes_mark changed puts_mark waits_there)

  pub marked_put : IsPutAt name then (board_of old) (board_of mid)
  marked_put = on_board (IsPutAt name then (board_of old)) (noted_put old unput records.entries name ticket then (IsMarkedAs mark) kept is notes_mark changed puts_mark waits_there)

  pub marked_unlent : IsUnlent name (board_of old) (board_of mid)
  marked_unlent = on_board (IsUnlent name (board_of old)) (noted_unlent old unput records.entries name ticket then (IsMarkedAs mark) kept is notes_mark changed puts_mark waits_there)

  pub marked_ticket : ticket_at mid.records.entries name ≡ Some ticket
  marked_ticket = on_board (λ b. ticket_at b.records name ≡ Some ticket) (noted_ticket old unput records.entries name ticket then (IsMarkedAs mark) kept is notes_mark changed puts_mark waits_there)

  pub marked_places : (q : Name) → IsSome (named q old.records.entries) → IsSome (named q mid.records.entries)
  marked_places q had = on_board (λ b. IsSome (named q b.records)) (noted_places old unput records.entries name ticket then (IsMarkedAs mark) kept is notes_mark changed puts_mark waits_there q had)

  pub marked_slots : SameSlots (board_of old) (board_of mid)
  marked_slots = on_board (SameSlots (board_of old)) (noted_slots old unput records.entries name ticket then (IsMarkedAs mark) kept is notes_mark changed puts_mark waits_there)
