-- The tickets that were found have room where there is room for all links.
use Rattle.std.proofs.Common.{◌≡◌, ◌∙◌, inl, inr, ℕ, zero, suc, ◌+◌, ◌<◌, ◌≤◌, true, false, cond, List, [], ◌∷◌, ◌++◌, length, get_or, refl, sym, ap, subst, drop, fold, arith, length-append, length-drop}
use Rattle.std.specs.Prelude.{◌||◌, map, filter}
use Rattle.std.specs.List.{IsDistinct}
use Rattle.std.proofs.lemmas.List.{drop_more}
use Rattle.std.proofs.lemmas.Map.Made.{length-le_from_is_member}
use Rattle.rollback.specs.Dependants.{is_one_of, same_ticket}
use Rattle.rollback.specs.Gathering.{directly, with_ticket, IsRoomFor}
use Rattle.rollback.specs.declared.link.Link.{Link}
use Rattle.rollback.proofs.Members.{either_true, or_true, same_ticket-itself, same_ticket-equal, tickets_equiv, with_ticket-has, with_ticket-once}
use Rattle.value_core.specs.declared.ticket.Ticket.{Ticket}

abbrev pub by_links : List Link → List Ticket
by_links links = map (λ link. link.by) links

-- tickets that differ and hang each by a link are no more than the links
pub no_more_than_links : (links : List Link) (tickets : List Ticket) → IsDistinct same_ticket tickets
    → ((ticket : Ticket) → is_one_of ticket tickets ≡ true → is_one_of ticket (by_links links) ≡ true) → length tickets ≤ length links
no_more_than_links links tickets once hang =
    subst (λ n. length tickets ≤ n) (length_by links) (length-le_from_is_member tickets_equiv tickets (by_links links) once hang)
  where
    length_by : (ls : List Link) → length (by_links ls) ≡ length ls
    length_by [] = refl
    length_by (l ∷ ls) = ap (λ n. suc n) (length_by ls)

-- with the ticket of a link more each still hangs by a link
pub one_more_hangs : (links : List Link) (tickets : List Ticket) (ticket : Ticket)
    → ((q : Ticket) → is_one_of q tickets ≡ true → is_one_of q (by_links links) ≡ true) → is_one_of ticket (by_links links) ≡ true
    → (q : Ticket) → is_one_of q (with_ticket tickets ticket) ≡ true → is_one_of q (by_links links) ≡ true
one_more_hangs links tickets ticket hang there q is =
    elim (either_true (is_one_of q tickets) (same_ticket q ticket) (sym (with_ticket-has tickets ticket q) ∙ is)) [
      | inl before ↦ hang q before
      | inr same ↦ subst (λ t. is_one_of t (by_links links) ≡ true) (sym (same_ticket-equal q ticket same)) there
    ]

-- there is room for a ticket of a link that is not there
pub room_for_one : (links : List Link) (tickets : List Ticket) (room : ℕ) (ticket : Ticket) → IsRoomFor links tickets room
    → is_one_of ticket (by_links links) ≡ true → is_one_of ticket tickets ≡ false → 0 < room
room_for_one links tickets room ticket fits there new =
    let more = with_ticket tickets ticket in
    let few = no_more_than_links links more (with_ticket-once tickets ticket fits.once) (one_more_hangs links tickets ticket fits.hang there) in
    let long : length more ≡ length tickets + 1 = ap (λ b. length (cond b tickets (tickets ++ ticket ∷ []))) new ∙ simp length-append in
    let enough = fits.room_is in
    omega arith

-- room is left after it
pub room_after_one : (links : List Link) (tickets : List Ticket) (room left : ℕ) (ticket : Ticket) → IsRoomFor links tickets room
    → is_one_of ticket (by_links links) ≡ true → room + length tickets ≤ left + length (with_ticket tickets ticket)
    → IsRoomFor links (with_ticket tickets ticket) left
room_after_one links tickets room left ticket fits there kept = record {
  once = with_ticket-once tickets ticket fits.once;
  hang = one_more_hangs links tickets ticket fits.hang there;
  room_is = (let enough = fits.room_is in omega arith);
}

-- the ticket of a link is among those of the links
pub link_is_there : (links : List Link) (i : ℕ) (d : Link) → i < length links → is_one_of (get_or links i d).by (by_links links) ≡ true
link_is_there [] i d within = absurd (omega arith)
link_is_there (l ∷ ls) zero d within = ap (λ b. b || is_one_of l.by (by_links ls)) (same_ticket-itself l.by)
link_is_there (l ∷ ls) (suc i) d within =
    ap (λ b. same_ticket (get_or ls i d).by l.by || b) (link_is_there ls i d (omega arith)) ∙ or_true (same_ticket (get_or ls i d).by l.by)

pub none_found : (links : List Link) (room : ℕ) → length links ≤ room → IsRoomFor links [] room
unfolding IsDistinct
none_found links room enough = record {
  once = tt;
  hang = λ q has. absurd (let none : false ≡ true = has in cc);
  room_is = omega arith;
}

-- a link on that ticket, and one on another, as the gathering goes over the links
pub link_taken : (links : List Link) (i : ℕ) (d : Link) (on : Ticket) (old new all : List Ticket) → i < length links → same_ticket (get_or links i d).on on ≡ true
    → new ≡ with_ticket old (get_or links i d).by → fold with_ticket old (directly (drop i links) on) ≡ all → fold with_ticket new (directly (drop (i + 1) links) on) ≡ all
link_taken links i d on old new all within same added so_far =
    ap (λ found. fold with_ticket found (directly (drop (i + 1) links) on)) added
    ∙ sym (ap (λ ls. fold with_ticket old (directly ls on)) (drop_more links i d within)
    ∙ ap (λ b. fold with_ticket old (map (λ link. link.by) (cond b (get_or links i d ∷ filter (λ link. same_ticket link.on on) (drop (i + 1) links)) (filter (λ link. same_ticket link.on on) (drop (i + 1) links))))) same)
    ∙ so_far

pub link_passed : (links : List Link) (i : ℕ) (d : Link) (on : Ticket) (old all : List Ticket) → i < length links → same_ticket (get_or links i d).on on ≡ false
    → fold with_ticket old (directly (drop i links) on) ≡ all → fold with_ticket old (directly (drop (i + 1) links) on) ≡ all
link_passed links i d on old all within same so_far =
    sym (ap (λ ls. fold with_ticket old (directly ls on)) (drop_more links i d within)
    ∙ ap (λ b. fold with_ticket old (map (λ link. link.by) (cond b (get_or links i d ∷ filter (λ link. same_ticket link.on on) (drop (i + 1) links)) (filter (λ link. same_ticket link.on on) (drop (i + 1) links))))) same)
    ∙ so_far

-- room for what is found, read from the lengths of the lists
pub room_after : (links : List Link) (before after : List Ticket) (start room left : ℕ) (ticket : Ticket) → IsRoomFor links (drop start before) room
    → is_one_of ticket (by_links links) ≡ true → start ≤ length before → start ≤ length after → room + length before ≤ left + length after
    → drop start after ≡ with_ticket (drop start before) ticket → IsRoomFor links (drop start after) left
room_after links before after start room left ticket fits there from to kept added =
    let old_long = length-drop start before in
    let new_long = length-drop start after in
    let same_long : length (drop start after) ≡ length (with_ticket (drop start before) ticket) = ap length added in
    subst (λ found. IsRoomFor links found left) (sym added) (room_after_one links (drop start before) room left ticket fits there (omega arith))
