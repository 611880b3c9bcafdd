-- The steps of a gathering that appends to a list.
use Rattle.std.proofs.Common.{◌≡◌, ◌∙◌, ℕ, ◌+◌, ◌-◌, ◌<◌, ◌≤◌, List, length, get_or, sym, ap, subst, take, drop, fold, arith, length-drop}
use Rattle.std.proofs.lemmas.List.{drop_all, get_or-drop, get_or_default}
use Rattle.std.specs.List.{IsDistinct}
use Rattle.rollback.specs.Dependants.{same_ticket}
use Rattle.rollback.specs.Gathering.{directly, with_ticket, IsRoomFor}
use Rattle.rollback.specs.Undone.{AreAppended}
use Rattle.rollback.specs.declared.link.Link.{Link}
use Rattle.rollback.proofs.Closing.{IsClosing, closing_first, closing_next, closed}
use Rattle.rollback.proofs.Members.{with_tickets-longer}
use Rattle.rollback.proofs.Rooms.{no_more_than_links, none_found}
use Rattle.value_core.specs.declared.ticket.Ticket.{Ticket}

-- nothing is found yet
pub room_for_none : (links : List Link) (items : List Ticket) (start room : ℕ) → start ≡ length items → length links ≤ room → IsRoomFor links (drop start items) room
room_for_none links items start room is enough =
    subst (λ found. IsRoomFor links found room) (sym (drop_all start items (omega arith))) (none_found links room enough)

-- what hangs on the first by a link is found
pub begun : (links : List Link) (of : Ticket) (before after : List Ticket) (start : ℕ) → start ≡ length before
    → drop start after ≡ fold with_ticket (drop start before) (directly links of) → IsClosing links of (drop start after) 0
begun links of before after start is added =
    closing_first links of (drop start after) (added ∙ ap (λ found. fold with_ticket found (directly links of)) (drop_all start before (omega arith)))

-- and what hangs by a link on the next one
pub gone_on : (links : List Link) (of on : Ticket) (before after : List Ticket) (start next : ℕ) → IsClosing links of (drop start before) (next - start)
    → start ≤ next → next < length before → get_or before next on ≡ on
    → drop start after ≡ fold with_ticket (drop start before) (directly links on) → IsClosing links of (drop start after) (next + 1 - start)
gone_on links of on before after start next closing from within is added =
    let done : ℕ = next - start in
    let there : next - start < length (drop start before) = simp length-drop (omega arith) in
    let at : start + (next - start) ≡ next = omega arith in
    let found : get_or (drop start before) (next - start) on ≡ on = get_or-drop start before (next - start) on ∙ ap (λ k. get_or before k on) at ∙ is in
    let further : next - start + 1 ≡ next + 1 - start = omega arith in
    let more = closing_next links of on (drop start before) (next - start) closing there found in
    subst (λ n. IsClosing links of (drop start after) n) further (subst (λ l. IsClosing links of l (next - start + 1)) (sym added) more)

-- then all that hang on the first are appended
pub gathered : (links : List Link) (of : Ticket) (before after : List Ticket) (start next room : ℕ) → start ≡ length before → take start after ≡ before
    → start ≤ next → length after ≤ next → IsRoomFor links (drop start after) room → IsClosing links of (drop start after) (next - start)
    → AreAppended links of before after
gathered links of before after start next room is kept from through_all fits closing =
    subst (λ n. (take n after ≡ before) → IsClosing links of (drop n after) (next - n) → IsDistinct same_ticket (drop n after) → AreAppended links of before after) (sym is)
    (λ begins close once. record {
      kept = begins;
      dependants = closed links of (drop (length before) after) (next - length before) close (simp length-drop (omega arith)) once;
    })
    kept closing fits.once

-- the tickets that were appended are no more than the links
pub few_appended : (links : List Link) (after : List Ticket) (start room : ℕ) → start ≤ length after → IsRoomFor links (drop start after) room → length after ≤ start + length links
few_appended links after start room within fits =
    let few = no_more_than_links links (drop start after) fits.once fits.hang in
    let long : length (drop start after) ≡ length after - start = length-drop start after in
    omega arith

-- the list doesn't get shorter
pub no_shorter : (links : List Link) (on : Ticket) (before after : List Ticket) (start : ℕ) → start ≤ length before → start ≤ length after
    → drop start after ≡ fold with_ticket (drop start before) (directly links on) → length before ≤ length after
no_shorter links on before after start from to added =
    let longer = with_tickets-longer (drop start before) (directly links on) in
    let same_long : length (drop start after) ≡ length (fold with_ticket (drop start before) (directly links on)) = ap length added in
    let old_long = length-drop start before in
    let new_long = length-drop start after in
    omega arith

-- what is read at a place stands there
pub read_there : (xs ys : List Ticket) (i : ℕ) (d : Ticket) → xs ≡ ys → i < length ys → get_or ys i (get_or xs i d) ≡ get_or xs i d
read_there xs ys i d same within = get_or_default ys i (get_or xs i d) d within ∙ ap (λ l. get_or l i d) (sym same)
