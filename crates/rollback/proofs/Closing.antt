-- When each ticket that was found is gone through, all that hang on the first are found.
use Rattle.std.proofs.Common.{◌≡◌, ◌∙◌, ◌⊎◌, inl, inr, ℕ, zero, suc, ◌+◌, ◌<◌, ◌≤◌, Bool, true, false, cond, List, [], ◌∷◌, ◌++◌, length, get_or, refl, sym, ap, subst, take, fold, arith}
use Rattle.std.specs.Prelude.{◌||◌, map, filter, Contains}
use Rattle.std.specs.List.{IsDistinct}
use Rattle.std.proofs.lemmas.List.{take_more, take_all}
use Rattle.std.proofs.lemmas.List.Folds.{list_any-append, list_any_at}
use Rattle.std.proofs.lemmas.Map.Views.{All-from_any, Contains-from_any}
use Rattle.rollback.specs.Dependants.{is_one_of, same_ticket, AreDependants, HangsOn, directly as at_once, through}
use Rattle.rollback.specs.Gathering.{directly, with_ticket}
use Rattle.rollback.specs.declared.link.Link.{Link}
use Rattle.rollback.proofs.Members.{either_true, or_true, same_ticket-itself, same_ticket-equal, tickets_equiv, with_tickets-has, with_tickets-take}
use Rattle.value_core.specs.declared.ticket.Ticket.{Ticket}

-- that one ticket hangs on another
abbrev pub link_of : Ticket → Ticket → Link
link_of on by = record { on = on; by = by }

none_in : (x : Link) → Contains [] x → ⊥
none_in x (k, lt, is) = omega arith

in_cons : (x y : Link) (xs : List Link) → Contains (x ∷ xs) y → (x ≡ y) ⊎ Contains xs y
in_cons x y xs (zero, lt, is) = inl is
in_cons x y xs (suc k, lt, is) = inr (k, omega arith, is)

in_tail : (x y : Link) (xs : List Link) → Contains xs y → Contains (x ∷ xs) y
in_tail x y xs (k, lt, is) = (suc k, omega arith, is)

-- what hangs on a ticket by a link, as a list
pub directly_links : (links : List Link) (on by : Ticket) → is_one_of by (directly links on) ≡ true → Contains links (link_of on by)
directly_links [] on by is = absurd (cc)
directly_links (l ∷ ls) on by is = at (same_ticket l.on on) refl (directly_links ls on by) is
  where
    rest : List Link
    rest = filter (λ link. same_ticket link.on on) ls

    at : (b : Bool) → same_ticket l.on on ≡ b → (is_one_of by (map (λ link. link.by) rest) ≡ true → Contains ls (link_of on by))
        → is_one_of by (map (λ link. link.by) (cond b (l ∷ rest) rest)) ≡ true → Contains (l ∷ ls) (link_of on by)
    at false e later has = in_tail l (link_of on by) ls (later has)
    at true e later has = elim (either_true (same_ticket by l.by) (is_one_of by (map (λ link. link.by) rest)) has) [
      | inl same ↦ (0, omega arith, ap (λ t. link_of t l.by) (same_ticket-equal l.on on e) ∙ ap (λ t. link_of on t) (sym (same_ticket-equal by l.by same)))
      | inr there ↦ in_tail l (link_of on by) ls (later there)
    ]

pub links_directly : (links : List Link) (on by : Ticket) → Contains links (link_of on by) → is_one_of by (directly links on) ≡ true
links_directly [] on by c = absurd (none_in (link_of on by) c)
links_directly (l ∷ ls) on by c = at (same_ticket l.on on) refl (links_directly ls on by) (in_cons l (link_of on by) ls c)
  where
    rest : List Link
    rest = filter (λ link. same_ticket link.on on) ls

    at : (b : Bool) → same_ticket l.on on ≡ b → (Contains ls (link_of on by) → is_one_of by (map (λ link. link.by) rest) ≡ true)
        → (l ≡ link_of on by) ⊎ Contains ls (link_of on by) → is_one_of by (map (λ link. link.by) (cond b (l ∷ rest) rest)) ≡ true
    at true e later (inl is) = ap (λ (link : Link). same_ticket by link.by || is_one_of by (map (λ link. link.by) rest)) is ∙ ap (λ b. b || is_one_of by (map (λ link. link.by) rest)) (same_ticket-itself by)
    at true e later (inr c) = ap (λ b. same_ticket by l.by || b) (later c) ∙ or_true (same_ticket by l.by)
    at false e later (inl is) = absurd (let itself : same_ticket l.on on ≡ true = ap (λ (link : Link). same_ticket link.on on) is ∙ same_ticket-itself on in cc)
    at false e later (inr c) = later c

-- Each ticket that is found hangs on that one; and those are found that hang by a link on it, or on one of the first so many
-- that were found.
pub record IsClosing (links : List Link) (of : Ticket) (tickets : List Ticket) (done : ℕ) : Type 0 where
  pub hang : (q : Ticket) → is_one_of q tickets ≡ true → HangsOn links of q
  pub first : (by : Ticket) → Contains links (link_of of by) → is_one_of by tickets ≡ true
  pub others : (on by : Ticket) → is_one_of on (take done tickets) ≡ true → Contains links (link_of on by) → is_one_of by tickets ≡ true

pub closing_first : (links : List Link) (of : Ticket) (tickets : List Ticket) → tickets ≡ fold with_ticket [] (directly links of) → IsClosing links of tickets 0
closing_first links of tickets is = subst (λ found. IsClosing links of found 0) (sym is) (record {
  hang = λ q has. at_once (directly_links links of q (sym (with_tickets-has [] (directly links of) q) ∙ has));
  first = λ by link. with_tickets-has [] (directly links of) by ∙ links_directly links of by link;
  others = λ on by has link. absurd (let none : false ≡ true = has in cc);
})

module _ (links : List Link) (of on : Ticket) (old : List Ticket) (done : ℕ) (closing : IsClosing links of old done) (within : done < length old) (is : get_or old done on ≡ on) where
  on_there : is_one_of on old ≡ true
  on_there = list_any_at (same_ticket on) old done on within (ap (same_ticket on) is ∙ same_ticket-itself on)

  still : (q : Ticket) → is_one_of q old ≡ true → is_one_of q (fold with_ticket old (directly links on)) ≡ true
  still q has = with_tickets-has old (directly links on) q ∙ ap (λ b. b || is_one_of q (directly links on)) has

  now : (q : Ticket) → is_one_of q (directly links on) ≡ true → is_one_of q (fold with_ticket old (directly links on)) ≡ true
  now q has = with_tickets-has old (directly links on) q ∙ ap (λ b. is_one_of q old || b) has ∙ or_true (is_one_of q old)

  gone_through : take (done + 1) (fold with_ticket old (directly links on)) ≡ take done old ++ on ∷ []
  gone_through = with_tickets-take (done + 1) old (directly links on) (omega arith) ∙ take_more old done on within ∙ ap (λ t. take done old ++ t ∷ []) is

  others_now : (q by : Ticket) → is_one_of q (take (done + 1) (fold with_ticket old (directly links on))) ≡ true → Contains links (link_of q by) → is_one_of by (fold with_ticket old (directly links on)) ≡ true
  others_now q by has link = elim (either_true (is_one_of q (take done old)) (same_ticket q on || false) split) [
    | inl before ↦ still by (closing.others q by before link)
    | inr last ↦ now by (links_directly links on by (subst (λ t. Contains links (link_of t by)) (same_ticket-equal q on (no_other (same_ticket q on) last)) link))
  ]
    where
      no_other : (b : Bool) → (b || false) ≡ true → b ≡ true
      no_other true e = refl
      no_other false e = e

      split : (is_one_of q (take done old) || (same_ticket q on || false)) ≡ true
      split = sym (list_any-append (same_ticket q) (take done old) (on ∷ [])) ∙ ap (is_one_of q) (sym gone_through) ∙ has

  hang_now : (q : Ticket) → is_one_of q (fold with_ticket old (directly links on)) ≡ true → HangsOn links of q
  hang_now q has = elim (either_true (is_one_of q old) (is_one_of q (directly links on)) (sym (with_tickets-has old (directly links on) q) ∙ has)) [
    | inl before ↦ closing.hang q before
    | inr last ↦ through (closing.hang on on_there) (directly_links links on q last)
  ]

  pub closing_next : IsClosing links of (fold with_ticket old (directly links on)) (done + 1)
  closing_next = record { hang = hang_now; first = λ by link. still by (closing.first by link); others = others_now }

-- then they are all that hang on it
pub closed : (links : List Link) (of : Ticket) (tickets : List Ticket) (done : ℕ) → IsClosing links of tickets done → length tickets ≤ done → IsDistinct same_ticket tickets
    → AreDependants links of tickets
closed links of tickets done closing through_all once = record {
  hang = All-from_any tickets_equiv (HangsOn links of) tickets closing.hang;
  whole = λ q hangs. Contains-from_any same_ticket-equal q tickets (found q hangs);
  once = once;
}
  where
    found : (q : Ticket) → HangsOn links of q → is_one_of q tickets ≡ true
    found q (at_once link) = closing.first q link
    found q (through {on = on} hangs link) = closing.others on q (subst (λ l. is_one_of on l ≡ true) (sym (take_all done tickets through_all)) (found on hangs)) link
