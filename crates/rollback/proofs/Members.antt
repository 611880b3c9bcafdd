-- Which tickets stand in a list.
use Rattle.std.proofs.Common.{◌≡◌, ◌∙◌, ◌⊎◌, inl, inr, ℕ, Bool, true, false, cond, List, [], ◌∷◌, ◌++◌, length, refl, sym, ap, subst, take, fold, arith, length-append}
use Rattle.std.specs.Prelude.{◌==◌, ◌&&◌, ◌||◌, ◌≤◌}
use Rattle.std.specs.Cmp.{IsEquivalence}
use Rattle.std.specs.List.{IsDistinct}
use Rattle.std.proofs.lemmas.Bool.{eqb-true, eq-eqb}
use Rattle.std.proofs.lemmas.List.{take-append-le}
use Rattle.std.proofs.lemmas.List.Folds.{list_any-append}
use Rattle.std.proofs.lemmas.Map.Keys.{IsDistinct-push}
use Rattle.rollback.specs.Dependants.{is_one_of, same_ticket}
use Rattle.rollback.specs.Gathering.{with_ticket}
use Rattle.value_core.specs.declared.ticket.Ticket.{Ticket}

pub either_true : (b c : Bool) → (b || c) ≡ true → (b ≡ true) ⊎ (c ≡ true)
either_true true c e = inl refl
either_true false c e = inr e

pub or_true : (b : Bool) → (b || true) ≡ true
or_true true = refl
or_true false = refl

pub or_false : (b : Bool) → (b || false) ≡ b
or_false true = refl
or_false false = refl

number_itself : (n : ℕ) → (n == n) ≡ true
number_itself n = eq-eqb n n refl

pub same_ticket-itself : (a : Ticket) → same_ticket a a ≡ true
same_ticket-itself a = ap (λ b. b && (a.generation == a.generation)) (number_itself a.slot) ∙ number_itself a.generation

both_true : (b c : Bool) → (b && c) ≡ true → (b ≡ true) × (c ≡ true)
both_true true c e = (refl, e)
both_true false c e = cc

pub same_ticket-equal : (a b : Ticket) → same_ticket a b ≡ true → a ≡ b
same_ticket-equal a b e =
    let both = both_true (a.slot == b.slot) (a.generation == b.generation) e in
    let slot = eqb-true a.slot b.slot both.0 in
    let generation = eqb-true a.generation b.generation both.1 in
    ap (λ s. record { slot = s; generation = a.generation }) slot ∙ ap (λ g. record { slot = b.slot; generation = g }) generation

same_ticket-flips : (a b : Ticket) → same_ticket a b ≡ same_ticket b a
same_ticket-flips a b = on (same_ticket a b) refl (same_ticket b a) refl
  where
    on : (x : Bool) → same_ticket a b ≡ x → (y : Bool) → same_ticket b a ≡ y → x ≡ y
    on true e true f = refl
    on false e false f = refl
    on true e false f = sym (subst (λ t. same_ticket t a ≡ true) (same_ticket-equal a b e) (same_ticket-itself a)) ∙ f
    on false e true f = sym e ∙ subst (λ t. same_ticket t b ≡ true) (same_ticket-equal b a f) (same_ticket-itself b)

pub tickets_equiv : IsEquivalence same_ticket
tickets_equiv = record {
  refl = same_ticket-itself;
  symm = same_ticket-flips;
  congr = λ a b c e. ap (λ t. same_ticket t c) (same_ticket-equal a b e);
}

-- a list with one ticket more has that one and those that it had
pub with_ticket-has : (tickets : List Ticket) (ticket q : Ticket) → is_one_of q (with_ticket tickets ticket) ≡ (is_one_of q tickets || same_ticket q ticket)
with_ticket-has tickets ticket q = on (is_one_of ticket tickets) refl
  where
    there : (b : Bool) → same_ticket q ticket ≡ b → is_one_of ticket tickets ≡ true → is_one_of q tickets ≡ (is_one_of q tickets || b)
    there false e has = sym (or_false (is_one_of q tickets))
    there true e has =
        let q_there : is_one_of q tickets ≡ true = subst (λ t. is_one_of t tickets ≡ true) (sym (same_ticket-equal q ticket e)) has in
        q_there ∙ sym (ap (λ b. b || true) q_there)

    on : (b : Bool) → is_one_of ticket tickets ≡ b → is_one_of q (cond b tickets (tickets ++ ticket ∷ [])) ≡ (is_one_of q tickets || same_ticket q ticket)
    on true has = there (same_ticket q ticket) refl has
    on false has = list_any-append (same_ticket q) tickets (ticket ∷ []) ∙ ap (λ b. is_one_of q tickets || b) (or_false (same_ticket q ticket))

pub with_ticket-once : (tickets : List Ticket) (ticket : Ticket) → IsDistinct same_ticket tickets → IsDistinct same_ticket (with_ticket tickets ticket)
with_ticket-once tickets ticket once = on (is_one_of ticket tickets) refl
  where
    on : (b : Bool) → is_one_of ticket tickets ≡ b → IsDistinct same_ticket (cond b tickets (tickets ++ ticket ∷ []))
    on true has = once
    on false has = IsDistinct-push tickets_equiv tickets ticket once has

pub with_ticket-longer : (tickets : List Ticket) (ticket : Ticket) → length tickets ≤ length (with_ticket tickets ticket)
with_ticket-longer tickets ticket = on (is_one_of ticket tickets)
  where
    on : (b : Bool) → length tickets ≤ length (cond b tickets (tickets ++ ticket ∷ []))
    on true = omega arith
    on false = simp length-append (omega arith)

pub with_ticket-take : (n : ℕ) (tickets : List Ticket) (ticket : Ticket) → n ≤ length tickets → take n (with_ticket tickets ticket) ≡ take n tickets
with_ticket-take n tickets ticket within = on (is_one_of ticket tickets)
  where
    on : (b : Bool) → take n (cond b tickets (tickets ++ ticket ∷ [])) ≡ take n tickets
    on true = refl
    on false = take-append-le n tickets (ticket ∷ []) within

-- the same with more tickets
pub with_tickets-has : (tickets more : List Ticket) (q : Ticket) → is_one_of q (fold with_ticket tickets more) ≡ (is_one_of q tickets || is_one_of q more)
with_tickets-has tickets [] q = sym (or_false (is_one_of q tickets))
with_tickets-has tickets (ticket ∷ more) q =
    with_tickets-has (with_ticket tickets ticket) more q
    ∙ ap (λ b. b || is_one_of q more) (with_ticket-has tickets ticket q)
    ∙ or_either (is_one_of q tickets) (same_ticket q ticket) (is_one_of q more)
  where
    or_either : (a b c : Bool) → ((a || b) || c) ≡ (a || (b || c))
    or_either true b c = refl
    or_either false b c = refl

pub with_tickets-once : (tickets more : List Ticket) → IsDistinct same_ticket tickets → IsDistinct same_ticket (fold with_ticket tickets more)
with_tickets-once tickets [] once = once
with_tickets-once tickets (ticket ∷ more) once = with_tickets-once (with_ticket tickets ticket) more (with_ticket-once tickets ticket once)

pub with_tickets-longer : (tickets more : List Ticket) → length tickets ≤ length (fold with_ticket tickets more)
with_tickets-longer tickets [] = omega arith
with_tickets-longer tickets (ticket ∷ more) =
    let one = with_ticket-longer tickets ticket in
    let others = with_tickets-longer (with_ticket tickets ticket) more in
    omega arith

pub with_tickets-take : (n : ℕ) (tickets more : List Ticket) → n ≤ length tickets → take n (fold with_ticket tickets more) ≡ take n tickets
with_tickets-take n tickets [] within = refl
with_tickets-take n tickets (ticket ∷ more) within =
    let longer = with_ticket-longer tickets ticket in
    with_tickets-take n (with_ticket tickets ticket) more (omega arith) ∙ with_ticket-take n tickets ticket within
