-- The tickets of a pool as a finite map.
use Rattle.std.proofs.Common.{◌≡◌, ◌≢◌, ℕ, ◌+◌, ◌<◌, ◌≤◌, ◌==◌, Bool, true, false, length, Option, Some, None, if◌then◌else◌, refl, sym, ap, ◌∙◌, inl, inr, ◌⊎◌, arith}
use Rattle.std.proofs.lemmas.Bool.{cases_eq, cases_lt, eq-eqb}
use Rattle.std.proofs.lemmas.Bool.Decides.{eqb_tells}
use Rattle.std.proofs.lemmas.List.{get_or-set_same, get_or-set_other, get_or_past}
use Rattle.value_core.specs.declared.ticket.Ticket.{Ticket}
use Rattle.record_pool.specs.Pool.{Pool, place_at, next_of, read, find, with_record, Puts, Gives}
use Rattle.record_pool.specs.Tickets.{HasMoreRoom, IsGiven, IsPut}

pub same_ticket : (t u : Ticket) → t.slot ≡ u.slot → t.generation ≡ u.generation → t ≡ u
same_ticket t u slot generation =
    let half : Ticket = record { slot = u.slot; generation = t.generation } in
    let first : t ≡ half = ap (λ s. record { slot = s; generation = t.generation }) slot in
    let second : half ≡ u = ap (λ g. record { slot = u.slot; generation = g }) generation in
    first ∙ second

pub cases_ticket : (t u : Ticket) → (t ≡ u) ⊎ (t ≢ u)
cases_ticket t u = elim (cases_eq t.slot u.slot) [
  | inl slot ↦ elim (cases_eq t.generation u.generation) [
    | inl generation ↦ inl (same_ticket t u slot generation)
    | inr differs ↦ inr (λ same. differs (ap (λ x. x.generation) same))
  ]
  | inr differs ↦ inr (λ same. differs (ap (λ x. x.slot) same))
]

module _ {T : Type 0} where
  pub same_in_some : (x y : T) → Some x ≡ Some y → x ≡ y
  same_in_some x y e = cc

  read_same : (v : Option T) (g : ℕ) → read (v, g + 1) g ≡ v
  read_same v g = ap (λ b. if b then v else None) (eq-eqb (g + 1) (g + 1) refl)

  read_other : (v : Option T) (g h : ℕ) → g ≢ h → read (v, g + 1) h ≡ None
  read_other v g h differs = elim (eqb_tells (g + 1) (h + 1)) [
    | inl same ↦ absurd (differs (omega (arith, same.1)))
    | inr other ↦ ap (λ b. if b then v else None) other.0
  ]

  -- nothing is read where nothing is
  pub read_vacant : (place : Option T × ℕ) (g : ℕ) → place.0 ≡ None → read place g ≡ None
  read_vacant place g none = by_test (place.1 == g + 1)
    where
      by_test : (b : Bool) → (if b then place.0 else None) ≡ None
      by_test true = none
      by_test false = refl

  read_parts : (place : Option T × ℕ) (g : ℕ) (x : T) → read place g ≡ Some x → (place.0 ≡ Some x) × (place.1 ≡ g + 1)
  read_parts place g x e = elim (eqb_tells place.1 (g + 1)) [
    | inl same ↦ (sym (ap (λ b. if b then place.0 else None) same.0) ∙ e, same.1)
    | inr other ↦ let gone : None ≡ Some x = sym (ap (λ b. if b then place.0 else None) other.0) ∙ e in absurd (cc)
  ]

  same_pair : (a b : Option T × ℕ) → a.0 ≡ b.0 → a.1 ≡ b.1 → a ≡ b
  same_pair a b e_0 e_1 =
      let half : Option T × ℕ = (b.0, a.1) in
      let first : a ≡ half = ap (λ y. (y, a.1)) e_0 in
      let second : half ≡ b = ap (λ n. (b.0, n)) e_1 in
      first ∙ second

  -- a live ticket's slot was made
  pub find_within : (p : Pool T) (t : Ticket) (x : T) → find p t ≡ Some x → t.slot < length p.places
  find_within p t x e = elim (cases_lt t.slot (length p.places)) [
    | inl below ↦ below
    | inr past ↦
        let parts = read_parts (place_at p t.slot) t.generation x e in
        let gone : None ≡ Some x = sym (ap (λ q. q.0) (get_or_past p.places t.slot (None, p.first) (omega (arith, past)))) ∙ parts.0 in
        absurd (cc)
  ]

  -- what the place of a live ticket has
  pub place_found : (p : Pool T) (t : Ticket) (x : T) → find p t ≡ Some x → place_at p t.slot ≡ (Some x, t.generation + 1)
  place_found p t x e = let parts = read_parts (place_at p t.slot) t.generation x e in same_pair _ _ parts.0 parts.1

  -- a ticket that is given was not live, and is now
  pub given_was : (old new : Pool T) (t : Ticket) (v : T) → Gives old new t v → find old t ≡ None
  given_was old new t v gives = read_vacant (place_at old t.slot) t.generation gives.vacant

  pub given_is : (old new : Pool T) (t : Ticket) (v : T) → Gives old new t v → find new t ≡ Some v
  given_is old new t v gives = ap (λ p. read p t.generation) gives.puts.changed ∙ read_same (Some v) t.generation

  pub given_others : (old new : Pool T) (t : Ticket) (v : T) → Gives old new t v → (u : Ticket) → u ≢ t → find new u ≡ find old u
  given_others old new t v gives u differs = elim (cases_eq u.slot t.slot) [
    | inl same ↦
        let other : t.generation ≢ u.generation = λ e. differs (same_ticket u t same (sym e)) in
        ap (λ s. read (place_at new s) u.generation) same ∙ ap (λ p. read p u.generation) gives.puts.changed ∙ read_other (Some v) t.generation u.generation other
        ∙ sym (ap (λ s. read (place_at old s) u.generation) same ∙ read_vacant (place_at old t.slot) u.generation gives.vacant)
    | inr other ↦ ap (λ p. read p u.generation) (gives.puts.others u.slot other)
  ]

  -- what a write leaves
  pub written_is : (p : Pool T) (t : Ticket) (x v : T) → find p t ≡ Some x → find (with_record p t v) t ≡ Some v
  written_is p t x v e =
      ap (λ q. read q t.generation) (get_or-set_same p.places t.slot (Some v, t.generation + 1) (None, p.first) (find_within p t x e)) ∙ read_same (Some v) t.generation

  pub written_others : (p : Pool T) (t : Ticket) (x v : T) → find p t ≡ Some x → (u : Ticket) → u ≢ t → find (with_record p t v) u ≡ find p u
  written_others p t x v e u differs = elim (cases_eq u.slot t.slot) [
    | inl same ↦
        let other : t.generation ≢ u.generation = λ g. differs (same_ticket u t same (sym g)) in
        ap (λ s. read (place_at (with_record p t v) s) u.generation) same ∙ ap (λ q. read q u.generation) (get_or-set_same p.places t.slot (Some v, t.generation + 1) (None, p.first) (find_within p t x e)) ∙ read_other (Some v) t.generation u.generation other
        ∙ sym (ap (λ s. read (place_at p s) u.generation) same ∙ ap (λ q. read q u.generation) (place_found p t x e) ∙ read_other (Some x) t.generation u.generation other)
    | inr other ↦ ap (λ q. read q u.generation) (get_or-set_other p.places t.slot u.slot (Some v, t.generation + 1) (None, p.first) other)
  ]

  -- what a removal leaves
  pub removed_is : (old new : Pool T) (t : Ticket) → Puts old new t.slot (None, t.generation + 1) → find new t ≡ None
  removed_is old new t puts = ap (λ p. read p t.generation) puts.changed ∙ read_vacant (None, t.generation + 1) t.generation refl

  pub removed_others : (old new : Pool T) (t : Ticket) (x : T) → Puts old new t.slot (None, t.generation + 1) → find old t ≡ Some x → (u : Ticket) → u ≢ t → find new u ≡ find old u
  removed_others old new t x puts e u differs = elim (cases_eq u.slot t.slot) [
    | inl same ↦
        let other : t.generation ≢ u.generation = λ g. differs (same_ticket u t same (sym g)) in
        ap (λ s. read (place_at new s) u.generation) same ∙ ap (λ p. read p u.generation) puts.changed ∙ read_vacant (None, t.generation + 1) u.generation refl
        ∙ sym (ap (λ s. read (place_at old s) u.generation) same ∙ ap (λ q. read q u.generation) (place_found old t x e) ∙ read_other (Some x) t.generation u.generation other)
    | inr other ↦ ap (λ p. read p u.generation) (puts.others u.slot other)
  ]

  -- room is all that a reserve changes
  pub same_finds : (old new : Pool T) → new ≡ record old { room = new.room } → (u : Ticket) → find new u ≡ find old u
  same_finds old new same u = ap (λ p. find p u) same

  -- a write, in one
  pub written_put : (p : Pool T) (t : Ticket) (x v : T) → find p t ≡ Some x → IsPut p (with_record p t v) t (Some v)
  written_put p t x v e = record {
    here = written_is p t x v e;
    others = written_others p t x v e;
    later = λ slot. elim (cases_eq slot t.slot) [
      | inl same ↦
          let before : next_of p slot ≡ t.generation + 1 = ap (next_of p) same ∙ ap (λ q. q.1) (place_found p t x e) in
          let after : next_of (with_record p t v) slot ≡ t.generation + 1 = ap (next_of (with_record p t v)) same ∙ ap (λ q. q.1) (get_or-set_same p.places t.slot (Some v, t.generation + 1) (None, p.first) (find_within p t x e)) in
          omega (arith, before, after)
      | inr other ↦ let same = ap (λ q. q.1) (get_or-set_other p.places t.slot slot (Some v, t.generation + 1) (None, p.first) other) in omega (arith, same)
    ];
  }

  -- a removal, in one
  pub removed_put : (old new : Pool T) (t : Ticket) (x : T) → Puts old new t.slot (None, t.generation + 1) → find old t ≡ Some x → IsPut old new t None
  removed_put old new t x puts e = record {
    here = removed_is old new t puts;
    others = removed_others old new t x puts e;
    later = λ slot. elim (cases_eq slot t.slot) [
      | inl same ↦
          let before : next_of old slot ≡ t.generation + 1 = ap (next_of old) same ∙ ap (λ q. q.1) (place_found old t x e) in
          let after : next_of new slot ≡ t.generation + 1 = ap (next_of new) same ∙ ap (λ q. q.1) puts.changed in
          omega (arith, before, after)
      | inr other ↦ let same = ap (λ q. q.1) (puts.others slot other) in omega (arith, same)
    ];
  }

  -- a ticket that is given once there is room, in one
  pub given_put : (old roomy new : Pool T) (t : Ticket) (v : T) → HasMoreRoom old roomy → Gives roomy new t v → IsGiven old new t v
  given_put old roomy new t v more gives =
      let before : (slot : ℕ) → next_of roomy slot ≡ next_of old slot = λ slot. ap (λ p. next_of p slot) more in
      let here : next_of old t.slot ≡ t.generation = sym (before t.slot) ∙ sym gives.fresh in
      record {
        fresh = omega (arith, here);
        put = record {
          here = given_is roomy new t v gives;
          others = λ other differs. given_others roomy new t v gives other differs ∙ same_finds old roomy more other;
          later = λ slot. elim (cases_eq slot t.slot) [
            | inl same ↦
                let after : next_of new slot ≡ t.generation + 1 = ap (next_of new) same ∙ ap (λ q. q.1) gives.puts.changed in
                let old_is : next_of old slot ≡ t.generation = ap (next_of old) same ∙ here in
                omega (arith, after, old_is)
            | inr other ↦ let same = ap (λ q. q.1) (gives.puts.others slot other) ∙ before slot in omega (arith, same)
          ];
        };
      }
