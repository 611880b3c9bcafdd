-- The test of early forms finds just those that may need a global which is not bound before them.
use Rattle.std.proofs.Common.{◌≡◌, ℕ, suc, ◌≤◌, Bool, true, ◌↔◌, List, [], ◌∷◌, get_or, arith, refl, ap, ◌∙◌, inl, inr}
use Rattle.std.specs.Prelude.{nat_le, Contains, IsTrue}
use Rattle.std.specs.List.{list_any}
use Rattle.std.proofs.lemmas.Bool.{or_cases, or_left, or_right}
use Rattle.std.proofs.lemmas.Bool.Decides.{leb_tells}
use Rattle.std.proofs.lemmas.List.Folds.{list_any_at}
use Rattle.resolved_forms.specs.declared.top_survey.FormSurvey.{FormSurvey}
use Rattle.early_globals.specs.Early.{IsEarly, some_unbound, reaches_unbound, is_early}

-- an element that passes a test
record Passing (p : ℕ → Bool) (xs : List ℕ) : Type 0 where
  one : ℕ
  is_there : Contains xs one
  passes : p one ≡ true

behind : (p : ℕ → Bool) (x : ℕ) (xs : List ℕ) → Passing p xs → Passing p (x ∷ xs)
behind p x xs h = record { one = h.one; is_there = (suc h.is_there.0, omega arith, h.is_there.2); passes = h.passes }

passing : (p : ℕ → Bool) (xs : List ℕ) → list_any p xs ≡ true → Passing p xs
passing p [] h = absurd (cc)
passing p (x ∷ xs) h = elim (or_cases (p x) (list_any p xs) h) as (λ _. Passing p (x ∷ xs)) [
  | inl here ↦ record { one = x; is_there = (0, omega arith, refl); passes = here }
  | inr there ↦ behind p x xs (passing p xs there)
]

passes_at : (p : ℕ → Bool) (xs : List ℕ) (x : ℕ) → Contains xs x → p x ≡ true → list_any p xs ≡ true
passes_at p xs x at is = list_any_at p xs at.0 x at.1 (ap p at.2 ∙ is)

le_tested : (a b : ℕ) → nat_le a b ≡ true → a ≤ b
le_tested a b h = elim (leb_tells a b) as (λ _. a ≤ b) [ inl low ↦ low.1 | inr high ↦ absurd (cc (h, high.0)) ]

le_test : (a b : ℕ) → a ≤ b → nat_le a b ≡ true
le_test a b h = elim (leb_tells a b) as (λ _. nat_le a b ≡ true) [ inl low ↦ low.0 | inr high ↦ absurd (omega (arith, high.1)) ]

found_early : (reached : List (List ℕ)) (form : FormSurvey) → is_early reached form ≡ true → IsEarly reached form
found_early reached form h =
    let before = form.before in
    let unbound = λ (global : ℕ). nat_le before global in
    elim (or_cases (some_unbound before form.uses.globals) (reaches_unbound reached before form.uses.units) h) as (λ _. IsEarly reached form) [
      | inl named ↦
          let it = passing unbound form.uses.globals named in
          (it.one, inl it.is_there, le_tested before it.one it.passes)
      | inr reaches ↦
          let unit = passing (λ (u : ℕ). some_unbound before (get_or reached u [])) form.uses.units reaches in
          let it = passing unbound (get_or reached unit.one []) unit.passes in
          (it.one, inr (unit.one, unit.is_there, it.is_there), le_tested before it.one it.passes)
    ]

early_found : (reached : List (List ℕ)) (form : FormSurvey) → IsEarly reached form → is_early reached form ≡ true
early_found reached form h =
    let before = form.before in
    let unbound = λ (global : ℕ). nat_le before global in
    let named = some_unbound before form.uses.globals in
    let reaches = reaches_unbound reached before form.uses.units in
    let late = le_test before h.0 h.2 in
    elim h.1 as (λ _. is_early reached form ≡ true) [
      | inl there ↦ or_left named reaches (passes_at unbound form.uses.globals h.0 there late)
      | inr unit ↦ or_right named reaches
          (passes_at (λ (u : ℕ). some_unbound before (get_or reached u [])) form.uses.units unit.0 unit.1 (passes_at unbound (get_or reached unit.0 []) h.0 unit.2 late))
    ]

pub early_is : (reached : List (List ℕ)) (form : FormSurvey) → IsTrue (is_early reached form) ↔ IsEarly reached form
early_is reached form = (found_early reached form, early_found reached form)
