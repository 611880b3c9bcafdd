-- What a unit of code reaches covers what it names.
use Rattle.std.proofs.Common.{◌≡◌, ◌⊎◌, inl, inr, ℕ, ◌<◌, ◌↔◌, List, [], ◌∷◌, fold, get_or, Some, refl, sym, subst}
use Rattle.std.specs.declared.cmp.Ordering.{Ordering}
use Rattle.std.specs.declared.cmp.Ordering.TheVariants.{Less, Equal, Greater}
use Rattle.std.specs.Ordering.{match_ordering, MatchOrdering, nat_cmp}
use Rattle.std.specs.BTreeSet.{insert_key}
use Rattle.std.specs.Prelude.{All, Contains}
use Rattle.std.specs.List.{slice_get}
use Rattle.std.proofs.lemmas.Cmp.{ranked}
use Rattle.std.proofs.lemmas.List.Elements.{All-contains}
use Rattle.resolved_forms.specs.declared.uses.Uses.{Uses}
use Rattle.resolved_forms.specs.Units.{rising}
use Rattle.resolved_forms.specs.Reach.{AreReached, direct, through}
use Rattle.resolved_forms.proofs.Members.{none_in, in_cons, in_head, in_tail}
use Rattle.program_plan.proofs.Setting.{Setting, Covers}

-- what is put into a list in order is there with all that was
choice_old : (o : Ordering) (k y x : ℕ) (ys more : List ℕ) → Contains (y ∷ ys) x → (Contains ys x → Contains more x) → Contains (match_ordering o (k ∷ y ∷ ys) (y ∷ ys) (y ∷ more)) x
choice_old Less k y x ys more there further = in_tail k x (y ∷ ys) there
choice_old Equal k y x ys more there further = there
choice_old Greater k y x ys more there further = elim (in_cons y x ys there) [
  | inl same ↦ subst (λ z. Contains (z ∷ more) x) (sym same) (in_head x more)
  | inr behind ↦ in_tail y x more (further behind)
]

insert_old : (k x : ℕ) (ys : List ℕ) → Contains ys x → Contains (insert_key nat_cmp ys k) x
insert_old k x [] there = absurd (none_in x there)
insert_old k x (y ∷ ys) there = choice_old (nat_cmp k y) k y x ys (insert_key nat_cmp ys k) there (λ behind. insert_old k x ys behind)

choice_new : (o : Ordering) (k y : ℕ) (ys more : List ℕ) → MatchOrdering o (k < y) (k ≡ y) (y < k) → Contains more k → Contains (match_ordering o (k ∷ y ∷ ys) (y ∷ ys) (y ∷ more)) k
choice_new Less k y ys more order further = in_head k (y ∷ ys)
choice_new Equal k y ys more order further = subst (λ z. Contains (y ∷ ys) z) (sym order) (in_head y ys)
choice_new Greater k y ys more order further = in_tail y k more further

insert_new : (k : ℕ) (ys : List ℕ) → Contains (insert_key nat_cmp ys k) k
insert_new k [] = in_head k []
insert_new k (y ∷ ys) = choice_new (nat_cmp k y) k y ys (insert_key nat_cmp ys k) (ranked k y (nat_cmp k y) refl) (insert_new k ys)

choice_from : (o : Ordering) (k y x : ℕ) (ys more : List ℕ) → (Contains more x → (x ≡ k) ⊎ Contains ys x) → Contains (match_ordering o (k ∷ y ∷ ys) (y ∷ ys) (y ∷ more)) x → (x ≡ k) ⊎ Contains (y ∷ ys) x
choice_from Less k y x ys more further there = elim (in_cons k x (y ∷ ys) there) [ inl same ↦ inl (sym same) | inr behind ↦ inr behind ]
choice_from Equal k y x ys more further there = inr there
choice_from Greater k y x ys more further there = elim (in_cons y x more there) [
  | inl same ↦ inr (subst (λ z. Contains (z ∷ ys) x) (sym same) (in_head x ys))
  | inr behind ↦ elim (further behind) [ inl same ↦ inl same | inr old ↦ inr (in_tail y x ys old) ]
]

insert_from : (k x : ℕ) (ys : List ℕ) → Contains (insert_key nat_cmp ys k) x → (x ≡ k) ⊎ Contains ys x
insert_from k x [] there = elim (in_cons k x [] there) [ inl same ↦ inl (sym same) | inr behind ↦ inr behind ]
insert_from k x (y ∷ ys) there = choice_from (nat_cmp k y) k y x ys (insert_key nat_cmp ys k) (λ behind. insert_from k x ys behind) there

fold_old : (numbers set : List ℕ) (x : ℕ) → Contains set x → Contains (fold (insert_key nat_cmp) set numbers) x
fold_old [] set x there = there
fold_old (n ∷ numbers) set x there = fold_old numbers (insert_key nat_cmp set n) x (insert_old n x set there)

fold_new : (numbers set : List ℕ) (x : ℕ) → Contains numbers x → Contains (fold (insert_key nat_cmp) set numbers) x
fold_new [] set x there = absurd (none_in x there)
fold_new (n ∷ numbers) set x there = elim (in_cons n x numbers there) [
  | inl same ↦ fold_old numbers (insert_key nat_cmp set n) x (subst (λ z. Contains (insert_key nat_cmp set n) z) same (insert_new n set))
  | inr behind ↦ fold_new numbers (insert_key nat_cmp set n) x behind
]

fold_from : (numbers set : List ℕ) (x : ℕ) → Contains (fold (insert_key nat_cmp) set numbers) x → Contains set x ⊎ Contains numbers x
fold_from [] set x there = inl there
fold_from (n ∷ numbers) set x there = elim (fold_from numbers (insert_key nat_cmp set n) x there) [
  | inl put ↦ elim (insert_from n x set put) [
    | inl same ↦ inr (subst (λ z. Contains (n ∷ numbers) z) (sym same) (in_head n numbers))
    | inr old ↦ inl old
  ]
  | inr behind ↦ inr (in_tail n x numbers behind)
]

from_none : (numbers : List ℕ) (x : ℕ) → Contains [] x ⊎ Contains numbers x → Contains numbers x
from_none numbers x (inl there) = absurd (none_in x there)
from_none numbers x (inr there) = there

-- the same numbers in rising order
pub in_rising : (numbers : List ℕ) (x : ℕ) → Contains (rising numbers) x ↔ Contains numbers x
in_rising numbers x = (λ there. from_none numbers x (fold_from numbers [] x there), λ there. fold_new numbers [] x there)

-- a unit covers what it names
pub covered : (w : Setting) (uses : List Uses) (unit : ℕ) (own : Uses) → AreReached uses w.globals w.reached → slice_get uses unit ≡ Some own → All (λ g. g < w.globals) own.globals
    → Covers w (get_or w.reached unit []) own
covered w uses unit own reached is named = record {
  named = λ g there. (reached.are unit g).1 (All-contains (λ n. n < w.globals) own.globals g named there, direct (own, is, there));
  through = λ callee g there reaches.
      let far = (reached.are callee g).0 reaches in
      (reached.are unit g).1 (far.0, through (own, is, there) far.1);
}
