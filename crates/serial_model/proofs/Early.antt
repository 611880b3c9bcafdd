-- Names that are early: at the first place in which they differ from another name they have the smaller number.
use Rattle.std.proofs.Common.{◌≡◌, ◌∙◌, ◌⊎◌, inl, inr, ℕ, suc, ◌<◌, List, [], ◌∷◌, ◌++◌, length, length-append, refl, sym, ap, arith}
use Rattle.std.specs.declared.cmp.Ordering.TheVariants.{Less, Equal}
use Rattle.std.specs.Ordering.{nat_cmp, ordering_then}
use Rattle.std.proofs.lemmas.Bool.Decides.{nat_tests}
use Rattle.value_core.specs.Name.{after_cmp}
use Rattle.value_core.specs.Named.{Name, made_by}

-- both names have the place in which they differ first, and the first name has the smaller number there
abbrev pub IsEarlier : Name → Name → Type 0
IsEarlier [] t = ⊥
IsEarlier (x ∷ f) [] = ⊥
IsEarlier (x ∷ f) (y ∷ t) = (x < y) ⊎ ((x ≡ y) × IsEarlier f t)

pub earlier-trans : (f g t : Name) → IsEarlier f g → IsEarlier g t → IsEarlier f t
earlier-trans [] g t before after = before
earlier-trans (x ∷ f) [] t before after = absurd before
earlier-trans (x ∷ f) (y ∷ g) [] before after = after
earlier-trans (x ∷ f) (y ∷ g) (z ∷ t) (inl less) (inl more) = inl (omega arith)
earlier-trans (x ∷ f) (y ∷ g) (z ∷ t) (inl less) (inr same) = let e = same.0 in inl (omega arith)
earlier-trans (x ∷ f) (y ∷ g) (z ∷ t) (inr same) (inl more) = let e = same.0 in inl (omega arith)
earlier-trans (x ∷ f) (y ∷ g) (z ∷ t) (inr same) (inr also) = inr (same.0 ∙ also.0, earlier-trans f g t same.1 also.1)

-- what is early for a name is early for all below it
pub earlier-below : (f t r : Name) → IsEarlier f t → IsEarlier f (t ++ r)
earlier-below [] t r early = early
earlier-below (x ∷ f) [] r early = absurd early
earlier-below (x ∷ f) (y ∷ t) r (inl less) = inl less
earlier-below (x ∷ f) (y ∷ t) r (inr same) = inr (same.0, earlier-below f t r same.1)

-- all below an early name is early
pub below-earlier : (f q t : Name) → IsEarlier f t → IsEarlier (f ++ q) t
below-earlier [] q t early = absurd early
below-earlier (x ∷ f) q [] early = early
below-earlier (x ∷ f) q (y ∷ t) (inl less) = inl less
below-earlier (x ∷ f) q (y ∷ t) (inr same) = inr (same.0, below-earlier f q t same.1)

-- what is early for a thing that a unit makes is early for the next one
pub earlier-next : (f p : Name) (k : ℕ) → IsEarlier f (made_by p k) → IsEarlier f (made_by p (suc k))
earlier-next [] p k early = early
earlier-next (x ∷ f) [] k (inl less) = inl (omega arith)
earlier-next (x ∷ []) [] k (inr same) = absurd same.1
earlier-next (x ∷ y ∷ f) [] k (inr same) = absurd same.1
earlier-next (x ∷ f) (y ∷ p) k (inl less) = inl less
earlier-next (x ∷ f) (y ∷ p) k (inr same) = inr (same.0, earlier-next f p k same.1)

-- of two things that a unit makes the first one is early
pub earlier-made : (p : Name) (j k : ℕ) → j < k → IsEarlier (made_by p j) (made_by p k)
earlier-made [] j k less = inl less
earlier-made (x ∷ p) j k less = inr (refl, earlier-made p j k less)

-- what a joined unit knows is known
pub earlier-joined : (g f t : Name) (k : ℕ) → IsEarlier g (made_by f k) → IsEarlier f t → IsEarlier g t
earlier-joined g f t k inner outer = earlier-trans g (made_by f k) t inner (below-earlier f (k ∷ []) t outer)

-- what is early for a thing that a unit makes is before the unit in after-order
pub earlier-first : (f p : Name) (k : ℕ) → IsEarlier f (made_by p k) → after_cmp f p ≡ Less
earlier-first [] p k early = absurd early
earlier-first (x ∷ f) [] k early = refl
earlier-first (x ∷ f) (y ∷ p) k (inl less) = ap (λ o. ordering_then o (after_cmp f p)) (smaller x y less)
  where
    smaller : (x y : ℕ) → x < y → nat_cmp x y ≡ Less
    smaller x y less = grind (arith, nat_tests)
earlier-first (x ∷ f) (y ∷ p) k (inr same) = ap (λ o. ordering_then o (after_cmp f p)) (equal x y same.0) ∙ earlier-first f p k same.1
  where
    equal : (x y : ℕ) → x ≡ y → nat_cmp x y ≡ Equal
    equal x y same = grind (arith, nat_tests)

-- a name is none of the names below it
pub not-below-itself : (p : Name) (k : ℕ) (q : List ℕ) → ¬ (p ≡ p ++ k ∷ q)
not-below-itself p k q same = let lengths = ap length same in omega (arith, length-append p (k ∷ q))

-- where one name stands to another, when something is below both
pub data Branch (p : Name) (k : ℕ) (x : Name) (j : ℕ) : Type 0 where
  Here : p ≡ x → k ≡ j → Branch p k x j
  Under : (r : List ℕ) → p ≡ x ++ j ∷ r → Branch p k x j
  Above : (r : List ℕ) → x ≡ p ++ k ∷ r → Branch p k x j

pub branch : (p : Name) (k : ℕ) (a : List ℕ) (x : Name) (j : ℕ) (b : List ℕ) → p ++ k ∷ a ≡ x ++ j ∷ b → Branch p k x j
branch [] k a [] j b same = Here refl (cc)
branch [] k a (y ∷ x) j b same = let first : y ≡ k = cc in Above x (ap (λ n. n ∷ x) first)
branch (z ∷ p) k a [] j b same = let first : z ≡ j = cc in Under p (ap (λ n. n ∷ p) first)
branch (z ∷ p) k a (y ∷ x) j b same =
    let first : z ≡ y = cc in
    let rest : p ++ k ∷ a ≡ x ++ j ∷ b = cc in
    on (branch p k a x j b rest) first
  where
    on : Branch p k x j → z ≡ y → Branch (z ∷ p) k (y ∷ x) j
    on (Here same number) first = Here (λ i. first i ∷ same i) number
    on (Under r same) first = Under r (λ i. first i ∷ same i)
    on (Above r same) first = let turned = sym first in Above r (λ i. turned i ∷ same i)
