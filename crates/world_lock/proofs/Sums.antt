-- Sums over a list of which one element is changed, and facts on each element.
use Rattle.std.proofs.Common.{◌≡◌, ◌≢◌, ℕ, zero, suc, ◌+◌, ◌≤◌, List, [], ◌∷◌, ◌++◌, set, ⊎_elim, refl, ap, sym, subst, arith}
use Rattle.std.specs.List.{sum_by}
use Rattle.std.proofs.lemmas.List.Sums.{sum_by-cons}
use mathlib.Core.Logic.{dite}
use native.Mathlib.Decide.{ℕ_discrete}
use mathlib.Core.Option.{some, some-injective, some-ne-none}
use lib.ListN.{get_elem?}
use Rattle.atomic_table.proofs.Lists.{at_set, at_snoc}

module _ {A : Type 0} where
  pub sum_by-set_at : (f : A → ℕ) (l : List A) (i : ℕ) (a b : A) → get_elem? l i ≡ some a → sum_by f (set l i b) + f a ≡ sum_by f l + f b
  sum_by-set_at f [] i a b e = absurd (some-ne-none a (sym e))
  sum_by-set_at f (x ∷ xs) zero a b e = let is : f x ≡ f a = ap f (some-injective x a e) in omega (arith, sum_by-cons f b xs, sum_by-cons f x xs)
  sum_by-set_at f (x ∷ xs) (suc i) a b e = omega (arith, sum_by-cons f x (set xs i b), sum_by-cons f x xs, sum_by-set_at f xs i a b e)

  -- one term is within the sum
  pub at-le-sum_by : (f : A → ℕ) (l : List A) (i : ℕ) (a : A) → get_elem? l i ≡ some a → f a ≤ sum_by f l
  at-le-sum_by f [] i a e = absurd (some-ne-none a (sym e))
  at-le-sum_by f (x ∷ xs) zero a e = let is : f x ≡ f a = ap f (some-injective x a e) in omega (arith, sum_by-cons f x xs)
  at-le-sum_by f (x ∷ xs) (suc i) a e = omega (arith, sum_by-cons f x xs, at-le-sum_by f xs i a e)

  -- so are two
  pub both-le-sum_by : (f : A → ℕ) (l : List A) (i j : ℕ) (a b : A) → get_elem? l i ≡ some a → get_elem? l j ≡ some b → i ≢ j → f a + f b ≤ sum_by f l
  both-le-sum_by f [] i j a b e g n = absurd (some-ne-none a (sym e))
  both-le-sum_by f (x ∷ xs) zero zero a b e g n = absurd (n refl)
  both-le-sum_by f (x ∷ xs) zero (suc j) a b e g n = let is : f x ≡ f a = ap f (some-injective x a e) in omega (arith, sum_by-cons f x xs, at-le-sum_by f xs j b g)
  both-le-sum_by f (x ∷ xs) (suc i) zero a b e g n = let is : f x ≡ f b = ap f (some-injective x b g) in omega (arith, sum_by-cons f x xs, at-le-sum_by f xs i a e)
  both-le-sum_by f (x ∷ xs) (suc i) (suc j) a b e g n = omega (arith, sum_by-cons f x xs, both-le-sum_by f xs i j a b e g (λ h. n (ap suc h)))

  -- where each term is 0 the sum is
  pub sum_by-nothing : (f : A → ℕ) (l : List A) → ((k : ℕ) (a : A) → get_elem? l k ≡ some a → f a ≡ 0) → sum_by f l ≡ 0
  sum_by-nothing f [] h = refl
  sum_by-nothing f (x ∷ xs) h = omega (arith, sum_by-cons f x xs, h 0 x refl, sum_by-nothing f xs (λ k a e. h (suc k) a e))

  -- where the sum is not 0 some term is not
  pub sum_by-something : (f : A → ℕ) (l : List A) → 1 ≤ sum_by f l → (k : ℕ) × (a : A) × (get_elem? l k ≡ some a) × (1 ≤ f a)
  sum_by-something f [] h = absurd (omega arith)
  sum_by-something f (x ∷ xs) h = dite (ℕ_discrete (f x) 0)
      (λ nothing. let rest = sum_by-something f xs (omega (arith, sum_by-cons f x xs, nothing)) in (suc rest.0, rest.1, rest.2, rest.3))
      (λ something. (0, x, refl, omega (arith, something)))

  module _ (P : A → Type 0) where
    -- what is true of each element, and of the one that is put in
    pub each_set : (l : List A) (i : ℕ) (b : A) → ((k : ℕ) (a : A) → get_elem? l k ≡ some a → P a) → P b → (k : ℕ) (a : A) → get_elem? (set l i b) k ≡ some a → P a
    each_set l i b h p k a e = ⊎_elim (λ t. subst P t.1 p) (λ t. h k a t.1) (at_set l i k b a e)

    -- and of the one that is put behind
    pub each_more : (l : List A) (b : A) → ((k : ℕ) (a : A) → get_elem? l k ≡ some a → P a) → P b → (k : ℕ) (a : A) → get_elem? (l ++ b ∷ []) k ≡ some a → P a
    each_more l b h p k a e = ⊎_elim (λ t. h k a t) (λ t. subst P t p) (at_snoc l b a k e)

    -- and of a list of one
    pub each_one : (b : A) → P b → (k : ℕ) (a : A) → get_elem? (b ∷ []) k ≡ some a → P a
    each_one b p zero a e = subst P (some-injective b a e) p
    each_one b p (suc k) a e = absurd (some-ne-none a (sym e))
