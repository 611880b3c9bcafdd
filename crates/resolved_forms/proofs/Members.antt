-- Membership in lists to which one element or one list is written, and rising lists with the same members.
use Rattle.std.proofs.Common.{◌≡◌, ◌≢◌, ◌↔◌, ◌⊎◌, inl, inr, ℕ, zero, suc, ◌-◌, ◌<◌, Bool, true, false, if◌then◌else◌, Option, Some, None, List, [], ◌∷◌, ◌++◌, length, get_or, set, refl, sym, ap, ◌∙◌, subst, arith, length-append}
use Rattle.std.specs.Prelude.{Contains, nat_eq}
use Rattle.std.specs.List.{AllPairs, slice_get}
use Rattle.std.specs.Option.{option_eq}
use Rattle.std.proofs.lemmas.Bool.{eqb-true, eq-eqb}
use Rattle.std.proofs.lemmas.Bool.Decides.{eqb_tells}
use Rattle.std.proofs.lemmas.List.{get_or-set_same, get_or-set_other}
use Rattle.std.proofs.lemmas.List.Elements.{Contains-append_left, Contains-push, Contains-push_cases}
use Rattle.std.proofs.lemmas.Option.{get_or_from_slice_get, slice_get_within}
use Rattle.core_syntax.proofs.Appends.{slice_get-push}
use Rattle.resolved_forms.specs.Users.{ends_in, ending_in}

pub none_in : {X : Type 0} (x : X) → Contains [] x → ⊥
none_in x (k, lt, is) = omega arith

pub in_cons : {X : Type 0} (x y : X) (xs : List X) → Contains (x ∷ xs) y → (x ≡ y) ⊎ Contains xs y
in_cons x y xs (zero, lt, is) = inl is
in_cons x y xs (suc k, lt, is) = inr (k, omega arith, is)

pub in_head : {X : Type 0} (x : X) (xs : List X) → Contains (x ∷ xs) x
in_head x xs = (0, omega arith, refl)

pub in_tail : {X : Type 0} (x y : X) (xs : List X) → Contains xs y → Contains (x ∷ xs) y
in_tail x y xs (k, lt, is) = (suc k, omega arith, is)

-- a list that ends in a number has it
last_is : (o : Option ℕ) (n : ℕ) → option_eq nat_eq o (Some n) ≡ true → o ≡ Some n
last_is None n e = absurd (cc)
last_is (Some x) n e = ap Some (eqb-true x n e)

pub ends_in_push : (xs : List ℕ) (n : ℕ) → ends_in (xs ++ n ∷ []) n ≡ true
ends_in_push xs n =
    let last : length (xs ++ n ∷ []) - 1 ≡ length xs = omega (arith, length-append xs (n ∷ [])) in
    ap (λ k. option_eq nat_eq (slice_get (xs ++ n ∷ []) k) (Some n)) last ∙ ap (λ o. option_eq nat_eq o (Some n)) (slice_get-push xs n) ∙ eq-eqb n n refl

pub in_from_end : (xs : List ℕ) (n : ℕ) → ends_in xs n ≡ true → Contains xs n
in_from_end xs n e =
    let there = last_is (slice_get xs (length xs - 1)) n e in
    (length xs - 1, slice_get_within xs (length xs - 1) n there, get_or_from_slice_get xs (length xs - 1) n n there)

in_put : (b : Bool) (xs : List ℕ) (n m : ℕ) → Contains (if b then xs else xs ++ n ∷ []) m → Contains xs m ⊎ (m ≡ n)
in_put true xs n m c = inl c
in_put false xs n m c = elim (Contains-push_cases xs n m c) [ inl before ↦ inl before | inr is ↦ inr (sym is) ]

put_old : (b : Bool) (xs : List ℕ) (n m : ℕ) → Contains xs m → Contains (if b then xs else xs ++ n ∷ []) m
put_old true xs n m c = c
put_old false xs n m c = Contains-append_left xs (n ∷ []) m c

put_new : (b : Bool) (xs : List ℕ) (n : ℕ) → (b ≡ true → Contains xs n) → Contains (if b then xs else xs ++ n ∷ []) n
put_new true xs n there = there refl
put_new false xs n there = Contains-push xs n

pub in_ending : (xs : List ℕ) (n m : ℕ) → Contains (ending_in xs n) m → Contains xs m ⊎ (m ≡ n)
in_ending xs n m c = in_put (ends_in xs n) xs n m c

pub ending_old : (xs : List ℕ) (n m : ℕ) → Contains xs m → Contains (ending_in xs n) m
ending_old xs n m c = put_old (ends_in xs n) xs n m c

pub ending_new : (xs : List ℕ) (n : ℕ) → Contains (ending_in xs n) n
ending_new xs n = put_new (ends_in xs n) xs n (in_from_end xs n)

-- after a write the list at an index is the new one there, and the old one elsewhere
pub at_set : (lists : List (List ℕ)) (i : ℕ) (list : List ℕ) (j : ℕ) → i < length lists
    → ((j ≡ i) × (get_or (set lists i list) j [] ≡ list)) ⊎ ((j ≢ i) × (get_or (set lists i list) j [] ≡ get_or lists j []))
at_set lists i list j within =
    elim (eqb_tells j i) [
      | inl same ↦ inl (same.1, ap (λ k. get_or (set lists i list) k []) same.1 ∙ get_or-set_same lists i list [] within)
      | inr other ↦ inr (other.1, get_or-set_other lists i j list [] other.1)
    ]

-- rising lists with the same members are the same
above_head : (x : ℕ) (xs : List ℕ) → AllPairs (λ a b. a < b) (x ∷ xs) → (n : ℕ) → Contains xs n → x < n
above_head x xs rise n (k, lt, is) = subst (λ (m : ℕ). x < m) is (rise 0 (suc k) n (omega arith) (omega arith))

rest_same : (x : ℕ) (xs ys : List ℕ) → AllPairs (λ a b. a < b) (x ∷ xs) → ((n : ℕ) → Contains (x ∷ xs) n → Contains (x ∷ ys) n) → (n : ℕ) → Contains xs n → Contains ys n
rest_same x xs ys rise same n within =
    let above = above_head x xs rise n within in
    elim (in_cons x n ys (same n (in_tail x n xs within))) [ inl is ↦ absurd (omega arith) | inr there ↦ there ]

heads_same : (x y : ℕ) (xs ys : List ℕ) → AllPairs (λ a b. a < b) (x ∷ xs) → AllPairs (λ a b. a < b) (y ∷ ys) → ((n : ℕ) → Contains (x ∷ xs) n ↔ Contains (y ∷ ys) n) → x ≡ y
heads_same x y xs ys p q same =
    elim (in_cons y x ys ((same x).0 (in_head x xs))) [
      | inl is ↦ sym is
      | inr there ↦ elim (in_cons x y xs ((same y).1 (in_head y ys))) [
        | inl is ↦ is
        | inr back ↦ let a = above_head y ys q x there in let b = above_head x xs p y back in absurd (omega arith)
      ]
    ]

rising_tail : (x : ℕ) (xs : List ℕ) → AllPairs (λ a b. a < b) (x ∷ xs) → AllPairs (λ a b. a < b) xs
rising_tail x xs rise i j d lt within = rise (suc i) (suc j) d (omega arith) (omega arith)

pub same_rising : (xs ys : List ℕ) → AllPairs (λ a b. a < b) xs → AllPairs (λ a b. a < b) ys → ((n : ℕ) → Contains xs n ↔ Contains ys n) → xs ≡ ys
same_rising [] [] p q same = refl
same_rising [] (y ∷ ys) p q same = absurd (none_in y ((same y).1 (in_head y ys)))
same_rising (x ∷ xs) [] p q same = absurd (none_in x ((same x).0 (in_head x xs)))
same_rising (x ∷ xs) (y ∷ ys) p q same =
    let heads = heads_same x y xs ys p q same in
    let forth = rest_same x xs ys p (λ n c. subst (λ (h : ℕ). Contains (h ∷ ys) n) (sym heads) ((same n).0 c)) in
    let back = rest_same y ys xs q (λ n c. subst (λ (h : ℕ). Contains (h ∷ xs) n) heads ((same n).1 c)) in
    ap (λ h. h ∷ xs) heads ∙ ap (λ t. y ∷ t) (same_rising xs ys (rising_tail x xs p) (rising_tail y ys q) (λ n. (forth n, back n)))
