-- An element of a list to which more are appended.
use Rattle.std.proofs.Common.{◌≡◌, ℕ, zero, suc, List, [], ◌∷◌, ◌++◌, length, ◌⊎◌, inl, inr, refl, sym, ap}
use Rattle.std.specs.Prelude.{Some}
use Rattle.std.specs.List.{slice_get}
use Rattle.std.proofs.lemmas.Option.{same_Some, none-some}

-- what is there stays
pub slice_get-append_left : {X : Type 0} (xs ys : List X) (k : ℕ) (x : X) → slice_get xs k ≡ Some x → slice_get (xs ++ ys) k ≡ Some x
slice_get-append_left [] ys k x found = absurd (none-some x found)
slice_get-append_left (y ∷ xs) ys zero x found = found
slice_get-append_left (y ∷ xs) ys (suc k) x found = slice_get-append_left xs ys k x found

-- what is pushed comes last
pub slice_get-push : {X : Type 0} (xs : List X) (y : X) → slice_get (xs ++ y ∷ []) (length xs) ≡ Some y
slice_get-push [] y = refl
slice_get-push (x ∷ xs) y = slice_get-push xs y

-- each element was there, or is the one that was pushed
pub slice_get-push_cases : {X : Type 0} (xs : List X) (y : X) (k : ℕ) (x : X) → slice_get (xs ++ y ∷ []) k ≡ Some x → (slice_get xs k ≡ Some x) ⊎ ((k ≡ length xs) × (x ≡ y))
slice_get-push_cases [] y zero x found = inr (refl, sym (same_Some y x found))
slice_get-push_cases [] y (suc k) x found = absurd (none-some x found)
slice_get-push_cases (z ∷ xs) y zero x found = inl found
slice_get-push_cases (z ∷ xs) y (suc k) x found =
    elim (slice_get-push_cases xs y k x found) [ inl there ↦ inl there | inr last ↦ inr (ap (λ n. suc n) last.0, last.1) ]
