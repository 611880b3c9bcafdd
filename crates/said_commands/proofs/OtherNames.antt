-- A name that is not that one.
use Rattle.std.proofs.Common.{◌≡◌, [], ◌∷◌, Bool, true, false, ◌==◌, refl, sym, ap₂, true≢false}
use Rattle.std.specs.Str.{bytes_eq}
use Rattle.std.proofs.lemmas.Bool.{and_parts, eqb-true}
use Rattle.said_values.specs.Values.{Word}

same_bytes : (xs ys : Word) → bytes_eq xs ys ≡ true → xs ≡ ys
same_bytes [] [] same = refl
same_bytes [] (y ∷ ys) same = absurd (true≢false (sym same))
same_bytes (x ∷ xs) [] same = absurd (true≢false (sym same))
same_bytes (x ∷ xs) (y ∷ ys) same =
    let parts = and_parts (x == y) (bytes_eq xs ys) same in
    ap₂ (λ a b. a ∷ b) (eqb-true x y parts.0) (same_bytes xs ys parts.1)

-- a word that is not that one
pub other_name : (title name : Word) → (name ≡ title → ⊥) → bytes_eq title name ≡ false
other_name title name apart = go (bytes_eq title name) refl
  where
    go : (b : Bool) → bytes_eq title name ≡ b → b ≡ false
    go true same = absurd (apart (sym (same_bytes title name same)))
    go false same = refl
