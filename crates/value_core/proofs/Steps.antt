-- Steps of loops over the parts of a value.
use Rattle.std.proofs.Common.{◌≡◌, ℕ, zero, suc, ◌≤◌, List, [], ◌∷◌, length, take, refl, arith}
use Rattle.value_core.specs.declared.pair.Pair.{Pair}

-- two lists of one length that agree on their whole length are equal
pub same_all : {A : Type 0} (xs ys : List A) (i : ℕ) → length xs ≡ length ys → length xs ≤ i → take i xs ≡ take i ys → xs ≡ ys
same_all [] [] i l m e = refl
same_all [] (y ∷ ys) i l m e = absurd (omega arith)
same_all (x ∷ xs) [] i l m e = absurd (omega arith)
same_all (x ∷ xs) (y ∷ ys) zero l m e = absurd (omega arith)
same_all (x ∷ xs) (y ∷ ys) (suc i) l m e =
    let first : x ≡ y = cc in
    let rest : take i xs ≡ take i ys = cc in
    λ j. first j ∷ same_all xs ys i (omega arith) (omega arith) rest j

pub same_pair : {V : Type 0} (p q : Pair V) → p.key ≡ q.key → p.value ≡ q.value → p ≡ q
same_pair p q k v = λ i. record { key = k i; value = v i }
