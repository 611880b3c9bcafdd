-- A number is written as a name of one part.
use Rattle.std.proofs.Common.{◌≡◌, ◌≢◌, ℕ, ◌<◌, ◌^◌, List, [], ◌∷◌, subst, arith}
use Rattle.std.proofs.lemmas.List.Elements.{All-cons, All-nil}
use Rattle.std.specs.Fmt.{decimal}
use Rattle.value_core.specs.Name.{IsTextOf}
use Rattle.value_core.proofs.Names.{text_once}
use Rattle.trace_text.specs.Lines.{IsNumberText}

pub one_part : (n : ℕ) (word : List ℕ) → n < 2 ^ 32 → decimal n ≡ word → IsTextOf (n ∷ []) word
one_part n word small e = record { not_empty = omega arith; in_range = All-cons (λ n. n < 2 ^ 32) n [] small (All-nil (λ n. n < 2 ^ 32)); spelled = e }

-- the number of a name of one part
pub the_number : (n : ℕ) (name word : List ℕ) → IsTextOf name word → name ≡ n ∷ [] → IsNumberText n word
the_number n name word is e = let one : IsTextOf (n ∷ []) word = subst (λ ns. IsTextOf ns word) e is in let small = one.in_range 0 0 (omega arith) in record { small = small; spelled = one.spelled }

-- a word that writes a name of other than one part writes no number
pub no_number : (name word : List ℕ) → IsTextOf name word → ((n : ℕ) → name ≢ n ∷ []) → (n : ℕ) → ¬ (IsNumberText n word)
no_number name word is other n number = other n (text_once name (n ∷ []) word is (one_part n word number.small number.spelled))

-- a word that writes no name writes no number
pub no_name_no_number : (word : List ℕ) → ((name : List ℕ) → ¬ (IsTextOf name word)) → (n : ℕ) → ¬ (IsNumberText n word)
no_name_no_number word none n number = none (n ∷ []) (one_part n word number.small number.spelled)
