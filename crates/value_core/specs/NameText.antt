-- How the text of a name is taken apart.
use Rattle.std.specs.Prelude.{◌≡◌, ℕ, ◌+◌, ◌-◌, ◌*◌, ◌<◌, ◌^◌, ◌==◌, Bool, List, [], ◌∷◌, ◌++◌, decimal}

abbrev pub is_dot : ℕ → Bool
is_dot b = b == 46

-- the number that digits write, read from the left
abbrev pub read_on : ℕ → List ℕ → ℕ
read_on n [] = n
read_on n (c ∷ cs) = read_on (n * 10 + (c - 48)) cs

-- the new numbers are the old ones and the one that the piece writes
pub record WritesNumber (old piece new : List ℕ) : Type 0 where
  pub number : ℕ
  pub small : number < 2 ^ 32
  pub written : decimal number ≡ piece
  pub pushed : new ≡ old ++ number ∷ []
