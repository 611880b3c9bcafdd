-- A few numbers in places of which there are four.
use Rattle.std.specs.Prelude.{◌≡◌, ℕ, zero, suc, ◌<◌, ◌≤◌, ◌^◌, All, List, [], ◌∷◌, take}

-- the numbers in so many places, and the greatest one in those behind them
abbrev pub padded : ℕ → List ℕ → List ℕ
padded zero numbers = []
padded (suc room) [] = 4294967295 ∷ padded room []
padded (suc room) (n ∷ ns) = n ∷ padded room ns

-- the first places hold numbers, those behind them the greatest one
pub record IsFew (places : List ℕ) (count : ℕ) : Type 0 where
  pub within : count ≤ 4
  pub are : places ≡ padded 4 (take count places)
  pub small : All (λ n. n < 2 ^ 32) (take count places)
