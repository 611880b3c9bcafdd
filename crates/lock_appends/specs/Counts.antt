-- How often numbers stand in a list.
use Rattle.std.specs.Prelude.{◌≡◌, ℕ, ◌*◌, ◌==◌, List, [], ◌∷◌, length}
use Rattle.std.specs.List.{count_by}

abbrev pub count_of : ℕ → List ℕ → ℕ
count_of n xs = count_by (λ x. x == n) xs

-- each of the numbers stands so often in the list
abbrev pub HasEach : List ℕ → ℕ → List ℕ → Type 0
HasEach [] times xs = Unit {0}
HasEach (n ∷ ns) times xs = (count_of n xs ≡ times) × HasEach ns times xs

-- and nothing else stands there
abbrev pub HasExactly : List ℕ → ℕ → List ℕ → Type 0
HasExactly ns times xs = HasEach ns times xs × (length xs ≡ length ns * times)
