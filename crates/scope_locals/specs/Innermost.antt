-- Which local is meant by a name: the innermost one with it.
use Rattle.std.specs.Prelude.{ℕ, suc, if◌then◌else◌, List, [], ◌∷◌, map, Option, None, Some}
use Rattle.std.specs.Option.{unwrap_or}
use Rattle.std.specs.Str.{bytes_eq}

abbrev pub deeper : Option ℕ → Option ℕ → Option ℕ
deeper (Some level) here = Some (suc level)
deeper None here = here

-- the level of the innermost local with the name; the outermost local has level 0
abbrev pub innermost : List (List ℕ) → List ℕ → Option ℕ
innermost [] name = None
innermost (local ∷ locals) name = deeper (innermost locals name) (if bytes_eq local name then Some 0 else None)

-- for each name the level of the innermost local with it
abbrev pub levels_of : List (List ℕ) → List (List ℕ) → List ℕ
levels_of locals names = map (λ name. unwrap_or (innermost locals name) 0) names
