-- The names in a value: those of its refs, its actors and its futures.
use Rattle.std.specs.Prelude.{ℕ, List, [], ◌∷◌, ◌++◌, All}
use Rattle.value_core.specs.declared.pair.Pair.{Pair}
use Rattle.value_core.specs.declared.value.Value.{Value}
use Rattle.value_core.specs.declared.value.Value.TheOpen as one
use Rattle.value_core.specs.declared.value.Value.TheFolds.{fold-Value}

-- a name of a ref, an actor or a future
pub data Held : Type 0 where
  OfRef : List ℕ → Held
  OfActor : List ℕ → Held
  OfFuture : List ℕ → Held

-- lists joined end to end
abbrev pub joined_names : List (List Held) → List Held
joined_names [] = []
joined_names (names ∷ more) = names ++ joined_names more

abbrev pub joined_pairs : List (Pair (List Held)) → List Held
joined_pairs [] = []
joined_pairs (p ∷ ps) = p.value ++ joined_pairs ps

-- one level of a value, with the names of each part in its place
abbrev pub names_step : one.Value-F (List Held) → List Held
names_step one.Nil = []
names_step (one.Bool b) = []
names_step (one.Int n) = []
names_step (one.Str s) = []
names_step (one.Kw s) = []
names_step (one.Vector parts) = joined_names parts
names_step (one.Map parts) = joined_pairs parts
names_step (one.Ref name) = OfRef name ∷ []
names_step (one.Actor name) = OfActor name ∷ []
names_step (one.Future name) = OfFuture name ∷ []

-- all names in a value, from left to right
abbrev pub names_of : Value → List Held
names_of = fold-Value (List Held) names_step

-- R holds of the name of a ref, A of that of an actor, F of that of a future
abbrev pub IsHeld : (R A F : List ℕ → Type 0) → Held → Type 0
IsHeld R A F (OfRef name) = R name
IsHeld R A F (OfActor name) = A name
IsHeld R A F (OfFuture name) = F name

-- R holds of the names of all refs in the value, A of those of all actors, F of those of all futures
abbrev pub Within : (R A F : List ℕ → Type 0) → Value → Type 0
Within R A F v = All (IsHeld R A F) (names_of v)
