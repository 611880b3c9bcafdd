-- What depth and "holds a future" are at a vector and a map.
use Rattle.std.proofs.Common.{◌≡◌, ℕ, ◌+◌, Bool, ◌||◌, List, [], ◌∷◌, map, refl, sym, ap, ◌∙◌, rules}
use Rattle.std.specs.List.{list_any}
use Rattle.value_core.specs.declared.pair.Pair.{Pair}
use Rattle.value_core.specs.declared.value.Value.{Value, the_lemmas}
use Rattle.value_core.specs.declared.value.Value.TheVariants.{Vector, Map, rolls-Vector, rolls-Map}
use Rattle.value_core.specs.declared.value.Value.TheOpen as one
use Rattle.value_core.specs.declared.value.Value.TheFolds.{fold-roll-Value}
use Rattle.value_core.specs.Depth.{depth_of, depth_step, deepest}
use Rattle.value_core.specs.Futures.{holds_future, future_step}

values_of-map : {A B : Type 0} (h : A → B) (ps : List (Pair A)) → map (λ (q : Pair B). q.value) (map (λ (p : Pair A). record { key = p.key; value = h p.value }) ps) ≡ map (λ (p : Pair A). h p.value) ps
values_of-map h [] = refl
values_of-map h (p ∷ ps) = ap (λ l. h p.value ∷ l) (values_of-map h ps)

list_any-map : {A : Type 0} (h : A → Bool) (xs : List A) → list_any (λ b. b) (map h xs) ≡ list_any h xs
list_any-map h [] = refl
list_any-map h (x ∷ xs) = ap (λ b. h x || b) (list_any-map h xs)

list_any-map_values : {A : Type 0} (h : A → Bool) (ps : List (Pair A)) → list_any (λ (q : Pair Bool). q.value) (map (λ (p : Pair A). record { key = p.key; value = h p.value }) ps) ≡ list_any (λ (p : Pair A). h p.value) ps
list_any-map_values h [] = refl
list_any-map_values h (p ∷ ps) = ap (λ b. h p.value || b) (list_any-map_values h ps)

pub depth_of-Vector : (vs : List Value) → depth_of (Vector vs) ≡ deepest (map depth_of vs) + 1
depth_of-Vector vs = search (rules, the_lemmas)

pub depth_of-Map : (ps : List (Pair Value)) → depth_of (Map ps) ≡ deepest (map (λ (p : Pair Value). depth_of p.value) ps) + 1
depth_of-Map ps = ap depth_of (sym (rolls-Map ps)) ∙ fold-roll-Value ℕ depth_step (one.Map ps) ∙ ap (λ l. deepest l + 1) (values_of-map depth_of ps)

pub holds_future-Vector : (vs : List Value) → holds_future (Vector vs) ≡ list_any holds_future vs
holds_future-Vector vs = ap holds_future (sym (rolls-Vector vs)) ∙ fold-roll-Value Bool future_step (one.Vector vs) ∙ list_any-map holds_future vs

pub holds_future-Map : (ps : List (Pair Value)) → holds_future (Map ps) ≡ list_any (λ (p : Pair Value). holds_future p.value) ps
holds_future-Map ps = ap holds_future (sym (rolls-Map ps)) ∙ fold-roll-Value Bool future_step (one.Map ps) ∙ list_any-map_values holds_future ps

pub ruleset value_folds = (depth_of-Vector, depth_of-Map, holds_future-Vector, holds_future-Map)
