-- The text of a map.
use Rattle.std.proofs.Common.{◌≡◌, ℕ, List, [], ◌∷◌, ◌++◌, map, refl, sym, ap, ◌∙◌}
use Rattle.std.specs.Prelude.{codes}
use Rattle.value_core.specs.declared.pair.Pair.{Pair}
use Rattle.value_core.specs.declared.value.Value.{Value}
use Rattle.value_core.specs.declared.value.Value.TheVariants.{Map, rolls-Map}
use Rattle.value_core.specs.declared.value.Value.TheOpen as one
use Rattle.value_core.specs.declared.value.Value.TheFolds.{fold-roll-Value}
use Rattle.value_core.specs.declared.style.Style.{Style}
use Rattle.value_core.specs.Texts.{joined, pair_text, key_text, value_text, value_step}

pairs_text : (style : Style) (ps : List (Pair Value)) → map (pair_text style) (map (λ (p : Pair Value). record { key = p.key; value = value_text style p.value }) ps) ≡ map (λ (p : Pair Value). key_text style p.key ++ codes " " ++ value_text style p.value) ps
pairs_text style [] = refl
pairs_text style (p ∷ ps) = ap (λ l. pair_text style (record { key = p.key; value = value_text style p.value }) ∷ l) (pairs_text style ps)

pub value_text_map : (style : Style) (ps : List (Pair Value)) → value_text style (Map ps) ≡ codes "{" ++ joined (codes ", ") (map (λ (p : Pair Value). key_text style p.key ++ codes " " ++ value_text style p.value) ps) ++ codes "}"
value_text_map style ps =
    ap (value_text style) (sym (rolls-Map ps)) ∙ fold-roll-Value (List ℕ) (value_step style) (one.Map ps) ∙ ap (λ l. codes "{" ++ joined (codes ", ") l ++ codes "}") (pairs_text style ps)
