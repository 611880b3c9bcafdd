-- What is seen in maps over one another.
use Rattle.std.proofs.Common.{◌≡◌, ◌∙◌, List, ◌∷◌, Option, Some, None, refl, sym, ap}
use Rattle.std.specs.Option.{option_or}
use Rattle.txn_snapshot.specs.Views.{layered}
use Rattle.value_core.specs.Named.{Name, Named, Rises, named}
use Rattle.value_core.proofs.NamedLaws.{named-upon}

-- it stands in the uppermost map
pub seen_here : {X : Type 0} (name : Name) (all lower : List (Named X)) (upper : Named X) (x : X) → all ≡ upper ∷ lower → Rises upper → named name upper ≡ Some x → named name (layered all) ≡ Some x
seen_here name all lower upper x is rises here =
    ap (λ ms. named name (layered ms)) is ∙ named-upon name upper (layered lower) rises ∙ ap (λ o. option_or o (named name (layered lower))) here

-- it stands in none but those below it
pub seen_below : {X : Type 0} (name : Name) (all lower : List (Named X)) (upper : Named X) → all ≡ upper ∷ lower → Rises upper → named name upper ≡ None → named name (layered lower) ≡ named name (layered all)
seen_below name all lower upper is rises none =
    sym (ap (λ ms. named name (layered ms)) is ∙ named-upon name upper (layered lower) rises ∙ ap (λ o. option_or o (named name (layered lower))) none)
