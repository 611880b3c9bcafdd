-- There is one answer to what the units reach.
use Rattle.std.proofs.Common.{◌≡◌, ℕ, List, [], get_or, sym, ◌∙◌}
use Rattle.std.proofs.lemmas.List.{ext_get_or}
use Rattle.std.proofs.lemmas.List.Kept.{AllPairs-from_increasing}
use Rattle.resolved_forms.specs.declared.uses.Uses.{Uses}
use Rattle.resolved_forms.specs.Reach.{AreReached}
use Rattle.resolved_forms.proofs.Members.{same_rising}

pub reached_once : (uses : List Uses) (globals : ℕ) (xs ys : List (List ℕ)) → AreReached uses globals xs → AreReached uses globals ys → xs ≡ ys
reached_once uses globals xs ys a b =
    ext_get_or [] xs ys (a.as_many ∙ sym b.as_many) (λ unit within.
    same_rising (get_or xs unit []) (get_or ys unit []) (AllPairs-from_increasing (get_or xs unit []) (a.rise unit)) (AllPairs-from_increasing (get_or ys unit []) (b.rise unit))
    (λ global. (λ c. (b.are unit global).1 ((a.are unit global).0 c), λ c. (a.are unit global).1 ((b.are unit global).0 c))))
