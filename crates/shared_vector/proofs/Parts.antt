-- The items from one place up to another.
use Rattle.std.proofs.Common.{◌≡◌, ◌∙◌, ℕ, ◌+◌, ◌-◌, ◌≤◌, List, [], ◌∷◌, ◌++◌, length-drop, take, ap, arith}
use Rattle.std.proofs.lemmas.List.{get_or-drop, take_more}
use Rattle.std.proofs.lemmas.Option.{get_or_from_slice_get, slice_get_within}
use Rattle.std.specs.Prelude.{Some, drop, slice_get, slice_index_or}

pub part_more : {X : Type 0} (l : List X) (start i : ℕ) (x : X) → start ≤ i → slice_get l i ≡ Some x → take (i + 1 - start) (drop start l) ≡ take (i - start) (drop start l) ++ x ∷ []
part_more l start i x ordered at =
    let k : ℕ = i - start in
    let within = slice_get_within l i x at in
    let long = length-drop start l in
    let more : i + 1 - start ≡ k + 1 = omega (arith, ordered) in
    let place : start + k ≡ i = omega (arith, ordered) in
    ap (λ n. take n (drop start l)) more ∙ take_more (drop start l) k x (omega (arith, ordered, within, long))
    ∙ ap (λ y. take k (drop start l) ++ y ∷ []) (get_or-drop start l k x ∙ ap (λ n. slice_index_or l n x) place ∙ get_or_from_slice_get l i x x at)
