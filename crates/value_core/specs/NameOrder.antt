-- After-order is a total order, and names tie in it as an equivalence.
use Rattle.std.specs.Prelude.{◌≡◌, ℕ, List, [], ◌∷◌}
use mathlib.Core.Path.{refl, sym, ap, subst}
use Rattle.std.specs.declared.cmp.Ordering.{Ordering}
use Rattle.std.specs.Ordering.{nat_cmp, ordering_then, flip_args, eq_by_cmp}
use Rattle.std.specs.Cmp.{IsEquivalence, IsTotalOrder, eq_by_cmp_equiv, nat_cmp_total, back_total}
use Rattle.std.specs.Cmp.Lexicographic.{slice_cmp, lists_total}
use Rattle.value_core.specs.Name.{after_cmp}

-- it is the order of lists, by the greater number first and turned round
pub after_cmp_is : (x y : List ℕ) → after_cmp x y ≡ flip_args (slice_cmp (flip_args nat_cmp)) x y
after_cmp_is [] [] = refl
after_cmp_is [] (y ∷ ys) = refl
after_cmp_is (x ∷ xs) [] = refl
after_cmp_is (x ∷ xs) (y ∷ ys) = ap (ordering_then (nat_cmp x y)) (after_cmp_is xs ys)

same_function : after_cmp ≡ flip_args (slice_cmp (flip_args nat_cmp))
same_function = λ i x y. after_cmp_is x y i

pub after_cmp_total : IsTotalOrder after_cmp
after_cmp_total = subst (λ (R : List ℕ → List ℕ → Ordering). IsTotalOrder R) (sym same_function) (back_total (lists_total (back_total nat_cmp_total)))

pub same_name_equiv : IsEquivalence (eq_by_cmp after_cmp)
same_name_equiv = eq_by_cmp_equiv after_cmp_total
