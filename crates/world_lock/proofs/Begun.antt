-- Lists that begin others.
use Rattle.std.proofs.Common.{◌≡◌, List, [], ◌∷◌, ◌++◌, ◌⊎◌, inl, inr, ⊎_elim, refl, ap, sym, ◌∙◌, append_assoc}
use mathlib.Core.List.{IsPrefix}

module _ {A : Type 0} where
  -- each list begins with itself
  pub prefix_self : (xs : List A) → IsPrefix xs xs
  prefix_self [] = ([], refl)
  prefix_self (x ∷ xs) = let r = prefix_self xs in (r.0, ap {B = List A} (λ ys. x ∷ ys) r.1)

  pub prefix_trans : (xs ys zs : List A) → IsPrefix xs ys → IsPrefix ys zs → IsPrefix xs zs
  prefix_trans xs ys zs p q = (p.0 ++ q.0, sym (append_assoc xs p.0 q.0) ∙ (ap (λ (w : List A). w ++ q.0) p.1 ∙ q.1))

  -- of two beginnings of one list one begins the other
  pub prefix_either : (xs ys zs : List A) → IsPrefix xs zs → IsPrefix ys zs → IsPrefix xs ys ⊎ IsPrefix ys xs
  prefix_either [] ys zs p q = inl (ys, refl)
  prefix_either (x ∷ xs) [] zs p q = inr (x ∷ xs, refl)
  prefix_either (x ∷ xs) (y ∷ ys) [] p q = absurd (cc (p.1))
  prefix_either (x ∷ xs) (y ∷ ys) (z ∷ zs) p q =
      let heads : x ≡ y = cc (p.1, q.1) in
      let rest = prefix_either xs ys zs (p.0, cc (p.1)) (q.0, cc (q.1)) in
      ⊎_elim (λ t. inl (t.0, cc (heads, t.1))) (λ t. inr (t.0, cc (heads, t.1))) rest

-- the longer of two beginnings of one list, with what it is
pub record Longer {A : Type 0} (xs ys zs : List A) : Type 0 where
  pub all : List A
  pub one_of : (all ≡ xs) ⊎ (all ≡ ys)
  pub first : IsPrefix xs all
  pub second : IsPrefix ys all
  pub begins : IsPrefix all zs

pub longer_of : {A : Type 0} (xs ys zs : List A) → IsPrefix xs zs → IsPrefix ys zs → Longer xs ys zs
longer_of xs ys zs p q = ⊎_elim
    (λ t. record { all = ys; one_of = inr refl; first = t; second = prefix_self ys; begins = q })
    (λ t. record { all = xs; one_of = inl refl; first = prefix_self xs; second = t; begins = p })
    (prefix_either xs ys zs p q)
