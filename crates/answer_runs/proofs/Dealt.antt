-- What is dealt out to lanes is told from the lanes, and tells them.
use Rattle.std.proofs.Common.{◌≡◌, ◌∙◌, ℕ, zero, suc, ◌+◌, ◌-◌, List, [], ◌∷◌, ◌++◌, length, reverse, refl, sym, ap, subst, arith}
use Rattle.std.proofs.lemmas.List.{length-append, reverse-reverse}
use Rattle.answer_runs.specs.Dealt.{woven, IsDealt, empty_lanes, opened, IsPassedOn, many_lanes, AreLanes, AreKept}

module _ {X : Type 0} where
  heads : (x y : X) (xs ys : List X) → x ∷ xs ≡ y ∷ ys → x ≡ y
  heads x y xs ys e = cc

  tails : (x y : X) (xs ys : List X) → x ∷ xs ≡ y ∷ ys → xs ≡ ys
  tails x y xs ys e = cc

  same-front : (xs ys : List X) (x y : X) → xs ++ x ∷ [] ≡ ys ++ y ∷ [] → length xs ≡ length ys → (xs ≡ ys) × (x ≡ y)
  same-front [] [] x y e long = (refl, heads x y [] [] e)
  same-front [] (b ∷ ys) x y e long = absurd (omega (arith, long))
  same-front (a ∷ xs) [] x y e long = absurd (omega (arith, long))
  same-front (a ∷ xs) (b ∷ ys) x y e long =
      let rest = same-front xs ys x y (tails a b _ _ e) (omega (arith, long)) in
      (ap (λ l. a ∷ l) rest.0 ∙ ap (λ h. h ∷ ys) (heads a b _ _ e), rest.1)

pub empty-dealt : (X : Type 0) (n : ℕ) → IsDealt 0 (empty_lanes {X = X} n)
empty-dealt X zero = tt
empty-dealt X (suc n) = (refl, empty-dealt X n)

module _ {X : Type 0} where
  pub length-woven : (n : ℕ) (lanes : List (List X)) → IsDealt n lanes → length (woven n lanes) ≡ n
  length-woven zero lanes dealt = refl
  length-woven (suc n) [] dealt = absurd dealt
  length-woven (suc n) ([] ∷ lanes) dealt = absurd dealt
  length-woven (suc n) ((x ∷ lane) ∷ lanes) dealt = ap suc (length-woven n (lanes ++ lane ∷ []) dealt)

  both-empty : (left right : List (List X)) → length left ≡ length right → IsDealt 0 left → IsDealt 0 right → left ≡ right
  both-empty [] [] long dealt also = refl
  both-empty [] (r ∷ right) long dealt also = absurd (omega (arith, long))
  both-empty (l ∷ left) [] long dealt also = absurd (omega (arith, long))
  both-empty (l ∷ left) (r ∷ right) long dealt also =
      ap (λ h. h ∷ left) (dealt.0 ∙ sym also.0) ∙ ap (λ t. r ∷ t) (both-empty left right (omega (arith, long)) dealt.1 also.1)

  -- lanes of the same number to which the same was dealt out are the same
  pub same-lanes : (n : ℕ) (left right : List (List X)) → length left ≡ length right → IsDealt n left → IsDealt n right → woven n left ≡ woven n right → left ≡ right
  same-lanes zero left right long dealt also e = both-empty left right long dealt also
  same-lanes (suc n) [] right long dealt also e = absurd dealt
  same-lanes (suc n) ([] ∷ left) right long dealt also e = absurd dealt
  same-lanes (suc n) ((x ∷ l) ∷ left) [] long dealt also e = absurd also
  same-lanes (suc n) ((x ∷ l) ∷ left) ([] ∷ right) long dealt also e = absurd also
  same-lanes (suc n) ((x ∷ l) ∷ left) ((y ∷ r) ∷ right) long dealt also e =
      let below : length left ≡ length right = omega (arith, long) in
      let as_long : length (left ++ l ∷ []) ≡ length (right ++ r ∷ []) = length-append left (l ∷ []) ∙ ap (λ k. k + 1) below ∙ sym (length-append right (r ∷ [])) in
      let rest = same-front left right l r (same-lanes n (left ++ l ∷ []) (right ++ r ∷ []) as_long dealt also (tails x y _ _ e)) below in
      ap (λ h. (h ∷ l) ∷ left) (heads x y _ _ e) ∙ ap (λ t. (y ∷ t) ∷ left) rest.1 ∙ ap (λ t. (y ∷ r) ∷ t) rest.0

  opened-same : (n : ℕ) (lanes : List (List X)) → AreLanes n lanes → IsDealt n (opened lanes) × (woven n (opened lanes) ≡ woven n lanes) × (length (opened lanes) ≡ 12)
  opened-same zero [] are = (empty-dealt X 12, refl, refl)
  opened-same (suc n) [] are = absurd are.dealt
  opened-same zero (lane ∷ lanes) are = absurd (omega (arith, are.many))
  opened-same (suc n) (lane ∷ lanes) are = (are.dealt, refl, are.many)

  -- one item more is dealt out
  pub passed-on : (x : X) (n : ℕ) (old new : List (List X)) → AreLanes n old → IsPassedOn x (opened old) new → AreLanes (suc n) new × (woven (suc n) new ≡ x ∷ woven n old)
  passed-on x n old new are (front, last, is, made) =
      let open_ = opened-same n old are in
      let long : length front + 1 ≡ 12 = sym (length-append front (last ∷ [])) ∙ ap length (sym is) ∙ open_.2 in (
        record {
          dealt = subst (IsDealt (suc n)) (sym made) (subst (IsDealt n) is open_.0);
          many = ap length made ∙ (omega (arith, long));
        },
        ap (woven (suc n)) made ∙ ap (λ l. x ∷ woven n l) (sym is) ∙ ap (λ l. x ∷ l) open_.1,
      )

pub empty-more : (X : Type 0) (n : ℕ) → empty_lanes {X = X} n ++ [] ∷ [] ≡ empty_lanes {X = X} (suc n)
empty-more X zero = refl
empty-more X (suc n) = ap (λ l. [] ∷ l) (empty-more X n)

module _ {X : Type 0} where
  same-parts : (xs ys fs gs : List X) → length xs ≡ length ys → xs ++ fs ≡ ys ++ gs → (xs ≡ ys) × (fs ≡ gs)
  same-parts [] [] fs gs long e = (refl, e)
  same-parts [] (y ∷ ys) fs gs long e = absurd (omega (arith, long))
  same-parts (x ∷ xs) [] fs gs long e = absurd (omega (arith, long))
  same-parts (x ∷ xs) (y ∷ ys) fs gs long e =
      let rest = same-parts xs ys fs gs (omega (arith, long)) (tails x y _ _ e) in
      (ap (λ h. h ∷ xs) (heads x y _ _ e) ∙ ap (λ t. y ∷ t) rest.0, rest.1)

  length-kept : (n : ℕ) (first : List X) (lanes : List (List X)) → AreKept n first lanes → length (woven (n - 24) lanes ++ first) ≡ n
  length-kept n first lanes kept =
      let more : length (woven (n - 24) lanes) ≡ n - 24 = length-woven (n - 24) lanes kept.others.dealt in
      let both : length (woven (n - 24) lanes ++ first) ≡ length (woven (n - 24) lanes) + length first = length-append (woven (n - 24) lanes) first in
      omega (arith, more, both, kept.all)

  -- the list tells how many items there are, the first ones and the lanes
  pub same-kept : (n m : ℕ) (first other : List X) (left right : List (List X)) → AreKept n first left → AreKept m other right
      → reverse (woven (n - 24) left ++ first) ≡ reverse (woven (m - 24) right ++ other) → (n ≡ m) × (first ≡ other) × (left ≡ right)
  same-kept n m first other left right one two e =
      let same : woven (n - 24) left ++ first ≡ woven (m - 24) right ++ other = sym (reverse-reverse (woven (n - 24) left ++ first)) ∙ ap reverse e ∙ reverse-reverse (woven (m - 24) right ++ other) in
      let counts : n ≡ m = sym (length-kept n first left one) ∙ ap length same ∙ length-kept m other right two in
      let dealt : n - 24 ≡ m - 24 = ap (λ k. k - 24) counts in
      let long : length (woven (n - 24) left) ≡ length (woven (m - 24) right) =
      length-woven (n - 24) left one.others.dealt ∙ dealt ∙ sym (length-woven (m - 24) right two.others.dealt) in
      let parts = same-parts (woven (n - 24) left) (woven (m - 24) right) first other long same in (
        counts,
        parts.1,
        same-lanes (n - 24) left right (one.others.many ∙ ap many_lanes dealt ∙ sym two.others.many) one.others.dealt
            (subst (λ k. IsDealt k right) (sym dealt) two.others.dealt) (parts.0 ∙ ap (λ k. woven k right) (sym dealt)),
      )
