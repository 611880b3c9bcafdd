-- Pieces and what stands behind them hold what the list of their items holds, in its order.
use mathlib.Core.Path.{◌≡◌, refl, sym, ap, ◌∙◌, subst}
use mathlib.Core.List.{List, [], ◌∷◌, ◌++◌, map, map-append}
use mathlib.Core.Former.{Former, none_left, one_more, this, pair, list}
use native.Mathlib.Nat.{ℕ_set}
use native.Mathlib.Bridge.{le_prop}
use Prim.Native.Nat.{ℕ, ◌≤◌}
use lib.ListN.{length-map}
use denote.Model.Placed.{Held, held}
use Rattle.shared_vector.specs.Pieces.{AreFull, ArePieces, joined}

abbrev pub pieces : Former {0}
pieces = pair (list (list this)) (list this)

-- ---- what they hold
module _ {X : Type 0} where
  abbrev row : List X → Held X → Held X
  row xs behind = ((list this).count ((list this).shape X xs) behind.0, (list this).put X xs behind.0 behind.1)

  abbrev rows : List (List X) → Held X → Held X
  rows ps behind = ((list (list this)).count ((list (list this)).shape X ps) behind.0, (list (list this)).put X ps behind.0 behind.1)

  row-append : (xs ys : List X) (behind : Held X) → row (xs ++ ys) behind ≡ row xs (row ys behind)
  row-append [] ys behind = refl
  row-append (x ∷ xs) ys behind = ap {B = Held X} (λ (h : Held X). (one_more h.0, (x, h.1))) (row-append xs ys behind)

  row-joined : (ps : List (List X)) (behind : Held X) → row (joined ps) behind ≡ rows ps behind
  row-joined [] behind = refl
  row-joined (p ∷ ps) behind = row-append p (joined ps) behind ∙ ap (row p) (row-joined ps behind)

  pub keeps : (ps : List (List X)) (rest : List X) → held (list this) X (joined ps ++ rest) ≡ held pieces X (ps, rest)
  keeps ps rest = row-append (joined ps) rest (none_left, tt) ∙ row-joined ps (row rest (none_left, tt))

-- ---- each item mapped
module _ {X Y : Type 0} (h : X → Y) where
  map-joined : (ps : List (List X)) → joined (map (map h) ps) ≡ map h (joined ps)
  map-joined [] = refl
  map-joined (p ∷ ps) = ap (λ l. map h p ++ l) (map-joined ps) ∙ sym (map-append h p (joined ps))

  pub natural : (ps : List (List X)) (rest : List X) → joined (map (map h) ps) ++ map h rest ≡ map h (joined ps ++ rest)
  natural ps rest = ap (λ l. l ++ map h rest) (map-joined ps) ∙ sym (map-append h (joined ps) rest)

  full-to : (ps : List (List X)) → AreFull ps → AreFull (map (map h) ps)
  full-to [] full = tt
  full-to (p ∷ ps) full = (length-map p h ∙ full.0, full-to ps full.1)

  full-from : (ps : List (List X)) → AreFull (map (map h) ps) → AreFull ps
  full-from [] full = tt
  full-from (p ∷ ps) full = (sym (length-map p h) ∙ full.0, full-from ps full.1)

  pub pieces-to : (most : ℕ) (ps : List (List X)) (rest : List X) → ArePieces most ps rest → ArePieces most (map (map h) ps) (map h rest)
  pieces-to most ps rest are = (full-to ps are.0, subst (λ n. n ≤ most) (sym (length-map ps (map h))) are.1, subst (λ n. n ≤ 32) (sym (length-map rest h)) are.2)

  pub pieces-from : (most : ℕ) (ps : List (List X)) (rest : List X) → ArePieces most (map (map h) ps) (map h rest) → ArePieces most ps rest
  pieces-from most ps rest are = (full-from ps are.0, subst (λ n. n ≤ most) (length-map ps (map h)) are.1, subst (λ n. n ≤ 32) (length-map rest h) are.2)

-- ---- there is one proof that they are pieces
full-prop : {X : Type 0} (ps : List (List X)) → IsProp (AreFull ps)
full-prop [] p q = refl
full-prop (piece ∷ ps) p q = λ i. (ℕ_set _ _ p.0 q.0 i, full-prop ps p.1 q.1 i)

pub pieces-prop : {X : Type 0} (most : ℕ) (ps : List (List X)) (rest : List X) → IsProp (ArePieces most ps rest)
pieces-prop most ps rest p q = λ i. (full-prop ps p.0 q.0 i, le_prop p.1 q.1 i, le_prop p.2 q.2 i)
