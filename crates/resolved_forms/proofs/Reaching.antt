-- Whether a unit reaches a global is decided, by ways that go through ever more units.
use Rattle.std.proofs.Common.{◌≡◌, ◌≢◌, ◌⊎◌, inl, inr, ℕ, zero, suc, ◌<◌, Option, None, Some, List, [], ◌∷◌, length, refl, sym, ◌∙◌, subst, arith}
use Rattle.std.specs.Prelude.{Contains}
use Rattle.std.specs.List.{slice_get}
use Rattle.std.proofs.lemmas.Bool.Decides.{eqb_tells}
use Rattle.resolved_forms.specs.declared.uses.Uses.{Uses}
use Rattle.resolved_forms.specs.Reach.{Names, Reaches, direct, through, globals_named, units_named}
use Rattle.resolved_forms.proofs.Members.{none_in, in_cons, in_head, in_tail}
use Rattle.resolved_forms.proofs.Spreading.{there_if_reaching}

abbrev pub Decided : Type 0 → Type 0
Decided A = A ⊎ (A → ⊥)

both_decided : {A B : Type 0} → Decided A → Decided B → Decided (A × B)
both_decided (inl a) (inl b) = inl (a, b)
both_decided (inl a) (inr not_so) = inr (λ p. not_so p.1)
both_decided (inr not_so) b = inr (λ p. not_so p.0)

neither : {A B : Type 0} → (A → ⊥) → (B → ⊥) → A ⊎ B → ⊥
neither not_a not_b (inl a) = not_a a
neither not_a not_b (inr b) = not_b b

either_decided : {A B : Type 0} → Decided A → Decided B → Decided (A ⊎ B)
either_decided (inl a) b = inl (inl a)
either_decided (inr not_so) (inl b) = inl (inr b)
either_decided (inr not_a) (inr not_b) = inr (neither not_a not_b)

-- whether a number is in a list
in_cons_decided : (x n : ℕ) (xs : List ℕ) → (x ≡ n) ⊎ (x ≢ n) → Decided (Contains xs n) → Decided (Contains (x ∷ xs) n)
in_cons_decided x n xs (inl same) rest = inl (subst (λ (m : ℕ). Contains (x ∷ xs) m) same (in_head x xs))
in_cons_decided x n xs (inr other) (inl there) = inl (in_tail x n xs there)
in_cons_decided x n xs (inr other) (inr not_so) = inr (λ c. neither other not_so (in_cons x n xs c))

same_or_not : (x n : ℕ) → (x ≡ n) ⊎ (x ≢ n)
same_or_not x n = elim (eqb_tells x n) [ inl same ↦ inl same.1 | inr other ↦ inr other.1 ]

in_decided : (xs : List ℕ) (n : ℕ) → Decided (Contains xs n)
in_decided [] n = inr (none_in n)
in_decided (x ∷ xs) n = in_cons_decided x n xs (same_or_not x n) (in_decided xs n)

module _ (uses : List Uses) where
  some_same : (o : Option Uses) (x y : Uses) → o ≡ Some x → o ≡ Some y → x ≡ y
  some_same o x y a b = let same : Some x ≡ Some y = sym a ∙ b in cc

  names_by : (named : Uses → List ℕ) (unit number : ℕ) (o : Option Uses) → slice_get uses unit ≡ o → Decided (Names named uses unit number)
  names_by named unit number None is = inr (λ n. let none : None ≡ Some n.0 = sym is ∙ n.1 in absurd (cc))
  names_by named unit number (Some x) is =
      elim (in_decided (named x) number) [
        | inl there ↦ inl (x, is, there)
        | inr not_so ↦ inr (λ n. not_so (subst (λ (y : Uses). Contains (named y) number) (some_same (slice_get uses unit) n.0 x n.1 is) n.2))
      ]

  names_decided : (named : Uses → List ℕ) (unit number : ℕ) → Decided (Names named uses unit number)
  names_decided named unit number = names_by named unit number (slice_get uses unit) refl

  -- calls lead from one unit to the other, and between them through some of the first k alone
  abbrev Path : ℕ → ℕ → ℕ → Type 0
  Path zero unit other = Names units_named uses unit other
  Path (suc k) unit other = Path k unit other ⊎ (Path k unit k × Path k k other)

  path_decided : (k unit other : ℕ) → Decided (Path k unit other)
  path_decided zero unit other = names_decided units_named unit other
  path_decided (suc k) unit other = either_decided (path_decided k unit other) (both_decided (path_decided k unit k) (path_decided k k other))

  below_or_last : (w k : ℕ) → w < suc k → (w < k) ⊎ (w ≡ k)
  below_or_last w k lt = elim (same_or_not w k) [ inl same ↦ inr same | inr other ↦ inl (omega arith) ]

  -- the parts of a path to the last of the units that it may go through, and from it
  to_last : (k unit : ℕ) → Path (suc k) unit k → Path k unit k
  to_last k unit (inl path) = path
  to_last k unit (inr parts) = parts.0

  from_last : (k other : ℕ) → Path (suc k) k other → Path k k other
  from_last k other (inl path) = path
  from_last k other (inr parts) = parts.1

  module _ (k : ℕ) (joined : (unit w other : ℕ) → w < k → Path k unit w → Path k w other → Path k unit other) where
    joined_below : (unit w other : ℕ) → w < k → Path (suc k) unit w → Path (suc k) w other → Path (suc k) unit other
    joined_below unit w other lt (inl a) (inl b) = inl (joined unit w other lt a b)
    joined_below unit w other lt (inl a) (inr b) = inr (joined unit w k lt a b.0, b.1)
    joined_below unit w other lt (inr a) (inl b) = inr (a.0, joined k w other lt a.1 b)
    joined_below unit w other lt (inr a) (inr b) = inr (a.0, b.1)

    joined_by : (unit w other : ℕ) → (w < k) ⊎ (w ≡ k) → Path (suc k) unit w → Path (suc k) w other → Path (suc k) unit other
    joined_by unit w other (inl lt) a b = joined_below unit w other lt a b
    joined_by unit w other (inr is) a b =
        inr (to_last k unit (subst (λ (v : ℕ). Path (suc k) unit v) is a), from_last k other (subst (λ (v : ℕ). Path (suc k) v other) is b))

  joined : (k unit w other : ℕ) → w < k → Path k unit w → Path k w other → Path k unit other
  joined zero unit w other lt a b = absurd (omega arith)
  joined (suc k) unit w other lt a b = joined_by k (joined k) unit w other (below_or_last w k lt) a b

  more_path : (k unit other : ℕ) → Path zero unit other → Path k unit other
  more_path zero unit other path = path
  more_path (suc k) unit other path = inl (more_path k unit other path)

  module _ (global : ℕ) where
    -- calls lead from the unit to one that names the global
    abbrev Way : ℕ → ℕ → Type 0
    Way zero unit = Names globals_named uses unit global
    Way (suc k) unit = Way k unit ⊎ (Path k unit k × Way k k)

    way_decided : (k unit : ℕ) → Decided (Way k unit)
    way_decided zero unit = names_decided globals_named unit global
    way_decided (suc k) unit = either_decided (way_decided k unit) (both_decided (path_decided k unit k) (way_decided k k))

    way_last : (k : ℕ) → Way (suc k) k → Way k k
    way_last k (inl way) = way
    way_last k (inr parts) = parts.1

    module _ (k : ℕ) (led : (unit w : ℕ) → w < k → Path k unit w → Way k w → Way k unit) where
      led_below : (unit w : ℕ) → w < k → Path (suc k) unit w → Way (suc k) w → Way (suc k) unit
      led_below unit w lt (inl a) (inl b) = inl (led unit w lt a b)
      led_below unit w lt (inl a) (inr b) = inr (joined k unit w k lt a b.0, b.1)
      led_below unit w lt (inr a) (inl b) = inr (a.0, led k w lt a.1 b)
      led_below unit w lt (inr a) (inr b) = inr (a.0, b.1)

      led_by : (unit w : ℕ) → (w < k) ⊎ (w ≡ k) → Path (suc k) unit w → Way (suc k) w → Way (suc k) unit
      led_by unit w (inl lt) a b = led_below unit w lt a b
      led_by unit w (inr is) a b = inr (to_last k unit (subst (λ (v : ℕ). Path (suc k) unit v) is a), way_last k (subst (λ (v : ℕ). Way (suc k) v) is b))

    led : (k unit w : ℕ) → w < k → Path k unit w → Way k w → Way k unit
    led zero unit w lt a b = absurd (omega arith)
    led (suc k) unit w lt a b = led_by k (led k) unit w (below_or_last w k lt) a b

    more_way : (k unit : ℕ) → Way zero unit → Way k unit
    more_way zero unit way = way
    more_way (suc k) unit way = inl (more_way k unit way)

    -- a way through any units reaches, and who reaches has a way through the units that there are
    behind_path : (k unit other : ℕ) → Path k unit other → Reaches uses other global → Reaches uses unit global
    behind_path zero unit other names reaches = through names reaches
    behind_path (suc k) unit other (inl path) reaches = behind_path k unit other path reaches
    behind_path (suc k) unit other (inr parts) reaches = behind_path k unit k parts.0 (behind_path k k other parts.1 reaches)

    way_reaches : (k unit : ℕ) → Way k unit → Reaches uses unit global
    way_reaches zero unit names = direct names
    way_reaches (suc k) unit (inl way) = way_reaches k unit way
    way_reaches (suc k) unit (inr parts) = behind_path k unit k parts.0 (way_reaches k k parts.1)

    reaching_way : (unit : ℕ) → Reaches uses unit global → Way (length uses) unit
    reaching_way unit (direct names) = more_way (length uses) unit names
    reaching_way unit (through {callee = callee} names reaches) =
        led (length uses) unit callee (there_if_reaching uses callee global reaches) (more_path (length uses) unit callee names) (reaching_way callee reaches)

    pub reaching_decided : (unit : ℕ) → Decided (Reaches uses unit global)
    reaching_decided unit =
        elim (way_decided (length uses) unit) [ inl way ↦ inl (way_reaches (length uses) unit way) | inr not_so ↦ inr (λ reaches. not_so (reaching_way unit reaches)) ]
