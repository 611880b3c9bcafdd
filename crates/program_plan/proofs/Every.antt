-- All resolved forms have a program or are refused.
use Rattle.std.proofs.Common.{◌≡◌, ◌⊎◌, ◌↔◌, inl, inr, ℕ, zero, suc, ◌+◌, ◌<◌, ◌≤◌, Option, None, Some, List, [], ◌∷◌, ◌++◌, length, get_or, refl, sym, ap, ◌∙◌, subst, arith}
use Rattle.std.specs.Prelude.{Contains}
use Rattle.std.specs.List.Sorted.{IsStrictlyIncreasing}
use Rattle.std.proofs.lemmas.Bool.{cases_lt}
use Rattle.std.proofs.lemmas.List.Elements.{Contains-append_left, Contains-push, Contains-push_cases}
use Rattle.value_core.specs.Place.{Spot}
use Rattle.core_syntax.specs.Table.{Table}
use Rattle.plan_errors.specs.declared.error.PlanKind.{PlanKind}
use Rattle.resolved_forms.specs.declared.top.Top.{Top}
use Rattle.resolved_forms.specs.declared.uses.Uses.{Uses}
use Rattle.program_plan.specs.Lowered.{first_past}
use Rattle.resolved_forms.specs.Units.{all_units}
use Rattle.program_plan.specs.Planned.{IsPlanned, IsUnplanned, early, too_many, Reached, early_in, layout_in}
use Rattle.resolved_forms.specs.Reach.{Reaches, AreReached}
use Rattle.resolved_forms.specs.TopSurvey.{tops_surveyed}
use Rattle.resolved_forms.proofs.Members.{none_in}
use Rattle.resolved_forms.proofs.Reaching.{Decided, reaching_decided}
use Rattle.resolved_forms.proofs.Spreading.{rising_push, there_if_reaching}

-- the list, with the number behind it where something holds
abbrev put_if : {A : Type 0} → A ⊎ (A → ⊥) → List ℕ → ℕ → List ℕ
put_if (inl so) xs n = xs ++ n ∷ []
put_if (inr not_so) xs n = xs

module _ (uses : List Uses) where
  -- the globals below a number that the unit reaches
  abbrev row : ℕ → ℕ → List ℕ
  row unit zero = []
  row unit (suc global) = put_if (reaching_decided uses global unit) (row unit global) global

  abbrev RowIs : ℕ → ℕ → List ℕ → Type 0
  RowIs unit globals xs = IsStrictlyIncreasing xs × ((m : ℕ) → Contains xs m ↔ ((m < globals) × Reaches uses unit m))

  row_next : (unit global : ℕ) (xs : List ℕ) (d : Decided (Reaches uses unit global)) → RowIs unit global xs → RowIs unit (suc global) (put_if d xs global)
  row_next unit global xs (inl so) is = (rising_push xs global is.0 (λ m c. ((is.1 m).0 c).0), λ m. (forth m, back m)) where
    forth : (m : ℕ) → Contains (xs ++ global ∷ []) m → (m < suc global) × Reaches uses unit m
    forth m c =
        elim (Contains-push_cases xs global m c) [
          | inl before ↦ let old = (is.1 m).0 before in (omega (arith, old.0), old.1)
          | inr same ↦ (let m_is = same in omega arith, subst (λ (g : ℕ). Reaches uses unit g) same so)
        ]

    back : (m : ℕ) → (m < suc global) × Reaches uses unit m → Contains (xs ++ global ∷ []) m
    back m p =
        elim (cases_lt m global) [
          | inl below ↦ Contains-append_left xs (global ∷ []) m ((is.1 m).1 (below, p.1))
          | inr not_below ↦ let same : global ≡ m = omega (arith, p.0) in subst (λ (g : ℕ). Contains (xs ++ global ∷ []) g) same (Contains-push xs global)
        ]
  row_next unit global xs (inr not_so) is = (is.0, λ m. (forth m, back m)) where
    forth : (m : ℕ) → Contains xs m → (m < suc global) × Reaches uses unit m
    forth m c = let old = (is.1 m).0 c in (omega (arith, old.0), old.1)

    back : (m : ℕ) → (m < suc global) × Reaches uses unit m → Contains xs m
    back m p =
        elim (cases_lt m global) [
          | inl below ↦ (is.1 m).1 (below, p.1)
          | inr not_below ↦ let same : m ≡ global = omega (arith, p.0) in absurd (not_so (subst (λ (g : ℕ). Reaches uses unit g) same p.1))
        ]

  row_is : (unit globals : ℕ) → RowIs unit globals (row unit globals)
  row_is unit zero = (λ k within. absurd (omega arith), λ m. (λ c. absurd (none_in m c), λ p. absurd (let lt = p.0 in omega arith)))
  row_is unit (suc global) = row_next unit global (row unit global) (reaching_decided uses global unit) (row_is unit global)

  -- the rows of so many units, from one on
  abbrev rows : ℕ → ℕ → ℕ → List (List ℕ)
  rows globals unit zero = []
  rows globals unit (suc count) = row unit globals ∷ rows globals (suc unit) count

  rows_long : (globals unit count : ℕ) → length (rows globals unit count) ≡ count
  rows_long globals unit zero = refl
  rows_long globals unit (suc count) = ap suc (rows_long globals (suc unit) count)

  row_at : (globals unit count k : ℕ) → k < count → get_or (rows globals unit count) k [] ≡ row (unit + k) globals
  row_at globals unit zero k lt = absurd (omega arith)
  row_at globals unit (suc count) zero lt = let same : unit ≡ unit + 0 = omega arith in ap (λ u. row u globals) same
  row_at globals unit (suc count) (suc k) lt =
      let same : suc unit + k ≡ unit + suc k = omega arith in row_at globals (suc unit) count k (omega arith) ∙ ap (λ u. row u globals) same

  no_row : (globals unit count k : ℕ) → count ≤ k → get_or (rows globals unit count) k [] ≡ []
  no_row globals unit zero k le = refl
  no_row globals unit (suc count) zero le = absurd (omega arith)
  no_row globals unit (suc count) (suc k) le = no_row globals (suc unit) count k (omega arith)

  nothing_there : (unit globals : ℕ) → length uses ≤ unit → RowIs unit globals []
  nothing_there unit globals beyond =
      (λ k within. absurd (omega arith), λ m. (λ c. absurd (none_in m c), λ p. absurd (let there = there_if_reaching uses unit m p.1 in omega arith)))

  row_here : (globals unit : ℕ) → unit < length uses → get_or (rows globals 0 (length uses)) unit [] ≡ row unit globals
  row_here globals unit there = let same : 0 + unit ≡ unit = omega arith in row_at globals 0 (length uses) unit there ∙ ap (λ u. row u globals) same

  list_is : (globals unit : ℕ) → RowIs unit globals (get_or (rows globals 0 (length uses)) unit [])
  list_is globals unit =
      elim (cases_lt unit (length uses)) [
        | inl there ↦ subst (λ (l : List ℕ). RowIs unit globals l) (sym (row_here globals unit there)) (row_is unit globals)
        | inr beyond ↦ subst (λ (l : List ℕ). RowIs unit globals l) (sym (no_row globals 0 (length uses) unit beyond)) (nothing_there unit globals beyond)
      ]

  are_reached : (globals : ℕ) → AreReached uses globals (rows globals 0 (length uses))
  are_reached globals = record {
    as_many = rows_long globals 0 (length uses);
    rise = λ unit. (list_is globals unit).0;
    are = λ unit global. (list_is globals unit).1 global;
  }

module _ (tops : List Top) (globals : ℕ) where
  abbrev Either : Type 0
  Either = ((table : Table) × IsPlanned tops globals table) ⊎ ((kind : PlanKind) × (at : Spot) × IsUnplanned tops globals kind at)

  abbrev units_in : List Uses
  units_in = all_units (tops_surveyed tops)

  abbrev lists_in : List (List ℕ)
  lists_in = rows units_in globals 0 (length units_in)

  reached : Reached tops globals lists_in
  reached = are_reached units_in globals

  by_past : (o : Option Spot) → early_in tops lists_in ≡ None → first_past (layout_in tops lists_in) tops ≡ o → Either
  by_past None none is = inl (_, record { lists = lists_in; reached = reached; none_early = none; within = is; is = refl })
  by_past (Some at) none is = inr (_, at, too_many lists_in reached none is)

  by_early : (o : Option Spot) → early_in tops lists_in ≡ o → Either
  by_early None is = by_past (first_past (layout_in tops lists_in) tops) is refl
  by_early (Some at) is = inr (_, at, early lists_in reached is)

  pub every_plan : Either
  every_plan = by_early (early_in tops lists_in) refl
