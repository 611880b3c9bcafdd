-- The forms of a program that is made have a program: none is early, and their nodes are not too many.
use Rattle.std.proofs.Common.{◌≡◌, ◌<◌, ◌≤◌, inl, inr, ℕ, zero, suc, ◌+◌, ◌*◌, ◌^◌, false, cond, arith, List, [], ◌∷◌, map, length, get_or, refl, sym, ap, subst, ◌∙◌}
use Rattle.std.specs.Prelude.{None, Some, Contains, fold, slice_get}
use Rattle.std.specs.List.{range_with_len}
use Rattle.std.proofs.lemmas.List.FromFn.{length-range_with_len}
use Rattle.value_core.specs.Place.{Spot}
use Rattle.core_syntax.specs.Table.{Table}
use Rattle.program_maker.specs.MadeText.{transfer}
use Rattle.resolved_forms.specs.declared.layout.Layout.{Layout}
use Rattle.resolved_forms.specs.declared.top.Top.{Top}
use Rattle.resolved_forms.specs.declared.top_survey.FormSurvey.{FormSurvey}
use Rattle.resolved_forms.specs.declared.top_survey.TopSurvey.{TopSurvey}
use Rattle.resolved_forms.specs.declared.uses.Uses.{Uses}
use Rattle.early_globals.specs.Early.{first_early, some_unbound}
use Rattle.resolved_forms.specs.Reach.{Reaches, AreReached}
use Rattle.resolved_forms.specs.TopSurvey.{behaviours_among, both_tops, form_at, is_behaviour, no_tops, tops_from, tops_surveyed}
use Rattle.resolved_forms.specs.Units.{all_units}
use Rattle.plan_errors.specs.declared.error.PlanKind.{PlanKind}
use Rattle.program_plan.specs.Lowered.{first_past, no_parts}
use Rattle.program_plan.specs.Planned.{IsPlanned, IsUnplanned, Reached, early_in, layout_in}
use Rattle.program_plan.proofs.Every.{every_plan}
use Rattle.made_programs.proofs.Assembled.{ListPlaces, SendPlaces, all_go, definition_forms, first, last, made_forms, send_forms, sent}
use Rattle.made_programs.proofs.ExprTrees.{survey_of}
use Rattle.made_programs.proofs.Forms.{MadeForm, sized_all, surveyed_all, surveys, tops_of_all}
use Rattle.made_programs.proofs.MadeTrees.{below_eight, made_trees, teller_small}
use Rattle.made_programs.proofs.Sizes.{not_past, sum}

-- what the transfers name
module _ (number : ℕ) where
  abbrev sent_surveys : (indices : List ℕ) → SendPlaces number indices → List FormSurvey
  sent_surveys [] p = []
  sent_surveys (index ∷ indices) p = record { at = p.0.0; before = 10; uses = record { globals = (2 + (transfer number index).teller) ∷ []; units = [] } } ∷ sent_surveys indices p.1

  sent_are : (indices : List ℕ) (p : SendPlaces number indices) → surveys (send_forms number indices p) (no_tops 10) ≡ record (no_tops 10) { forms = sent_surveys indices p }
  sent_are [] p = refl
  sent_are (index ∷ indices) p = ap (both_tops (form_at p.0.0 10 10 (survey_of 2 (sent number index)))) (sent_are indices p.1)

  no_behaviours : (indices : List ℕ) (p : SendPlaces number indices) (n : ℕ)
      → fold (λ (count : ℕ) (one : Top). count + cond (is_behaviour one.kind) 1 0) n (tops_of_all (send_forms number indices p)) ≡ n
  no_behaviours [] p n = refl
  no_behaviours (index ∷ indices) p n = no_behaviours indices p.1 (n + 0) ∙ omega arith

  bound_there : (teller : ℕ) → teller < 8 → some_unbound 10 ((2 + teller) ∷ []) ≡ false
  bound_there = below_eight (λ n. some_unbound 10 ((2 + n) ∷ []) ≡ false) refl refl refl refl refl refl refl refl

  sent_bound : (indices : List ℕ) (p : SendPlaces number indices) (lists : List (List ℕ)) → first_early (sent_surveys indices p) lists ≡ None
  sent_bound [] p lists = refl
  sent_bound (index ∷ indices) p lists = rw (bound_there (transfer number index).teller (teller_small number index)) (sent_bound indices p.1 lists)

  -- and how many nodes they become
  few_sent : (indices : List ℕ) (p : SendPlaces number indices) → sum (map (λ (f : MadeForm). f.most) (send_forms number indices p)) ≡ 5 * length indices
  few_sent [] p = omega arith
  few_sent (index ∷ indices) p = omega (arith, few_sent indices p.1)

-- nothing that is named is a global
abbrev NameNone : List Uses → Type 0
NameNone [] = Unit {0}
NameNone (x ∷ xs) = (x.globals ≡ []) × NameNone xs

named_none : (uses : List Uses) → NameNone uses → (unit : ℕ) (x : Uses) → slice_get uses unit ≡ Some x → x.globals ≡ []
named_none [] h unit x e = absurd (cc)
named_none (y ∷ ys) h zero x e = let same : y ≡ x = some_same y x e in ap (λ (z : Uses). z.globals) (sym same) ∙ h.0
  where
    some_same : (a b : Uses) → Some a ≡ Some b → a ≡ b
    some_same a b e = cc
named_none (y ∷ ys) h (suc unit) x e = named_none ys h.1 unit x e

in_nothing : (x : ℕ) → Contains [] x → ⊥
in_nothing x c = omega (arith, c.1)

reaches_none : (uses : List Uses) → NameNone uses → {unit global : ℕ} → Reaches uses unit global → ⊥
reaches_none uses h {unit} {global} (Reaches.direct names) = in_nothing global (subst (λ l. Contains l global) (named_none uses h unit names.0 names.1) names.2)
reaches_none uses h (Reaches.through names others) = reaches_none uses h others

empty : (xs : List ℕ) → ((x : ℕ) → Contains xs x → ⊥) → xs ≡ []
empty [] h = refl
empty (x ∷ xs) h = absurd (h x (0, omega arith, refl))

all_empty : (uses : List Uses) (globals : ℕ) (lists : List (List ℕ)) → NameNone uses → AreReached uses globals lists → (unit : ℕ) → get_or lists unit [] ≡ []
all_empty uses globals lists h reached unit = empty (get_or lists unit []) (λ x c. reaches_none uses h ((reached.are unit x).0 c).1)

-- the whole program
module _ (number size : ℕ) (small : size < 2 ^ 63) (q : ListPlaces (made_trees number size small)) where
  abbrev indices : List ℕ
  indices = range_with_len 0 size

  abbrev its_sends : SendPlaces number indices
  its_sends = q.1.1.1.1.1.1.1.1.1.1.1.1.1.1

  abbrev tops : List Top
  tops = tops_of_all (made_forms number size small q)

  abbrev survey : TopSurvey
  survey = surveys (definition_forms number size small q) (record (no_tops 10) { forms = sent_surveys number indices its_sends })

  two_behaviours : behaviours_among tops ≡ 2
  two_behaviours = no_behaviours number indices its_sends 2

  surveyed_tops : tops_surveyed tops ≡ survey
  surveyed_tops =
      ap (λ n. tops_from n 0 tops) two_behaviours ∙ surveyed_all (made_forms number size small q) first last (all_go number size small q)
      ∙ ap (surveys (definition_forms number size small q)) (sent_are number indices its_sends)

  no_globals : NameNone (all_units survey)
  no_globals = (refl, (refl, (refl, (refl, (refl, tt)))))

  none_early : (lists : List (List ℕ)) → Reached tops 10 lists → early_in tops lists ≡ None
  none_early lists reached =
      let reaches = subst (λ (s : TopSurvey). AreReached (all_units s) 10 lists) surveyed_tops reached in
      let empty = all_empty (all_units survey) 10 lists no_globals reaches in
      ap (λ (s : TopSurvey). first_early s.forms lists) surveyed_tops ∙ (rw (empty 4, empty 0, empty 1) (sent_bound number indices its_sends lists))

  abbrev mosts : List ℕ
  mosts = map (λ (f : MadeForm). f.most) (made_forms number size small q)

  few_nodes : sum mosts ≤ 200 + 5 * size
  few_nodes = omega (arith, few_sent number indices its_sends, length-range_with_len 0 size)

  few : size ≤ 10000 → (layout : Layout) → first_past layout tops ≡ None
  few at_most layout = not_past layout no_parts mosts tops (sized_all (made_forms number size small q) first last (all_go number size small q)) (omega (arith, at_most, few_nodes))

  not_unplanned : size ≤ 10000 → {kind : PlanKind} {at : Spot} → IsUnplanned tops 10 kind at → ⊥
  not_unplanned at_most (IsUnplanned.early lists reached is) = let none = none_early lists reached in cc
  not_unplanned at_most (IsUnplanned.too_many lists reached none is) = let none = few at_most (layout_in tops lists) in cc

  pub planned : size ≤ 10000 → (table : Table) × IsPlanned (tops_of_all (made_forms number size small q)) 10 table
  planned at_most = elim (every_plan tops 10) [ inl plan ↦ plan | inr why ↦ absurd (not_unplanned at_most why.2) ]
