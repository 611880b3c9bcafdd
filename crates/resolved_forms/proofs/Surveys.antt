-- Surveys one after another, and that of a loop.
use Rattle.std.proofs.Common.{◌≡◌, ℕ, suc, ◌+◌, ◌-◌, ◌<◌, ◌≤◌, List, [], ◌∷◌, ◌++◌, length, map, take, drop, get_or, arith, sym, ap, ◌∙◌, append_assoc, append-nil}
use Rattle.std.specs.Prelude.{slice_set}
use Rattle.std.proofs.Math.Seq.{drop-cons, set-append_seam}
use Rattle.std.proofs.lemmas.List.{length-map, length-take-le, take-map, get_or-take}
use Rattle.resolved_forms.specs.declared.expr.Expr.{Expr}
use Rattle.resolved_forms.specs.declared.expr.Looping.{Looping}
use Rattle.resolved_forms.specs.declared.survey.LoopSurvey.{LoopSurvey}
use Rattle.resolved_forms.specs.declared.survey.Survey.{Survey}
use Rattle.resolved_forms.specs.Survey.{nothing, both, all_of, own_survey, body_of, of_loop, of_loop_parts, surveyed}
use Rattle.resolved_forms.specs.Uses.{function_unit}

pub both_assoc : (a b c : Survey) → both (both a b) c ≡ both a (both b c)
both_assoc a b c = λ i. record {
  uses = record { globals = append_assoc a.uses.globals b.uses.globals c.uses.globals i; units = append_assoc a.uses.units b.uses.units c.uses.units i };
  levels = append_assoc a.levels b.levels c.levels i;
  loops = append_assoc a.loops b.loops c.loops i;
}

pub both_nothing : (a : Survey) → both a nothing ≡ a
both_nothing a = λ i. record {
  uses = record { globals = append-nil a.uses.globals i; units = append-nil a.uses.units i };
  levels = append-nil a.levels i;
  loops = append-nil a.loops i;
}

pub all_at : (behaviours : ℕ) (parts : List Expr) (i : ℕ) (part : Expr) → i < length parts → get_or parts i part ≡ part
    → all_of (map (surveyed behaviours) (drop i parts)) ≡ both (surveyed behaviours part) (all_of (map (surveyed behaviours) (drop (i + 1) parts)))
all_at behaviours parts i part within is =
    let one_more : suc i ≡ i + 1 = omega arith in
    ap (λ l. all_of (map (surveyed behaviours) l)) (drop-cons parts i part within)
    ∙ ap (λ x. both (surveyed behaviours x) (all_of (map (surveyed behaviours) (drop (suc i) parts)))) is
    ∙ ap (λ n. both (surveyed behaviours part) (all_of (map (surveyed behaviours) (drop n parts)))) one_more

-- one more part is surveyed
next_part : (behaviours : ℕ) (parts : List Expr) (i : ℕ) (part : Expr) (found more : Survey) → i < length parts → get_or parts i part ≡ part
    → more ≡ both found (surveyed behaviours part)
    → both more (all_of (map (surveyed behaviours) (drop (i + 1) parts))) ≡ both found (all_of (map (surveyed behaviours) (drop i parts)))
next_part behaviours parts i part found more within is adds =
    let rest = all_of (map (surveyed behaviours) (drop (i + 1) parts)) in
    ap (λ s. both s rest) adds ∙ both_assoc found (surveyed behaviours part) rest ∙ ap (both found) (sym (all_at behaviours parts i part within is))

-- one more of the first n parts is surveyed
pub next_initial : (behaviours : ℕ) (parts : List Expr) (n i : ℕ) (part : Expr) (found more : Survey) → i < n → n ≤ length parts → get_or parts i part ≡ part
    → more ≡ both found (surveyed behaviours part)
    → both more (all_of (map (surveyed behaviours) (drop (i + 1) (take n parts)))) ≡ both found (all_of (map (surveyed behaviours) (drop i (take n parts))))
next_initial behaviours parts n i part found more before within is adds =
    next_part behaviours (take n parts) i part found more (omega (arith, length-take-le n parts within)) (get_or-take n parts i part before ∙ is) adds

-- what is known behind a loop's parts
pub record Looped (behaviours : ℕ) (own : Looping) (initial body : Survey) (found mid : Survey) (done : LoopSurvey) (units levels : List ℕ) (loops : List LoopSurvey) : Type 0 where
  pub place : LoopSurvey
  pub initial_is : mid ≡ both (record { uses = found.uses; levels = found.levels; loops = found.loops ++ place ∷ [] }) initial
  pub body_is : done ≡ own_survey own body
  pub units_are : units ≡ mid.uses.units ++ function_unit behaviours own.number ∷ []
  pub levels_are : levels ≡ mid.levels ++ done.levels
  pub loops_are : loops ≡ slice_set (mid.loops ++ body.loops) (length found.loops) done

placed : (before : List LoopSurvey) (place : LoopSurvey) (initial body : List LoopSurvey) (done : LoopSurvey)
    → slice_set (((before ++ place ∷ []) ++ initial) ++ body) (length before) done ≡ before ++ (done ∷ initial ++ body)
placed before place initial body done =
    let regroup = ap (λ l. l ++ body) (append_assoc before (place ∷ []) initial) ∙ append_assoc before (place ∷ initial) body in
    ap (λ l. slice_set l (length before) done) regroup ∙ set-append_seam before place (initial ++ body) done

pub looped : (behaviours : ℕ) (own : Looping) (initial body found mid : Survey) (done : LoopSurvey) (units levels : List ℕ) (loops : List LoopSurvey)
    → Looped behaviours own initial body found mid done units levels loops
    → record { uses = record { globals = mid.uses.globals; units = units }; levels = levels; loops = loops } ≡ both found (of_loop behaviours own initial body)
looped behaviours own initial body found mid done units levels loops l =
    let globals_due = ap (λ m. m.uses.globals) l.initial_is in
    let unit = function_unit behaviours own.number ∷ [] in
    let units_due = l.units_are ∙ ap (λ m. m.uses.units ++ unit) l.initial_is ∙ append_assoc found.uses.units initial.uses.units unit in
    let levels_due = l.levels_are ∙ ap (λ m. m.levels ++ done.levels) l.initial_is ∙ ap (λ d. (found.levels ++ initial.levels) ++ d.levels) l.body_is
    ∙ append_assoc found.levels initial.levels (own_survey own body).levels in
    let loops_due = l.loops_are ∙ ap (λ m. slice_set (m.loops ++ body.loops) (length found.loops) done) l.initial_is
    ∙ placed found.loops l.place initial.loops body.loops done ∙ ap (λ d. found.loops ++ (d ∷ initial.loops ++ body.loops)) l.body_is in
    λ i. record { uses = record { globals = globals_due i; units = units_due i }; levels = levels_due i; loops = loops_due i }

-- the parts of a loop before its body
pub loop_parts : (behaviours : ℕ) (own : Looping) (parts : List Expr)
    → of_loop behaviours own (all_of (map (surveyed behaviours) (take (length parts - 1) parts))) (body_of (map (surveyed behaviours) parts))
    ≡ of_loop_parts behaviours own (map (surveyed behaviours) parts)
loop_parts behaviours own parts =
    let values = map (surveyed behaviours) parts in
    let same : length parts - 1 ≡ length values - 1 = ap (λ l. l - 1) (sym (length-map parts (surveyed behaviours))) in
    ap (λ l. of_loop behaviours own (all_of l) (body_of values)) (sym (take-map (surveyed behaviours) (length parts - 1) parts) ∙ ap (λ n. take n values) same)
