-- Expressions in range are fine.
use Rattle.std.proofs.Common.{◌≡◌, inl, inr, ℕ, ◌+◌, ◌<◌, List, length, refl}
use Rattle.std.specs.Prelude.{Option, Some}
use Rattle.std.specs.List.{slice_get}
use Rattle.resolved_forms.specs.declared.expr.Expr.{Expr}
use Rattle.resolved_forms.specs.declared.head.Head.{Head}
use Rattle.resolved_forms.specs.declared.head.Head.TheVariants as head
use Rattle.resolved_forms.specs.InRange as range
use Rattle.resolved_forms.specs.InRange.{AreInRange, InRange, Signatures, Takes, Target}
use Rattle.program_plan.proofs.Fine.{Fine, FineParts, none, more}
use Rattle.program_plan.proofs.FineApply.{HeadFine, fine_apply}
use Rattle.program_plan.proofs.FineChoices.{fine_cond, fine_and, fine_or}
use Rattle.program_plan.proofs.FineLeaves.{fine_nil, fine_bool, fine_int, fine_str, fine_kw, fine_local, fine_global}
use Rattle.program_plan.proofs.FineLet.{fine_let}
use Rattle.program_plan.proofs.FineLoop.{fine_loop}
use Rattle.program_plan.proofs.Setting.{Setting, FunctionReady, BehaviourReady}

-- what expressions may name is there
pub record AreReady (w : Setting) (file : Signatures) : Type 0 where
  pub functions : (number count : ℕ) → slice_get file.functions number ≡ Some count → FunctionReady w number count
  pub behaviours : (number count : ℕ) → slice_get file.behaviours number ≡ Some count → BehaviourReady w number count
  pub globals : (number : ℕ) → number < file.globals → number < w.globals

module _ (w : Setting) (file : Signatures) (ready : AreReady w file) where
  head_fine : (target : Option Target) (count : ℕ) (h : Head) → Takes file target count h → HeadFine w target count h
  head_fine target count (head.Op op) takes = takes
  head_fine target count (head.Call number) (inl there) = inl (ready.functions number count there)
  head_fine target count (head.Call number) (inr own) = inr own
  head_fine target count (head.Spawn number) takes = ready.behaviours number count takes
  head_fine target count (head.Become number) takes = ready.behaviours number count takes
  head_fine target count _ takes = tt

  mutual
    pub fine : (start end depth : ℕ) (target : Option Target) (e : Expr) → InRange file start end depth target e → Fine w start end depth target e
    fine start end depth target e (range.nil {at = at}) = fine_nil w start depth target at
    fine start end depth target e (range.bool {at = at} b) = fine_bool w start depth target at b
    fine start end depth target e (range.int {at = at} n) = fine_int w start depth target at n
    fine start end depth target e (range.str {at = at} text) = fine_str w start depth target at text
    fine start end depth target e (range.kw {at = at} name) = fine_kw w start depth target at name
    fine start end depth target e (range.local {at = at} level lt) = fine_local w start depth target at level lt
    fine start end depth target e (range.global {at = at} number lt) = fine_global w start depth target at number (ready.globals number lt)
    fine start end depth target e (range.apply {at = at} {h = h} {parts = parts} takes inner) =
        fine_apply w start end depth target at h parts (head_fine target (length parts) h takes) (fine_parts range.as_deep target start end depth parts inner)
    fine start end depth target e (range.binds {mid = mid} {at = at} {bound = bound} {body = body} values inner) =
        fine_let w start mid end depth (depth + length bound) target at bound body refl
        (fine_parts range.one_deeper target start mid depth bound values) (fine mid end (depth + length bound) target body inner)
    fine start end depth target e (range.cond {at = at} {parts = parts} inner) = fine_cond w start end depth target at parts (fine_parts range.as_deep target start end depth parts inner)
    fine start end depth target e (range.conj {at = at} {parts = parts} inner) = fine_and w start end depth target at parts (fine_parts range.one_deeper target start end depth parts inner)
    fine start end depth target e (range.disj {at = at} {parts = parts} inner) = fine_or w start end depth target at parts (fine_parts range.one_deeper target start end depth parts inner)
    fine start end depth target e (range.loop {mid = mid} {at = at} {arguments = arguments} {initial = initial} {body = body} as_many levels values inner) =
        fine_loop w start mid end depth target at arguments initial body as_many levels
        (fine_parts range.one_deeper target (start + 1) mid depth initial values)
        (fine mid end (depth + length initial) (Some (record { number = start; takes = length arguments })) body inner)

    fine_parts : (next : ℕ → ℕ) (target : Option Target) (start end depth : ℕ) (parts : List Expr) → AreInRange file next target start end depth parts → FineParts w next target start end depth parts
    fine_parts next target start end depth parts range.none = none
    fine_parts next target start end depth parts (range.more {mid = mid} {part = part} {parts = others} first rest) =
        more (fine start mid depth target part first) (fine_parts next target mid end (next depth) others rest)
