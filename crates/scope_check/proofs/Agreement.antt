-- Forms have one program at most, are refused in one way at most, and never both.
use Rattle.std.proofs.Common.{◌≡◌, List, ap}
use Rattle.core_syntax.specs.Table.{Table}
use Rattle.value_core.specs.Place.{Spot}
use Rattle.sexpr_reader.specs.declared.form.Form.{Form}
use Rattle.program_plan.proofs.Agreement.{one_some, some_or_none, planned_once, unplanned_once, planned_or_not}
use Rattle.scope_refusals.specs.declared.kind.ScopeKind.{ScopeKind}
use Rattle.scope_refusals.specs.declared.refusal.Refusal.{Refusal}
use Rattle.scope_check.specs.Check.{IsProgram, IsRefused, wrong, unplanned, kind_of}

pub once : (forms : List Form) (table other : Table) → IsProgram forms table → IsProgram forms other → table ≡ other
once forms table other p q = planned_once _ _ table other p.planned q.planned

kinds_same : (a b : Refusal) → a ≡ b → (a.kind ≡ b.kind) × (a.at ≡ b.at)
kinds_same a b e = (ap (λ r. r.kind) e, ap (λ r. r.at) e)

pub refusal_once : (forms : List Form) (kind other : ScopeKind) (at place : Spot) → IsRefused forms kind at → IsRefused forms other place → (kind ≡ other) × (at ≡ place)
refusal_once forms kind other at place (wrong a) (wrong b) = kinds_same _ _ (one_some _ _ _ a b)
refusal_once forms kind other at place (wrong a) (unplanned n u) = absurd (some_or_none _ _ a n)
refusal_once forms kind other at place (unplanned n u) (wrong b) = absurd (some_or_none _ _ b n)
refusal_once forms kind other at place (unplanned n u) (unplanned m v) = let same = unplanned_once _ _ _ _ at place u v in (ap kind_of same.0, same.1)

pub never_both : (forms : List Form) (table : Table) (kind : ScopeKind) (at : Spot) → IsProgram forms table → IsRefused forms kind at → ⊥
never_both forms table kind at p (wrong a) = some_or_none _ _ a p.nothing_wrong
never_both forms table kind at p (unplanned n u) = planned_or_not _ _ table _ at p.planned u
