use Rattle.std.proofs.Common.{◌≡◌, drop}
use Rattle.program_plan.specs.Lowered.{first_past, first_past_from, no_parts, with_tops}
use Rattle.program_plan.proofs.lower.lower.Given as goal

abbrev pub invariant-loop-top : goal.invariant-loop-top
invariant-loop-top l = record {
  all : l.top-items ≡ l.tops;
  left : with_tops l.layout l.lowering (drop l.top-index l.top-items) ≡ with_tops l.layout no_parts l.top-items;
  past : first_past_from l.layout l.lowering (drop l.top-index l.top-items) ≡ first_past l.layout l.top-items;
}
