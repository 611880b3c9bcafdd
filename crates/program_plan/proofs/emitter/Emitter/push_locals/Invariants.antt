use Rattle.std.proofs.Common.{◌≤◌, ◌+◌, List, map, length, drop, All, Result}
use Rattle.core_syntax.specs.WellFormed.{IsBelow}
use Rattle.core_syntax.specs.declared.build_no.BuildNo.{BuildNo}
use Rattle.core_syntax.specs.declared.node_id.NodeId.{NodeId}
use Rattle.program_plan.specs.Emitted.{each, local}
use Rattle.program_plan.specs.Made.{Draft, Makes, gathered}
use Rattle.program_plan.proofs.emitter.Emitter.push_locals.Given as goal

-- what is left of the levels is made of what there is now
abbrev pub invariant-loop-level : goal.invariant-loop-level
invariant-loop-level l = record {
  left : (r : Result (List NodeId) BuildNo) (t : Draft) → Makes (gathered (λ number part. part l.frame) (0 + l.level-index) l.ids (map (local l.at) (drop l.level-index l.levels))) l.self r t → Makes (each l.frame (map (local l.at) l.levels)) l.initial.self r t;
  below : All (IsBelow (length l.self.rows)) l.ids;
  kept : length l.initial.self.rows ≤ length l.self.rows;
}
