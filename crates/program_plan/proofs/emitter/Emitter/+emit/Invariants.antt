use Rattle.std.proofs.Common.{◌≤◌, ◌+◌, ◌*◌, [], map, length, drop, All, Result}
use Rattle.core_syntax.specs.WellFormed.{IsBelow}
use Rattle.core_syntax.specs.declared.build_no.BuildNo.{BuildNo}
use Rattle.core_syntax.specs.declared.node_id.NodeId.{NodeId}
use Rattle.std.proofs.Common.{List}
use Rattle.program_plan.specs.Emitted.{emitted, each}
use Rattle.program_plan.specs.declared.chain.ChainPart.{ChainPart}
use Rattle.program_plan.specs.Chains.{chain_part, PartBelow}
use Rattle.program_plan.specs.Made.{Draft, Makes, gathered}
use Rattle.program_plan.proofs.emitter.Emitter.+emit.Given as goal

abbrev pub decreases-emit : goal.decreases-emit
decreases-emit l = 5 * goal.size-emit l

abbrev pub decreases-emit_each : goal.decreases-emit_each
decreases-emit_each l = 5 * goal.size-emit_each l + 1

abbrev pub decreases-emit_apply : goal.decreases-emit_apply
decreases-emit_apply l = 5 * goal.size-emit_apply l + 2

abbrev pub decreases-emit_let : goal.decreases-emit_let
decreases-emit_let l = 5 * goal.size-emit_let l + 2

abbrev pub decreases-emit_cond : goal.decreases-emit_cond
decreases-emit_cond l = 5 * goal.size-emit_cond l + 2

abbrev pub decreases-emit_chain : goal.decreases-emit_chain
decreases-emit_chain l = 5 * goal.size-emit_chain l + 4

abbrev pub decreases-emit_chain_parts : goal.decreases-emit_chain_parts
decreases-emit_chain_parts l = 5 * goal.size-emit_chain_parts l + 3

abbrev pub decreases-emit_chain_part : goal.decreases-emit_chain_part
decreases-emit_chain_part l = 5 * goal.size-emit_chain_part l + 1

abbrev pub decreases-emit_part_after : goal.decreases-emit_part_after
decreases-emit_part_after l = 5 * goal.size-emit_part_after l + 2

abbrev pub decreases-emit_loop : goal.decreases-emit_loop
decreases-emit_loop l = 5 * goal.size-emit_loop l + 2

-- what is left of the parts is made of what there is now
abbrev pub invariant-emit_each-loop-part : goal.invariant-emit_each-loop-part
invariant-emit_each-loop-part l = record {
  left : (r : Result (List NodeId) BuildNo) (t : Draft) → Makes (gathered (λ number part. part l.frame) (0 + l.part-index) l.ids (map emitted (drop l.part-index l.parts))) l.self r t → Makes (each l.frame (map emitted l.parts)) l.initial.self r t;
  below : All (IsBelow (length l.self.rows)) l.ids;
  kept : length l.initial.self.rows ≤ length l.self.rows;
}

abbrev pub invariant-emit_chain_parts-loop-index : goal.invariant-emit_chain_parts-loop-index
invariant-emit_chain_parts-loop-index l = record {
  left : (r : Result (List ChainPart) BuildNo) (t : Draft) → Makes (gathered (chain_part l.kind l.at l.frame) (l.level + l.index) l.tested (map emitted (drop l.index l.parts))) l.self r t → Makes (gathered (chain_part l.kind l.at l.frame) l.level [] (map emitted l.parts)) l.initial.self r t;
  below : All (PartBelow (length l.self.rows)) l.tested;
  kept : length l.initial.self.rows ≤ length l.self.rows;
}
