use Rattle.std.proofs.Common.{◌≤◌, ◌+◌, length, drop, Ok}
use Rattle.core_syntax.specs.WellFormed.{IsBelow}
use Rattle.program_plan.specs.Chains.{closed, chain_node}
use Rattle.program_plan.specs.Made.{Makes}
use Rattle.program_plan.proofs.emitter.Emitter.close_chain.Given as goal

abbrev pub invariant-parts : goal.invariant-parts
invariant-parts l = record {
  made : Makes (closed (chain_node l.at l.frame) (l.level + l.left) (drop l.left l.parts) l.fn.last) l.initial.self (Ok l.rest) l.self;
  in_range : l.left ≤ length l.parts;
  below : IsBelow (length l.self.rows) l.rest;
  kept : length l.initial.self.rows ≤ length l.self.rows;
}

abbrev pub decreases-parts : goal.decreases-parts
decreases-parts l = l.left
