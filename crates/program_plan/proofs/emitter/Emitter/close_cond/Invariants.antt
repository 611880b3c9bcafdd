use Rattle.std.proofs.Common.{◌≤◌, ◌*◌, length, drop, Ok}
use Rattle.core_syntax.specs.WellFormed.{IsBelow}
use Rattle.program_plan.specs.Chains.{cond_closed}
use Rattle.program_plan.specs.Made.{Makes}
use Rattle.program_plan.proofs.emitter.Emitter.close_cond.Given as goal

abbrev pub invariant-pairs : goal.invariant-pairs
invariant-pairs l = record {
  made : Makes (cond_closed l.at (drop (2 * l.left) l.ids) l.fn.last) l.initial.self (Ok l.others) l.self;
  in_range : 2 * l.left ≤ length l.ids;
  below : IsBelow (length l.self.rows) l.others;
  kept : length l.initial.self.rows ≤ length l.self.rows;
}

abbrev pub decreases-pairs : goal.decreases-pairs
decreases-pairs l = l.left
