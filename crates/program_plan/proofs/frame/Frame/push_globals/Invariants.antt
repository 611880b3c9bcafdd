use Rattle.std.proofs.Common.{◌≡◌, ◌++◌, map, drop}
use Rattle.program_plan.specs.Frame.{global_place}
use Rattle.program_plan.proofs.frame.Frame.push_globals.Given as goal

abbrev pub invariant-loop-number : goal.invariant-loop-number
invariant-loop-number l = record {
  all : l.number-items ≡ l.numbers;
  same : l.self ≡ l.initial.self;
  left : l.places ++ map (global_place l.self) (drop l.number-index l.number-items) ≡ l.initial.places ++ map (global_place l.self) l.number-items;
}
