use Rattle.std.proofs.Common.{◌≡◌, ◌++◌, map, drop}
use Rattle.program_plan.specs.Frame.{local_place}
use Rattle.program_plan.proofs.frame.Frame.push_levels.Given as goal

abbrev pub invariant-loop-level : goal.invariant-loop-level
invariant-loop-level l = record {
  all : l.level-items ≡ l.levels;
  same : l.self ≡ l.initial.self;
  left : l.places ++ map (local_place l.self) (drop l.level-index l.level-items) ≡ l.initial.places ++ map (local_place l.self) l.level-items;
}
