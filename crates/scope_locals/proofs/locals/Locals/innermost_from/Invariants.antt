use Rattle.std.proofs.Common.{◌≡◌, ◌++◌, drop}
use Rattle.scope_locals.specs.Levels.{names_of}
use Rattle.scope_locals.specs.Innermost.{levels_of}
use Rattle.scope_locals.proofs.locals.Locals.innermost_from.Given as goal

abbrev pub invariant-loop-local : goal.invariant-loop-local
invariant-loop-local l = record {
  all : names_of l.local-items ≡ drop l.fn.level l.self;
  rest : l.levels ++ levels_of l.self (names_of (drop l.local-index l.local-items)) ≡ levels_of l.self (names_of l.local-items);
}
