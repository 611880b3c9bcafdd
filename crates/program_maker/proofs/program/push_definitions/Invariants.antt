use Rattle.std.proofs.Common.{◌≡◌, ◌++◌, ◌∷◌, map, flat_map}
use Rattle.std.specs.List.{range_with_len}
use Rattle.program_maker.specs.MadeText.{common_lines, counter_line, line_of, teller_line}
use Rattle.program_maker.proofs.program.push_definitions.Given as goal

abbrev pub invariant-loop-teller : goal.invariant-loop-teller
invariant-loop-teller l = l.text ≡ l.fn.text ++ flat_map line_of (common_lines ++ counter_line l.size ∷ map teller_line (range_with_len 0 l.teller))
