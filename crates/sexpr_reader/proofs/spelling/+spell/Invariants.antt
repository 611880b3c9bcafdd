use Rattle.std.proofs.Common.{◌≡◌, ◌++◌, drop, map, true}
use Rattle.std.specs.Prelude.{codes, ◌==◌}
use Rattle.value_core.proofs.Joined.{left_at}
use Rattle.sexpr_reader.specs.Spelling.{form_text}
use Rattle.sexpr_reader.proofs.spelling.+spell.Given as goal

abbrev pub invariant-push_parts-loop-index : goal.invariant-push_parts-loop-index
invariant-push_parts-loop-index l = record {
  all : l.part-items ≡ l.parts;
  written : l.text ++ left_at (codes " ") (l.index == 0) (map form_text (drop l.index l.part-items)) ≡ l.initial.text ++ left_at (codes " ") true (map form_text l.part-items);
}
