use Rattle.std.proofs.Common.{◌≡◌, ◌++◌, drop}
use Rattle.std.specs.List.{flat_map}
use Rattle.value_core.specs.Texts.{str_piece, str_text}
use Rattle.value_print.proofs.print.str_of.Given as goal

abbrev pub invariant-loop-value : goal.invariant-loop-value
invariant-loop-value l = l.text ++ flat_map str_piece (drop l.value-index l.args) ≡ str_text l.args
