use Rattle.std.proofs.Common.{◌≡◌, ◌++◌, drop}
use Rattle.std.specs.List.{flat_map}
use Rattle.value_core.specs.Texts.{escaped}
use Rattle.value_core.proofs.text_writing.push_quoted.Given as goal

abbrev pub invariant-loop-byte : goal.invariant-loop-byte
invariant-loop-byte l = l.text ++ flat_map escaped (drop l.byte-index l.string) ≡ l.initial.text ++ flat_map escaped l.string
