use Rattle.std.proofs.Common.{◌≡◌, ◌++◌, drop}
use Rattle.value_core.specs.Name.{name_text}
use Rattle.value_core.proofs.Names.{dotted}
use Rattle.value_core.proofs.name.Name.text.Given as goal

abbrev pub invariant-loop-number : goal.invariant-loop-number
invariant-loop-number l = l.text ++ dotted (drop l.number-index l.number-items) ≡ name_text l.self
