use Rattle.std.proofs.Common.{◌≡◌, ◌≤◌, min, drop}
use Rattle.value_core.specs.NameText.{read_on}
use Rattle.value_core.proofs.name.digits_value.Given as goal

abbrev pub invariant-loop-byte : goal.invariant-loop-byte
invariant-loop-byte l = record {
  capped : l.number ≤ 4294967295;
  left : min (read_on l.number (drop l.byte-index l.bytes)) 4294967295 ≡ min (read_on 0 l.bytes) 4294967295;
}
