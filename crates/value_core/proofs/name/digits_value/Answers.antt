use Rattle.std.proofs.Common.{◌+◌, ◌*◌, ◌-◌, min, drop, get_or, sym, ap, ◌∙◌, arith}
use Rattle.value_core.proofs.Names.{read_on-capped, read_on_step}
use Rattle.value_core.proofs.name.digits_value.Goals as goal

pub loop-byte-preserved : goal.loop-byte-preserved
loop-byte-preserved c = record {
  capped = omega arith;
  left = read_on-capped (c.loop-byte.number * 10 + (get_or c.args.bytes.now c.loop-byte.byte-index 0 - 48)) c.saturating_add-number.result (drop (c.loop-byte.byte-index + 1) c.args.bytes.now) (omega arith)
      ∙ ap (λ n. min n 4294967295) (sym (read_on_step c.args.bytes.now c.loop-byte.number c.loop-byte.byte-index c.loop-byte-test.true)) ∙ c.loop-byte.invariant.left;
}
