use Rattle.std.proofs.Common.{w64, arith, ◌%◌, ◌/◌, ◌∙◌, ap}
use Rattle.std.proofs.lemmas.Nat.Bits.{bit_at_clear_same, bit_at_clear_other}
use Rattle.std.proofs.lemmas.Grind.{get_or_default_zero}
use Rattle.std.specs.Int.{bit_at}
use Rattle.slot_set.proofs.Levels.{Writes-set}
use Rattle.slot_set.proofs.words.clear_bit.Goals as goal

pub returns-clause-writes : goal.returns-clause-writes
returns-clause-writes c =
    Writes-set c.args.words.now.items c.args.at _ 0 c.requires (bit_at_clear_same w64 _ (c.args.at % 64) (omega arith)) (λ i below differs. bit_at_clear_other w64 _ (c.args.at % 64) (omega arith) i below differs ∙ ap (λ x. bit_at x i) (c.index.ensures ∙ get_or_default_zero c.args.words.now.items (c.args.at / 64) c.index.result.now (omega (arith, c.requires))))
