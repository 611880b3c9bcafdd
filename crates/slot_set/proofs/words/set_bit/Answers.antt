use Rattle.std.proofs.Common.{w64, arith, ◌%◌, ◌/◌, ◌∙◌, ap}
use Rattle.std.proofs.lemmas.Nat.Bits.{bit_at_set_same, bit_at_set_other}
use Rattle.std.proofs.lemmas.Grind.{get_or_default_zero}
use Rattle.std.specs.Int.{bit_at}
use Rattle.slot_set.proofs.Levels.{Writes-set, nonzero_from_bit, word_written}
use Rattle.slot_set.proofs.words.set_bit.Goals as goal

pub returns-clause-writes : goal.returns-clause-writes
returns-clause-writes c =
    Writes-set c.args.words.now.items c.args.at _ 1 c.requires (bit_at_set_same w64 _ (c.args.at % 64) (omega arith)) (λ i below differs. bit_at_set_other w64 _ (c.args.at % 64) (omega arith) i differs ∙ ap (λ x. bit_at x i) (c.index.ensures ∙ get_or_default_zero c.args.words.now.items (c.args.at / 64) c.index.result.now (omega (arith, c.requires))))

pub returns-clause-some : goal.returns-clause-some
returns-clause-some c =
    rw (word_written c.args.words.now.items c.args.at _ c.requires) (nonzero_from_bit _ (c.args.at % 64) (bit_at_set_same w64 _ (c.args.at % 64) (omega arith)))
