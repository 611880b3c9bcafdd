use Rattle.std.proofs.Common.{arith}
use Rattle.slot_set.proofs.Levels.{IsFirstBit-word, word_within}
use Rattle.slot_set.proofs.words.first_bit.Goals as goal

pub overflow_add-result : goal.overflow_add-result
overflow_add-result c = omega (arith, word_within c.args.words.now c.args.w c.requires.first.some, c.requires.fits, c.first_place.ensures.within)

pub returns-clause-first : goal.returns-clause-first
returns-clause-first c = IsFirstBit-word c.args.words.now c.args.w _ c.requires.first c.first_place.ensures.within c.first_place.ensures.set c.first_place.ensures.least

pub returns-clause-within : goal.returns-clause-within
returns-clause-within c = omega (arith, word_within c.args.words.now c.args.w c.requires.first.some, c.first_place.ensures.within)
