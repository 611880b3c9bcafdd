use Rattle.std.proofs.Common.{List, subst}
use Rattle.std.specs.Vec.Iter.{into_iter_items}
use Rattle.attempt_commits.proofs.Letters.{AreComing, first-fits, letter-settled}
use Rattle.attempt_commits.specs.declared.deeds.Letter.{Letter}
use Rattle.attempt_commits.specs.Deeds.{CanHoldAll}
use Rattle.value_core.specs.Placed.{filled}
use Rattle.attempt_commits.proofs.doing.settle_letters.Goals as goal

pub settle_letter-requires : goal.settle_letter-requires
settle_letter-requires c = record {
  room = first-fits c.in-Some.letter (into_iter_items c.next.new.self) c.loop-letter.mails
      (subst (λ (letters : List Letter). CanHoldAll letters c.loop-letter.mails) c.in-Some.ensures.steps.0 c.loop-letter.invariant.room);
}

pub loop-letter-preserved : goal.loop-letter-preserved
loop-letter-preserved c =
    letter-settled c.args.root.now c.args.turns.now.entries c.in-Some.letter c.args.letters.items (into_iter_items c.next.new.self) (filled c.args.taken.now) (filled c.loop-letter.taken) (filled c.settle_letter.new.taken)
    c.args.mails.now c.loop-letter.mails c.settle_letter.new.mails c.args.units.now c.loop-letter.units c.settle_letter.new.units
    (subst (λ (letters : List Letter). AreComing c.args.root.now c.args.turns.now.entries c.args.letters.items letters (filled c.args.taken.now) (filled c.loop-letter.taken) c.args.mails.now c.loop-letter.mails c.args.units.now c.loop-letter.units)
    c.in-Some.ensures.steps.0 c.loop-letter.invariant)
    c.settle_letter.ensures.claims c.settle_letter.ensures.places c.settle_letter.ensures.settled
