use Rattle.std.proofs.Common.{◌∙◌, length}
use Rattle.attempt_sends.proofs.Puts.{room-next}
use Rattle.attempt_sends.proofs.putting.make_room.Goals as goal

pub loop-letter-preserved : goal.loop-letter-preserved
loop-letter-preserved c = record {
  mail = c.reserve_for.ensures.mail ∙ c.loop-letter.invariant.mail;
  room = room-next (length c.args.letters.now) c.loop-letter.letter-index c.args.letters.now c.letter-item.result _ c.args.units.now c.loop-letter.mails c.reserve_for.new.mails c.loop-letter-test.true c.letter-item.is c.reserve_for.ensures.kept
      c.loop-letter.invariant.room c.in_ok-reserve_for.ensures.room;
}
