use Rattle.std.proofs.Common.{◌≡◌}
use Rattle.actor_mails.specs.Mails.{held}
use Rattle.attempt_commits.proofs.Letters.{HoldsBut}
use Rattle.attempt_commits.proofs.doing.room_for_letters.Given as goal

abbrev pub invariant-loop-to : goal.invariant-loop-to
invariant-loop-to l = record {
  mail : held l.mails ≡ held l.fn.mails;
  holds : HoldsBut l.counts.entries l.to-iterator l.mails;
}
