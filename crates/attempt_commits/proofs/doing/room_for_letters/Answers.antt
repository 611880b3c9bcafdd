use Rattle.std.proofs.Common.{◌∙◌, ℕ, subst}
use Rattle.attempt_commits.proofs.Letters.{HoldsBut, room-made}
use Rattle.value_core.specs.Named.{Named}
use Rattle.attempt_commits.proofs.doing.room_for_letters.Goals as goal

pub loop-to-preserved : goal.loop-to-preserved
loop-to-preserved c = record {
  mail = c.reserve.ensures.mail ∙ c.loop-to.invariant.mail;
  holds = room-made c.args.counts.now.entries c.next.new.self c.in-Some.to.now c.in-Some.count.now c.loop-to.mails c.reserve.new.self
      (subst (λ (left : Named ℕ). HoldsBut c.args.counts.now.entries left c.loop-to.mails) c.in-Some.ensures.steps c.loop-to.invariant.holds) c.in_ok-reserve.ensures.room c.reserve.ensures.kept;
}
