use Rattle.std.proofs.Common.{ap, subst, sym}
use Rattle.actor_mails.specs.Mails.{Boxes}
use Rattle.attempt_commits.proofs.Effects.{on-any}
use Rattle.attempt_commits.specs.Deeds.{CanHold}
use Rattle.world_steps.specs.declared.kept.Kept.{Kept}
use Rattle.attempt_commits.proofs.doing.room_for_deeds.Goals as goal

pub returns-clause-letters : goal.returns-clause-letters
returns-clause-letters c =
    on-any c.room_for_actors.result
    (subst (λ (boxes : Boxes). CanHold c.args.deeds.now.counts.entries boxes) (sym (ap (λ (k : Kept). k.mails) c.room_for_actors.ensures.others)) c.in_ok-room_for_letters.ensures.room)
