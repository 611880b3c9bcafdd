use Rattle.std.proofs.Common.{◌∷◌, ◌++◌, [], sym, subst}
use Rattle.value_core.specs.Named.{Name}
use Rattle.serial_model.specs.Step.{queue_of}
use Rattle.value_core.specs.NameSet.{HasJust, IsWithout}
use Rattle.actor_queues.specs.Waiting.{waits}
use Rattle.actor_queues.proofs.Mails.{sent_agree, sent_holds}
use Rattle.value_core.proofs.NameMarks.{just_back, just_with}
use Rattle.actor_queues.proofs.queues.send_first.Goals as goal

pub returns-in-Ok-clause-marked : goal.returns-in-Ok-clause-marked
returns-in-Ok-clause-marked c =
    let old = c.args.mails.now.entries in
    let queue = queue_of old c.args.actor c.args.sender in
    let new = c.send.new.mails.entries in
    just_with waits c.args.actor old new c.args.waiting.now c.mark.new.names c.requires.marked
    c.in_ok-marked.ensures.added
    (sent_agree c.args.actor c.args.sender old new (queue ++ c.args.message ∷ []) c.in-Ok.ensures.sent) (sent_holds c.args.actor c.args.sender old new queue c.args.message c.in-Ok.ensures.sent)

pub returns-clause-marked : goal.returns-clause-marked
returns-clause-marked c =
    let old = c.args.mails.now.entries in
    subst (HasJust waits c.remove.new.names) (sym c.in-Err.ensures.same)
    (just_back waits c.args.actor old c.args.waiting.now c.mark.new.names c.remove.new.names c.requires.marked c.requires.none
    c.in_ok-marked.ensures.added
    (subst (λ (n : Name). IsWithout n c.mark.new.names c.remove.new.names) c.in_ok-marked.ensures.copy c.remove.ensures))
