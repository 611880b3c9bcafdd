use Rattle.std.proofs.Common.{◌∷◌, ◌++◌, [], sym, subst}
use Rattle.std.specs.Prelude.{unwrap_or}
use Rattle.value_core.specs.Named.{Name, named}
use Rattle.value_core.specs.NameSet.{HasJust, IsWithout}
use Rattle.actor_queues.specs.Waiting.{has_first, mail_of}
use Rattle.actor_queues.proofs.Mails.{appended_holds}
use Rattle.value_core.proofs.NameMarks.{agree_put, just_back, just_with}
use Rattle.actor_queues.proofs.mail.append_first.Goals as goal

pub returns-in-Ok-clause-marked : goal.returns-in-Ok-clause-marked
returns-in-Ok-clause-marked c =
    let old = mail_of c.args.queues.now in
    let queue = unwrap_or (named c.args.sender old) [] in
    let new = mail_of c.append.new.queues in
    just_with has_first c.args.sender old new c.args.waiting.now c.mark.new.names c.requires.marked
    c.in_ok-marked.ensures.added
    (agree_put c.args.sender (queue ++ c.args.message ∷ []) old new c.in-Ok.ensures.appended) (appended_holds c.args.sender old new queue c.args.message c.in-Ok.ensures.appended)

pub returns-clause-marked : goal.returns-clause-marked
returns-clause-marked c =
    let old = mail_of c.args.queues.now in
    subst (HasJust has_first c.remove.new.names) (sym c.in-Err.ensures.same)
    (just_back has_first c.args.sender old c.args.waiting.now c.mark.new.names c.remove.new.names c.requires.marked c.requires.none
    c.in_ok-marked.ensures.added
    (subst (λ (n : Name). IsWithout n c.mark.new.names c.remove.new.names) c.in_ok-marked.ensures.copy c.remove.ensures))
