use Rattle.std.proofs.Common.{◌∙◌, ◌++◌, ◌∷◌, [], ap}
use Rattle.std.specs.Option.{option_copied_mut}
use Rattle.std.proofs.lemmas.Result.{on_ok_weaker}
use Rattle.actor_queues.proofs.MessageQueues.{appended, appended_first}
use Rattle.value_core.proofs.NameMaps.{found_named, none_named}
use Rattle.value_core.proofs.NamedViews.{view_same}
use Rattle.actor_queues.proofs.Mails.{mail_same, on_err_weaker}
use Rattle.actor_queues.proofs.mail.append.Goals as goal

pub returns-in-Some-clause-appended : goal.returns-in-Some-clause-appended
returns-in-Some-clause-appended c = on_ok_weaker c.push.result (λ pushed.
    appended c.args.sender c.args.message c.args.queues.now (c.get_mut.follows.lender c.push.new.queue) c.push.new.queue _ (c.get_mut.follows.holds c.push.new.queue)
    (found_named c.args.sender c.args.queues.now (option_copied_mut c.get_mut.result) _ c.get_mut.ensures.value (ap option_copied_mut c.in-Some.is)) pushed) c.push.ensures.pushed

pub returns-in-Some-clause-same : goal.returns-in-Some-clause-same
returns-in-Some-clause-same c = on_err_weaker c.push.result (λ same.
    view_same _ c.args.sender c.args.queues.now (c.get_mut.follows.lender c.push.new.queue) c.push.new.queue c.in-Some.queue.now (c.get_mut.follows.holds c.push.new.queue)
    (found_named c.args.sender c.args.queues.now (option_copied_mut c.get_mut.result) _ c.get_mut.ensures.value (ap option_copied_mut c.in-Some.is)) same) c.push.ensures.same

pub returns-in_ok-push-in-None-clause-appended : goal.returns-in_ok-push-in-None-clause-appended
returns-in_ok-push-in-None-clause-appended c = on_ok_weaker c.put.result (λ put.
    appended_first c.args.sender c.args.message c.args.queues.now c.get_mut.follows.lender-at-none c.put.new.map c.push-in-None.new.queue c.get_mut.follows.holds-at-none put
    (none_named c.args.sender c.args.queues.now (option_copied_mut c.get_mut.result) c.get_mut.ensures.value (ap option_copied_mut c.in-None.is))
    (c.in_ok-push-in-None.ensures.pushed ∙ ap (λ items. items ++ c.args.message ∷ []) c.new-queue.ensures.items)) c.put.ensures.put

pub returns-in_ok-push-in-None-clause-same : goal.returns-in_ok-push-in-None-clause-same
returns-in_ok-push-in-None-clause-same c = on_err_weaker c.put.result (λ same. mail_same c.put.new.map c.get_mut.follows.lender-at-none c.args.queues.now same c.get_mut.follows.holds-at-none) c.put.ensures.same
