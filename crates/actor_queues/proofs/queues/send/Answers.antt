use Rattle.std.proofs.Common.{ap}
use Rattle.std.specs.Option.{option_copied_mut}
use Rattle.std.proofs.lemmas.Result.{on_ok_weaker}
use Rattle.actor_queues.proofs.MessageQueues.{sent_there, sent_first}
use Rattle.value_core.proofs.NameMaps.{found_named, none_named, written_same}
use Rattle.actor_queues.proofs.Mails.{on_err_weaker, mails_same}
use Rattle.actor_queues.proofs.queues.send.Goals as goal

pub returns-in-Some-clause-sent : goal.returns-in-Some-clause-sent
returns-in-Some-clause-sent c = on_ok_weaker c.append.result (λ appended.
    sent_there c.args.actor c.args.sender c.args.message c.args.mails.now (c.get_mut.follows.lender c.append.new.self) c.append.new.self _ (c.get_mut.follows.holds c.append.new.self)
    (found_named c.args.actor c.args.mails.now (option_copied_mut c.get_mut.result) _ c.get_mut.ensures.value (ap option_copied_mut c.in-Some.is)) appended) c.append.ensures.appended

pub returns-in-Some-clause-same : goal.returns-in-Some-clause-same
returns-in-Some-clause-same c = on_err_weaker c.append.result (λ same.
    written_same c.args.actor c.args.mails.now (c.get_mut.follows.lender c.append.new.self) c.append.new.self _ (c.get_mut.follows.holds c.append.new.self)
    (found_named c.args.actor c.args.mails.now (option_copied_mut c.get_mut.result) _ c.get_mut.ensures.value (ap option_copied_mut c.in-Some.is)) same) c.append.ensures.same

pub returns-in_ok-append-in-None-clause-sent : goal.returns-in_ok-append-in-None-clause-sent
returns-in_ok-append-in-None-clause-sent c = on_ok_weaker c.put.result (λ put.
    sent_first c.args.actor c.args.sender c.args.message c.args.mails.now c.put.new.map c.append-in-None.new.self c.new-mail.result c.get_mut.follows.lender-at-none c.get_mut.follows.holds-at-none put
    (none_named c.args.actor c.args.mails.now (option_copied_mut c.get_mut.result) c.get_mut.ensures.value (ap option_copied_mut c.in-None.is))
    c.new-mail.ensures c.in_ok-append-in-None.ensures.appended) c.put.ensures.put

pub returns-in_ok-append-in-None-clause-same : goal.returns-in_ok-append-in-None-clause-same
returns-in_ok-append-in-None-clause-same c = on_err_weaker c.put.result (λ same. mails_same c.put.new.map c.get_mut.follows.lender-at-none c.args.mails.now same c.get_mut.follows.holds-at-none) c.put.ensures.same
