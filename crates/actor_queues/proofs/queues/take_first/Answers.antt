use Rattle.std.proofs.Common.{ap}
use Rattle.std.specs.Option.{option_copied_mut}
use Rattle.actor_queues.proofs.MessageQueues.{taken_first, taken_nowhere}
use Rattle.value_core.proofs.NameMaps.{found_named, none_named}
use Rattle.actor_queues.proofs.queues.take_first.Goals as goal

pub returns-in-Some : goal.returns-in-Some
returns-in-Some c =
    taken_first c.args.actor.now c.args.sender.now c.args.mails.now (c.get_mut.follows.lender c.take.new.self) c.take.new.self _ c.take.result (c.get_mut.follows.holds c.take.new.self)
    (found_named c.args.actor.now c.args.mails.now (option_copied_mut c.get_mut.result) _ c.get_mut.ensures.value (ap option_copied_mut c.in-Some.is)) c.take.ensures

pub returns-in-None : goal.returns-in-None
returns-in-None c = taken_nowhere c.args.actor.now c.args.sender.now c.args.mails.now c.get_mut.follows.lender-at-none c.get_mut.follows.holds-at-none
    (none_named c.args.actor.now c.args.mails.now (option_copied_mut c.get_mut.result) c.get_mut.ensures.value (ap option_copied_mut c.in-None.is))
