use Rattle.std.proofs.Common.{◌<◌, sym, ap, subst}
use Rattle.std.specs.Option.{option_copied_mut}
use Rattle.actor_queues.proofs.MessageQueues.{taken_from, taken_none}
use Rattle.value_core.proofs.NameMaps.{found_named, none_named}
use Rattle.actor_queues.proofs.mail.take_from.Goals as goal

pub returns-in-Some : goal.returns-in-Some
returns-in-Some c =
    taken_from c.args.sender.now c.args.queues.now (c.get_mut.follows.lender c.pop_front.new.self) c.pop_front.new.self _ c.pop_front.result (c.get_mut.follows.holds c.pop_front.new.self)
    (found_named c.args.sender.now c.args.queues.now (option_copied_mut c.get_mut.result) _ c.get_mut.ensures.value (ap option_copied_mut c.in-Some.is)) c.pop_front.ensures.items (λ more. c.pop_front.ensures.variant.1 (subst (λ n. 0 < n) (sym c.in-Some.queue.now.ok.0) more))

pub returns-in-None : goal.returns-in-None
returns-in-None c = taken_none c.args.sender.now c.args.queues.now c.get_mut.follows.lender-at-none c.get_mut.follows.holds-at-none
    (none_named c.args.sender.now c.args.queues.now (option_copied_mut c.get_mut.result) c.get_mut.ensures.value (ap option_copied_mut c.in-None.is))
