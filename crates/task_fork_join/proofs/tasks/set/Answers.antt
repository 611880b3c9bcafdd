use Rattle.std.proofs.Common.{ap, Some}
use Rattle.std.specs.Option.{option_copied_mut}
use Rattle.value_core.proofs.NameMaps.{found_named, none_named, changed}
use Rattle.task_fork_join.proofs.Members.{unchanged}
use Rattle.task_fork_join.proofs.tasks.set.Goals as goal

pub returns-in-Some : goal.returns-in-Some
returns-in-Some c = changed c.args.name.now c.args.tasks.now (c.get_mut.follows.lender c.set.new.self) c.set.new.self c.in-Some.task.now _
    (c.get_mut.follows.holds c.set.new.self)
    (found_named c.args.name.now c.args.tasks.now (option_copied_mut c.get_mut.result) _ c.get_mut.ensures.value (ap option_copied_mut c.in-Some.is)) c.set.ensures

pub returns-in-None : goal.returns-in-None
returns-in-None c = unchanged c.args.name.now c.args.tasks.now.entries c.get_mut.follows.lender-at-none.entries _
    (none_named c.args.name.now c.args.tasks.now (option_copied_mut c.get_mut.result) c.get_mut.ensures.value (ap option_copied_mut c.in-None.is))
