use Rattle.std.proofs.Common.{ap}
use Rattle.std.specs.Option.{option_copied, option_copied_mut}
use Rattle.attempt_steps.proofs.Taking.{has-stepped, on-err}
use Rattle.value_core.proofs.NameMaps.{found_named, written_is_put, written_same}
use Rattle.attempt_steps.proofs.tasks.step_in.Goals as goal

pub returns-clause-step : goal.returns-clause-step
returns-clause-step c =
    let there = found_named c.args.owner.now c.args.attempts.now (option_copied_mut c.get_mut.result) _ c.get_mut.ensures.value (ap option_copied_mut c.in-Some.is) in
    has-stepped c.args.owner.now c.args.task.now c.args.moved (option_copied c.args.outer) c.args.halt c.args.store.now.versions c.args.attempts.now.entries (c.get_mut.follows.lender c.step.new.self).entries c.in-Some.tree.now c.step.new.self c.step.result there
    (written_is_put c.args.owner.now c.args.attempts.now (c.get_mut.follows.lender c.step.new.self) c.step.new.self c.in-Some.tree.now (c.get_mut.follows.holds c.step.new.self) there) c.step.ensures.step

pub returns-clause-same : goal.returns-clause-same
returns-clause-same c =
    let there = found_named c.args.owner.now c.args.attempts.now (option_copied_mut c.get_mut.result) _ c.get_mut.ensures.value (ap option_copied_mut c.in-Some.is) in
    on-err c.step.result
    (λ same. written_same c.args.owner.now c.args.attempts.now (c.get_mut.follows.lender c.step.new.self) c.step.new.self c.in-Some.tree.now (c.get_mut.follows.holds c.step.new.self) there same) c.step.ensures.same
