use Rattle.std.proofs.Common.{ap}
use Rattle.std.specs.Option.{option_copied_mut}
use Rattle.std.proofs.lemmas.Result.{on_ok_weaker, on_err_weaker}
use Rattle.value_core.proofs.NameMaps.{found_named, changed, written_same}
use Rattle.task_fork_join.proofs.tasks.act.Goals as goal

pub returns-clause-acted : goal.returns-clause-acted
returns-clause-acted c =
    let there = found_named c.args.name.now c.args.tasks.now (option_copied_mut c.get_mut.result) _ c.get_mut.ensures.value (ap option_copied_mut c.in-Some.is) in
    on_ok_weaker c.act.result (λ did. changed c.args.name.now c.args.tasks.now (c.get_mut.follows.lender c.act.new.self) c.act.new.self c.in-Some.task.now _ (c.get_mut.follows.holds c.act.new.self) there did) c.act.ensures.acted

pub returns-clause-same : goal.returns-clause-same
returns-clause-same c =
    let there = found_named c.args.name.now c.args.tasks.now (option_copied_mut c.get_mut.result) _ c.get_mut.ensures.value (ap option_copied_mut c.in-Some.is) in
    on_err_weaker c.act.result (λ same. written_same c.args.name.now c.args.tasks.now (c.get_mut.follows.lender c.act.new.self) c.act.new.self c.in-Some.task.now (c.get_mut.follows.holds c.act.new.self) there same) c.act.ensures.same
