use Rattle.std.proofs.Common.{ap}
use Rattle.std.proofs.lemmas.Result.{on_err_weaker, on_ok_weaker}
use Rattle.std.specs.Option.{option_copied_mut}
use Rattle.ahead_steps.proofs.Written.{last-held}
use Rattle.ahead_steps.proofs.holding.hold_last.Goals as goal
use Rattle.value_core.proofs.NameMaps.{found_named, written_same}

pub returns-in-Some-clause-held : goal.returns-in-Some-clause-held
returns-in-Some-clause-held c =
    let name = c.args.name.now in
    let there = found_named name c.args.aheads.now (option_copied_mut c.get_mut.result) _ c.get_mut.ensures.value (ap option_copied_mut c.in-Some.is) in
    on_ok_weaker c.hold_in.result (λ is. last-held name c.args.aheads.now (c.get_mut.follows.lender c.hold_in.new.turn) c.hold_in.new.turn c.in-Some.turn.now c.args.request (c.get_mut.follows.holds c.hold_in.new.turn) there is) c.hold_in.ensures.held

pub returns-in-Some-clause-same : goal.returns-in-Some-clause-same
returns-in-Some-clause-same c =
    let name = c.args.name.now in
    let there = found_named name c.args.aheads.now (option_copied_mut c.get_mut.result) _ c.get_mut.ensures.value (ap option_copied_mut c.in-Some.is) in
    on_err_weaker c.hold_in.result (λ same. written_same name c.args.aheads.now (c.get_mut.follows.lender c.hold_in.new.turn) c.hold_in.new.turn c.in-Some.turn.now (c.get_mut.follows.holds c.hold_in.new.turn) there same) c.hold_in.ensures.same
