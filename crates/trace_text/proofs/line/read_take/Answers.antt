use Rattle.std.proofs.Common.{◌∙◌, sym, ap, Err}
use Rattle.trace_text.specs.declared.no.LineNo.TheVariants.{Bad}
use Rattle.trace_text.proofs.Nos.{was_none, given}
use Rattle.trace_text.proofs.Pairs.{no_pair_uncut, no_pair_first, no_pair_second}
use Rattle.trace_text.proofs.Shapes.{names_never_space}
use Rattle.trace_text.proofs.LineShapes.{no_take}
use Rattle.trace_text.proofs.line.read_take.Goals as goal

pub returns-in_err-actor-clause-bad : goal.returns-in_err-actor-clause-bad
returns-in_err-actor-clause-bad c bad =
    let uncut = c.cut.ensures.none (was_none c.cut.result Bad c.in_err-actor.field-0.0 (sym c.ok_or.ensures.value ∙ c.in_err-actor.was)) in
    no_take c.args.names.now (no_pair_uncut 32 c.args.names.now uncut)

pub returns-in_err-actor-2-clause-bad : goal.returns-in_err-actor-2-clause-bad
returns-in_err-actor-2-clause-bad c bad =
    let parts = given c.cut.result Bad (c.in_ok-actor.actor, c.in_ok-actor.sender) _ (sym c.ok_or.ensures.value ∙ c.in_ok-actor.was) c.cut.ensures.some in
    let same = rw bad at c.from_residual-in_err-actor-2.ensures in
    let none = c.read_name.ensures.bad (c.in_err-actor-2.was ∙ ap Err (sym same.1)) in
    no_take c.args.names.now (no_pair_first 32 c.args.names.now c.in_ok-actor.actor.now c.in_ok-actor.sender.now names_never_space parts (λ w. none w.name w.is))

pub returns-in_err-sender-clause-bad : goal.returns-in_err-sender-clause-bad
returns-in_err-sender-clause-bad c bad =
    let parts = given c.cut.result Bad (c.in_ok-actor.actor, c.in_ok-actor.sender) _ (sym c.ok_or.ensures.value ∙ c.in_ok-actor.was) c.cut.ensures.some in
    let same = rw bad at c.from_residual-in_err-sender.ensures in
    let none = c.read_name-2.ensures.bad (c.in_err-sender.was ∙ ap Err (sym same.1)) in
    no_take c.args.names.now (no_pair_second 32 c.args.names.now c.in_ok-actor.actor.now c.in_ok-actor.sender.now names_never_space parts (λ w. none w.name w.is))
