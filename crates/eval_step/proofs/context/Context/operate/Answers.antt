use Rattle.std.proofs.Common.{◌≡◌, length, sym, ap, subst}
use Rattle.std.proofs.lemmas.Result.{IfOk-weaker}
use Rattle.core_syntax.proofs.Reading.{slice_get-from_parts}
use Rattle.core_syntax.specs.declared.node.Node.{Node}
use Rattle.serial_model.specs.Operation.{Calls}
use Rattle.eval_frames.specs.Control.{Enter, standing}
use Rattle.eval_frames.specs.Finish.{Acts, finish}
use Rattle.eval_step.proofs.Outcomes.{called-there, is-act, operates_acts, operates_calls}
use Rattle.eval_step.proofs.Rows.{row_at}
use Rattle.eval_step.proofs.context.Context.operate.Goals as goal

pub function-requires : goal.function-requires
unfolding finish
function-requires c =
    let values = c.args.registers.now.values in
    called-there (length c.args.program.now.functions) c.args.self.now.frame c.node-node.result.now values c.in-Call.number values c.node-node.ensures.functions
    (sym (ap (λ n. finish c.args.self.now.frame n values) c.in-Call.is))

pub act-requires : goal.act-requires
act-requires c = is-act c.node-node.result.now c.in_default.not-Op c.in_default.not-Vector c.in_default.not-Call

pub returns-in-Op : goal.returns-in-Op
unfolding finish
returns-in-Op c =
    let table = c.args.program.now in
    let old = c.args.self.now in
    let values = c.args.registers.now.values in
    let at = c.place.result in
    IfOk-weaker c.apply.result _ _
    (λ next acts.
    let stands = standing next c.apply.new.registers in
    let P : Node → Type 0 = λ n. Acts (finish old.frame n values) at stands in
    operates_acts table old.frame old.stack c.requires.items c.args.id c.node-node.result.now at
    (slice_get-from_parts table.nodes c.args.id c.node-node.result.now at c.node-node.ensures.value c.place.ensures) values stands (subst P (sym c.in-Op.is) acts))
    c.apply.ensures

pub returns-in-Vector : goal.returns-in-Vector
unfolding finish
returns-in-Vector c =
    let table = c.args.program.now in
    let old = c.args.self.now in
    let values = c.args.registers.now.values in
    let at = c.place-in-Vector.result in
    IfOk-weaker c.apply-in-Vector.result _ _
    (λ next acts.
    let stands = standing next c.apply-in-Vector.new.registers in
    let P : Node → Type 0 = λ n. Acts (finish old.frame n values) at stands in
    operates_acts table old.frame old.stack c.requires.items c.args.id c.node-node.result.now at
    (slice_get-from_parts table.nodes c.args.id c.node-node.result.now at c.node-node.ensures.value c.place-in-Vector.ensures) values stands (subst P (sym c.in-Vector.is) acts))
    c.apply-in-Vector.ensures

pub returns-in_default : goal.returns-in_default
returns-in_default c =
    let table = c.args.program.now in
    let old = c.args.self.now in
    let at = c.place-in_default.result in
    IfOk-weaker c.act.result _ _
    (λ next. operates_acts table old.frame old.stack c.requires.items c.args.id c.node-node.result.now at
    (slice_get-from_parts table.nodes c.args.id c.node-node.result.now at c.node-node.ensures.value c.place-in_default.ensures) c.args.registers.now.values (standing next c.act.new.registers))
    c.act.ensures

pub returns-in_ok-call-in-Call : goal.returns-in_ok-call-in-Call
unfolding finish
returns-in_ok-call-in-Call c =
    let table = c.args.program.now in
    let old = c.args.self.now in
    let which = c.node-node.result.now in
    let values = c.args.registers.now.values in
    let row = row_at table.nodes c.args.id which c.node-node.ensures.value in
    let is : Calls c.in-Call.number values ≡ finish old.frame which values = sym (ap (λ n. finish old.frame n values) c.in-Call.is) in
    operates_calls table old.frame old.stack c.requires.items c.args.id which row.at row.found values
    c.in-Call.number values c.function.result.now c.call.new.self (Enter c.function.result.now.body) is c.function.ensures.value c.in_ok-call-in-Call.ensures
