use Rattle.std.proofs.Common.{◌∙◌, ◌+◌, ◌<◌, refl, sym, arith}
use Rattle.std.proofs.lemmas.Result.{IfOk-weaker}
use Rattle.eval_frames.specs.declared.at.At.TheVariants.{Arguments, Enter}
use Rattle.eval_step.specs.declared.walk.Walk.{Walk}
use Rattle.eval_frames.specs.Control.{standing}
use Rattle.eval_step.proofs.EnteringSteps.{argument-below, takes_no_argument}
use Rattle.eval_step.proofs.Walks.{keeps-moves, keeps-more, moves_argument, moves_leaf, moves_into}
use Rattle.eval_step.proofs.walk.Walk.take_arguments.Goals as goal

pub take_leaf-requires : goal.take_leaf-requires
take_leaf-requires c =
    let there = c.requires.there in
    let lower : c.in-Some.argument.index < c.args.id.index =
    argument-below c.args.id.index c.node-node.result.now c.loop-argument.number c.in-Some.argument (sym c.in-Some.ensures.value) c.node-node.ensures.children in
    record { there = omega arith }

pub loop-argument-preserved : goal.loop-argument-preserved
loop-argument-preserved c =
    let table = c.args.program.now in
    let first : Walk = record { at = Arguments c.args.id c.args.from; registers = c.args.self.now.registers; context = c.args.self.now.context; left = c.args.self.now.left } in
    let from = c.loop-argument.self in
    let mid : Walk = record { at = Arguments c.args.id c.loop-argument.number; registers = from.registers; context = from.context; left = from.left } in
    let to = c.take_leaf.new.self in
    let new : Walk = record { at = Arguments c.args.id (c.loop-argument.number + 1); registers = to.registers; context = to.context; left = to.left } in
    record {
      keeps = keeps-more table first mid new c.loop-argument.invariant.keeps
          (moves_leaf table from to c.args.id c.node-node.result.now c.loop-argument.number c.in-Some.argument c.loop-argument.invariant.keeps.there.items
          c.node-node.ensures.value (sym c.in-Some.ensures.value) c.requires.there (c.in_ok-take_leaf.ensures.taken c.if-not-branch.false));
      at = c.take_leaf.ensures.at ∙ c.loop-argument.invariant.at;
    }

pub returns-then-not-branch-clause-taken : goal.returns-then-not-branch-clause-taken
returns-then-not-branch-clause-taken c =
    let table = c.args.program.now in
    let first : Walk = record { at = Arguments c.args.id c.args.from; registers = c.args.self.now.registers; context = c.args.self.now.context; left = c.args.self.now.left } in
    let from = c.loop-argument.self in
    let mid : Walk = record { at = Arguments c.args.id c.loop-argument.number; registers = from.registers; context = from.context; left = from.left } in
    let kept = c.keep_arguments.new in
    let new : Walk = record { at = Enter c.in-Some.argument; registers = kept.registers; context = kept.self; left = c.take_leaf.new.self.left } in
    keeps-moves table first mid new c.loop-argument.invariant.keeps
    (moves_into table from c.args.id c.node-node.result.now c.loop-argument.number c.in-Some.argument kept.registers kept.self c.take_leaf.new.self
    (c.in_ok-take_leaf.ensures.stays c.if-not-branch.true) c.loop-argument.invariant.keeps.there.items c.node-node.ensures.value (sym c.in-Some.ensures.value) c.node-node.ensures.children c.requires.there
    c.keep_arguments.ensures.frame c.in_ok-keep_arguments.ensures.stack)

pub returns-clause-taken : goal.returns-clause-taken
returns-clause-taken c =
    let table = c.args.program.now in
    let first : Walk = record { at = Arguments c.args.id c.args.from; registers = c.args.self.now.registers; context = c.args.self.now.context; left = c.args.self.now.left } in
    let from = c.loop-argument.self in
    let number = c.loop-argument.number in
    let mid : Walk = record { at = Arguments c.args.id number; registers = from.registers; context = from.context; left = from.left } in
    let values = from.registers.values in
    let registers = c.operate.new.registers in
    IfOk-weaker c.operate.result _ _
    (λ next operates.
    let new : Walk = record { at = next; registers = registers; context = c.operate.new.self; left = from.left } in
    keeps-moves table first mid new c.loop-argument.invariant.keeps (λ inside.
    moves_argument table inside from (Arguments c.args.id number) next registers c.args.id values number c.operate.new.self refl
    (takes_no_argument table from.context.frame from.context.stack c.loop-argument.invariant.keeps.there.items c.args.id c.node-node.result.now values number c.operate.new.self (standing next registers)
    c.node-node.ensures.value (sym c.in_default.ensures.value) operates)))
    c.operate.ensures
