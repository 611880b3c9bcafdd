use Rattle.std.proofs.Common.{◌∙◌, length, refl, sym, ap}
use Rattle.std.specs.Prelude.{Some}
use Rattle.serial_model.proofs.evaluation.Agree.{all_at}
use Rattle.eval_step.specs.Walk.{ItemIn}
use Rattle.eval_step.proofs.Spared.{behind-item, behind-end, behind-frame}
use Rattle.eval_step.proofs.context.Context.is_unread.Goals as goal

pub returns-in_default : goal.returns-in_default
returns-in_default c = λ t. behind-end c.args.program.now c.args.place c.loop-depth.depth c.args.self.now.stack (sym c.in_default.ensures) c.loop-depth.invariant

pub returns-in-Back : goal.returns-in-Back
returns-in-Back c = λ t. behind-frame c.args.program.now c.args.place c.loop-depth.depth c.args.self.now.stack _ (sym c.in-Some.ensures ∙ ap (λ i. Some i) c.in-Back.is) c.loop-depth.invariant

pub item_spares-requires : goal.item_spares-requires
item_spares-requires c =
    all_at (ItemIn (length c.args.program.now.nodes)) c.args.self.now.stack c.loop-depth.depth c.in-Some.item.now c.requires (sym c.in-Some.ensures)

pub loop-depth-preserved : goal.loop-depth-preserved
loop-depth-preserved c = λ rest.
    behind-item c.args.program.now c.args.place c.loop-depth.depth c.args.self.now.stack c.in-Some.item.now (sym c.in-Some.ensures) (c.in-Some-item_spares.ensures refl) c.loop-depth.invariant rest
