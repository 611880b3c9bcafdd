use Rattle.std.proofs.Common.{refl, sym, subst}
use Rattle.eval_step.specs.Unread.{ItemSpares}
use Rattle.eval_step.proofs.Spared.{back-spares, shrink-spares, arguments-spare, do-spares, choose-spares}
use Rattle.eval_step.proofs.unread.item_spares.Goals as goal

pub returns-in-Back : goal.returns-in-Back
returns-in-Back c = λ some. subst (ItemSpares c.args.program.now c.args.place) (sym c.in-Back.is) (back-spares c.args.program.now c.args.place _)

pub returns-in-Shrink : goal.returns-in-Shrink
returns-in-Shrink c = λ some. subst (ItemSpares c.args.program.now c.args.place) (sym c.in-Shrink.is) (shrink-spares c.args.program.now c.args.place _)

pub returns-in-Arguments : goal.returns-in-Arguments
returns-in-Arguments c = λ some. subst (ItemSpares c.args.program.now c.args.place) (sym c.in-Arguments.is)
    (arguments-spare c.args.program.now c.args.place c.in-Arguments.id _ c.in-Arguments.number (c.spares.ensures.spares some))

pub returns-in-Do : goal.returns-in-Do
returns-in-Do c = λ some. subst (ItemSpares c.args.program.now c.args.place) (sym c.in-Do.is)
    (do-spares c.args.program.now c.args.place c.in-Do.id c.in-Do.number (c.spares-in-Do.ensures.spares some))

pub returns-in_ok-left-in-Choose : goal.returns-in_ok-left-in-Choose
returns-in_ok-left-in-Choose c = λ some. subst (ItemSpares c.args.program.now c.args.place) (sym c.in-Choose.is)
    (choose-spares c.args.program.now c.args.place c.in-Choose.taken c.in-Choose.other (c.in_ok-left-in-Choose.ensures.spares refl) (c.spares-in-Choose-2.ensures.spares some))
