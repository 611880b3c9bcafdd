use Rattle.std.proofs.Common.{◌∙◌, sym, ap}
use Rattle.std.specs.Option.{option_copied}
use Rattle.std.proofs.lemmas.Result.{IfOk-weaker}
use Rattle.serial_units.proofs.KnownResults.{met_known, met_missing}
use Rattle.serial_units.proofs.NewResults.{joined_keeps}
use Rattle.value_core.proofs.NamedLaws.{same_name-equal}
use Rattle.serial_units.proofs.tasks.Tasks.meet.Goals as goal

pub returns-in-Some-clause-met : goal.returns-in-Some-clause-met
returns-in-Some-clause-met c =
    IfOk-weaker c.join.result _ _ (λ found joined here at.
    met_known _ _ same_name-equal c.args.self.now.top c.join.new.task c.args.future.now c.in-Some.done.now found
    (sym c.knows.ensures ∙ c.if-not-knows.false) (sym c.find.ensures ∙ ap option_copied c.in-Some.is) joined here at) c.join.ensures

pub returns-in-None-clause-met : goal.returns-in-None-clause-met
returns-in-None-clause-met c = λ here at.
    absurd (met_missing _ _ same_name-equal c.args.self.now.top c.args.future.now (sym c.knows.ensures ∙ c.if-not-knows.false) (sym c.find.ensures ∙ ap option_copied c.in-None.is) here at)

pub returns-in-Some-clause-made : goal.returns-in-Some-clause-made
returns-in-Some-clause-made c =
    IfOk-weaker c.join.result _ _ (λ found joined. joined_keeps c.args.self.now.top c.join.new.task c.args.future.now c.in-Some.done.now found joined) c.join.ensures
