use Rattle.std.proofs.Common.{◌∙◌, ap}
use Rattle.serial_model.specs.Log.{is_held}
use Rattle.task_log.proofs.EffectMarks.{has_held}
use Rattle.task_log.proofs.log.TaskLog.holds.Goals as goal

pub returns : goal.returns
returns c = λ effect is. c.contains.ensures ∙ has_held c.self.inside.held c.self.inside.effects effect c.args.mark.now c.self.invariant.1 is ∙ ap (λ l. is_held l.effects effect) c.self.view_is
