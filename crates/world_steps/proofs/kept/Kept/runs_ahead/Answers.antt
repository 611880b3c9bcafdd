use Rattle.std.proofs.Common.{◌∙◌, sym, ap}
use Rattle.std.specs.Option.{is_some}
use Rattle.turns_ahead.specs.Leading.{ahead_of}
use Rattle.value_core.proofs.NamedViews.{named-each_as}
use Rattle.world_steps.proofs.Acting.{copied-there, same-some}
use Rattle.world_steps.proofs.kept.Kept.runs_ahead.Goals as goal

pub returns : goal.returns
returns c = c.is_some.ensures ∙ copied-there c.find.result ∙ ap is_some c.find.ensures ∙ same-some ahead_of _ ∙ ap is_some (sym (named-each_as ahead_of c.args.name.now c.args.self.now.aheads.entries))
