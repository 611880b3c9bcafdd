use Rattle.std.proofs.Common.{◌∙◌, sym, ap}
use Rattle.std.specs.Option.{option_copied, option_map}
use Rattle.turns_ahead.specs.Leading.{ahead_of}
use Rattle.value_core.proofs.NamedViews.{named-each_as}
use Rattle.lent_pieces.proofs.giving.check_level.Goals as goal

pub returns-in-None : goal.returns-in-None
returns-in-None c = named-each_as ahead_of c.args.name.now c.args.kept.now.aheads.entries ∙ ap (option_map ahead_of) (sym c.find.ensures ∙ ap option_copied c.in-None.is)
