use Rattle.std.proofs.Common.{◌∙◌, ap}
use Rattle.shared_map.proofs.NameLaws.{there-named}
use Rattle.shared_map.proofs.shared_names.SharedNames.contains.Goals as goal
use Rattle.value_core.specs.Named.{is_among}

pub returns : goal.returns
returns c = c.contains.ensures ∙ there-named c.args.name.now c.self.inside.names ∙ ap (is_among c.args.name.now) c.self.view_is
