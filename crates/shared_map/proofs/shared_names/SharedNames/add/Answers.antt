use Rattle.std.proofs.Common.{◌∙◌, ap}
use Rattle.std.proofs.lemmas.Result.{on_ok_weaker}
use Rattle.shared_map.proofs.NameLaws.{among-added, names-with_named}
use Rattle.shared_map.proofs.shared_names.SharedNames.add.Goals as goal
use Rattle.shared_map.specs.Names.{names_of, with_member}
use Rattle.value_core.specs.Named.{is_among}

pub returns-clause-added : goal.returns-clause-added
returns-clause-added c =
    on_ok_weaker c.put.result (λ is. ap names_of is ∙ names-with_named c.self.inside.names c.args.name ∙ ap (λ m. with_member m c.args.name) c.self.view_is) c.put.ensures.put

pub returns-clause-among : goal.returns-clause-among
returns-clause-among c =
    on_ok_weaker c.put.result (λ is q. ap (is_among q) (ap names_of is ∙ names-with_named c.self.inside.names c.args.name ∙ ap (λ m. with_member m c.args.name) c.self.view_is)
    ∙ among-added q c.args.self.now c.args.name) c.put.ensures.put
