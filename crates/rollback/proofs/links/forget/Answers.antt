use Rattle.std.proofs.Common.{rules, ◌∷◌}
use Rattle.std.proofs.lemmas.Fn.{filter_same}
use Rattle.std.specs.Prelude.{not}
use Rattle.rollback.specs.Dependants.{is_one_of}
use Rattle.rollback.specs.declared.link.Link.{Link}
use Rattle.rollback.proofs.links.forget.Goals as goal

pub returns-clause-forgotten : goal.returns-clause-forgotten
returns-clause-forgotten c =
    filter_same _ (λ (link : Link). not (is_one_of link.by (c.args.first ∷ c.args.others.now))) _ (λ link kept closure called. search rules) _ _ c.retain.ensures.filtered
