use Rattle.std.proofs.Common.{sym, subst}
use Rattle.shared_map.proofs.NameLaws.{marked-names}
use Rattle.shared_map.proofs.shared_names.SharedNames.list.Goals as goal
use Rattle.shared_map.specs.Names.{MembersRise}
use Rattle.value_core.specs.Named.{Named, Rises}

pub returns-clause-rises : goal.returns-clause-rises
returns-clause-rises c = subst MembersRise c.self.view_is (subst (λ (m : Named (Unit {0})). Rises m) (sym (marked-names c.self.inside.names)) c.names.ensures.rises)
