use Rattle.std.proofs.Common.{◌∙◌, ap}
use Rattle.value_core.specs.Roomy.{Roomy}
use Rattle.ref_store.specs.declared.version.Version.{Version}
use Rattle.ref_store.specs.Version.{newest}
use Rattle.ref_store.proofs.VersionLaws.{newest_get}
use Rattle.ref_store.proofs.versions.Versions.newest.Goals as goal

pub returns-clause-version : goal.returns-clause-version
returns-clause-version c = c.last.ensures.value ∙ newest_get c.deref.result.now ∙ ap newest (c.deref.ensures.value ∙ ap (λ (r : Roomy Version). r.items) c.self.view_is)
