use Rattle.std.proofs.Common.{◌∙◌, List, Option, sym, ap, subst}
use Rattle.std.specs.Option.{option_copied}
use Rattle.value_core.specs.Named.{Rises}
use Rattle.ref_store.specs.declared.version.Version.{Version}
use Rattle.ref_store.specs.Store.{versions_of, Kept}
use Rattle.ref_store.specs.Version.{newest, IsHighest, NumbersRise}
use Rattle.ref_store.proofs.PlaceLaws.{held, held_nothing, rises_shown}
use Rattle.ref_store.proofs.VersionLaws.{highest_is}
use Rattle.ref_store.proofs.store.Store.newest.Goals as goal

pub returns-in-Some : goal.returns-in-Some
returns-in-Some c =
    let name = c.args.name.now in
    let items = held name c.self.inside.refs.entries c.args.self.now c.in-Some.versions.now c.self.invariant.rises c.self.view_is (sym c.find.ensures ∙ ap option_copied c.in-Some.is) in
    let version = c.newest.ensures.version ∙ ap newest items in
    record {
      version = version;
      highest = subst (λ (o : Option Version). IsHighest (versions_of c.args.self.now.versions name) o) (sym version)
          (highest_is (versions_of c.args.self.now.versions name) (subst (λ (vs : List Version). NumbersRise vs) items c.newest.ensures.rises));
      rises = subst (λ (k : Kept). Rises k.versions) c.self.view_is (rises_shown c.self.inside.refs.entries c.self.invariant.rises);
    }

pub returns-in-None : goal.returns-in-None
returns-in-None c =
    let name = c.args.name.now in
    let nothing = held_nothing name c.self.inside.refs.entries c.args.self.now c.self.invariant.rises c.self.view_is (sym c.find.ensures ∙ ap option_copied c.in-None.is) in
    record {
      version = ap newest nothing;
      highest = sym nothing;
      rises = subst (λ (k : Kept). Rises k.versions) c.self.view_is (rises_shown c.self.inside.refs.entries c.self.invariant.rises);
    }
