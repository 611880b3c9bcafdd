use Rattle.std.proofs.Common.{◌≡◌, ◌∙◌, List, [], Option, Some, sym, ap, subst, arith}
use Rattle.std.specs.Option.{option_copied, option_map}
use Rattle.value_core.specs.declared.value.Value.{Value}
use Rattle.ref_store.specs.declared.version.Version.{Version}
use Rattle.ref_store.specs.Store.{versions_of}
use Rattle.ref_store.specs.Version.{value_at, IsReadAt, NumbersRise}
use Rattle.ref_store.proofs.PlaceLaws.{held, held_nothing}
use Rattle.ref_store.proofs.VersionLaws.{read_at}
use Rattle.ref_store.proofs.store.Store.read_at.Goals as goal

pub returns-in-Some-at : goal.returns-in-Some-at
returns-in-Some-at c =
    let name = c.args.name.now in
    let items = held name c.self.inside.refs.entries c.args.self.now c.in-Some.versions.now c.self.invariant.rises c.self.view_is (sym c.find.ensures ∙ ap option_copied c.in-Some.is) in
    let value : Some c.in-Some-at.version.now.value ≡ value_at c.args.number (versions_of c.args.self.now.versions name) =
    ap (λ (o : Option Version). option_map (λ v. v.value) o) (sym (ap option_copied c.in-Some-at.is) ∙ c.at.ensures.version) ∙ ap (value_at c.args.number) items in
    record {
      value = value;
      newest = subst (λ (o : Option Value). IsReadAt c.args.number (versions_of c.args.self.now.versions name) o) (sym value)
          (read_at c.args.number (versions_of c.args.self.now.versions name) (subst (λ (vs : List Version). NumbersRise vs) items c.at.ensures.rises));
    }

pub returns-in-None-at : goal.returns-in-None-at
returns-in-None-at c =
    let name = c.args.name.now in
    let items = held name c.self.inside.refs.entries c.args.self.now c.in-Some.versions.now c.self.invariant.rises c.self.view_is (sym c.find.ensures ∙ ap option_copied c.in-Some.is) in
    let value =
    ap (λ (o : Option Version). option_map (λ v. v.value) o) (sym (ap option_copied c.in-None-at.is) ∙ c.at.ensures.version) ∙ ap (value_at c.args.number) items in
    record {
      value = value;
      newest = subst (λ (o : Option Value). IsReadAt c.args.number (versions_of c.args.self.now.versions name) o) (sym value)
          (read_at c.args.number (versions_of c.args.self.now.versions name) (subst (λ (vs : List Version). NumbersRise vs) items c.at.ensures.rises));
    }

pub returns-in-None : goal.returns-in-None
returns-in-None c =
    let name = c.args.name.now in
    let nothing = held_nothing name c.self.inside.refs.entries c.args.self.now c.self.invariant.rises c.self.view_is (sym c.find.ensures ∙ ap option_copied c.in-None.is) in
    record {
      value = ap (value_at c.args.number) nothing;
      newest = subst (λ (vs : List Version). IsReadAt c.args.number vs (value_at c.args.number [])) nothing (read_at c.args.number [] (λ i j d lt in_range. absurd (omega arith)));
    }
