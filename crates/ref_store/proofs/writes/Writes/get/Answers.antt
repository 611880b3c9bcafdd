use Rattle.std.proofs.Common.{◌∙◌, Some, sym, ap, subst}
use Rattle.value_core.specs.declared.value.Value.{Value}
use Rattle.value_core.specs.Named.{Name, Named, named}
use Rattle.value_core.specs.Roomy.{Roomy}
use Rattle.ref_store.specs.Writes.{IsPlaceOf}
use Rattle.ref_store.proofs.WriteLaws.{find_place, none_gap}
use Rattle.ref_store.proofs.writes.Writes.get.Goals as goal

pub returns-in-Ok : goal.returns-in-Ok
returns-in-Ok c =
    let same = ap (λ (r : Roomy (Name × Value)). r.items) c.self.view_is in
    let place = subst (λ (ws : Named Value). IsPlaceOf ws c.args.name.now c.in-Ok.at) (sym same) c.in-Ok.ensures.found in
    ap (λ (e : Name × Value). Some e.1) c.index.ensures ∙ sym (find_place c.self.inside.items.items c.args.name.now c.in-Ok.at c.index.result.now place)
    ∙ ap (named c.args.name.now) same

pub returns-in-Err : goal.returns-in-Err
returns-in-Err c = sym (none_gap c.args.self.now.items c.args.name.now _ c.in-Err.ensures.absent)
