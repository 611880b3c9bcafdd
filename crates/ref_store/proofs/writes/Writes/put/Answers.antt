use Rattle.std.proofs.Common.{◌∙◌, sym, ap, subst}
use Rattle.value_core.specs.declared.value.Value.{Value}
use Rattle.value_core.specs.Named.{Name, Named, Rises, with_named}
use Rattle.value_core.specs.Roomy.{Roomy}
use Rattle.value_core.proofs.NamedLaws.{rises-with_named}
use Rattle.ref_store.specs.Writes.{IsPlaceOf, IsGapFor}
use Rattle.ref_store.proofs.WriteLaws.{none_gap, put_gap, put_place}
use Rattle.ref_store.proofs.writes.Writes.put.Goals as goal

-- the write of the ref is written over
pub invariant_of-self : goal.invariant_of-self
invariant_of-self c =
    let same = ap (λ (r : Roomy (Name × Value)). r.items) c.self.view_is in
    let place = subst (λ (ws : Named Value). IsPlaceOf ws c.args.name c.in-Ok.at) (sym same) c.in-Ok.ensures.found in
    subst (λ (ws : Named Value). Rises ws) (put_place c.self.inside.items.items c.args.name c.args.value c.in-Ok.at place) (rises-with_named c.args.name c.args.value c.self.inside.items.items c.self.invariant)

pub returns-in-Ok-clause-put : goal.returns-in-Ok-clause-put
returns-in-Ok-clause-put c =
    let same = ap (λ (r : Roomy (Name × Value)). r.items) c.self.view_is in
    let place = subst (λ (ws : Named Value). IsPlaceOf ws c.args.name c.in-Ok.at) (sym same) c.in-Ok.ensures.found in
    sym (put_place c.self.inside.items.items c.args.name c.args.value c.in-Ok.at place) ∙ ap (λ (ws : Named Value). with_named ws c.args.name c.args.value) same

-- the write is added in the gap
pub invariant_of-self-in-Err : goal.invariant_of-self-in-Err
invariant_of-self-in-Err c =
    let same = ap (λ (r : Roomy (Name × Value)). r.items) c.self.view_is in
    let gap = subst (λ (ws : Named Value). IsGapFor ws c.args.name c.in-Err.at) (sym same) c.in-Err.ensures.absent in
    subst (λ (ws : Named Value). Rises ws) (put_gap c.self.inside.items.items c.args.name c.args.value c.in-Err.at gap ∙ sym c.in_ok-insert-in-Err.ensures.items)
    (rises-with_named c.args.name c.args.value c.self.inside.items.items c.self.invariant)

pub returns-in_ok-insert-in-Err-clause-put : goal.returns-in_ok-insert-in-Err-clause-put
returns-in_ok-insert-in-Err-clause-put c =
    let same = ap (λ (r : Roomy (Name × Value)). r.items) c.self.view_is in
    let gap = subst (λ (ws : Named Value). IsGapFor ws c.args.name c.in-Err.at) (sym same) c.in-Err.ensures.absent in
    c.in_ok-insert-in-Err.ensures.items ∙ sym (put_gap c.self.inside.items.items c.args.name c.args.value c.in-Err.at gap) ∙ ap (λ (ws : Named Value). with_named ws c.args.name c.args.value) same

-- where no memory was found, the ref is not there
pub returns-in_err-insert-in-Err-clause-present : goal.returns-in_err-insert-in-Err-clause-present
returns-in_err-insert-in-Err-clause-present c = rw (none_gap _ _ _ c.in-Err.ensures.absent) (λ there. absurd (cc))
