use Rattle.std.proofs.Common.{◌∙◌, List, arith, length, sym, ap, subst}
use Rattle.ref_store.specs.Writes.{IsGapFor}
use Rattle.shared_map.proofs.NameLaws.{rises-with_member}
use Rattle.txn_snapshot.specs.Reads.{marked, with_read, ReadsRise}
use Rattle.txn_snapshot.proofs.ReadLaws.{length-marked, read_gap, read_stays}
use Rattle.txn_snapshot.proofs.reads.Reads.put.Goals as goal
use Rattle.value_core.specs.Named.{Name}
use Rattle.value_core.specs.Roomy.{Roomy}

-- the ref is there
pub returns-in-Ok-clause-put : goal.returns-in-Ok-clause-put
returns-in-Ok-clause-put c = sym (read_stays c.args.self.now.items c.args.name _ c.in-Ok.ensures.found)

-- the ref is added in the gap
pub insert-requires : goal.insert-requires
insert-requires c =
    let same = ap (λ (r : Roomy Name). length r.items) c.self.view_is in
    let long = length-marked c.args.self.now.items in
    let in_range = c.in-Err.ensures.absent.in_range in
    omega (arith, same, long, in_range, c.self.inside.items.ok.0)

pub invariant_of-self-in-Err : goal.invariant_of-self-in-Err
invariant_of-self-in-Err c =
    let same = ap (λ (r : Roomy Name). r.items) c.self.view_is in
    let gap = subst (λ (ns : List Name). IsGapFor (marked ns) c.args.name c.in-Err.at) (sym same) c.in-Err.ensures.absent in
    subst (λ (ns : List Name). ReadsRise ns) (read_gap c.self.inside.items.items c.args.name c.in-Err.at gap ∙ sym c.in_ok-insert-in-Err.ensures.items)
    (rises-with_member c.self.inside.items.items c.args.name c.self.invariant)

pub returns-in_ok-insert-in-Err-clause-put : goal.returns-in_ok-insert-in-Err-clause-put
returns-in_ok-insert-in-Err-clause-put c =
    let same = ap (λ (r : Roomy Name). r.items) c.self.view_is in
    let gap = subst (λ (ns : List Name). IsGapFor (marked ns) c.args.name c.in-Err.at) (sym same) c.in-Err.ensures.absent in
    c.in_ok-insert-in-Err.ensures.items ∙ sym (read_gap c.self.inside.items.items c.args.name c.in-Err.at gap) ∙ ap (λ (ns : List Name). with_read ns c.args.name) same
