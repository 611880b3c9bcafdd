use Rattle.std.proofs.Common.{◌∙◌, ◌-◌, get_or, List, Some, sym, ap, subst, rules, arith}
use Rattle.std.specs.List.Sorted.{IsNonDecreasingBy}
use Rattle.std.proofs.lemmas.List.Sorted.{IsPartitionPoint-from_clause, IsPartitionedBy-leb}
use Rattle.value_core.specs.Roomy.{Roomy}
use Rattle.ref_store.specs.declared.version.Version.{Version}
use Rattle.ref_store.specs.Version.{is_by, version_at}
use Rattle.ref_store.proofs.VersionLaws.{last_at, none_at, rise_non_decreasing}
use Rattle.ref_store.proofs.versions.Versions.at.Goals as goal

pub returns-then-count-eq0-clause-version : goal.returns-then-count-eq0-clause-version
returns-then-count-eq0-clause-version c =
    let all = c.deref.result.now in
    let rises = subst (λ (vs : List Version). IsNonDecreasingBy (λ v. v.number) vs) (sym c.deref.ensures.value) (rise_non_decreasing c.self.inside.all.items c.self.invariant) in
    let point = IsPartitionPoint-from_clause (is_by c.args.number) all c.partition_point-count.result c.partition_point-count.ensures.partitioned (IsPartitionedBy-leb (λ v. v.number) all c.args.number rises) (λ a r q k. search rules) in
    sym (none_at c.args.number all c.partition_point-count.result (omega arith) point.0 point.1)
    ∙ ap (version_at c.args.number) (c.deref.ensures.value ∙ ap (λ (r : Roomy Version). r.items) c.self.view_is)

pub returns-clause-version : goal.returns-clause-version
returns-clause-version c =
    let all = c.deref.result.now in
    let rises = subst (λ (vs : List Version). IsNonDecreasingBy (λ v. v.number) vs) (sym c.deref.ensures.value) (rise_non_decreasing c.self.inside.all.items c.self.invariant) in
    let point = IsPartitionPoint-from_clause (is_by c.args.number) all c.partition_point-count.result c.partition_point-count.ensures.partitioned (IsPartitionedBy-leb (λ v. v.number) all c.args.number rises) (λ a r q k. search rules) in
    ap Some c.index.ensures ∙ ap (λ (vs : List Version). Some (get_or vs (c.partition_point-count.result - 1) c.index.result.now)) (sym c.deref.ensures.value)
    ∙ sym (last_at c.args.number all c.partition_point-count.result c.index.result.now (omega arith) c.partition_point-count.ensures.bound point.0 point.1)
    ∙ ap (version_at c.args.number) (c.deref.ensures.value ∙ ap (λ (r : Roomy Version). r.items) c.self.view_is)
