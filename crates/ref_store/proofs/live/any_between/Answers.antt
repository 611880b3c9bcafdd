use Rattle.std.proofs.Common.{◌∙◌, length, ltb, rules, arith}
use Rattle.std.proofs.lemmas.Bool.{le-ltb}
use Rattle.std.proofs.lemmas.List.Sorted.{IsPartitionPoint-from_clause, IsPartitionedBy-ltb}
use Rattle.ref_store.proofs.PruneLaws.{between_first, between_none}
use Rattle.ref_store.proofs.live.any_between.Goals as goal

pub returns-then-first-numbers : goal.returns-then-first-numbers
returns-then-first-numbers c =
    let numbers = c.args.numbers.now in
    let point = IsPartitionPoint-from_clause (λ n. ltb n c.args.from) numbers c.partition_point-first.result c.partition_point-first.ensures.partitioned (IsPartitionedBy-ltb (λ n. n) numbers c.args.from c.requires) (λ a r q k. search rules) in
    between_first numbers c.args.from c.args.to c.partition_point-first.result point.0 point.1 c.requires (omega arith)

pub returns-else-first-numbers : goal.returns-else-first-numbers
returns-else-first-numbers c =
    let numbers = c.args.numbers.now in
    let point = IsPartitionPoint-from_clause (λ n. ltb n c.args.from) numbers c.partition_point-first.result c.partition_point-first.ensures.partitioned (IsPartitionedBy-ltb (λ n. n) numbers c.args.from c.requires) (λ a r q k. search rules) in
    le-ltb c.partition_point-first.result (length numbers) (omega arith) ∙ between_none numbers c.args.from c.args.to c.partition_point-first.result point.0 point.1 (omega arith)
