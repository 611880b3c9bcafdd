use Rattle.std.proofs.Common.{rules, of_calls}
use Rattle.std.specs.Prelude.{nat_lt}
use Rattle.std.proofs.lemmas.Fn.{always_returns_same}
use Rattle.std.proofs.lemmas.List.Sorted.{IsPartitionedBy-ltb}
use Rattle.program_plan.proofs.Places.{count_by-point}
use Rattle.program_plan.proofs.frame.position.Goals as goal

pub returns : goal.returns
returns c =
    let point = c.partition_point.ensures.partitioned (λ m. nat_lt m c.args.number) (always_returns_same _ _ _ (λ a r f k. search (rules, of_calls)))
    (IsPartitionedBy-ltb (λ m. m) c.args.numbers.now c.args.number c.requires) in
    record { value = count_by-point (λ m. nat_lt m c.args.number) c.args.numbers.now c.partition_point.result c.partition_point.ensures.bound point.0 point.1; bound = c.partition_point.ensures.bound }
