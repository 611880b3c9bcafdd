use Rattle.std.proofs.Common.{◌≡◌}
use Rattle.std.specs.Option.{option_copied}
use Rattle.unit_table.proofs.Nexts.{after_test, first_in, first_such}
use Rattle.unit_table.proofs.record.next_after.Given as goal

abbrev pub invariant-loop-next : goal.invariant-loop-next
invariant-loop-next l = first_in l.next-iterator ≡ first_such (after_test (option_copied l.name)) l.records.entries
