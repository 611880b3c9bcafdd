use Rattle.std.proofs.Common.{◌≡◌}
use Rattle.std.specs.Option.{option_copied}
use Rattle.actor_mails.proofs.Firsts.{first_in, first_such, from_test}
use Rattle.actor_mails.proofs.mails.first_from.Given as goal

-- the first of what is left is the first of all
abbrev pub invariant-loop-next : goal.invariant-loop-next
invariant-loop-next l = first_in l.next-iterator ≡ first_such (from_test (option_copied l.start)) l.boxes.entries
