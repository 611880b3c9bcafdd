-- Tail position: where recur may stand.
use Rattle.std.specs.Prelude.{ℕ, Bool, false, ◌==◌, ◌&&◌, ◌%◌, nat_le}
use Rattle.scope_check.specs.declared.rule.Rule.{Rule}
use Rattle.scope_check.specs.declared.rule.Rule.TheVariants as rule
use Rattle.scope_check.specs.declared.stand.Stand.{Stand}

-- which parts are in tail position where the whole is
abbrev pub tail_at : Rule → ℕ → Bool → Bool
tail_at rule.Plain i is_last = false
tail_at rule.Last i is_last = is_last
tail_at rule.Branches i is_last = nat_le 1 i
tail_at rule.Results i is_last = i % 2 == 1
tail_at rule.Chain i is_last = is_last

abbrev pub part_stand : Rule → ℕ → Bool → Stand → Stand
part_stand rule i is_last stand = record { target = stand.target; tail = stand.tail && tail_at rule i is_last }
