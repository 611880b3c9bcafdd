-- Files of the host, which contracts see as their counts, and the name of the read that failed last.
use Rattle.std.specs.Prelude.{ℕ, List, Option}

-- how many reads and how many writes failed, and which name's read failed last
pub record HostFaults : Type 0 where
  pub of_reads : ℕ
  pub of_writes : ℕ
  pub last_unread : Option (List ℕ)
