-- What contracts see of files and of sinks.
use Rattle.std.specs.Prelude.{ℕ, List, Option}
use Rattle.world_io.specs.declared.files.FileItem.{FileItem}

-- what is held under names, where that is told; how many reads and how many writes failed; and the name of the read that
-- failed last, where one has failed
pub record FilesSeen : Type 0 where
  pub held : Option (List FileItem)
  pub read_faults : ℕ
  pub write_faults : ℕ
  pub last_unread : Option (List ℕ)

-- the bytes taken, where that is told, and how many writes failed
pub record SinkSeen : Type 0 where
  pub taken : Option (List ℕ)
  pub faults : ℕ
