-- Files in memory.
use Rattle.std.specs.Prelude.{ℕ, List, Option, Result, Ok, Err}
use Rattle.world_io.specs.Counts.{raised}
use Rattle.world_io.specs.FailPlan.{Plan}
use Rattle.world_io.specs.declared.files.FileItem.{FileItem}
use Rattle.world_io.specs.declared.files.FileNo.{FileNo}
use Rattle.world_io.specs.declared.files.FileNo.TheVariants.{Failed, Absent, TooLong, Memory}
use Rattle.world_io.specs.declared.files.WriteNo.{WriteNo}
use Rattle.world_io.specs.declared.files.WriteNo.TheVariants as write

-- the files, which calls fail, how many reads and how many writes have failed, and which name's read failed last
pub record FilesInMemory : Type 0 where
  pub held : List FileItem
  pub plan : Plan
  pub read_faults : ℕ
  pub write_faults : ℕ
  pub last_unread : Option (List ℕ)

-- the count after a read: one more after a failure, and as it was after every other answer
abbrev pub faults_after : {T : Type 0} → Result T FileNo → ℕ → ℕ
faults_after (Ok bytes) before = before
faults_after (Err Failed) before = raised before
faults_after (Err Absent) before = before
faults_after (Err TooLong) before = before
faults_after (Err Memory) before = before

-- and so the count after a write
abbrev pub faults_after_write : {T : Type 0} → Result T WriteNo → ℕ → ℕ
faults_after_write (Ok x) before = before
faults_after_write (Err write.Failed) before = raised before
faults_after_write (Err write.Memory) before = before
