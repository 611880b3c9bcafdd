-- The refs that a task has read from the store.
use Rattle.std.specs.Prelude.{List}
use Rattle.std.specs.Coded.{Coded, coded_list, coded_ℕ}
use Rattle.shared_map.specs.Names.{MembersRise, with_member}
use Rattle.shared_map.specs.Names as names
use Rattle.value_core.specs.Named.{Name, Named}
use Rattle.value_core.specs.Roomy.{Roomy, roomy_code}

-- reads are stored as names
abbrev pub reads_code : Coded (Roomy Name)
reads_code = roomy_code (coded_list coded_ℕ)

-- the names, with this one in its place where it is none of them
abbrev pub with_read : List Name → Name → List Name
with_read reads name = with_member reads name

-- the names as a map by name that has nothing under them
abbrev pub marked : List Name → Named (Unit {0})
marked reads = names.marked reads

-- the names rise
abbrev pub ReadsRise : List Name → Type 0
ReadsRise reads = MembersRise reads
