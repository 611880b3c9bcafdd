-- What a check writes on standard output.
use Rattle.std.specs.Prelude.{ℕ, List, ◌++◌, codes, decimal, length}
use Rattle.core_syntax.specs.Table.{Table, global_count}

-- the line of so many functions, behaviours and globals
abbrev pub count_line : ℕ → ℕ → ℕ → List ℕ
count_line functions behaviours globals =
    codes "ok " ++ decimal functions ++ codes " functions " ++ decimal behaviours ++ codes " behaviours " ++ decimal globals ++ codes " globals\n"

-- the line of a checked program: the functions that its source writes, its behaviours and its globals
abbrev pub check_line : Table → List ℕ
check_line table = count_line table.written (length table.behaviours) (global_count table)
