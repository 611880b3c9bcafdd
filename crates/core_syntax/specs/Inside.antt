-- What the fields of a program mean, and what holds of them.
use Rattle.std.specs.Prelude.{◌≡◌, length}
use Rattle.core_syntax.specs.declared.program.Program.TheInside.{Inside}
use Rattle.core_syntax.specs.Table.{Table, global_count}
use Rattle.core_syntax.specs.WellFormed.{IsWellFormed}

abbrev pub table_of : Inside → Table
table_of p = record { nodes = p.rows; functions = p.functions; written = p.written; behaviours = p.behaviours; main = p.main }

-- the table is well formed, and the two counts are its own
pub record IsSound (p : Inside) : Type 0 where
  pub well_formed : IsWellFormed (table_of p)
  pub behaviours_counted : p.behaviour_count ≡ length p.behaviours
  pub globals_counted : p.global_count ≡ global_count (table_of p)
