-- What a body asks for is there.
use Rattle.std.specs.Prelude.{⊤, Bool}
use Rattle.core_syntax.specs.Table.{Table}
use Rattle.serial_model.specs.Carried.{IsThere}
use Rattle.serial_model.specs.declared.halt.Halt.{Halt}
use Rattle.serial_model.specs.declared.halt.Halt.TheVariants as halt

-- what a request names, inside a transaction or outside one, is in the table
abbrev pub IsThereAt : Table → Bool → Halt → Type 0
IsThereAt table inside (halt.Ask asked at) = IsThere table inside asked
IsThereAt table inside _ = ⊤
