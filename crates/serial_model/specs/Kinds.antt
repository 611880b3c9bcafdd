-- The numbers of refusals of a trace.
use Rattle.std.specs.Prelude.{ℕ}
use Rattle.serial_model.specs.declared.trace.LineKind.{LineKind}
use Rattle.serial_model.specs.declared.trace.LineKind.TheVariants.{BadLine, TooLong}

-- the number of a refusal of a trace
abbrev pub kind_number : LineKind → ℕ
kind_number BadLine = 1
kind_number TooLong = 2
