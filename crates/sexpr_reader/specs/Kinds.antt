-- The numbers of refusals of a text.
use Rattle.std.specs.Prelude.{ℕ}
use Rattle.sexpr_reader.specs.declared.error.ReadKind.{ReadKind}
use Rattle.sexpr_reader.specs.declared.error.ReadKind.TheVariants.{BadByte, Unclosed, Unmatched, BadNumber, BadString, TooNested, TooLong}

-- the number of a refusal of the text
abbrev pub kind_number : ReadKind → ℕ
kind_number BadByte = 1
kind_number Unclosed = 2
kind_number Unmatched = 3
kind_number BadNumber = 4
kind_number BadString = 5
kind_number TooNested = 6
kind_number TooLong = 7
