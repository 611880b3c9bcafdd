-- The bytes of white space, of words and of names.
use Rattle.std.specs.Prelude.{ℕ, Bool, not, ◌==◌, ◌&&◌, ◌||◌, nat_le}
use Rattle.sexpr_reader.specs.declared.lead.Class.{Class}
use Rattle.sexpr_reader.specs.declared.lead.Class.TheVariants.{WhiteSpace, Line, Word, Name, Later}
use Rattle.sexpr_reader.specs.Lead.{is_white_space, is_digit, is_word_byte}

abbrev pub is_letter : ℕ → Bool
is_letter b = (nat_le 65 b && nat_le b 90) || (nat_le 97 b && nat_le b 122)

-- the bytes * + ! - _ ? < > =
abbrev pub is_name_sign : ℕ → Bool
is_name_sign b = (b == 42) || (b == 43) || (b == 33) || (b == 45) || (b == 95) || (b == 63) || (b == 60) || (b == 62) || (b == 61)

-- the name characters
abbrev pub is_name_byte : ℕ → Bool
is_name_byte b = is_letter b || is_digit b || is_name_sign b

-- after the first byte of a name an apostrophe, 39, may stand too
abbrev pub is_later_byte : ℕ → Bool
is_later_byte b = is_name_byte b || (b == 39)

-- a comment goes on to the line feed, 10
abbrev pub is_line_byte : ℕ → Bool
is_line_byte b = not (b == 10)

-- the class has the byte
abbrev pub has : Class → ℕ → Bool
has WhiteSpace b = is_white_space b
has Line b = is_line_byte b
has Word b = is_word_byte b
has Name b = is_name_byte b
has Later b = is_later_byte b
