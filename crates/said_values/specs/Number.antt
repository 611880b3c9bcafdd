-- Numbers as a command line spells them.
use Rattle.std.specs.Prelude.{ℕ, List, [], ◌∷◌, Bool, true, false, ◌&&◌, ◌==◌, not, nat_le, length}
use Rattle.std.specs.Prelude.{Option, Some, None, if◌then◌else◌}
use Rattle.std.specs.Char.{is_ascii_digit}
use Rattle.std.specs.List.{list_all}
use Rattle.std.specs.Str.Parse.{digits_value}

-- there is a digit, and no zero stands in front of others
abbrev pub has_no_needless_zero : List ℕ → Bool
has_no_needless_zero [] = false
has_no_needless_zero (first ∷ []) = true
has_no_needless_zero (first ∷ second ∷ rest) = not (first == 48)

-- a number as it is spelled: `0`, or a digit from 1 to 9 and digits behind it, at most 20 in all
abbrev pub is_number : List ℕ → Bool
is_number text = (nat_le (length text) 20 && has_no_needless_zero text) && list_all is_ascii_digit text

-- the number that the text spells
abbrev pub number_of : List ℕ → Option ℕ
number_of text = if is_number text then Some (digits_value 10 text) else None
