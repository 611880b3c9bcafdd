-- What begins at a place in a source, told by the first byte, and behind a sign by the second.
use Rattle.std.specs.Prelude.{ℕ, Bool, true, false, if◌then◌else◌, ◌==◌, ◌&&◌, ◌||◌, nat_le, List, [], ◌∷◌}
use Rattle.sexpr_reader.specs.declared.group.Group.TheVariants as group
use Rattle.sexpr_reader.specs.declared.lead.Lead.{Lead}
use Rattle.sexpr_reader.specs.declared.lead.Lead.TheVariants.{End, WhiteSpace, Comment, Open, Close, Quote, Colon, Number, Other}

-- the bytes 9 to 13, the space and the comma
abbrev pub is_white_space : ℕ → Bool
is_white_space b = (nat_le 9 b && nat_le b 13) || (b == 32) || (b == 44)

abbrev pub is_digit : ℕ → Bool
is_digit b = nat_le 48 b && nat_le b 57

abbrev pub is_sign : ℕ → Bool
is_sign b = (b == 43) || (b == 45)

-- what a byte begins by itself: ; ( [ { @ ) ] } " and : are 59, 40, 91, 123, 64, 41, 93, 125, 34 and 58
abbrev pub byte_lead : ℕ → Lead
byte_lead b =
    if is_white_space b then WhiteSpace
    else (if b == 59 then Comment
    else (if b == 40 then Open group.List
    else (if b == 91 then Open group.Vector
    else (if b == 123 then Open group.Map
    else (if b == 64 then Open group.At
    else (if b == 41 then Close group.List
    else (if b == 93 then Close group.Vector
    else (if b == 125 then Close group.Map
    else (if b == 34 then Quote
    else (if b == 58 then Colon
    else (if is_digit b then Number
    else Other)))))))))))

-- the first byte, where there is one, passes the test
abbrev pub begins : (ℕ → Bool) → List ℕ → Bool
begins p [] = false
begins p (b ∷ bs) = p b

abbrev pub lead_of : List ℕ → Lead
lead_of [] = End
lead_of (b ∷ bs) = if is_sign b && begins is_digit bs then Number else byte_lead b

abbrev pub is_of_word : Lead → Bool
is_of_word Colon = true
is_of_word Number = true
is_of_word Other = true
is_of_word _ = false

-- the bytes of words: all but white space, brackets, @, " and ;
abbrev pub is_word_byte : ℕ → Bool
is_word_byte b = is_of_word (byte_lead b)
