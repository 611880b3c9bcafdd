-- How the words after the name of a command are read, from left to right.
use Rattle.std.specs.Prelude.{ℕ, List, [], ◌∷◌, ◌++◌, Bool, false, ◌&&◌, ◌==◌, not, Option, Some, None, is_none}
use Rattle.std.specs.Prelude.{if◌then◌else◌, find, option_map, option_and_then, codes}
use Rattle.std.specs.List.{list_all, list_any, before_first, after_first}
use Rattle.std.specs.Str.{bytes_eq}
use Rattle.said_values.specs.Values.{Word}

-- what a command takes: words in places, one for each in this order, and options
pub record Form : Type 0 where
  pub places : List Word
  pub options : List Word

-- what the words so far gave to places and options, the places that are still free, and the option that waits for its
-- value
pub record Reading : Type 0 where
  pub given : List (Word × Word)
  pub free : List Word
  pub asked : Option Word

-- a word that may be a value or stand in a place: it is not empty, and doesn't begin with a dash
abbrev pub is_fit : Word → Bool
is_fit [] = false
is_fit (b ∷ bs) = not (b == 45)

-- the place or option has a word
abbrev pub is_given : Word → List (Word × Word) → Bool
is_given name given = list_any (λ g. bytes_eq g.0 name) given

-- what the place or option was given
abbrev pub value_of : List (Word × Word) → Word → Option Word
value_of given name = option_map (λ g. g.1) (find (λ g. bytes_eq g.0 name) given)

-- the place or option gets the word, which is refused where the word is unfit or the name has one already
abbrev pub give : Word → Word → Reading → Option Reading
give name word r =
    if is_fit word && not (is_given name r.given)
    then Some (record { given = r.given ++ (name, word) ∷ []; free = r.free; asked = None })
    else None

-- the byte is `=`
abbrev pub is_equals : ℕ → Bool
is_equals b = b == 61

-- an option as a word has it
abbrev pub dashed : Word → Word
dashed name = codes "--" ++ name

-- the option that the word is, or begins with before an `=`
abbrev pub option_of : List Word → Word → Option Word
option_of options word = find (λ name. bytes_eq (dashed name) (before_first is_equals word)) options

-- the word is an option: what stands behind its `=` is the value, and else the next word is
abbrev pub read_option : Word → Word → Reading → Option Reading
read_option name word r =
    if list_any is_equals word then give name (after_first is_equals word) r
    else Some (record { given = r.given; free = r.free; asked = Some name })

-- the word takes the first free place
abbrev pub read_in_place : Word → List Word → Reading → Option Reading
read_in_place word [] r = None
read_in_place word (place ∷ free) r = give place word (record { given = r.given; free = free; asked = r.asked })

-- the word where no option waits: it is the option that is found in it, or takes a place
abbrev pub read_unasked : Option Word → Word → Reading → Option Reading
read_unasked (Some name) word r = read_option name word r
read_unasked None word r = read_in_place word r.free r

-- the word is the value of the option that waits for one, and else an option or a word in a place
abbrev pub read_by : List Word → Option Word → Word → Reading → Option Reading
read_by options (Some name) word r = give name word r
read_by options None word r = read_unasked (option_of options word) word r

-- the reading after one more word, and `None` where it is refused
abbrev pub read_word : List Word → Word → Reading → Option Reading
read_word options word r = read_by options r.asked word r

-- the reading after all the words, from left to right
abbrev pub read_words : List Word → List Word → Reading → Option Reading
read_words options [] r = Some r
read_words options (word ∷ words) r = option_and_then (read_words options words) (read_word options word r)

-- no option waits for its value, and each place has its word
abbrev pub is_whole : Form → Reading → Bool
is_whole form r = is_none r.asked && list_all (λ place. is_given place r.given) form.places

-- what was given, if the reading is whole
abbrev pub whole : Form → Reading → Option (List (Word × Word))
whole form r = if is_whole form r then Some r.given else None

-- before the first word
abbrev pub first_reading : Form → Reading
first_reading form = record { given = []; free = form.places; asked = None }

-- what the words give to the command's places and options, and `None` where they are refused
abbrev pub given_of : Form → List Word → Option (List (Word × Word))
given_of form words = option_and_then (whole form) (read_words form.options words (first_reading form))
