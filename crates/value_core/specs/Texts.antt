-- How values are written: plain, and so that they can be read again.
use Rattle.std.specs.Prelude.{ℕ, ◌==◌, Bool, true, false, if◌then◌else◌, List, [], ◌∷◌, ◌++◌, map, codes}
use Rattle.std.specs.Fmt.{signed_decimal}
use Rattle.std.specs.List.{flat_map}
use Rattle.value_core.specs.declared.key.Key.{Key}
use Rattle.value_core.specs.declared.key.Key.TheVariants.{Bool as bool_key, Int as int_key, Kw as keyword_key, Str as string_key}
use Rattle.value_core.specs.declared.pair.Pair.{Pair}
use Rattle.value_core.specs.declared.value.Value.{Value}
use Rattle.value_core.specs.declared.value.Value.TheOpen as one
use Rattle.value_core.specs.declared.value.Value.TheFolds.{fold-Value}
use Rattle.value_core.specs.declared.value.Value.TheViews.{out-Value}
use Rattle.value_core.specs.declared.style.Style.{Style}
use Rattle.value_core.specs.declared.style.Style.TheVariants.{Plain, Readable}

-- the texts one after another, with the separator between them
abbrev pub joined : List ℕ → List (List ℕ) → List ℕ
joined separator [] = []
joined separator (text ∷ []) = text
joined separator (text ∷ next ∷ texts) = text ++ separator ++ joined separator (next ∷ texts)

-- the byte as it stands in a quoted string: seven bytes have an escape
abbrev pub escaped : ℕ → List ℕ
escaped b =
    if b == 34 then codes "\\\""
    else (if b == 92 then codes "\\\\"
    else (if b == 10 then codes "\\n"
    else (if b == 9 then codes "\\t"
    else (if b == 13 then codes "\\r"
    else (if b == 12 then codes "\\f"
    else (if b == 8 then codes "\\b"
    else b ∷ []))))))

abbrev pub quoted : List ℕ → List ℕ
quoted string = codes "\"" ++ flat_map escaped string ++ codes "\""

-- the two styles differ in strings alone
abbrev pub string_text : Style → List ℕ → List ℕ
string_text Plain string = string
string_text Readable string = quoted string

abbrev pub bool_text : Bool → List ℕ
bool_text true = codes "true"
bool_text false = codes "false"

abbrev pub key_text : Style → Key → List ℕ
key_text style (bool_key b) = bool_text b
key_text style (int_key n) = signed_decimal n
key_text style (keyword_key name) = codes ":" ++ name
key_text style (string_key s) = string_text style s

-- a key and its value, which is written already
abbrev pub pair_text : Style → Pair (List ℕ) → List ℕ
pair_text style p = key_text style p.key ++ codes " " ++ p.value

-- one level of a value, with the text of each part in its place
abbrev pub value_step : Style → one.Value-F (List ℕ) → List ℕ
value_step style one.Nil = codes "nil"
value_step style (one.Bool b) = bool_text b
value_step style (one.Int n) = signed_decimal n
value_step style (one.Str s) = string_text style s
value_step style (one.Kw name) = codes ":" ++ name
value_step style (one.Vector parts) = codes "[" ++ joined (codes " ") parts ++ codes "]"
value_step style (one.Map parts) = codes "{" ++ joined (codes ", ") (map (pair_text style) parts) ++ codes "}"
value_step style (one.Ref name) = codes "#<ref>"
value_step style (one.Actor name) = codes "#<actor>"
value_step style (one.Future name) = codes "#<future>"

abbrev pub value_text : Style → Value → List ℕ
value_text style = fold-Value (List ℕ) (value_step style)

-- a line: the plain texts with spaces between them, and a line feed
abbrev pub line_of : List Value → List ℕ
line_of args = joined (codes " ") (map (value_text Plain) args) ++ codes "\n"

-- what an argument of `str` adds: nothing for nil, a string's own bytes, else the readable text
abbrev pub str_step : {A : Type 0} → one.Value-F A → List ℕ → List ℕ
str_step one.Nil text = []
str_step (one.Bool b) text = text
str_step (one.Int n) text = text
str_step (one.Str s) text = s
str_step (one.Kw name) text = text
str_step (one.Vector parts) text = text
str_step (one.Map parts) text = text
str_step (one.Ref name) text = text
str_step (one.Actor name) text = text
str_step (one.Future name) text = text

abbrev pub str_piece : Value → List ℕ
str_piece v = str_step (out-Value v) (value_text Readable v)

-- the string of some values
abbrev pub str_text : List Value → List ℕ
str_text args = flat_map str_piece args
