-- Strings: quotes round bytes that stand for themselves, and seven escapes.
use Rattle.std.specs.Prelude.{◌≡◌, ◌≢◌, ◌⊎◌, ℕ, if◌then◌else◌, ◌==◌, List, [], ◌∷◌, Option, None, Some}
use Rattle.sexpr_reader.specs.declared.error.ReadKind.{ReadKind}
use Rattle.sexpr_reader.specs.declared.error.ReadKind.TheVariants.{BadString, Unclosed}
use Rattle.value_core.specs.Place.{Spot}
use Rattle.sexpr_reader.specs.Cursor.{Cursor, Over}

-- the byte that a backslash and this one stand for: " \ n t r f b
abbrev pub unescaped : ℕ → Option ℕ
unescaped e =
    if e == 34 then Some 34
    else (if e == 92 then Some 92
    else (if e == 110 then Some 10
    else (if e == 116 then Some 9
    else (if e == 114 then Some 13
    else (if e == 102 then Some 12
    else (if e == 98 then Some 8
    else None))))))

-- a byte of a string, as it is written; " is 34 and \ is 92
pub data Written : Cursor → ℕ → Cursor → Type 0 where
  plain : {c d : Cursor} {b : ℕ} → b ≢ 34 → b ≢ 92 → Over (b ∷ []) c d → Written c b d
  escape : {c d : Cursor} {b : ℕ} (e : ℕ) → unescaped e ≡ Some b → Over (92 ∷ e ∷ []) c d → Written c b d

-- the bytes of a string, as they are written
pub data Content : Cursor → List ℕ → Cursor → Type 0 where
  none : {c : Cursor} → Content c [] c
  more : {c m d : Cursor} {b : ℕ} {bs : List ℕ} → Written c b m → Content m bs d → Content c (b ∷ bs) d

pub record IsString (c : Cursor) (text : List ℕ) (d : Cursor) : Type 0 where
  pub inside : Cursor
  pub close : Cursor
  pub opens : Over (34 ∷ []) c inside
  pub content : Content inside text close
  pub closes : Over (34 ∷ []) close d

-- what is wrong behind the bytes of a string, and where, for a string whose quote is at that place
abbrev pub StringStops : Spot → Cursor → ReadKind → Spot → Type 0
StringStops quote n kind at =
    ((n.rest ≡ []) × (kind ≡ Unclosed) × (at ≡ quote))
    ⊎ ((n.rest ≡ 92 ∷ []) × (kind ≡ Unclosed) × (at ≡ quote))
    ⊎ ((e : ℕ) × (rest : List ℕ) × (n.rest ≡ 92 ∷ e ∷ rest) × (unescaped e ≡ None) × (kind ≡ BadString) × (at ≡ n.at))

-- a quote begins no string
pub record IsNoString (c : Cursor) (kind : ReadKind) (at : Spot) : Type 0 where
  pub inside : Cursor
  pub stop : Cursor
  pub text : List ℕ
  pub opens : Over (34 ∷ []) c inside
  pub content : Content inside text stop
  pub stops : StringStops c.at stop kind at
