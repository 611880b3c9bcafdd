-- The grammar of a source, and the refusal of bytes that no forms spell.
use Rattle.std.specs.Prelude.{◌≡◌, ◌≢◌, ℕ, ◌<◌, ◌≤◌, List, [], ◌∷◌, length, take}
use Rattle.std.specs.Str.{IsUtf8}
use Rattle.std.specs.Str.Lossy.{utf8_valid_len}
use Rattle.value_core.specs.Place.{Spot}
use Rattle.sexpr_reader.specs.declared.form.Form.{Form}
use Rattle.sexpr_reader.specs.declared.error.ReadKind.{ReadKind}
use Rattle.sexpr_reader.specs.declared.error.ReadKind.TheVariants.{BadByte, Unclosed, Unmatched, TooNested, TooLong}
use Rattle.sexpr_reader.specs.declared.error.ReadNo.{ReadNo}
use Rattle.sexpr_reader.specs.declared.error.ReadNo.TheVariants.{Refused, Memory}
use Rattle.sexpr_reader.specs.declared.group.Group.{Group}
use Rattle.sexpr_reader.specs.declared.group.Opened.{Opened}
use Rattle.sexpr_reader.specs.declared.token.Token.{Token}
use Rattle.sexpr_reader.specs.declared.token.TokenKind.TheVariants.{Open, Close}
use Rattle.sexpr_reader.specs.Cursor.{Cursor, start, after}
use Rattle.sexpr_reader.specs.Forms.{Spells}
use Rattle.sexpr_reader.specs.Limits.{nest_limit, source_limit}
use Rattle.sexpr_reader.specs.Opens.{Leaves}
use Rattle.sexpr_reader.specs.Tokens.{IsToken, IsEnd, IsNoToken}

abbrev pub source : List ℕ → Cursor
source bytes = record { at = start; rest = bytes }

-- the bytes are a text within the limit, and spell the forms
pub record IsSource (bytes : List ℕ) (forms : List Form) : Type 0 where
  pub within : length bytes ≤ source_limit
  pub text : IsUtf8 bytes
  pub spelled : Spells (source bytes) forms

-- the innermost of what is open is not of that group, or nothing is open
abbrev pub IsOther : List Opened → Group → Type 0
IsOther [] g = Unit {0}
IsOther (o ∷ os) g = o.group ≢ g

-- why the tokens of a source stop, behind some that leave this open, and where
pub data Stops : Cursor → List Opened → ReadKind → Spot → Type 0 where
  no_token : {c : Cursor} {os : List Opened} {kind : ReadKind} {at : Spot} → IsNoToken c kind at → Stops c os kind at
  unmatched : {c d : Cursor} {os : List Opened} (t : Token) (g : Group) → IsToken c t d → t.kind ≡ Close g → IsOther os g → Stops c os Unmatched t.at
  too_nested : {c d : Cursor} {os : List Opened} (t : Token) (g : Group) → IsToken c t d → t.kind ≡ Open g → nest_limit ≤ length os → Stops c os TooNested t.at
  unclosed : {c : Cursor} {os : List Opened} (o : Opened) → IsEnd c → Stops c (o ∷ os) Unclosed o.at

-- the first check that fails
pub data IsRefused : List ℕ → ReadKind → Spot → Type 0 where
  too_long : {bytes : List ℕ} → source_limit < length bytes → IsRefused bytes TooLong start
  no_text : {bytes : List ℕ} → length bytes ≤ source_limit → ¬ IsUtf8 bytes → IsRefused bytes BadByte (after start (take (utf8_valid_len bytes) bytes))
  token : {bytes : List ℕ} {kind : ReadKind} {at : Spot} (os : List Opened) (c : Cursor) → length bytes ≤ source_limit → IsUtf8 bytes
      → Leaves (source bytes) os c → Stops c os kind at → IsRefused bytes kind at

-- the error is a refusal that is due for such a cause; want of memory is free
abbrev pub RefusedAs : (ReadKind → Spot → Type 0) → ReadNo → Type 0
RefusedAs cause Memory = Unit {0}
RefusedAs cause (Refused kind at) = cause kind at
