-- Tokens, by what begins them, and where none is.
use Rattle.std.specs.Prelude.{◌≡◌, ℕ, ℤ, true, false, if◌then◌else◌, List, [], ◌∷◌, codes}
use Rattle.std.specs.Str.{bytes_eq}
use Rattle.value_core.specs.Place.{Spot}
use Rattle.sexpr_reader.specs.declared.error.ReadKind.{ReadKind}
use Rattle.sexpr_reader.specs.declared.error.ReadKind.TheVariants.{BadByte, BadNumber}
use Rattle.sexpr_reader.specs.declared.group.Group.{Group}
use Rattle.sexpr_reader.specs.declared.lead.Lead.{Lead}
use Rattle.sexpr_reader.specs.declared.lead.Lead.TheVariants as lead
use Rattle.sexpr_reader.specs.declared.token.Atom.{Atom}
use Rattle.sexpr_reader.specs.declared.token.Atom.TheVariants.{Nil, Bool as BoolAtom, Int, Str, Kw, Sym}
use Rattle.sexpr_reader.specs.declared.token.Token.{Token}
use Rattle.sexpr_reader.specs.declared.token.TokenKind.{TokenKind}
use Rattle.sexpr_reader.specs.declared.token.TokenKind.TheVariants.{Open, Close, Atom as AtomKind}
use Rattle.sexpr_reader.specs.Cursor.{Cursor, Over}
use Rattle.sexpr_reader.specs.Gap.{Gap}
use Rattle.sexpr_reader.specs.Integer.{IsInteger}
use Rattle.sexpr_reader.specs.Lead.{begins, lead_of, is_word_byte}
use Rattle.sexpr_reader.specs.Names.{IsName, Misfit}
use Rattle.sexpr_reader.specs.Runs.{IsRun}
use Rattle.sexpr_reader.specs.Strings.{IsString, IsNoString}

-- one byte leads from one cursor to the other
pub record OneByte (c d : Cursor) : Type 0 where
  pub byte : ℕ
  pub over : Over (byte ∷ []) c d

-- what a name is that does not begin with a colon
abbrev pub named : List ℕ → Atom
named name =
    if bytes_eq name (codes "nil") then Nil
    else (if bytes_eq name (codes "true") then BoolAtom true
    else (if bytes_eq name (codes "false") then BoolAtom false
    else Sym name))

-- the longest word is an integer
pub record IsNumber (c : Cursor) (n : ℤ) (d : Cursor) : Type 0 where
  pub word : List ℕ
  pub run : IsRun is_word_byte word c d
  pub integer : IsInteger word n

pub record IsKeyword (c : Cursor) (name : List ℕ) (d : Cursor) : Type 0 where
  pub behind : Cursor
  pub colon : OneByte c behind
  pub is : IsName behind name d

-- what a token is that such a lead begins
pub data Begins : Lead → Cursor → TokenKind → Cursor → Type 0 where
  opening : {c d : Cursor} (group : Group) → OneByte c d → Begins (lead.Open group) c (Open group) d
  closing : {c d : Cursor} (group : Group) → OneByte c d → Begins (lead.Close group) c (Close group) d
  string : {c d : Cursor} (text : List ℕ) → IsString c text d → Begins lead.Quote c (AtomKind (Str text)) d
  number : {c d : Cursor} (n : ℤ) → IsNumber c n d → Begins lead.Number c (AtomKind (Int n)) d
  keyword : {c d : Cursor} (name : List ℕ) → IsKeyword c name d → Begins lead.Colon c (AtomKind (Kw name)) d
  symbol : {c d : Cursor} (name : List ℕ) → IsName c name d → Begins lead.Other c (AtomKind (named name)) d

-- the next token leads from one cursor to the other; white space and comments may stand before it
pub record IsToken (c : Cursor) (token : Token) (d : Cursor) : Type 0 where
  pub begin : Cursor
  pub gap : Gap c begin
  pub at : token.at ≡ begin.at
  pub is : Begins (lead_of begin.rest) begin token.kind d

-- only white space and comments are left
pub record IsEnd (c : Cursor) : Type 0 where
  pub last : Cursor
  pub gap : Gap c last
  pub ends : last.rest ≡ []

-- why such a lead begins no token, and where
pub data Fails : Lead → Cursor → ReadKind → Spot → Type 0 where
  string : {c : Cursor} {kind : ReadKind} {at : Spot} → IsNoString c kind at → Fails lead.Quote c kind at
  number : {c d : Cursor} (word : List ℕ) → IsRun is_word_byte word c d → ((n : ℤ) → IsInteger word n → ⊥) → Fails lead.Number c BadNumber c.at
  colon : {c d : Cursor} → OneByte c d → begins is_word_byte d.rest ≡ false → Fails lead.Colon c BadByte c.at
  keyword : {c d : Cursor} {at : Spot} → OneByte c d → Misfit d at → Fails lead.Colon c BadByte at
  symbol : {c : Cursor} {at : Spot} → Misfit c at → Fails lead.Other c BadByte at

-- what comes next is no token
pub record IsNoToken (c : Cursor) (kind : ReadKind) (at : Spot) : Type 0 where
  pub begin : Cursor
  pub gap : Gap c begin
  pub fails : Fails (lead_of begin.rest) begin kind at
