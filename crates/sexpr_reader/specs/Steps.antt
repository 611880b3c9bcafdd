-- What the private steps of the reader give.
use Rattle.std.specs.Prelude.{ℕ, Option, None, Some, Result, Ok, Err, [], ◌∷◌}
use Rattle.value_core.specs.Place.{Spot}
use Rattle.sexpr_reader.specs.declared.error.ReadNo.{ReadNo}
use Rattle.sexpr_reader.specs.declared.lead.Class.{Class}
use Rattle.sexpr_reader.specs.declared.lead.Class.TheVariants as class
use Rattle.sexpr_reader.specs.declared.lead.Lead.{Lead}
use Rattle.sexpr_reader.specs.declared.lead.Lead.TheVariants.{WhiteSpace, Comment}
use Rattle.sexpr_reader.specs.declared.token.Token.{Token}
use Rattle.sexpr_reader.specs.declared.token.TokenKind.{TokenKind}
use Rattle.sexpr_reader.specs.Cursor.{Cursor, Over}
use Rattle.sexpr_reader.specs.Grammar.{RefusedAs}
use Rattle.sexpr_reader.specs.Strings.{Written, StringStops}
use Rattle.sexpr_reader.specs.Tokens.{Begins, Fails, IsToken, IsEnd, IsNoToken}

-- the bytes of what separates, by what begins it
abbrev pub gap_class : Lead → Option Class
gap_class WhiteSpace = Some class.WhiteSpace
gap_class Comment = Some class.Line
gap_class _ = None

-- a byte of a string, or its closing quote
abbrev pub IsPiece : Spot → Cursor → Result (Option ℕ) ReadNo → Cursor → Type 0
IsPiece quote c (Ok (Some b)) d = Written c b d
IsPiece quote c (Ok None) d = Over (34 ∷ []) c d
IsPiece quote c (Err error) d = RefusedAs (StringStops quote c) error

-- the token that such a lead begins
abbrev pub IsKind : Lead → Cursor → Result TokenKind ReadNo → Cursor → Type 0
IsKind lead c (Ok kind) d = Begins lead c kind d
IsKind lead c (Err error) d = RefusedAs (Fails lead c) error

-- the next token, or none at the end
abbrev pub IsNext : Cursor → Result (Option Token) ReadNo → Cursor → Type 0
IsNext c (Ok (Some token)) d = IsToken c token d
IsNext c (Ok None) d = IsEnd c
IsNext c (Err error) d = RefusedAs (IsNoToken c) error
