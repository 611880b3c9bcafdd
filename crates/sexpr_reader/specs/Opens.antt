-- What is open behind some tokens of a source.
use Rattle.std.specs.Prelude.{◌≡◌, ◌<◌, Bool, true, false, if◌then◌else◌, List, [], ◌∷◌, length}
use Rattle.sexpr_reader.specs.declared.group.Group.{Group}
use Rattle.sexpr_reader.specs.declared.group.Group.TheVariants.{At}
use Rattle.sexpr_reader.specs.declared.group.Opened.{Opened}
use Rattle.sexpr_reader.specs.declared.token.Atom.{Atom}
use Rattle.sexpr_reader.specs.declared.token.Token.{Token}
use Rattle.sexpr_reader.specs.declared.token.TokenKind.TheVariants.{Open, Close, Atom as AtomKind}
use Rattle.sexpr_reader.specs.Cursor.{Cursor}
use Rattle.sexpr_reader.specs.Limits.{nest_limit}
use Rattle.sexpr_reader.specs.Tokens.{IsToken}

abbrev pub is_at : Group → Bool
is_at At = true
is_at _ = false

-- a form that is complete ends each @ directly round it
abbrev pub without_ats : List Opened → List Opened
without_ats [] = []
without_ats (o ∷ os) = if is_at o.group then without_ats os else o ∷ os

-- tokens lead from one cursor to the other and leave this open, the innermost first
pub data Leaves : Cursor → List Opened → Cursor → Type 0 where
  nothing : {c : Cursor} → Leaves c [] c
  opening : {c d e : Cursor} {os : List Opened} (t : Token) (g : Group) → Leaves c os d → IsToken d t e → t.kind ≡ Open g
      → length os < nest_limit → Leaves c (record { at = t.at; group = g } ∷ os) e
  closing : {c d e : Cursor} {os : List Opened} (t : Token) (o : Opened) → Leaves c (o ∷ os) d → IsToken d t e → t.kind ≡ Close o.group
      → Leaves c (without_ats os) e
  atom : {c d e : Cursor} {os : List Opened} (t : Token) (a : Atom) → Leaves c os d → IsToken d t e → t.kind ≡ AtomKind a
      → Leaves c (without_ats os) e
