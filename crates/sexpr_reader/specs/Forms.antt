-- The grammar of forms, over tokens.
use Rattle.std.specs.Prelude.{◌≡◌, ◌≢◌, ◌<◌, ℕ, suc, List, [], ◌∷◌}
use Rattle.value_core.specs.Place.{Spot}
use Rattle.sexpr_reader.specs.declared.form.Form.{Form}
use Rattle.sexpr_reader.specs.declared.form.FormKind.{FormKind}
use Rattle.sexpr_reader.specs.declared.form.FormKind.TheVariants as form
use Rattle.sexpr_reader.specs.declared.group.Group.{Group}
use Rattle.sexpr_reader.specs.declared.group.Group.TheVariants.{List as ListGroup, Vector, Map, At}
use Rattle.sexpr_reader.specs.declared.token.Atom.{Atom}
use Rattle.sexpr_reader.specs.declared.token.Atom.TheVariants as single
use Rattle.sexpr_reader.specs.declared.token.Token.{Token}
use Rattle.sexpr_reader.specs.declared.token.TokenKind.TheVariants.{Open, Close, Atom as AtomKind}
use Rattle.sexpr_reader.specs.Cursor.{Cursor}
use Rattle.sexpr_reader.specs.Limits.{nest_limit}
use Rattle.sexpr_reader.specs.Tokens.{IsToken, IsEnd}

abbrev pub form_at : Spot → FormKind → Form
form_at at kind = record { at = at; kind = kind }

abbrev pub group_kind : Group → List Form → FormKind
group_kind ListGroup parts = form.List parts
group_kind Vector parts = form.Vector parts
group_kind Map parts = form.Map parts
group_kind At parts = form.At parts

abbrev pub atom_kind : Atom → FormKind
atom_kind single.Nil = form.Nil
atom_kind (single.Bool b) = form.Bool b
atom_kind (single.Int n) = form.Int n
atom_kind (single.Str text) = form.Str text
atom_kind (single.Kw name) = form.Kw name
atom_kind (single.Sym name) = form.Sym name

-- a form, or some forms, lead from one cursor to the other, where so many brackets and @ are open round them
mutual
  pub data IsForm : ℕ → Cursor → Form → Cursor → Type 0 where
    atom : {k : ℕ} {c d : Cursor} {f : Form} (t : Token) (a : Atom) → IsToken c t d → t.kind ≡ AtomKind a
        → f ≡ form_at t.at (atom_kind a) → IsForm k c f d
    bracket : {k : ℕ} {c i j d : Cursor} {f : Form} (t u : Token) (g : Group) (parts : List Form) → k < nest_limit → g ≢ At
        → IsToken c t i → t.kind ≡ Open g → AreForms (suc k) i parts j → IsToken j u d → u.kind ≡ Close g
        → f ≡ form_at t.at (group_kind g parts) → IsForm k c f d
    at_sign : {k : ℕ} {c i d : Cursor} {f : Form} (t : Token) (part : Form) → k < nest_limit
        → IsToken c t i → t.kind ≡ Open At → IsForm (suc k) i part d
        → f ≡ form_at t.at (group_kind At (part ∷ [])) → IsForm k c f d

  pub data AreForms : ℕ → Cursor → List Form → Cursor → Type 0 where
    none : {k : ℕ} {c : Cursor} → AreForms k c [] c
    more : {k : ℕ} {c m d : Cursor} {f : Form} {fs : List Form} → IsForm k c f m → AreForms k m fs d → AreForms k c (f ∷ fs) d

-- the forms that stand from a cursor to the end
pub record Spells (c : Cursor) (forms : List Form) : Type 0 where
  pub last : Cursor
  pub forms_to : AreForms 0 c forms last
  pub ends : IsEnd last
