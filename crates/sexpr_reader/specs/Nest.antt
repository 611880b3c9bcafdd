-- The steps of a reader that keeps what is open on a stack.
use Rattle.std.specs.Prelude.{◌≡◌, ◌≤◌, ◌<◌, if◌then◌else◌, List, [], ◌∷◌, ◌++◌, length, map, reverse, Result, Ok, Err}
use Rattle.value_core.specs.Place.{Spot}
use Rattle.sexpr_reader.specs.declared.error.ReadKind.{ReadKind}
use Rattle.sexpr_reader.specs.declared.error.ReadKind.TheVariants.{Unclosed, Unmatched, TooNested}
use Rattle.sexpr_reader.specs.declared.error.ReadNo.{ReadNo}
use Rattle.sexpr_reader.specs.declared.error.ReadNo.TheVariants.{Refused}
use Rattle.sexpr_reader.specs.declared.form.Form.{Form}
use Rattle.sexpr_reader.specs.declared.frame.Frame.{Frame}
use Rattle.sexpr_reader.specs.declared.group.Group.{Group}
use Rattle.sexpr_reader.specs.declared.group.Opened.{Opened}
use Rattle.sexpr_reader.specs.declared.nest.Nest.{Nest as Stack}
use Rattle.sexpr_reader.specs.declared.token.TokenKind.{TokenKind}
use Rattle.sexpr_reader.specs.declared.token.TokenKind.TheVariants.{Open, Close, Atom}
use Rattle.sexpr_reader.specs.Forms.{form_at, group_kind, atom_kind}
use Rattle.sexpr_reader.specs.Limits.{nest_limit}
use Rattle.sexpr_reader.specs.Opens.{is_at}

-- what is open, the innermost first, and the forms that are complete in the innermost
pub record Nest : Type 0 where
  pub frames : List Frame
  pub forms : List Form

-- a reader's nest has the innermost last
abbrev pub seen : Stack → Nest
seen n = record { frames = reverse n.open.items; forms = n.forms }

abbrev pub nest_of : List Frame → List Form → Nest
nest_of frames forms = record { frames = frames; forms = forms }

abbrev pub opened_of : Spot → Group → Opened
opened_of at group = record { at = at; group = group }

abbrev pub frame_of : Opened → List Form → Frame
frame_of opened before = record { opened = opened; before = before }

abbrev pub group_form : Opened → List Form → Form
group_form o parts = form_at o.at (group_kind o.group parts)

abbrev pub opens_of : List Frame → List Opened
opens_of frames = map (λ f. f.opened) frames

-- behind a complete form, each @ directly round it is complete
abbrev pub settled : List Frame → List Form → Nest
settled [] forms = nest_of [] forms
settled (f ∷ frames) forms = if is_at f.opened.group then settled frames (f.before ++ group_form f.opened forms ∷ []) else nest_of (f ∷ frames) forms

-- the innermost is complete
abbrev pub shut : List Frame → List Form → Nest
shut [] forms = nest_of [] forms
shut (f ∷ frames) forms = nest_of frames (f.before ++ group_form f.opened forms ∷ [])

-- and each @ directly round it
abbrev pub shut_settled : Nest → Nest
shut_settled n = settled (shut n.frames n.forms).frames (shut n.frames n.forms).forms

-- the innermost is of that group
abbrev pub IsInnermost : Group → List Frame → Type 0
IsInnermost g [] = ⊥
IsInnermost g (f ∷ frames) = f.opened.group ≡ g

-- what a token makes of a nest
abbrev pub Moves : Nest → Spot → TokenKind → Nest → Type 0
Moves old at (Open g) new = (length old.frames < nest_limit) × (new ≡ nest_of (frame_of (opened_of at g) old.forms ∷ old.frames) [])
Moves old at (Close g) new = IsInnermost g old.frames × (new ≡ shut_settled old)
Moves old at (Atom a) new = new ≡ settled old.frames (old.forms ++ form_at at (atom_kind a) ∷ [])

-- why a nest does not take a token
abbrev pub Blocks : Nest → Spot → TokenKind → ReadKind → Spot → Type 0
Blocks old at (Open g) kind place = (kind ≡ TooNested) × (place ≡ at) × (nest_limit ≤ length old.frames)
Blocks old at (Close g) kind place = (kind ≡ Unmatched) × (place ≡ at) × (IsInnermost g old.frames → ⊥)
Blocks old at (Atom a) kind place = ⊥

-- a nest has no forms where something is open
abbrev pub Finishes : List Frame → List Form → Result (List Form) ReadNo → Type 0
Finishes [] forms (Ok found) = found ≡ forms
Finishes (f ∷ frames) forms (Ok found) = ⊥
Finishes [] forms (Err error) = ⊥
Finishes (f ∷ frames) forms (Err error) = error ≡ Refused Unclosed f.opened.at
