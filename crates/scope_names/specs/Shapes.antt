-- What a top-level form is, by its outermost parts.
use Rattle.std.specs.Prelude.{◌≡◌, ℕ, Bool, true, false, if◌then◌else◌, List, [], ◌∷◌, Option, None, Some, codes}
use Rattle.std.specs.Str.{bytes_eq}
use Rattle.value_core.specs.Place.{Spot}
use Rattle.sugar.specs.declared.core_form.Core.{Core}
use Rattle.sugar.specs.declared.core_form.CoreKind.TheOpen as one
use Rattle.sugar.specs.declared.core_form.CoreKind.TheViews.{out-CoreKind}
use Rattle.scope_names.specs.declared.shape.Reaction.{Reaction as ReactionHere}
use Rattle.scope_names.specs.declared.shape.Shape.{Shape as ShapeHere}
use Rattle.scope_names.specs.declared.shape.Shape.TheVariants as here

-- the word of a symbol
abbrev pub word_step : {A B : Type 0} → one.CoreKind-F A B → Option (List ℕ)
word_step (one.Sym word) = Some word
word_step _ = None

abbrev pub word_of : Core → Option (List ℕ)
word_of core = word_step (out-CoreKind core.kind)

-- the parts of a list
abbrev pub list_step : {A B : Type 0} → one.CoreKind-F A B → Option (List B)
list_step (one.List parts) = Some parts
list_step _ = None

abbrev pub list_of : Core → Option (List Core)
list_of core = list_step (out-CoreKind core.kind)

-- the items of a vector
abbrev pub items_step : {A B : Type 0} → one.CoreKind-F A B → Option (List B)
items_step (one.Vector items) = Some items
items_step _ = None

abbrev pub items_of : Core → Option (List Core)
items_of core = items_step (out-CoreKind core.kind)

abbrev pub text_step : {A B : Type 0} → one.CoreKind-F A B → Bool
text_step (one.Str text) = true
text_step _ = false

abbrev pub is_text : Core → Bool
is_text core = text_step (out-CoreKind core.kind)

-- a behaviour: its place, state parameters, message parameters and body
pub record Reaction : Type 0 where
  pub at : Spot
  pub state : List Core
  pub message : List Core
  pub body : List Core

-- a function, a behaviour and a global have names; any other form that is no malformed definition is an expression
pub data Shape : Type 0 where
  Function : List ℕ → List Core → List Core → Shape
  Behaviour : List ℕ → Reaction → Shape
  Global : List ℕ → Core → Shape
  Value : Shape
  Malformed : Shape

-- (behavior [s*] [m*] e*)
abbrev pub reaction_of : Core → Option (List Core) → Option (List Core) → List Core → Option Reaction
reaction_of core (Some state) (Some message) body = Some (record { at = core.at; state = state; message = message; body = body })
reaction_of core _ _ body = None

abbrev pub reaction_headed : Core → Option (List ℕ) → Option (List Core) → Option (List Core) → List Core → Option Reaction
reaction_headed core (Some word) state message body = if bytes_eq word (codes "behavior") then reaction_of core state message body else None
reaction_headed core None state message body = None

abbrev pub reaction_in : Core → Option (List Core) → Option Reaction
reaction_in core (Some (head ∷ state ∷ message ∷ body)) = reaction_headed core (word_of head) (items_of state) (items_of message) body
reaction_in core _ = None

abbrev pub behaviour_in : Core → Option Reaction
behaviour_in core = reaction_in core (list_of core)

-- (def NAME e), where e may be a behaviour
abbrev pub def_of : List ℕ → Core → Option Reaction → Shape
def_of name value (Some reaction) = Behaviour name reaction
def_of name value None = Global name value

abbrev pub def_named : Option (List ℕ) → Core → Shape
def_named (Some name) value = def_of name value (behaviour_in value)
def_named None value = Malformed

-- a string in front of one more form is a description
abbrev pub def_shape : List Core → Shape
def_shape (name ∷ value ∷ []) = def_named (word_of name) value
def_shape (name ∷ text ∷ value ∷ []) = if is_text text then def_named (word_of name) value else Malformed
def_shape _ = Malformed

-- (defn NAME [p*] e*)
abbrev pub function_of : List ℕ → Option (List Core) → List Core → Shape
function_of name (Some parameters) body = Function name parameters body
function_of name None body = Malformed

abbrev pub function_named : Option (List ℕ) → List Core → Shape
function_named (Some name) (parameters ∷ body) = function_of name (items_of parameters) body
function_named _ _ = Malformed

-- a string behind the name is a description
abbrev pub behind_text : List Core → List Core
behind_text [] = []
behind_text (first ∷ rest) = if is_text first then rest else first ∷ rest

abbrev pub function_shape : List Core → Shape
function_shape (name ∷ parts) = function_named (word_of name) (behind_text parts)
function_shape [] = Malformed

abbrev pub worded : List ℕ → List Core → Shape
worded word parts =
    if bytes_eq word (codes "defn") then function_shape parts
    else (if bytes_eq word (codes "def") then def_shape parts
    else Value)

abbrev pub headed_by : Option (List ℕ) → List Core → Shape
headed_by (Some word) parts = worded word parts
headed_by None parts = Value

abbrev pub listed : Option (List Core) → Shape
listed (Some (head ∷ parts)) = headed_by (word_of head) parts
listed _ = Value

abbrev pub shape_of : Core → Shape
shape_of core = listed (list_of core)

abbrev pub reaction_now : ReactionHere → Reaction
reaction_now given = record { at = given.at; state = given.state.now; message = given.message.now; body = given.body.now }

-- what the code gives shows the same
pub record IsReaction (reaction : Reaction) (given : ReactionHere) : Type 0 where
  pub at : given.at ≡ reaction.at
  pub state : given.state.now ≡ reaction.state
  pub message : given.message.now ≡ reaction.message
  pub body : given.body.now ≡ reaction.body

abbrev pub ShowsReaction : Option Reaction → Option ReactionHere → Type 0
ShowsReaction (Some reaction) (Some given) = IsReaction reaction given
ShowsReaction None None = Unit {0}
ShowsReaction _ _ = ⊥

abbrev pub Shows : Shape → ShapeHere → Type 0
Shows (Function name parameters body) (here.Function n ps b) = (n.now ≡ name) × (ps.now ≡ parameters) × (b.now ≡ body)
Shows (Behaviour name reaction) (here.Behaviour n given) = (n.now ≡ name) × IsReaction reaction given
Shows (Global name value) (here.Global n v) = (n.now ≡ name) × (v.now ≡ value)
Shows Value here.Value = Unit {0}
Shows Malformed here.Malformed = Unit {0}
Shows _ _ = ⊥
