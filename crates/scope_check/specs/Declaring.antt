-- What the top-level forms define, in the order of the file: of each name the first definition counts.
use Rattle.std.specs.Prelude.{ℕ, ◌+◌, Bool, ◌||◌, if◌then◌else◌, List, [], ◌∷◌, ◌++◌, length, is_some}
use Rattle.value_core.specs.Place.{Spot}
use Rattle.sugar.specs.declared.core_form.Core.{Core}
use Rattle.scope_check.specs.declared.declared.Declared.{Declared}
use Rattle.scope_names.specs.declared.definition.Definition.{Definition}
use Rattle.scope_names.specs.declared.definition.What.{What}
use Rattle.scope_names.specs.declared.definition.What.TheVariants.{Function as function_what, Behaviour as behaviour_what, Global as global_what}
use Rattle.scope_refusals.specs.declared.kind.ScopeKind.TheVariants.{Twice}
use Rattle.scope_names.specs.Names.{defined}
use Rattle.scope_check.specs.Resolved.{refusal}
use Rattle.scope_names.specs.Finding.{is_reserved}
use Rattle.scope_names.specs.Shapes.{Shape, Function, Behaviour, Global, Value, Malformed, shape_of}

abbrev pub nothing : Declared
nothing = record { definitions = []; functions = 0; behaviours = 0; globals = 0; refusals = [] }

abbrev pub definition : List ℕ → What → Definition
definition name what = record { name = name; what = what }

-- a name is taken where it is defined before, or is a reserved word
abbrev pub taken : List ℕ → Declared → Bool
taken name d = is_reserved name || is_some (defined d.definitions name)

abbrev pub twice : Spot → Declared → Declared
twice at d = record { definitions = d.definitions; functions = d.functions; behaviours = d.behaviours; globals = d.globals; refusals = d.refusals ++ refusal Twice at ∷ [] }

-- functions, behaviours and globals are numbered each from 0
abbrev pub with_function : List ℕ → ℕ → Declared → Declared
with_function name takes d = record {
  definitions = d.definitions ++ definition name (function_what d.functions takes) ∷ [];
  functions = d.functions + 1;
  behaviours = d.behaviours;
  globals = d.globals;
  refusals = d.refusals;
}

abbrev pub with_behaviour : List ℕ → ℕ → Declared → Declared
with_behaviour name state d = record {
  definitions = d.definitions ++ definition name (behaviour_what d.behaviours state) ∷ [];
  functions = d.functions;
  behaviours = d.behaviours + 1;
  globals = d.globals;
  refusals = d.refusals;
}

abbrev pub with_global : List ℕ → Declared → Declared
with_global name d = record {
  definitions = d.definitions ++ definition name (global_what d.globals) ∷ [];
  functions = d.functions;
  behaviours = d.behaviours;
  globals = d.globals + 1;
  refusals = d.refusals;
}

abbrev pub declare_shape : Shape → Spot → Declared → Declared
declare_shape (Function name parameters body) at d = if taken name d then twice at d else with_function name (length parameters) d
declare_shape (Behaviour name reaction) at d = if taken name d then twice at d else with_behaviour name (length reaction.state) d
declare_shape (Global name value) at d = if taken name d then twice at d else with_global name d
declare_shape Value at d = d
declare_shape Malformed at d = d

abbrev pub declare : Core → Declared → Declared
declare form d = declare_shape (shape_of form) form.at d

abbrev pub declare_all : List Core → Declared → Declared
declare_all [] d = d
declare_all (form ∷ forms) d = declare_all forms (declare form d)
