-- What each core form comes to.
use Rattle.std.specs.Prelude.{ℕ, ◌==◌, ◌%◌, List, length, map, None, Some}
use Rattle.value_core.specs.Place.{Spot}
use Rattle.sugar.specs.declared.core_form.BadKind.{BadKind}
use Rattle.sugar.specs.declared.core_form.BadKind.TheVariants as bad
use Rattle.sugar.specs.declared.core_form.Core.{Core}
use Rattle.sugar.specs.declared.core_form.CoreKind.TheOpen as one
use Rattle.sugar.specs.declared.core_form.CoreKind.TheFolds.{fold-Core}
use Rattle.scope_names.specs.declared.definition.What.TheVariants as what
use Rattle.scope_refusals.specs.declared.kind.ScopeKind.{ScopeKind}
use Rattle.scope_refusals.specs.declared.kind.ScopeKind.TheVariants.{Unknown, Arity, BadForm}
use Rattle.resolved_forms.specs.declared.expr.ExprKind.{ExprKind}
use Rattle.resolved_forms.specs.declared.expr.ExprKind.TheVariants as expr
use Rattle.scope_names.specs.declared.found.Found.{Found}
use Rattle.scope_names.specs.declared.found.Found.TheVariants as found
use Rattle.resolved_forms.specs.declared.head.Head.TheVariants as head
use Rattle.scope_check.specs.declared.rule.Rule.TheVariants as rule
use Rattle.scope_check.specs.Heads.{bindings_of, formed, list_value}
use Rattle.scope_names.specs.Names.{made_name}
use Rattle.scope_check.specs.Parts.{applied}
use Rattle.scope_check.specs.Resolved.{Resolved, Meaning, resolved, failed}
use Rattle.scope_check.specs.Scope.{Scope, find_in}

-- a name as an expression: a local or a global
abbrev pub found_value : Found → Spot → ℕ → Resolved
found_value (found.Local level) at loops = resolved at (expr.Local level) loops
found_value (found.Defined (what.Global number)) at loops = resolved at (expr.Global number) loops
found_value found.Nothing at loops = failed Unknown at loops
found_value _ at loops = failed BadForm at loops

abbrev pub name_of : List ℕ → Spot → Meaning
name_of name at = record { at = at; name = Some name; bindings = None; value = λ scope loops. found_value (find_in scope name) at loops }

abbrev pub nameless : Spot → (Scope → ℕ → Resolved) → Meaning
nameless at value = record { at = at; name = None; bindings = None; value = value }

abbrev pub constant : ExprKind → Spot → Meaning
constant kind at = nameless at (λ scope loops. resolved at kind loops)

abbrev pub vector_of : List Meaning → Spot → Meaning
vector_of parts at = record { at = at; name = None; bindings = Some (bindings_of parts); value = applied head.Vector rule.Plain at parts }

-- keys and values go by turns
abbrev pub map_of : List Meaning → Spot → Meaning
map_of parts at = nameless at (λ scope loops. formed (length parts % 2 == 0) at (applied head.Map rule.Plain at parts scope loops) loops)

abbrev pub bad_kind : BadKind → ScopeKind
bad_kind bad.Arity = Arity
bad_kind bad.BadForm = BadForm

abbrev pub kind_step : one.CoreKind-F (Spot → Meaning) Meaning → Spot → Meaning
kind_step one.Nil at = constant expr.Nil at
kind_step (one.Bool b) at = constant (expr.Bool b) at
kind_step (one.Int n) at = constant (expr.Int n) at
kind_step (one.Str text) at = constant (expr.Str text) at
kind_step (one.Kw name) at = constant (expr.Kw name) at
kind_step (one.Sym name) at = name_of name at
kind_step (one.Fresh n) at = name_of (made_name n) at
kind_step (one.List parts) at = nameless at (list_value at parts)
kind_step (one.Vector parts) at = vector_of parts at
kind_step (one.Map parts) at = map_of parts at
kind_step (one.Bad kind) at = nameless at (λ scope loops. failed (bad_kind kind) at loops)

abbrev pub core_step : one.Core-F (Spot → Meaning) Meaning → Meaning
core_step core = core.kind core.at

abbrev pub meaning : Core → Meaning
meaning = fold-Core (Spot → Meaning) Meaning kind_step core_step

abbrev pub meanings : List Core → List Meaning
meanings cores = map meaning cores
