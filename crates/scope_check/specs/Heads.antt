-- Lists: what the head makes of the arguments.
use Rattle.std.specs.Prelude.{ℕ, ◌+◌, Bool, true, false, ◌==◌, ◌%◌, nat_le, List, [], ◌∷◌, ◌++◌, length, Option, None, Some}
use Rattle.value_core.specs.Place.{Spot}
use Rattle.value_core.specs.declared.op.Op.{Op}
use Rattle.value_core.specs.primitives.Words.{takes_of}
use Rattle.scope_names.specs.declared.definition.What.TheVariants as what
use Rattle.scope_refusals.specs.declared.kind.ScopeKind.TheVariants.{Unknown, Arity, BadForm}
use Rattle.resolved_forms.specs.declared.expr.Looping.{Looping}
use Rattle.resolved_forms.specs.declared.expr.ExprKind.TheVariants as expr
use Rattle.scope_names.specs.declared.found.Found.{Found}
use Rattle.scope_names.specs.declared.found.Found.TheVariants as found
use Rattle.resolved_forms.specs.declared.head.Head.{Head}
use Rattle.resolved_forms.specs.declared.head.Head.TheVariants as head
use Rattle.scope_check.specs.declared.rule.Rule.TheVariants as rule
use Rattle.scope_names.specs.declared.special.Special.{Special}
use Rattle.scope_names.specs.declared.special.Special.TheVariants as special
use Rattle.scope_check.specs.declared.stand.Stand.{Stand}
use Rattle.scope_check.specs.declared.stand.Target.{Target}
use Rattle.scope_check.specs.declared.start.Start.{Start}
use Rattle.scope_check.specs.declared.start.Start.TheVariants as starts
use Rattle.scope_locals.specs.Innermost.{levels_of}
use Rattle.scope_names.specs.Ops.{op_of}
use Rattle.scope_check.specs.Parts.{each, made_of, applied, body, around}
use Rattle.scope_check.specs.Resolved.{Resolved, Bound, Bindings, Meaning, resolved, refusal, failed}
use Rattle.resolved_forms.specs.InRange.{expr_at}
use Rattle.scope_check.specs.Scope.{Scope, inside, binding, with_stand, find_in}
use Rattle.scope_names.specs.Special.{special_of}

-- the expression where the number of arguments is one that is taken
abbrev pub taking : Bool → Spot → Resolved → ℕ → Resolved
taking true at right loops = right
taking false at right loops = failed Arity at loops

-- the expression where the form is well made
abbrev pub formed : Bool → Spot → Resolved → ℕ → Resolved
formed true at right loops = right
formed false at right loops = failed BadForm at loops

-- a form that stands where a name has to: it is wrong there, and what is wrong with itself counts too
abbrev pub misplaced : Meaning → Scope → ℕ → Resolved
misplaced part scope loops =
    let own = part.value (inside scope) loops in
    record { expr = own.expr; loops = own.loops; refusals = refusal BadForm part.at ∷ own.refusals }

-- the name that a binding or parameter gives, and what is wrong with it
abbrev pub bound_name : Option (List ℕ) → List ℕ
bound_name (Some name) = name
bound_name None = []

abbrev pub checked_name : Option (List ℕ) → Meaning → Scope → ℕ → Resolved
checked_name (Some name) part scope loops = resolved part.at expr.Nil loops
checked_name None part scope loops = misplaced part scope loops

abbrev pub one_bound : List ℕ → Resolved → Resolved → Bound → Bound
one_bound name binder value rest = record {
  exprs = value.expr ∷ rest.exprs;
  names = name ∷ rest.names;
  loops = rest.loops;
  refusals = binder.refusals ++ value.refusals ++ rest.refusals;
}

-- each name is bound for the later ones
abbrev pub bound : List Meaning → Scope → ℕ → Bound
bound (binder ∷ value ∷ rest) scope loops =
    let checked = checked_name binder.name binder scope loops in
    let bound_value = value.value (inside scope) checked.loops in
    one_bound (bound_name binder.name) checked bound_value (bound rest (binding (bound_name binder.name ∷ []) scope) bound_value.loops)
bound _ scope loops = record { exprs = []; names = []; loops = loops; refusals = [] }

abbrev pub bindings_of : List Meaning → Bindings
bindings_of parts = record { is_even = length parts % 2 == 0; bind = bound parts }

-- a let of these bindings
abbrev pub let_of : Spot → Bound → Resolved → Resolved
let_of at bindings inner = record {
  expr = expr_at at (expr.Let (bindings.exprs ++ inner.expr ∷ []));
  loops = inner.loops;
  refusals = bindings.refusals ++ inner.refusals;
}

abbrev pub let_in : Spot → Bindings → Spot → List Meaning → Scope → ℕ → Resolved
let_in at bindings place parts scope loops =
    let first = bindings.bind scope loops in
    formed bindings.is_even place (let_of at first (body at parts (binding first.names scope) first.loops)) loops

abbrev pub let_with : Spot → Option Bindings → Spot → List Meaning → Scope → ℕ → Resolved
let_with at (Some bindings) place parts scope loops = let_in at bindings place parts scope loops
let_with at None place parts scope loops = failed BadForm at loops

abbrev pub let_value : Spot → List Meaning → Scope → ℕ → Resolved
let_value at [] scope loops = failed Arity at loops
let_value at (first ∷ parts) scope loops = let_with at first.bindings first.at parts scope loops

-- a loop's own function; of equal names the last is the argument for each of them
abbrev pub looping : ℕ → Scope → List (List ℕ) → Looping
looping number scope names = record { number = number; base = length scope.locals; arguments = levels_of (scope.locals ++ names) names }

abbrev pub loop_of : Spot → Looping → Bound → Resolved → Resolved
loop_of at own bindings inner = record {
  expr = expr_at at (expr.Loop own (bindings.exprs ++ inner.expr ∷ []));
  loops = inner.loops;
  refusals = bindings.refusals ++ inner.refusals;
}

-- where a loop's body stands: it is a function of its own
abbrev pub loop_stand : Looping → Stand
loop_stand own = record { target = Some (record { number = own.number; takes = length own.arguments }); tail = true }

abbrev pub loop_scope : Looping → Scope → List (List ℕ) → Scope
loop_scope own scope names = with_stand (loop_stand own) (binding names scope)

abbrev pub loop_in : Spot → Bindings → Spot → List Meaning → Scope → ℕ → Resolved
loop_in at bindings place parts scope loops =
    let first = bindings.bind scope (loops + 1) in
    formed bindings.is_even place
    (loop_of at (looping loops scope first.names) first (body at parts (loop_scope (looping loops scope first.names) scope first.names) first.loops)) loops

abbrev pub loop_with : Spot → Option Bindings → Spot → List Meaning → Scope → ℕ → Resolved
loop_with at (Some bindings) place parts scope loops = loop_in at bindings place parts scope loops
loop_with at None place parts scope loops = failed BadForm at loops

abbrev pub loop_value : Spot → List Meaning → Scope → ℕ → Resolved
loop_value at [] scope loops = failed Arity at loops
loop_value at (first ∷ parts) scope loops = loop_with at first.bindings first.at parts scope loops

-- recur calls the innermost loop or function, with its number of arguments, and in tail position alone
abbrev pub recur_to : Option Target → Spot → List Meaning → Scope → ℕ → Resolved
recur_to None at parts scope loops = failed BadForm at loops
recur_to (Some target) at parts scope loops =
    taking (length parts == target.takes) at
    (formed scope.stand.tail at (applied (head.Call target.number) rule.Plain at parts scope loops) loops) loops

-- an expression whose number of arguments is fixed
abbrev pub exactly : ℕ → Head → Spot → List Meaning → Scope → ℕ → Resolved
exactly count head at parts scope loops = taking (length parts == count) at (applied head rule.Plain at parts scope loops) loops

abbrev pub start_head : Start → ℕ → Head
start_head starts.Spawn = head.Spawn
start_head starts.Become = head.Become

-- what a name is as the behaviour of a spawn or become
abbrev pub started : Found → Start → Spot → Spot → List Meaning → Scope → ℕ → Resolved
started (found.Defined (what.Behaviour number state)) make at place parts scope loops = exactly state (start_head make number) at parts scope loops
started found.Nothing make at place parts scope loops = failed Unknown place loops
started _ make at place parts scope loops = failed BadForm place loops

abbrev pub start_of : Option (List ℕ) → Start → Spot → Meaning → List Meaning → Scope → ℕ → Resolved
start_of (Some word) make at name parts scope loops = started (find_in scope word) make at name.at parts scope loops
start_of None make at name parts scope loops = misplaced name scope loops

abbrev pub start_value : Start → Spot → List Meaning → Scope → ℕ → Resolved
start_value make at [] scope loops = failed Arity at loops
start_value make at (name ∷ parts) scope loops = start_of name.name make at name parts scope loops

-- the special forms
abbrev pub special_value : Special → Spot → List Meaning → Scope → ℕ → Resolved
special_value special.Do at parts scope loops = applied head.Do rule.Last at parts scope loops
special_value special.If at parts scope loops = taking (length parts == 3) at (applied head.If rule.Branches at parts scope loops) loops
special_value special.Let at parts scope loops = let_value at parts scope loops
special_value special.Loop at parts scope loops = loop_value at parts scope loops
special_value special.Recur at parts scope loops = recur_to scope.stand.target at parts scope loops
special_value special.Println at parts scope loops = applied head.Println rule.Plain at parts scope loops
special_value special.Ref at parts scope loops = exactly 1 head.Ref at parts scope loops
special_value special.Deref at parts scope loops = exactly 1 head.Deref at parts scope loops
special_value special.RefSet at parts scope loops = exactly 2 head.RefSet at parts scope loops
special_value special.Fork at parts scope loops = around at head.Fork (body at parts (inside scope) loops)
special_value special.Join at parts scope loops = exactly 1 head.Join at parts scope loops
special_value special.Dosync at parts scope loops = around at head.Dosync (body at parts (inside scope) loops)
special_value special.Spawn at parts scope loops = start_value starts.Spawn at parts scope loops
special_value special.Become at parts scope loops = start_value starts.Become at parts scope loops
special_value special.Send at parts scope loops = taking (nat_le 1 (length parts)) at (applied head.Send rule.Plain at parts scope loops) loops
special_value special.SelfActor at parts scope loops = exactly 0 head.SelfActor at parts scope loops
special_value special.Cond at parts scope loops = formed (length parts % 2 == 0) at (made_of at expr.Cond (each rule.Results 0 scope parts loops)) loops
special_value special.And at parts scope loops = made_of at (expr.And (length scope.locals)) (each rule.Chain 0 scope parts loops)
special_value special.Or at parts scope loops = made_of at (expr.Or (length scope.locals)) (each rule.Chain 0 scope parts loops)
special_value special.NoExpression at parts scope loops = failed BadForm at loops

-- a call of what the head names
abbrev pub called : Found → Spot → Spot → List Meaning → Scope → ℕ → Resolved
called (found.Defined (what.Function number takes)) at place parts scope loops = exactly takes (head.Call number) at parts scope loops
called found.Nothing at place parts scope loops = failed Unknown place loops
called _ at place parts scope loops = failed BadForm place loops

abbrev pub op_value : Option Op → List ℕ → Spot → Spot → List Meaning → Scope → ℕ → Resolved
op_value (Some op) word at place parts scope loops = taking (takes_of op (length parts)) at (applied (head.Op op) rule.Plain at parts scope loops) loops
op_value None word at place parts scope loops = called (find_in scope word) at place parts scope loops

abbrev pub word_value : Option Special → List ℕ → Spot → Spot → List Meaning → Scope → ℕ → Resolved
word_value (Some special) word at place parts scope loops = special_value special at parts scope loops
word_value None word at place parts scope loops = op_value (op_of word) word at place parts scope loops

abbrev pub headed : Option (List ℕ) → Spot → Meaning → List Meaning → Scope → ℕ → Resolved
headed (Some word) at name parts scope loops = word_value (special_of word) word at name.at parts scope loops
headed None at name parts scope loops = misplaced name scope loops

abbrev pub list_value : Spot → List Meaning → Scope → ℕ → Resolved
list_value at [] scope loops = failed BadForm at loops
list_value at (name ∷ parts) scope loops = headed name.name at name parts scope loops
