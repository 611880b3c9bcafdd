-- The loops of lists are numbered one after another, whatever the head.
use Rattle.std.proofs.Common.{◌≡◌, ℕ, ◌+◌, List, [], ◌∷◌, ◌++◌, length, Option, None, Some, refl, subst}
use Rattle.std.specs.Prelude.{◌==◌, ◌%◌, nat_le}
use Rattle.value_core.specs.Place.{Spot}
use Rattle.value_core.specs.declared.op.Op.{Op}
use Rattle.value_core.specs.primitives.Words.{takes_of}
use Rattle.scope_names.specs.declared.definition.What.TheVariants as what
use Rattle.scope_refusals.specs.declared.kind.ScopeKind.TheVariants.{Unknown, Arity, BadForm}
use Rattle.resolved_forms.specs.declared.expr.ExprKind.TheVariants as expr
use Rattle.scope_names.specs.declared.found.Found.{Found}
use Rattle.scope_names.specs.declared.found.Found.TheVariants as found
use Rattle.resolved_forms.specs.declared.head.Head.{Head}
use Rattle.resolved_forms.specs.declared.head.Head.TheVariants as head
use Rattle.scope_check.specs.declared.rule.Rule.TheVariants as rule
use Rattle.scope_names.specs.declared.special.Special.{Special}
use Rattle.scope_names.specs.declared.special.Special.TheVariants as special
use Rattle.scope_check.specs.declared.stand.Target.{Target}
use Rattle.scope_check.specs.declared.start.Start.{Start}
use Rattle.scope_check.specs.declared.start.Start.TheVariants as starts
use Rattle.scope_check.specs.Heads.{formed, bound_name, checked_name, misplaced, bound, let_of, let_in, let_with, let_value, looping, loop_of, loop_scope, loop_in, loop_with, loop_value, recur_to, exactly, start_head, started, start_of, start_value, special_value, called, op_value, word_value, headed, list_value}
use Rattle.scope_names.specs.Ops.{op_of}
use Rattle.scope_check.specs.Parts.{each, applied, body}
use Rattle.scope_check.specs.Resolved.{Bindings, Meaning}
use Rattle.scope_check.specs.Scope.{Scope, inside, binding, find_in}
use Rattle.scope_names.specs.Special.{special_of}
use Rattle.program_plan.proofs.Holding.{Follow, Follow-append}
use Rattle.resolved_forms.proofs.LoopNumbers.{loop_numbers}
use Rattle.scope_check.proofs.Numbered.{IsNumbered, AreNumbered, BindingsNumbered, AllNumbered, numbers_of_all, none_appended, numbers-Let, numbers-Cond, numbers-And, numbers-Or, at_kind, failed_numbered, formed_numbered, taking_numbered, made_numbered, each_numbered, applied_numbered, body_numbered, around_numbered, with_body, with_loop}

-- something is wrong with a form that stands where a name has to
pub misplaced_numbered : (part : Meaning) (scope : Scope) (loops : ℕ) → IsNumbered loops (misplaced part scope loops)
misplaced_numbered part scope loops = record { follow = λ none. absurd (cc) }

-- where nothing is wrong with a name, no loop is in it
pub no_loop_in_name : (name : Option (List ℕ)) (part : Meaning) (scope : Scope) (loops : ℕ) → (checked_name name part scope loops).refusals ≡ [] → (checked_name name part scope loops).loops ≡ loops
no_loop_in_name (Some name) part scope loops none = refl
no_loop_in_name None part scope loops none = absurd (cc)

pub bound_numbered : (parts : List Meaning) (scope : Scope) (loops : ℕ) → AllNumbered parts → AreNumbered loops (bound parts scope loops).exprs (bound parts scope loops).loops (bound parts scope loops).refusals
bound_numbered [] scope loops numbered = record { follow = λ none. refl }
bound_numbered (binder ∷ []) scope loops numbered = record { follow = λ none. refl }
bound_numbered (binder ∷ value ∷ parts) scope loops numbered =
    let checked = checked_name binder.name binder scope loops in
    let first = value.value (inside scope) checked.loops in
    let more = binding (bound_name binder.name ∷ []) scope in
    let rest = bound parts more first.loops in
    record {
      follow = λ none.
          let two = none_appended (checked.refusals ++ first.refusals) rest.refusals none in
          let one = none_appended checked.refusals first.refusals two.0 in
          let same = no_loop_in_name binder.name binder scope loops one.0 in
          Follow-append loops first.loops rest.loops (loop_numbers first.expr) (numbers_of_all rest.exprs)
          (subst (λ (n : ℕ). Follow n first.loops (loop_numbers first.expr)) same ((numbered.1.0.value (inside scope) checked.loops).follow one.1))
          ((bound_numbered parts more first.loops numbered.1.1).follow two.1);
    }

let_in_numbered : (at : Spot) (b : Bindings) (place : Spot) (parts : List Meaning) (scope : Scope) (loops : ℕ) → BindingsNumbered (Some b) → AllNumbered parts → IsNumbered loops (let_in at b place parts scope loops)
let_in_numbered at b place parts scope loops bindings numbered =
    let first = b.bind scope loops in
    let inner = body at parts (binding first.names scope) first.loops in
    let all = with_body loops first inner (bindings scope loops) (body_numbered at parts (binding first.names scope) first.loops numbered) in
    formed_numbered b.is_even place (let_of at first inner) loops (at_kind (numbers_of_all (first.exprs ++ inner.expr ∷ [])) (numbers-Let (first.exprs ++ inner.expr ∷ [])) all.follow)

let_with_numbered : (at : Spot) (b : Option Bindings) (place : Spot) (parts : List Meaning) (scope : Scope) (loops : ℕ) → BindingsNumbered b → AllNumbered parts → IsNumbered loops (let_with at b place parts scope loops)
let_with_numbered at (Some b) place parts scope loops bindings numbered = let_in_numbered at b place parts scope loops bindings numbered
let_with_numbered at None place parts scope loops bindings numbered = failed_numbered BadForm at loops

let_numbered : (at : Spot) (parts : List Meaning) (scope : Scope) (loops : ℕ) → AllNumbered parts → IsNumbered loops (let_value at parts scope loops)
let_numbered at [] scope loops numbered = failed_numbered Arity at loops
let_numbered at (first ∷ parts) scope loops numbered = let_with_numbered at first.bindings first.at parts scope loops numbered.0.bindings numbered.1

loop_in_numbered : (at : Spot) (b : Bindings) (place : Spot) (parts : List Meaning) (scope : Scope) (loops : ℕ) → BindingsNumbered (Some b) → AllNumbered parts → IsNumbered loops (loop_in at b place parts scope loops)
loop_in_numbered at b place parts scope loops bindings numbered =
    let first = b.bind scope (loops + 1) in
    let own = looping loops scope first.names in
    let inner = body at parts (loop_scope own scope first.names) first.loops in
    let all = with_body (loops + 1) first inner (bindings scope (loops + 1)) (body_numbered at parts (loop_scope own scope first.names) first.loops numbered) in
    formed_numbered b.is_even place (loop_of at own first inner) loops (with_loop own at first inner all)

loop_with_numbered : (at : Spot) (b : Option Bindings) (place : Spot) (parts : List Meaning) (scope : Scope) (loops : ℕ) → BindingsNumbered b → AllNumbered parts → IsNumbered loops (loop_with at b place parts scope loops)
loop_with_numbered at (Some b) place parts scope loops bindings numbered = loop_in_numbered at b place parts scope loops bindings numbered
loop_with_numbered at None place parts scope loops bindings numbered = failed_numbered BadForm at loops

loop_numbered : (at : Spot) (parts : List Meaning) (scope : Scope) (loops : ℕ) → AllNumbered parts → IsNumbered loops (loop_value at parts scope loops)
loop_numbered at [] scope loops numbered = failed_numbered Arity at loops
loop_numbered at (first ∷ parts) scope loops numbered = loop_with_numbered at first.bindings first.at parts scope loops numbered.0.bindings numbered.1

recur_numbered : (target : Option Target) (at : Spot) (parts : List Meaning) (scope : Scope) (loops : ℕ) → AllNumbered parts → IsNumbered loops (recur_to target at parts scope loops)
recur_numbered None at parts scope loops numbered = failed_numbered BadForm at loops
recur_numbered (Some target) at parts scope loops numbered =
    let call = applied (head.Call target.number) rule.Plain at parts scope loops in
    taking_numbered (length parts == target.takes) at (formed scope.stand.tail at call loops) loops
    (formed_numbered scope.stand.tail at call loops (applied_numbered (head.Call target.number) rule.Plain at parts scope loops numbered))

exactly_numbered : (count : ℕ) (h : Head) (at : Spot) (parts : List Meaning) (scope : Scope) (loops : ℕ) → AllNumbered parts → IsNumbered loops (exactly count h at parts scope loops)
exactly_numbered count h at parts scope loops numbered =
    taking_numbered (length parts == count) at (applied h rule.Plain at parts scope loops) loops (applied_numbered h rule.Plain at parts scope loops numbered)

started_numbered : (what : Found) (make : Start) (at place : Spot) (parts : List Meaning) (scope : Scope) (loops : ℕ) → AllNumbered parts → IsNumbered loops (started what make at place parts scope loops)
started_numbered (found.Defined (what.Behaviour number state)) make at place parts scope loops numbered = exactly_numbered state (start_head make number) at parts scope loops numbered
started_numbered found.Nothing make at place parts scope loops numbered = failed_numbered Unknown place loops
started_numbered _ make at place parts scope loops numbered = failed_numbered BadForm place loops

start_of_numbered : (word : Option (List ℕ)) (make : Start) (at : Spot) (name : Meaning) (parts : List Meaning) (scope : Scope) (loops : ℕ) → AllNumbered parts → IsNumbered loops (start_of word make at name parts scope loops)
start_of_numbered (Some word) make at name parts scope loops numbered = started_numbered (find_in scope word) make at name.at parts scope loops numbered
start_of_numbered None make at name parts scope loops numbered = misplaced_numbered name scope loops

start_numbered : (make : Start) (at : Spot) (parts : List Meaning) (scope : Scope) (loops : ℕ) → AllNumbered parts → IsNumbered loops (start_value make at parts scope loops)
start_numbered make at [] scope loops numbered = failed_numbered Arity at loops
start_numbered make at (name ∷ parts) scope loops numbered = start_of_numbered name.name make at name parts scope loops numbered.1

special_numbered : (s : Special) (at : Spot) (parts : List Meaning) (scope : Scope) (loops : ℕ) → AllNumbered parts → IsNumbered loops (special_value s at parts scope loops)
special_numbered special.Do at parts scope loops numbered = applied_numbered head.Do rule.Last at parts scope loops numbered
special_numbered special.If at parts scope loops numbered =
    taking_numbered (length parts == 3) at (applied head.If rule.Branches at parts scope loops) loops (applied_numbered head.If rule.Branches at parts scope loops numbered)
special_numbered special.Let at parts scope loops numbered = let_numbered at parts scope loops numbered
special_numbered special.Loop at parts scope loops numbered = loop_numbered at parts scope loops numbered
special_numbered special.Recur at parts scope loops numbered = recur_numbered scope.stand.target at parts scope loops numbered
special_numbered special.Println at parts scope loops numbered = applied_numbered head.Println rule.Plain at parts scope loops numbered
special_numbered special.Ref at parts scope loops numbered = exactly_numbered 1 head.Ref at parts scope loops numbered
special_numbered special.Deref at parts scope loops numbered = exactly_numbered 1 head.Deref at parts scope loops numbered
special_numbered special.RefSet at parts scope loops numbered = exactly_numbered 2 head.RefSet at parts scope loops numbered
special_numbered special.Fork at parts scope loops numbered = around_numbered at head.Fork loops (body at parts (inside scope) loops) (body_numbered at parts (inside scope) loops numbered)
special_numbered special.Join at parts scope loops numbered = exactly_numbered 1 head.Join at parts scope loops numbered
special_numbered special.Dosync at parts scope loops numbered = around_numbered at head.Dosync loops (body at parts (inside scope) loops) (body_numbered at parts (inside scope) loops numbered)
special_numbered special.Spawn at parts scope loops numbered = start_numbered starts.Spawn at parts scope loops numbered
special_numbered special.Become at parts scope loops numbered = start_numbered starts.Become at parts scope loops numbered
special_numbered special.Send at parts scope loops numbered =
    taking_numbered (nat_le 1 (length parts)) at (applied head.Send rule.Plain at parts scope loops) loops (applied_numbered head.Send rule.Plain at parts scope loops numbered)
special_numbered special.SelfActor at parts scope loops numbered = exactly_numbered 0 head.SelfActor at parts scope loops numbered
special_numbered special.Cond at parts scope loops numbered =
    formed_numbered (length parts % 2 == 0) at _ loops (made_numbered at expr.Cond loops (each rule.Results 0 scope parts loops) numbers-Cond (each_numbered rule.Results 0 scope parts loops numbered))
special_numbered special.And at parts scope loops numbered =
    made_numbered at (expr.And (length scope.locals)) loops (each rule.Chain 0 scope parts loops) (numbers-And (length scope.locals)) (each_numbered rule.Chain 0 scope parts loops numbered)
special_numbered special.Or at parts scope loops numbered =
    made_numbered at (expr.Or (length scope.locals)) loops (each rule.Chain 0 scope parts loops) (numbers-Or (length scope.locals)) (each_numbered rule.Chain 0 scope parts loops numbered)
special_numbered special.NoExpression at parts scope loops numbered = failed_numbered BadForm at loops

called_numbered : (what : Found) (at place : Spot) (parts : List Meaning) (scope : Scope) (loops : ℕ) → AllNumbered parts → IsNumbered loops (called what at place parts scope loops)
called_numbered (found.Defined (what.Function number takes)) at place parts scope loops numbered = exactly_numbered takes (head.Call number) at parts scope loops numbered
called_numbered found.Nothing at place parts scope loops numbered = failed_numbered Unknown place loops
called_numbered _ at place parts scope loops numbered = failed_numbered BadForm place loops

op_numbered : (op : Option Op) (word : List ℕ) (at place : Spot) (parts : List Meaning) (scope : Scope) (loops : ℕ) → AllNumbered parts → IsNumbered loops (op_value op word at place parts scope loops)
op_numbered (Some op) word at place parts scope loops numbered =
    taking_numbered (takes_of op (length parts)) at (applied (head.Op op) rule.Plain at parts scope loops) loops (applied_numbered (head.Op op) rule.Plain at parts scope loops numbered)
op_numbered None word at place parts scope loops numbered = called_numbered (find_in scope word) at place parts scope loops numbered

word_numbered : (s : Option Special) (word : List ℕ) (at place : Spot) (parts : List Meaning) (scope : Scope) (loops : ℕ) → AllNumbered parts → IsNumbered loops (word_value s word at place parts scope loops)
word_numbered (Some s) word at place parts scope loops numbered = special_numbered s at parts scope loops numbered
word_numbered None word at place parts scope loops numbered = op_numbered (op_of word) word at place parts scope loops numbered

headed_numbered : (word : Option (List ℕ)) (at : Spot) (name : Meaning) (parts : List Meaning) (scope : Scope) (loops : ℕ) → AllNumbered parts → IsNumbered loops (headed word at name parts scope loops)
headed_numbered (Some word) at name parts scope loops numbered = word_numbered (special_of word) word at name.at parts scope loops numbered
headed_numbered None at name parts scope loops numbered = misplaced_numbered name scope loops

pub list_numbered : (at : Spot) (parts : List Meaning) (scope : Scope) (loops : ℕ) → AllNumbered parts → IsNumbered loops (list_value at parts scope loops)
list_numbered at [] scope loops numbered = failed_numbered BadForm at loops
list_numbered at (name ∷ parts) scope loops numbered = headed_numbered name.name at name parts scope loops numbered.1
