-- Lists come to expressions in range.
use Rattle.std.proofs.Common.{◌≡◌, ◌∙◌, inl, inr, ℕ, ◌+◌, ◌%◌, ◌<◌, ◌≤◌, ◌==◌, Bool, true, false, List, [], ◌∷◌, ◌++◌, length, Option, None, Some, refl, sym, ap, subst, length-append}
use Rattle.std.specs.Prelude.{IfSome, nat_le}
use Rattle.std.specs.List.{slice_get}
use Rattle.std.proofs.lemmas.Bool.{eqb-true}
use Rattle.std.proofs.lemmas.List.{length-map}
use Rattle.value_core.specs.Place.{Spot}
use Rattle.value_core.specs.declared.op.Op.{Op}
use Rattle.value_core.specs.primitives.Words.{takes_of}
use Rattle.scope_names.specs.declared.definition.Definition.{Definition}
use Rattle.scope_names.specs.declared.definition.What.{What}
use Rattle.scope_names.specs.declared.definition.What.TheVariants as what
use Rattle.scope_refusals.specs.declared.kind.ScopeKind.TheVariants.{Unknown, Arity, BadForm}
use Rattle.scope_names.specs.declared.found.Found.{Found}
use Rattle.scope_names.specs.declared.found.Found.TheVariants as found
use Rattle.resolved_forms.specs.declared.head.Head.{Head}
use Rattle.resolved_forms.specs.declared.head.Head.TheVariants as head
use Rattle.resolved_forms.specs.InRange.{Signatures, apply, binds, cond, conj, disj, loop, more, none}
use Rattle.scope_check.specs.declared.rule.Rule.TheVariants as rule
use Rattle.scope_names.specs.declared.special.Special.{Special}
use Rattle.scope_names.specs.declared.special.Special.TheVariants as special
use Rattle.scope_check.specs.declared.stand.Target.{Target}
use Rattle.scope_check.specs.declared.start.Start.{Start}
use Rattle.scope_check.specs.declared.start.Start.TheVariants as starts
use Rattle.scope_check.specs.Heads.{misplaced, let_of, let_in, let_with, let_value, loop_of, looping, loop_in, loop_with, loop_value, loop_scope, recur_to, exactly, start_head, started, start_of, start_value, special_value, called, op_value, word_value, headed, list_value, formed}
use Rattle.scope_locals.specs.Innermost.{innermost}
use Rattle.scope_names.specs.Names.{defined}
use Rattle.scope_names.specs.Ops.{op_of}
use Rattle.scope_check.specs.Parts.{each, applied, body, around}
use Rattle.scope_check.specs.Resolved.{Bindings, Meaning}
use Rattle.scope_check.specs.Scope.{Scope, inside, binding, find_in}
use Rattle.scope_names.specs.Finding.{find, found_local, found_reserved, is_reserved}
use Rattle.scope_names.specs.Special.{special_of}
use Rattle.scope_check.proofs.Argued.{innermost_within, arguments_inner, level_of}
use Rattle.scope_check.proofs.Ranged.{HeadRanged, Ranged, WhatRanged, aim}
use Rattle.scope_check.proofs.RangedForms.{IsRanged, RangedBindings, RangedMeanings, no_first, no_rest, failed_ranged, taking_ranged, formed_ranged, each_ranged, applied_ranged, body_ranged}

-- what a name stands for is there
abbrev pub FoundRanged : Signatures → ℕ → Found → Type 0
FoundRanged file depth (found.Local level) = level < depth
FoundRanged file depth (found.Defined what) = WhatRanged file what
FoundRanged file depth _ = Unit {0}

-- something is wrong with a form where a name has to stand
misplaced_ranged : (file : Signatures) (scope : Scope) (part : Meaning) (loops : ℕ) → IsRanged file scope loops (misplaced part scope loops)
misplaced_ranged file scope part loops wrong = absurd (cc)

module _ (file : Signatures) (definitions : List Definition) (ready : (name : List ℕ) (what : What) → defined definitions name ≡ Some what → WhatRanged file what) where
  defined_ranged : (depth : ℕ) (reserved : Bool) (name : List ℕ) (o : Option What) → defined definitions name ≡ o → FoundRanged file depth (found_reserved reserved o)
  defined_ranged depth true name o is = tt
  defined_ranged depth false name None is = tt
  defined_ranged depth false name (Some what) is = ready name what is

  local_ranged : (depth : ℕ) (o : Option ℕ) (outside : Found) → ((level : ℕ) → o ≡ Some level → level < depth) → FoundRanged file depth outside → FoundRanged file depth (found_local o outside)
  local_ranged depth (Some level) outside within ranged = within level refl
  local_ranged depth None outside within ranged = ranged

  pub find_ranged : (scope : Scope) (name : List ℕ) → scope.definitions ≡ definitions → FoundRanged file (length scope.locals) (find_in scope name)
  unfolding find
  find_ranged scope name known =
      local_ranged (length scope.locals) (innermost scope.locals name) (found_reserved (is_reserved name) (defined scope.definitions name))
      (λ level is. innermost_within scope.locals name level is)
      (subst (λ ds. FoundRanged file (length scope.locals) (found_reserved (is_reserved name) (defined ds name))) (sym known)
      (defined_ranged (length scope.locals) (is_reserved name) name (defined definitions name) refl))

  module _ (at : Spot) (parts : List Meaning) (ranged : RangedMeanings file definitions parts) (scope : Scope) (loops : ℕ) (known : scope.definitions ≡ definitions) where
    plain_ranged : (h : Head) → HeadRanged file scope.stand.target (length parts) h → IsRanged file scope loops (applied h rule.Plain at parts scope loops)
    plain_ranged h head_ranged = applied_ranged file definitions h rule.Plain at parts scope loops (λ n. refl) head_ranged ranged known

    exactly_ranged : (count : ℕ) (h : Head) → HeadRanged file scope.stand.target count h → IsRanged file scope loops (exactly count h at parts scope loops)
    exactly_ranged count h head_ranged =
        taking_ranged file scope (length parts == count) at (applied h rule.Plain at parts scope loops) loops
        (λ same. plain_ranged h (subst (λ n. HeadRanged file scope.stand.target n h) (sym (eqb-true (length parts) count same)) head_ranged))

    recur_ranged : (target : Option Target) → scope.stand.target ≡ target → IsRanged file scope loops (recur_to target at parts scope loops)
    recur_ranged None is = failed_ranged file scope BadForm at loops
    recur_ranged (Some target) is =
        let call = applied (head.Call target.number) rule.Plain at parts scope loops in
        taking_ranged file scope (length parts == target.takes) at (formed scope.stand.tail at call loops) loops
        (λ same. formed_ranged file scope scope.stand.tail at call loops
        (plain_ranged (head.Call target.number) (inr (ap aim is ∙ ap (λ n. Some (record { number = target.number; takes = n })) (sym (eqb-true (length parts) target.takes same))))))

    around_ranged : (h : Head) → HeadRanged file scope.stand.target 1 h → IsRanged file scope loops (around at h (body at parts (inside scope) loops))
    around_ranged h head_ranged none_wrong =
        let inner = body at parts (inside scope) loops in
        apply head_ranged
        (more (body_ranged file definitions at parts (inside scope) loops ranged known none_wrong) none)

    let_ranged : (bindings : Bindings) (place : Spot) → RangedBindings file definitions bindings → IsRanged file scope loops (let_in at bindings place parts scope loops)
    let_ranged bindings place are_bound =
        let first = bindings.bind scope loops in
        let behind = binding first.names scope in
        let inner = body at parts behind first.loops in
        formed_ranged file scope bindings.is_even place (let_of at first inner) loops (λ none_wrong.
        let bound = are_bound scope loops known (no_first first.refusals inner.refusals none_wrong) in
        let deep : length (scope.locals ++ first.names) ≡ length scope.locals + length first.exprs = length-append scope.locals first.names ∙ ap (λ n. length scope.locals + n) bound.as_many in
        binds bound.parts (subst (λ n. Ranged file first.loops inner.loops n scope.stand.target inner.expr) deep
        (body_ranged file definitions at parts behind first.loops ranged known (no_rest first.refusals inner.refusals none_wrong))))

    loop_ranged : (bindings : Bindings) (place : Spot) → RangedBindings file definitions bindings → IsRanged file scope loops (loop_in at bindings place parts scope loops)
    loop_ranged bindings place are_bound =
        let first = bindings.bind scope (loops + 1) in
        let own = looping loops scope first.names in
        let behind = loop_scope own scope first.names in
        let inner = body at parts behind first.loops in
        let depth = length scope.locals in
        formed_ranged file scope bindings.is_even place (loop_of at own first inner) loops (λ none_wrong.
        let bound = are_bound scope (loops + 1) known (no_first first.refusals inner.refusals none_wrong) in
        let deep : length (scope.locals ++ first.names) ≡ depth + length first.exprs = length-append scope.locals first.names ∙ ap (λ n. depth + n) bound.as_many in
        loop
        (length-map first.names (level_of (scope.locals ++ first.names)) ∙ bound.as_many)
        (λ level there. subst (λ n. (depth ≤ level) × (level < depth + n)) bound.as_many (arguments_inner scope.locals first.names level there))
        bound.parts
        (subst (λ n. Ranged file first.loops inner.loops n (Some (record { number = loops; takes = length own.arguments })) inner.expr) deep
        (body_ranged file definitions at parts behind first.loops ranged known (no_rest first.refusals inner.refusals none_wrong))))

    start_ranged : (make : Start) (number state : ℕ) → slice_get file.behaviours number ≡ Some state → HeadRanged file scope.stand.target state (start_head make number)
    start_ranged starts.Spawn number state is = is
    start_ranged starts.Become number state is = is

    started_ranged : (f : Found) (make : Start) (place : Spot) → FoundRanged file (length scope.locals) f → IsRanged file scope loops (started f make at place parts scope loops)
    started_ranged (found.Defined (what.Behaviour number state)) make place is = exactly_ranged state (start_head make number) (start_ranged make number state is)
    started_ranged (found.Defined (what.Function number takes)) make place is = failed_ranged file scope BadForm place loops
    started_ranged (found.Defined (what.Global number)) make place is = failed_ranged file scope BadForm place loops
    started_ranged found.Nothing make place is = failed_ranged file scope Unknown place loops
    started_ranged (found.Local level) make place is = failed_ranged file scope BadForm place loops
    started_ranged found.Reserved make place is = failed_ranged file scope BadForm place loops

    called_ranged : (f : Found) (place : Spot) → FoundRanged file (length scope.locals) f → IsRanged file scope loops (called f at place parts scope loops)
    called_ranged (found.Defined (what.Function number takes)) place is = exactly_ranged takes (head.Call number) (inl is)
    called_ranged (found.Defined (what.Behaviour number state)) place is = failed_ranged file scope BadForm place loops
    called_ranged (found.Defined (what.Global number)) place is = failed_ranged file scope BadForm place loops
    called_ranged found.Nothing place is = failed_ranged file scope Unknown place loops
    called_ranged (found.Local level) place is = failed_ranged file scope BadForm place loops
    called_ranged found.Reserved place is = failed_ranged file scope BadForm place loops

    op_ranged : (o : Option Op) (word : List ℕ) (place : Spot) → IsRanged file scope loops (op_value o word at place parts scope loops)
    op_ranged (Some op) word place = taking_ranged file scope (takes_of op (length parts)) at (applied (head.Op op) rule.Plain at parts scope loops) loops (λ takes. plain_ranged (head.Op op) takes)
    op_ranged None word place = called_ranged (find_in scope word) place (find_ranged scope word known)

    cond_ranged : IsRanged file scope loops (special_value special.Cond at parts scope loops)
    cond_ranged =
        let several = each rule.Results 0 scope parts loops in
        formed_ranged file scope (length parts % 2 == 0) at _ loops (λ none_wrong.
        cond (each_ranged file definitions rule.Results scope parts loops ranged known none_wrong))

    and_ranged : IsRanged file scope loops (special_value special.And at parts scope loops)
    and_ranged none_wrong =
        let several = each rule.Chain 0 scope parts loops in
        conj (each_ranged file definitions rule.Chain scope parts loops ranged known none_wrong)

    or_ranged : IsRanged file scope loops (special_value special.Or at parts scope loops)
    or_ranged none_wrong =
        let several = each rule.Chain 0 scope parts loops in
        disj (each_ranged file definitions rule.Chain scope parts loops ranged known none_wrong)

  let_with_ranged : (at : Spot) (o : Option Bindings) (place : Spot) (parts : List Meaning) (scope : Scope) (loops : ℕ) → IfSome o (RangedBindings file definitions) → RangedMeanings file definitions parts → scope.definitions ≡ definitions
      → IsRanged file scope loops (let_with at o place parts scope loops)
  let_with_ranged at (Some bindings) place parts scope loops are_bound ranged known = let_ranged at parts ranged scope loops known bindings place are_bound
  let_with_ranged at None place parts scope loops are_bound ranged known = failed_ranged file scope BadForm at loops

  loop_with_ranged : (at : Spot) (o : Option Bindings) (place : Spot) (parts : List Meaning) (scope : Scope) (loops : ℕ) → IfSome o (RangedBindings file definitions) → RangedMeanings file definitions parts → scope.definitions ≡ definitions
      → IsRanged file scope loops (loop_with at o place parts scope loops)
  loop_with_ranged at (Some bindings) place parts scope loops are_bound ranged known = loop_ranged at parts ranged scope loops known bindings place are_bound
  loop_with_ranged at None place parts scope loops are_bound ranged known = failed_ranged file scope BadForm at loops

  let_value_ranged : (at : Spot) (parts : List Meaning) (scope : Scope) (loops : ℕ) → RangedMeanings file definitions parts → scope.definitions ≡ definitions → IsRanged file scope loops (let_value at parts scope loops)
  let_value_ranged at [] scope loops ranged known = failed_ranged file scope Arity at loops
  let_value_ranged at (first ∷ parts) scope loops ranged known = let_with_ranged at first.bindings first.at parts scope loops ranged.0.bindings ranged.1 known

  loop_value_ranged : (at : Spot) (parts : List Meaning) (scope : Scope) (loops : ℕ) → RangedMeanings file definitions parts → scope.definitions ≡ definitions → IsRanged file scope loops (loop_value at parts scope loops)
  loop_value_ranged at [] scope loops ranged known = failed_ranged file scope Arity at loops
  loop_value_ranged at (first ∷ parts) scope loops ranged known = loop_with_ranged at first.bindings first.at parts scope loops ranged.0.bindings ranged.1 known

  start_of_ranged : (o : Option (List ℕ)) (make : Start) (at : Spot) (name : Meaning) (parts : List Meaning) (scope : Scope) (loops : ℕ) → RangedMeanings file definitions parts → scope.definitions ≡ definitions
      → IsRanged file scope loops (start_of o make at name parts scope loops)
  start_of_ranged (Some word) make at name parts scope loops ranged known = started_ranged at parts ranged scope loops known (find_in scope word) make name.at (find_ranged scope word known)
  start_of_ranged None make at name parts scope loops ranged known = misplaced_ranged file scope name loops

  start_value_ranged : (make : Start) (at : Spot) (parts : List Meaning) (scope : Scope) (loops : ℕ) → RangedMeanings file definitions parts → scope.definitions ≡ definitions → IsRanged file scope loops (start_value make at parts scope loops)
  start_value_ranged make at [] scope loops ranged known = failed_ranged file scope Arity at loops
  start_value_ranged make at (name ∷ parts) scope loops ranged known = start_of_ranged name.name make at name parts scope loops ranged.1 known

  special_ranged : (s : Special) (at : Spot) (parts : List Meaning) (scope : Scope) (loops : ℕ) → RangedMeanings file definitions parts → scope.definitions ≡ definitions → IsRanged file scope loops (special_value s at parts scope loops)
  special_ranged special.Do at parts scope loops ranged known = applied_ranged file definitions head.Do rule.Last at parts scope loops (λ n. refl) tt ranged known
  special_ranged special.If at parts scope loops ranged known =
      taking_ranged file scope (length parts == 3) at (applied head.If rule.Branches at parts scope loops) loops (λ three. applied_ranged file definitions head.If rule.Branches at parts scope loops (λ n. refl) tt ranged known)
  special_ranged special.Let at parts scope loops ranged known = let_value_ranged at parts scope loops ranged known
  special_ranged special.Loop at parts scope loops ranged known = loop_value_ranged at parts scope loops ranged known
  special_ranged special.Recur at parts scope loops ranged known = recur_ranged at parts ranged scope loops known scope.stand.target refl
  special_ranged special.Println at parts scope loops ranged known = plain_ranged at parts ranged scope loops known head.Println tt
  special_ranged special.Ref at parts scope loops ranged known = exactly_ranged at parts ranged scope loops known 1 head.Ref tt
  special_ranged special.Deref at parts scope loops ranged known = exactly_ranged at parts ranged scope loops known 1 head.Deref tt
  special_ranged special.RefSet at parts scope loops ranged known = exactly_ranged at parts ranged scope loops known 2 head.RefSet tt
  special_ranged special.Fork at parts scope loops ranged known = around_ranged at parts ranged scope loops known head.Fork tt
  special_ranged special.Join at parts scope loops ranged known = exactly_ranged at parts ranged scope loops known 1 head.Join tt
  special_ranged special.Dosync at parts scope loops ranged known = around_ranged at parts ranged scope loops known head.Dosync tt
  special_ranged special.Spawn at parts scope loops ranged known = start_value_ranged starts.Spawn at parts scope loops ranged known
  special_ranged special.Become at parts scope loops ranged known = start_value_ranged starts.Become at parts scope loops ranged known
  special_ranged special.Send at parts scope loops ranged known =
      taking_ranged file scope (nat_le 1 (length parts)) at (applied head.Send rule.Plain at parts scope loops) loops (λ some. plain_ranged at parts ranged scope loops known head.Send tt)
  special_ranged special.SelfActor at parts scope loops ranged known = exactly_ranged at parts ranged scope loops known 0 head.SelfActor tt
  special_ranged special.Cond at parts scope loops ranged known = cond_ranged at parts ranged scope loops known
  special_ranged special.And at parts scope loops ranged known = and_ranged at parts ranged scope loops known
  special_ranged special.Or at parts scope loops ranged known = or_ranged at parts ranged scope loops known
  special_ranged special.NoExpression at parts scope loops ranged known = failed_ranged file scope BadForm at loops

  word_ranged : (o : Option Special) (word : List ℕ) (at place : Spot) (parts : List Meaning) (scope : Scope) (loops : ℕ) → RangedMeanings file definitions parts → scope.definitions ≡ definitions
      → IsRanged file scope loops (word_value o word at place parts scope loops)
  word_ranged (Some s) word at place parts scope loops ranged known = special_ranged s at parts scope loops ranged known
  word_ranged None word at place parts scope loops ranged known = op_ranged at parts ranged scope loops known (op_of word) word place

  headed_ranged : (o : Option (List ℕ)) (at : Spot) (name : Meaning) (parts : List Meaning) (scope : Scope) (loops : ℕ) → RangedMeanings file definitions parts → scope.definitions ≡ definitions
      → IsRanged file scope loops (headed o at name parts scope loops)
  headed_ranged (Some word) at name parts scope loops ranged known = word_ranged (special_of word) word at name.at parts scope loops ranged known
  headed_ranged None at name parts scope loops ranged known = misplaced_ranged file scope name loops

  -- a list
  pub list_ranged : (at : Spot) (parts : List Meaning) (scope : Scope) (loops : ℕ) → RangedMeanings file definitions parts → scope.definitions ≡ definitions → IsRanged file scope loops (list_value at parts scope loops)
  list_ranged at [] scope loops ranged known = failed_ranged file scope BadForm at loops
  list_ranged at (name ∷ parts) scope loops ranged known = headed_ranged name.name at name parts scope loops ranged.1 known
