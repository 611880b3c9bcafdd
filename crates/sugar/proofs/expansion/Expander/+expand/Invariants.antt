use Rattle.std.proofs.Common.{◌≡◌, ◌+◌, ◌*◌, ◌++◌, drop, map}
use Rattle.sugar.specs.Meaning.{cores, made_in}
use Rattle.sugar.specs.Expansion.{meaning}
use Rattle.sugar.specs.Sugar.{bindings, names}
use Rattle.sugar.proofs.expansion.Expander.+expand.Given as goal

abbrev pub decreases-form : goal.decreases-form
decreases-form l = 8 * goal.size-form l + 0

abbrev pub decreases-push_form : goal.decreases-push_form
decreases-push_form l = 8 * goal.size-push_form l + 1

abbrev pub decreases-push_forms : goal.decreases-push_forms
decreases-push_forms l = 8 * goal.size-push_forms l + 2

abbrev pub decreases-cores : goal.decreases-cores
decreases-cores l = 8 * goal.size-cores l + 3

abbrev pub decreases-plain : goal.decreases-plain
decreases-plain l = 8 * goal.size-plain l + 4

abbrev pub decreases-behind : goal.decreases-behind
decreases-behind l = 8 * goal.size-behind l + 3

abbrev pub decreases-body : goal.decreases-body
decreases-body l = 8 * goal.size-body l + 4

abbrev pub decreases-bind : goal.decreases-bind
decreases-bind l = 8 * goal.size-bind l + 2

abbrev pub decreases-bind_all : goal.decreases-bind_all
decreases-bind_all l = 8 * goal.size-bind_all l + 3

abbrev pub decreases-callee : goal.decreases-callee
decreases-callee l = 8 * goal.size-callee l + 1

abbrev pub decreases-if_form : goal.decreases-if_form
decreases-if_form l = 8 * goal.size-if_form l + 5

abbrev pub decreases-when : goal.decreases-when
decreases-when l = 8 * goal.size-when l + 5

abbrev pub decreases-lookup : goal.decreases-lookup
decreases-lookup l = 8 * goal.size-lookup l + 5

abbrev pub decreases-alter : goal.decreases-alter
decreases-alter l = 8 * goal.size-alter l + 5

abbrev pub decreases-list : goal.decreases-list
decreases-list l = 8 * goal.size-list l + 6

abbrev pub invariant-push_forms-loop-form : goal.invariant-push_forms-loop-form
invariant-push_forms-loop-form l = record {
  parts : l.parts ++ cores (map meaning (drop l.form-index l.forms)) l.self.next ≡ l.initial.parts ++ cores (map meaning l.forms) l.initial.self.next;
  next : l.self.next + made_in (map meaning (drop l.form-index l.forms)) ≡ l.initial.self.next + made_in (map meaning l.forms);
}

abbrev pub invariant-bind_all-loop-value : goal.invariant-bind_all-loop-value
invariant-bind_all-loop-value l = record {
  bound : l.bindings ++ cores (bindings l.at (map meaning (drop l.value-index l.values))) l.self.next
      ≡ l.initial.bindings ++ cores (bindings l.at (map meaning l.values)) l.initial.self.next;
  called : l.call ++ names l.at (map meaning (drop l.value-index l.values)) l.self.next
      ≡ l.initial.call ++ names l.at (map meaning l.values) l.initial.self.next;
  next : l.self.next + made_in (bindings l.at (map meaning (drop l.value-index l.values))) ≡ l.initial.self.next + made_in (bindings l.at (map meaning l.values));
}
