use Rattle.std.proofs.Common.{◌≡◌, ℕ, ◌<◌, [], List, length, get_or, ◌++◌, sym, ap, ◌∙◌, subst, arith, Some}
use Rattle.std.proofs.lemmas.List.Elements.{All-pop, All-same}
use Rattle.resolved_forms.proofs.Spreading.{Spreading, Put, spreading_starts, spreading_passed, spreading_followed, spreading_more_units, fewer_left, spread_ends, none_waiting}
use Rattle.resolved_forms.proofs.reach.spread.Goals as goal

pub loop-unit-init : goal.loop-unit-init
loop-unit-init c = record {
  units = All-same (λ u. u < length c.args.lists.now) _ _ c.in_ok-waiting.ensures.items c.requires.users;
  spreading = λ uses are direct_users reached.
      subst (λ (w : List ℕ). Spreading uses c.args.callers.now c.args.users.now c.args.global c.args.lists.now c.args.lists.now w) (sym c.in_ok-waiting.ensures.items)
      (spreading_starts uses c.args.callers.now c.args.users.now c.args.global c.args.lists.now direct_users reached);
}

pub loop-unit-smaller-in-Continue-branch-3 : goal.loop-unit-smaller-in-Continue-branch-3
loop-unit-smaller-in-Continue-branch-3 c =
    let popped = All-pop (λ u. u < length c.args.lists.now) c.loop-unit.waiting.items c.pop.new.self.items (Some c.in-Some.unit) c.in-Some.ensures.items c.loop-unit.invariant.units in
    let p : Put c.loop-unit.lists c.in-Some.unit c.args.global c.index-lists-unit.result c.put_last.new.list c.in_ok-put_last.field-0 = record { within = omega (arith, popped.1); whether = c.in_ok-put_last.ensures.whether; after = c.in_ok-put_last.ensures.after } in
    fewer_left _ _ _ _ _ _ _ c.index-callers-unit.result _ _ _ p c.if-branch.true c.in-Some.ensures.items (omega arith) (c.in_ok-extend_from_slice.ensures.items ∙ ap (λ l. c.pop.new.self.items ++ l) (c.items.ensures ∙ c.index-callers-unit.is))

pub loop-unit-preserved-in-Continue-branch-3 : goal.loop-unit-preserved-in-Continue-branch-3
loop-unit-preserved-in-Continue-branch-3 c =
    let popped = All-pop (λ u. u < length c.args.lists.now) c.loop-unit.waiting.items c.pop.new.self.items (Some c.in-Some.unit) c.in-Some.ensures.items c.loop-unit.invariant.units in
    let p : Put c.loop-unit.lists c.in-Some.unit c.args.global c.index-lists-unit.result c.put_last.new.list c.in_ok-put_last.field-0 = record { within = omega (arith, popped.1); whether = c.in_ok-put_last.ensures.whether; after = c.in_ok-put_last.ensures.after } in
    let extended : c.extend_from_slice.new.self.items ≡ c.pop.new.self.items ++ get_or c.args.callers.now c.in-Some.unit c.index-callers-unit.result = c.in_ok-extend_from_slice.ensures.items ∙ ap (λ l. c.pop.new.self.items ++ l) (c.items.ensures ∙ c.index-callers-unit.is) in
    record {
      units = spreading_more_units c.args.lists.now c.args.callers.now c.pop.new.self.items _ c.index-callers-unit.result c.in-Some.unit popped.0 c.requires.callers (omega (arith, popped.1)) extended;
      spreading = λ uses are direct_users reached.
          spreading_followed _ _ _ _ _ _ _ _ _ _ c.index-callers-unit.result _ _ _ p c.if-branch.true c.in-Some.ensures.items (omega (arith, popped.1)) extended are (c.loop-unit.invariant.spreading uses are direct_users reached);
    }

pub loop-unit-preserved : goal.loop-unit-preserved
loop-unit-preserved c =
    let popped = All-pop (λ u. u < length c.args.lists.now) c.loop-unit.waiting.items c.pop.new.self.items (Some c.in-Some.unit) c.in-Some.ensures.items c.loop-unit.invariant.units in
    let p : Put c.loop-unit.lists c.in-Some.unit c.args.global c.index-lists-unit.result c.put_last.new.list c.in_ok-put_last.field-0 = record { within = omega (arith, popped.1); whether = c.in_ok-put_last.ensures.whether; after = c.in_ok-put_last.ensures.after } in
    record {
      units = popped.0;
      spreading = λ uses are direct_users reached. spreading_passed _ _ _ _ _ _ _ _ _ _ _ _ p c.if-branch.false c.in-Some.ensures.items (c.loop-unit.invariant.spreading uses are direct_users reached);
    }

pub returns : goal.returns
returns c =
    let empty : c.loop-unit.waiting.items ≡ [] = none_waiting c.loop-unit.waiting.items c.loop-unit.waiting.len c.pop.result c.in_default.not-Some c.pop.ensures.value (omega arith) in
    λ uses are direct_users reached.
    spread_ends uses c.args.callers.now c.args.users.now c.args.global c.args.lists.now c.loop-unit.lists are direct_users reached
    (subst (λ (w : List ℕ). Spreading uses c.args.callers.now c.args.users.now c.args.global c.args.lists.now c.loop-unit.lists w) empty (c.loop-unit.invariant.spreading uses are direct_users reached))
