use Rattle.std.proofs.Common.{◌≡◌, ℕ, List, subst, rules, arith}
use Rattle.resolved_forms.specs.Users.{Notes}
use Rattle.resolved_forms.specs.Reach.{globals_named, units_named}
use Rattle.resolved_forms.proofs.Noting.{users_step}
use Rattle.resolved_forms.proofs.reach.users_of.Goals as goal

pub loop-unit-preserved : goal.loop-unit-preserved
loop-unit-preserved c =
    let unit_is : c.in_ok-unit.unit ≡ c.loop-unit.unit = search rules in
    record {
      globals = users_step globals_named c.args.uses.now _ c.loop-unit.unit c.in_ok-unit.unit _ c.index-uses-unit.result _ c.deref_mut.result.now _ c.loop-unit.invariant.globals c.loop-unit-test.true c.index-uses-unit.is unit_is c.deref_mut.ensures.value (subst (λ (named : List ℕ). Notes c.deref_mut.result.now named c.in_ok-unit.unit c.note.new.users) c.items.ensures c.in_ok-note.ensures) (omega arith);
      units = users_step units_named c.args.uses.now _ c.loop-unit.unit c.in_ok-unit.unit _ c.index-uses-unit.result _ c.deref_mut-in-loop-unit.result.now _ c.loop-unit.invariant.units c.loop-unit-test.true c.index-uses-unit.is unit_is c.deref_mut-in-loop-unit.ensures.value (subst (λ (named : List ℕ). Notes c.deref_mut-in-loop-unit.result.now named c.in_ok-unit.unit c.note-in-loop-unit.new.users) c.items-in-loop-unit.ensures c.in_ok-note-2.ensures) (omega arith);
    }
