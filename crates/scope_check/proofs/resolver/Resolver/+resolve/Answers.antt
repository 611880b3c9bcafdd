use Rattle.std.proofs.Common.{◌≡◌, ◌+◌, ◌-◌, ◌%◌, length, take, drop, sym, ap, subst, ◌∙◌, arith}
use Rattle.sugar.specs.declared.core_form.CoreKind.TheVariants.{Vector}
use Rattle.scope_check.specs.Heads.{bound, loop_value}
use Rattle.scope_check.specs.Moves.{Gives, scope_in}
use Rattle.scope_check.specs.Parts.{each, is_none}
use Rattle.scope_check.specs.Tails.{part_stand}
use Rattle.scope_check.proofs.Loops.{first_and_rest, loop_vector, loop_done, where_ok}
use Rattle.scope_check.proofs.Remaining.{StillGives, StillBinds}
use Rattle.scope_check.specs.Value.{meaning, meanings}
use Rattle.scope_check.proofs.Steps.{meanings_at, meanings_two, bound_step, bound_end, short_rest, within_take, last_is, each_step}
use Rattle.scope_check.proofs.resolver.Resolver.+resolve.Goals as goal

-- a name and its expression
pub bound-loop-index-preserved : goal.bound-loop-index-preserved
bound-loop-index-preserved t c =
    let two = meanings_two c.args.parts.now c.loop-index.index c.index-parts-index.result c.index-parts-index-in-loop-index.result c.loop-index-test.true (sym c.index-parts-index.is) (sym c.index-parts-index-in-loop-index.is) in
    rw c.in_ok-add.ensures.ok (bound_step _ _ _ _ c.args.stand (meaning c.index-parts-index.result) (meaning c.index-parts-index-in-loop-index.result) _ _ _ _ _ (subst (λ ms. StillBinds c.args.self.now c.loop-index.self c.loop-index.exprs (bound ms (scope_in c.loop-index.self c.args.stand) c.loop-index.self.loops) (bound (meanings c.args.parts.now) (scope_in c.args.self.now c.args.stand) c.args.self.now.loops)) two c.loop-index.invariant) c.in_ok-name.ensures c.in_ok-expr.ensures)

pub bound-returns : goal.bound-returns
bound-returns t c = bound_end _ _ _ _ _ _ (short_rest c.args.parts.now c.loop-index.index c.loop-index-test.false) c.loop-index.invariant

-- one part
pub each-loop-index-preserved : goal.each-loop-index-preserved
each-loop-index-preserved t c =
    let parts = c.args.parts.now in
    let index = c.loop-index.index in
    let rest = meanings_at parts index c.index-parts-index.result c.loop-index-test.true (sym c.index-parts-index.is) in
    let within = within_take c.loop-index.self.locals _ c.depth-depth.result c.loop-index.invariant.locals c.depth-depth.ensures in
    let given : Gives c.loop-index.self c.value.new.self ((meaning c.index-parts-index.result).value (scope_in c.loop-index.self (part_stand c.args.rule index (is_none (meanings (drop (index + 1) parts))) c.args.stand)) c.loop-index.self.loops) c.in_ok-expr.expr
    = rw (last_is parts (index + 1) (omega arith), ← c.stand_of.ensures) c.in_ok-expr.ensures in
    rw c.in_ok-add.ensures.ok (each_step _ _ _ _ _ c.args.rule index c.args.stand (meaning c.index-parts-index.result) (meanings (drop (index + 1) parts)) _ _ _ within (subst (λ ms. StillGives c.args.self.now c.loop-index.self c.depth-depth.result c.loop-index.exprs (each c.args.rule index (scope_in c.loop-index.self c.args.stand) ms c.loop-index.self.loops) (each c.args.rule 0 (scope_in c.args.self.now c.args.stand) (meanings parts) c.args.self.now.loops)) rest c.loop-index.invariant) given c.in_ok-pass.ensures)

-- a loop whose bindings and body are there
pub loop_form-returns : goal.loop_form-returns
loop_form-returns t c =
    let parts = c.args.parts.now in
    let scope = scope_in c.args.self.now c.args.stand in
    let bindings = c.items-2.result.now in
    let rest = meanings (take (length parts - 1) (drop 1 parts)) in
    let even : length bindings % 2 ≡ 0 = ap (λ l. length l % 2) (c.items-2.ensures ∙ sym c.items.ensures) ∙ c.if-items-ne0.false in
    let value_is = ap (λ ms. loop_value c.args.at ms scope c.args.self.now.loops) (first_and_rest parts c.first-item.result c.in-len1-up.len_at_least c.first-item.is)
    ∙ loop_vector c.args.at c.first-item.result bindings rest scope c.args.self.now.loops (c.in-Vector.is ∙ ap Vector (sym c.items-2.ensures)) even in
    let done = loop_done c.args.self.now c.begin.new.self c.body.new.self c.args.at c.args.stand _ c.in_ok-begun.begun rest c.in_ok-body.body c.depth-depth.result c.in_ok-begun.ensures c.in_ok-body.ensures c.depth-depth.ensures in
    rw (value_is, c.leave.ensures) (where_ok c.end.result _ _ c.end.ensures done)
