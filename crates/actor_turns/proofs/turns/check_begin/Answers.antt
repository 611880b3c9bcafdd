use Rattle.std.proofs.Common.{◌<◌, ◌∙◌, ap, length, subst, sym}
use Rattle.std.specs.Arc.{arc_value}
use Rattle.std.specs.Option.{is_some}
use Rattle.actor_turns.proofs.Due.{none-is, there-is}
use Rattle.world_steps.proofs.Acting.{copied-there}
use Rattle.actor_turns.proofs.turns.check_begin.Goals as goal

pub returns-then-actor-behaviours : goal.returns-then-actor-behaviours
returns-then-actor-behaviours c =
    let below = subst (λ n. c.args.actor.now.behaviour < n) (c.behaviours.ensures ∙ ap (λ t. length t.behaviours) c.deref.ensures) c.if-actor-behaviours.true in
    let there = there-is (arc_value c.args.kept.now.program).behaviours c.args.actor.now.behaviour below in
    record {
      idle = c.if-actor.false;
      free = none-is _ (ap is_some (sym c.get.ensures) ∙ sym (copied-there c.get.result) ∙ sym c.if-is_some.ensures);
      behaviour = there.0;
      behaves = there.1;
    }
