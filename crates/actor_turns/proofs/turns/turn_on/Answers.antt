use Rattle.std.proofs.Common.{◌≡◌, ◌∙◌, ap, sym, subst, rules}
use Rattle.std.specs.Arc.{arc_value}
use Rattle.std.specs.List.{slice_get}
use Rattle.std.specs.Prelude.{Some}
use Rattle.core_syntax.specs.WellFormed.{IsTurnAt}
use Rattle.actor_turns.proofs.Due.{turn-below}
use Rattle.actor_turns.proofs.turns.turn_on.Goals as goal

pub returns : goal.returns
returns c behaviour is =
    let both : Some c.behaviour.result.now ≡ Some behaviour = sym c.behaviour.ensures.value ∙ ap (λ t. slice_get t.behaviours c.args.actor.now.behaviour) c.deref.ensures ∙ is in
    let same : c.behaviour.result.now ≡ behaviour = cc in
    record {
      name_is = c.in_ok-turn.ensures;
      actor_is = c.in_ok-turner.ensures;
      machine = record {
        inside = c.in_ok-machine.ensures.inside;
        fuel = c.in_ok-machine.ensures.fuel ∙ search rules;
        of = c.in_ok-machine.ensures.stands (arc_value c.args.kept.now.program) (turn-below (arc_value c.args.kept.now.program).nodes c.behaviour.result.now.body (subst (λ t. IsTurnAt t.nodes c.behaviour.result.now.body) c.deref.ensures c.behaviour.ensures.body));
      };
      body = c.in_ok-machine.ensures.body ∙ ap (λ b. b.body) same;
      values = c.in_ok-machine.ensures.values ∙ c.in_ok-values.ensures;
      answers = c.in_ok-machine.ensures.answers;
      busy = c.in_ok-busy.ensures;
      units = search rules;
    }
