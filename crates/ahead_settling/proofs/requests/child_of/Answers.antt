use Rattle.std.proofs.Common.{◌≡◌, ◌∙◌, ap, rules}
use Rattle.ahead_settling.proofs.First.{next-again}
use Rattle.ahead_settling.proofs.requests.child_of.Goals as goal
use Rattle.world_steps.specs.Kept.{shared_of}

pub returns-clause-child : goal.returns-clause-child
returns-clause-child c = record {
  called = next-again (shared_of c.args.kept.now) (shared_of c.next_new.new.kept) c.args.name.now c.in_ok-made.made c.in_ok-made.ensures.same c.in_ok-made.ensures.made;
  none = c.in_ok-made.ensures.none;
  place = c.in_ok-made.ensures.place;
  inside = c.in_ok-machine.ensures.inside;
  fuel = c.in_ok-machine.ensures.fuel ∙ search rules;
  of = c.in_ok-machine.ensures.stands;
  body_is = c.in_ok-machine.ensures.body;
  values_are = c.in_ok-machine.ensures.values;
  answers = c.in_ok-machine.ensures.answers;
  units = search rules;
}
