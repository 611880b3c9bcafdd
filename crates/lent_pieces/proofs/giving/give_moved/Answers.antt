use Rattle.std.proofs.Common.{ap, subst}
use Rattle.lent_pieces.proofs.Given.{body-there, task-of, unit-gave-so, unit-of}
use Rattle.lent_pieces.specs.Giving.{IsStanderOf}
use Rattle.shared_world.specs.Shared.{is_going}
use Rattle.world_steps.specs.Kept.{shared_of}
use Rattle.lent_pieces.proofs.giving.give_moved.Goals as goal

pub give_unit-requires-clause-unit : goal.give_unit-requires-clause-unit
give_unit-requires-clause-unit c =
    let s = shared_of c.args.kept.now in
    unit-of s c.args.name.now c.args.moved (subst (IsStanderOf s c.args.name.now) c.in-Unit.is c.in-Ok.ensures).some c.requires.unfinished c.requires.moved

pub give_unit-requires-clause-body : goal.give_unit-requires-clause-body
give_unit-requires-clause-body c =
    let s = shared_of c.args.kept.now in
    body-there s c.requires.stands c.args.name.now c.args.moved (subst (IsStanderOf s c.args.name.now) c.in-Unit.is c.in-Ok.ensures).some c.requires.moved

pub returns-in-Unit : goal.returns-in-Unit
returns-in-Unit c =
    let s = shared_of c.args.kept.now in
    unit-gave-so s (shared_of c.give_unit.new.self) c.requires.stands c.args.name.now c.args.moved c.give_unit.result (subst (IsStanderOf s c.args.name.now) c.in-Unit.is c.in-Ok.ensures).level (subst (IsStanderOf s c.args.name.now) c.in-Unit.is c.in-Ok.ensures).some c.requires.moved c.give_unit.ensures

pub step_task-requires-clause-task : goal.step_task-requires-clause-task
step_task-requires-clause-task c =
    let s = shared_of c.args.kept.now in
    task-of s c.requires.stands (ap is_going c.requires.going) c.args.name.now c.in-Task.owner c.args.moved (subst (IsStanderOf s c.args.name.now) c.in-Task.is c.in-Ok.ensures) c.requires.moved c.requires.there
