use Rattle.std.proofs.Common.{◌≡◌, ◌∙◌, ◌++◌, ◌∷◌, [], ap, sym}
use Rattle.ahead_settling.proofs.Lefts.{left-so, level-claims, level-there, place-still}
use Rattle.ahead_settling.proofs.leaving.leave_turn.Goals as goal
use Rattle.shared_world.specs.declared.given.Given.TheVariants as given
use Rattle.world_steps.proofs.Settling.{unlent-after}
use Rattle.world_steps.specs.Kept.{shared_of}

pub returns-clause-leaves : goal.returns-clause-leaves
returns-clause-leaves c left there leads waits =
    let mid = shared_of c.level_unless.new.kept in
    let new = record mid { history = c.append.new.history.items; board = c.mark_left.new.units } in
    left-so (shared_of c.args.kept.now) mid new c.args.name.now left c.args.still c.args.leave.root c.args.leave.marks.entry (given.Settled c.args.leave.marks.told) there leads waits c.requires.root c.level_unless.ensures.level c.mark_left.ensures.marked
    c.mark_left.ensures.unlent (ap given.Settled c.requires.told) (ap (λ h. record mid { history = h; board = c.mark_left.new.units }) c.append.ensures)

pub mark_left-requires-clause-there : goal.mark_left-requires-clause-there
mark_left-requires-clause-there c = level-there c.args.still.leads c.args.name.now (shared_of c.args.kept.now) (shared_of c.level_unless.new.kept) c.level_unless.ensures.level c.requires.there

pub mark_left-requires-clause-place : goal.mark_left-requires-clause-place
mark_left-requires-clause-place c = place-still c.args.kept.now.units c.level_unless.new.kept.units c.args.leave.root c.level_unless.ensures.places c.requires.place

pub returns-clause-unlent : goal.returns-clause-unlent
returns-clause-unlent c =
    unlent-after c.args.name.now c.args.kept.now.units c.level_unless.new.kept.units c.mark_left.new.units (level-claims c.args.still.leads c.args.name.now (shared_of c.args.kept.now) (shared_of c.level_unless.new.kept) c.level_unless.ensures.level) c.mark_left.ensures.unlent
