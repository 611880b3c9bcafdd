use Rattle.std.proofs.Common.{◌≡◌, ◌∙◌, ◌==◌, false, true, sym, ap, subst, rules, ◌++◌, ◌∷◌, []}
use Rattle.shared_world.specs.Shared.{Shared}
use Rattle.actor_turns.proofs.Turned.{begun-turn, spent-turn}
use Rattle.world_steps.specs.Kept.{shared_of}
use Rattle.actor_turns.specs.Turning.{IsDue, IsTurning}
use Rattle.actor_turns.proofs.turns.take_settled.Goals as goal

pub returns-then-kept-units : goal.returns-then-kept-units
returns-then-kept-units c =
    let old = shared_of c.args.kept.now in
    let mid_is = c.in_ok-make_room.ensures.same in
    let due = c.requires.due in
    spent-turn old (shared_of c.make_room.new.self) (shared_of c.end_with.new.self) c.args.name.now c.in_ok-marks.marks.entry c.end_with.result mid_is due (c.in_ok-marks.ensures.entry due)
    (search rules) c.end_with.ensures

pub returns : goal.returns
returns c =
    let old = shared_of c.args.kept.now in
    let mid_is = c.in_ok-make_room.ensures.same in
    let due = c.requires.due in
    let due_mid = subst (λ (s : Shared). IsDue s c.args.name.now) (sym mid_is) due in
    begun-turn old (shared_of c.make_room.new.self) (shared_of c.prepare_turn.new.kept) (shared_of c.begin_turn.new.kept) c.args.name.now c.in_ok-marks.marks.entry c.in_ok-turning.turning c.begin_turn.result mid_is c.in_ok-turning.ensures.same
    c.in_ok-marks.ensures.entry c.in_ok-turning.ensures.turning due c.in_ok-turning.ensures.none (search rules) c.begin_turn.ensures
