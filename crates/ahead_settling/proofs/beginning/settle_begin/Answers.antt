use Rattle.std.proofs.Common.{◌≡◌, ◌∙◌, ◌==◌, ap, false, rules, subst, sym, true}
use Rattle.ahead_settling.proofs.Begun.{begin-full, begin-room, same-number}
use Rattle.ahead_settling.proofs.beginning.settle_begin.Goals as goal
use Rattle.shared_world.specs.Shared.{Shared}
use Rattle.world_steps.specs.Kept.{shared_of}

pub returns-then-kept-units : goal.returns-then-kept-units
returns-then-kept-units c =
    let same = c.in_ok-leave.ensures.same in
    let full = sym (ap (λ (s : Shared). s.made) same) ∙ c.if-kept-units.true ∙ c.units.ensures.value ∙ ap (λ (s : Shared). s.setup.limits.units) same in
    begin-full (shared_of c.args.kept.now) (shared_of c.leave_by.new.kept) (shared_of c.end_with.new.self) c.args.name.now c.args.actor.now c.in_ok-entry.entry c.in_ok-leave.leave.marks.entry c.in_ok-busy.busy c.end_with.result same c.requires.marks c.in_ok-entry.ensures c.in_ok-busy.ensures
    c.in_ok-leave.ensures.leave.entry_is (same-number _ _ full) c.end_with.ensures

pub returns : goal.returns
returns c = begin-room (shared_of c.args.kept.now) (shared_of c.leave_by.new.kept) (shared_of c.begin_turn.new.kept) c.args.name.now c.args.actor.now c.begin_turn.result c.in_ok-leave.ensures.same (search rules) c.begin_turn.ensures
