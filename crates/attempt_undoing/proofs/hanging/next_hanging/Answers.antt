use Rattle.std.proofs.Common.{◌∙◌, subst, sym}
use Rattle.attempt_undoing.proofs.hanging.next_hanging.Goals as goal
use Rattle.attempt_undoing.proofs.Walk.{IsWalked, walk-done, walk-first, walk-next, walk-there}
use Rattle.value_core.proofs.NameMaps.{rises_of}
use Rattle.value_core.specs.Placed.{filled}

pub loop-name-init : goal.loop-name-init
loop-name-init c =
    let taken = filled c.args.taken.now in
    let all = c.args.aheads.now.entries in
    subst (IsWalked taken c.args.units.now all) (sym (c.into_iter-name-iterator.ensures.into_iter_gives ∙ c.iter-name-items.ensures.rest)) (walk-first taken c.args.units.now all (rises_of all c.iter-name-items.ensures.ordered))

pub loop-name-preserved : goal.loop-name-preserved
loop-name-preserved c =
    let taken = filled c.args.taken.now in
    let all = c.args.aheads.now.entries in
    walk-next taken c.args.units.now all c.next.new.self (c.in-Some-2.name.now, c.in-Some-2.turn.now) (subst (IsWalked taken c.args.units.now all) c.in-Some-2.ensures.steps c.loop-name.invariant) (sym c.still_hangs.ensures ∙ c.if-still_hangs.false)

pub returns-then-still_hangs-clause-some : goal.returns-then-still_hangs-clause-some
returns-then-still_hangs-clause-some c =
    let taken = filled c.args.taken.now in
    let all = c.args.aheads.now.entries in (
      walk-there taken c.args.units.now all c.next.new.self (c.in-Some-2.name.now, c.in-Some-2.turn.now) (subst (IsWalked taken c.args.units.now all) c.in-Some-2.ensures.steps c.loop-name.invariant),
      sym c.still_hangs.ensures ∙ c.if-still_hangs.true,
    )

pub returns-clause-none : goal.returns-clause-none
returns-clause-none c =
    let taken = filled c.args.taken.now in
    let all = c.args.aheads.now.entries in
    λ _. walk-done taken c.args.units.now all (subst (IsWalked taken c.args.units.now all) c.in-None.ensures.steps.0 c.loop-name.invariant)
