use Rattle.std.proofs.Common.{◌∙◌, ◌∷◌, [], ap, refl}
use Rattle.attempt_undoing.proofs.Lists.{and-both}
use Rattle.attempt_undoing.proofs.Steps.{one-fewer, turn-units}
use Rattle.attempt_undoing.proofs.undoing.drop_hanging.Goals as goal
use Rattle.attempt_undoing.specs.Turns.{hangs_by}
use Rattle.attempt_undoing.specs.Turns as turns
use Rattle.std.specs.Prelude.{is_some}
use Rattle.turns_ahead.specs.Leading.{ahead_of}
use Rattle.unit_table.specs.Board.{unit_at}
use Rattle.value_core.specs.Named.{each_as}
use Rattle.value_core.specs.Placed.{filled}
use Rattle.world_steps.specs.declared.kept.Kept.{Kept}
use Rattle.world_steps.specs.Kept.{shared_of}

pub loop-name-init : goal.loop-name-init
loop-name-init c = record { going = ([], turns.none refl refl); marks = c.requires.marks; others = refl }

pub loop-name-preserved : goal.loop-name-preserved
loop-name-preserved c =
    let found = c.in-Some.ensures.some in
    record {
      going = (c.in-Some.name.now ∷ c.loop-name.invariant.going.0, turns.next c.in-Some.name.now (ahead_of c.in-Some.turn.now) c.loop-name.invariant.going.0 (shared_of c.loop-name.kept) refl c.loop-name.invariant.going.1 found c.drop_turn.ensures.gone);
      marks = c.drop_turn.ensures.marks;
      others = c.drop_turn.ensures.others ∙ ap (λ (k : Kept). record k { units = c.drop_turn.new.kept.units; attempts = c.drop_turn.new.kept.attempts; mails = c.drop_turn.new.kept.mails; taken = c.drop_turn.new.kept.taken }) c.loop-name.invariant.others;
    }

-- its unit was there, and is there no more
pub loop-name-smaller : goal.loop-name-smaller
loop-name-smaller c =
    let found = c.in-Some.ensures.some in
    let h = ahead_of c.in-Some.turn.now in
    let goes = turn-units c.in-Some.name.now h (shared_of c.loop-name.kept) (shared_of c.drop_turn.new.kept) c.drop_turn.ensures.gone in
    one-fewer c.loop-name.kept.units c.drop_turn.new.kept.units goes.0 c.in-Some.name.now (and-both (hangs_by (filled c.loop-name.kept.taken) h.takes) (is_some (unit_at c.loop-name.kept.units c.in-Some.name.now)) found.1).1 goes.1 h (each_as ahead_of c.args.aheads.now.entries) found.0

pub returns-clause-gone : goal.returns-clause-gone
returns-clause-gone c = record { turns = c.loop-name.invariant.going.0; going = c.loop-name.invariant.going.1; none = c.in_default.ensures.none refl }
