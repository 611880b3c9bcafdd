use Rattle.std.proofs.Common.{inr, refl, subst}
use Rattle.attempt_undoing.proofs.SendsGone.{mark-kept, mark-other, mark-put}
use Rattle.attempt_undoing.proofs.sends.mark_actor.Goals as goal
use Rattle.attempt_undoing.specs.Sends.{IsNewMark}
use Rattle.unit_table.specs.Board.{piece_at}
use Rattle.world_steps.specs.Kept.{shared_of}

pub returns-in-Some-clause-marked : goal.returns-in-Some-clause-marked
returns-in-Some-clause-marked c = mark-put (shared_of c.args.kept.now) c.args.name.now c.in-Some.mark c.mark.new.self (piece_at c.args.kept.now.units c.args.name.now) refl
    (subst (IsNewMark (shared_of c.args.kept.now) c.args.name.now (piece_at c.args.kept.now.units c.args.name.now)) c.in-Some.is c.new_mark.ensures) c.mark.ensures.marked

pub returns-in-Some-clause-claims : goal.returns-in-Some-clause-claims
returns-in-Some-clause-claims c = inr (
  c.mark.ensures.claims,
  mark-other (shared_of c.args.kept.now) c.args.name.now c.in-Some.mark c.mark.new.self (piece_at c.args.kept.now.units c.args.name.now) refl
      (subst (IsNewMark (shared_of c.args.kept.now) c.args.name.now (piece_at c.args.kept.now.units c.args.name.now)) c.in-Some.is c.new_mark.ensures) c.mark.ensures.marked,
)

pub returns-in_default-clause-marked : goal.returns-in_default-clause-marked
returns-in_default-clause-marked c = mark-kept (shared_of c.args.kept.now) c.args.name.now (piece_at c.args.kept.now.units c.args.name.now) refl
    (subst (IsNewMark (shared_of c.args.kept.now) c.args.name.now (piece_at c.args.kept.now.units c.args.name.now)) c.in_default.is c.new_mark.ensures)
