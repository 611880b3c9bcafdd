use Rattle.std.proofs.Common.{◌∙◌, ap, subst}
use Rattle.std.specs.Prelude.{Some}
use Rattle.shared_world.specs.Shared.{Shared}
use Rattle.world_reset.proofs.plan.plan_all.Goals as goal
use Rattle.world_reset.proofs.Planned.{also-planned}
use Rattle.world_reset.specs.Plan.{IsNextOr, IsPlannedAlso}
use Rattle.world_steps.specs.declared.kept.Kept.{Kept}
use Rattle.world_steps.specs.Kept.{shared_of}

pub loop-preserved : goal.loop-preserved
loop-preserved c =
    let s = shared_of c.args.kept.now in
    let here = c.loop.kept in
    let new = c.plan_piece.new.kept in
    record {
      same = c.plan_piece.ensures.same ∙ c.loop.invariant.same;
      others = c.plan_piece.ensures.others ∙ ap (λ (k : Kept). record k { mails = new.mails }) c.loop.invariant.others;
      planned = also-planned s here.mails new.mails c.loop.passed c.in-Some.name c.loop.plan.entries c.plan_piece.new.plan.entries
          (subst (λ b. IsNextOr b c.loop.passed (Some c.in-Some.name)) (ap (λ (k : Shared). k.board) c.loop.invariant.same) (subst (IsNextOr here.units c.loop.passed) c.in-Some.is c.in_ok-name.ensures)) c.plan_piece.ensures.room
          (subst (λ k. IsPlannedAlso k new.mails c.in-Some.name c.loop.plan.entries c.plan_piece.new.plan.entries) c.loop.invariant.same c.in_ok-plan_piece-in-Some.ensures.planned) c.loop.invariant.planned;
    }
