use Rattle.std.proofs.Common.{◌≡◌, ◌∙◌, ap, subst, sym}
use Rattle.actor_mails.specs.Mails.{held}
use Rattle.shared_world.specs.rows.Resetting.{Resets}
use Rattle.shared_world.specs.Shared.{Shared}
use Rattle.turns_ahead.specs.Leading.{ahead_of}
use Rattle.value_core.specs.Named.{each_as}
use Rattle.world_reset.proofs.resetting.reset.Goals as goal
use Rattle.world_reset.proofs.Whole.{are-settled, planned-on, whole}
use Rattle.world_reset.specs.Plan.{ArePlanned}
use Rattle.world_steps.specs.Kept.{shared_of}

pub put_all-requires-clause-planned : goal.put_all-requires-clause-planned
put_all-requires-clause-planned c =
    let mid = c.plan_all.new.kept in
    let mails = c.drop_unsettled.new.self in
    planned-on (shared_of mid) (held mails) c.drop_unsettled.ensures.mail mid.mails mails c.in_ok-plan.plan.entries c.drop_unsettled.ensures.room
    (subst (λ s. ArePlanned s mid.mails c.in_ok-plan.plan.entries) (sym c.in_ok-plan.ensures.same) c.in_ok-plan.ensures.planned)

pub put_all-requires-clause-settled : goal.put_all-requires-clause-settled
put_all-requires-clause-settled c = are-settled (shared_of c.plan_all.new.kept) (held c.drop_unsettled.new.self) c.drop_unsettled.ensures.mail

pub returns-clause-resets : goal.returns-clause-resets
returns-clause-resets c =
    let mid = c.plan_all.new.kept in
    let put = c.put_all.new.kept in
    let new = c.forget.new.kept in
    subst (λ s. Resets s (shared_of new)) c.in_ok-plan.ensures.same
    (whole (shared_of mid) (held c.drop_unsettled.new.self) c.drop_unsettled.ensures.mail (shared_of put) (shared_of new) c.put_all.ensures.pieces c.put_all.ensures.mails (ap shared_of c.put_all.ensures.others) c.forget.ensures.taken
    (ap (each_as ahead_of) c.forget.ensures.aheads) c.forget.ensures.attempts c.forget.ensures.versions (ap shared_of c.forget.ensures.others))
