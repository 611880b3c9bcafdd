use Rattle.std.proofs.Common.{◌∷◌, [], ap, refl, subst, sym}
use Rattle.actor_mails.specs.Mails.{held}
use Rattle.attempt_undoing.proofs.SendsGone.{sent-gone}
use Rattle.attempt_undoing.proofs.sends.drop_sent.Goals as goal
use Rattle.attempt_undoing.specs.Hanging.{sent_on}
use Rattle.attempt_undoing.specs.Sends.{SendsGone}
use Rattle.shared_world.specs.Shared.{Shared}
use Rattle.value_core.specs.Placed.{filled}
use Rattle.world_steps.specs.Kept.{shared_of}

pub returns-clause-gone : goal.returns-clause-gone
returns-clause-gone c =
    let mid : Shared = record (shared_of c.args.kept.now) { mails = held c.drop_of.new.self; taken = filled c.drop_taken.new.taken } in
    subst (SendsGone (sent_on c.args.on.now c.args.to.now ∷ []) (shared_of c.args.kept.now)) (sym (ap shared_of c.mark_actor.ensures.others))
    (sent-gone (sent_on c.args.on.now c.args.to.now) (shared_of c.args.kept.now) (record mid { board = c.mark_actor.new.kept.units }) c.requires.marks c.lent_are_ready.ensures c.drop_of.ensures.mail c.drop_taken.ensures
    mid refl refl c.mark_actor.ensures.marked c.mark_actor.ensures.claims)
