use denote.Param.Send.{sendable}
use Rattle.std.proofs.Common.{◌∙◌, subst, sym}
use Rattle.interleave_core.proofs.Crossing.{world_send}
use Rattle.worker_rounds.proofs.Holding.{claims-later}
use Rattle.interleave_core.specs.Grown.{history_seen, setup_seen}
use Rattle.worker_rounds.proofs.holds.claim_in.Goals as goal
use Rattle.world_lock.specs.Later.{IsLater}

pub enter-turn-requires-send-T : goal.enter-turn-requires-send-T
enter-turn-requires-send-T g c κs within = search (world_send, sendable) depth 20

pub value-requires-send-T : goal.value-requires-send-T
value-requires-send-T g c κs = search (world_send, sendable) depth 20

pub leave-seat-requires-send-T : goal.leave-seat-requires-send-T
leave-seat-requires-send-T g c κs = search (world_send, sendable) depth 20

pub leave-seat-requires-clause-later : goal.leave-seat-requires-clause-later
leave-seat-requires-clause-later g c = λ _.
    subst (λ w. IsLater setup_seen history_seen w c.claim-found.new.self) (c.value.ensures.value ∙ sym c.enter-turn.ensures.entered)
    (claims-later c.value.result.now c.claim-found.new.self c.claim-found.result c.claim-found.ensures.claim c.claim-found.ensures.same)
