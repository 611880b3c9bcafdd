use denote.Param.Send.{sendable}
use Rattle.std.proofs.Common.{◌∙◌, subst, sym}
use mathlib.Core.List.{IsPrefix}
use Rattle.interleave_core.proofs.Crossing.{world_send}
use Rattle.shared_world.specs.Shared.{Shared}
use Rattle.interleave_core.specs.Grown.{history_seen, setup_seen}
use Rattle.worker_rounds.proofs.holds.give_in.Goals as goal
use Rattle.world_lock.proofs.Begun.{prefix_trans}
use Rattle.world_lock.specs.Later.{IsLater}

pub enter-turn-requires-send-T : goal.enter-turn-requires-send-T
enter-turn-requires-send-T g c κs within = search (world_send, sendable) depth 20

pub value-requires-send-T : goal.value-requires-send-T
value-requires-send-T g c κs = search (world_send, sendable) depth 20

pub leave-seat-requires-send-T : goal.leave-seat-requires-send-T
leave-seat-requires-send-T g c κs = search (world_send, sendable) depth 20

pub leave-seat-requires-clause-later : goal.leave-seat-requires-clause-later
leave-seat-requires-clause-later g c = λ _.
    subst (λ w. IsLater setup_seen history_seen w c.give_and_claim-returned.new.world) (c.value.ensures.value ∙ sym c.enter-turn.ensures.entered) c.give_and_claim-returned.ensures.later

pub returns-clause-seen : goal.returns-clause-seen
returns-clause-seen g c =
    let first : IsPrefix c.args.seat.seen c.value.result.now.history = subst (λ (s : Shared). IsPrefix c.args.seat.seen s.history) (sym c.value.ensures.value) c.enter-turn.ensures.seen in
    subst (IsPrefix c.args.seat.seen) (sym c.leave-seat.ensures.seen) (prefix_trans c.args.seat.seen c.value.result.now.history c.give_and_claim-returned.new.world.history first c.give_and_claim-returned.ensures.later.grown)
