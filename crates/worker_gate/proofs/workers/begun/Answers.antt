use denote.Param.Send.{sendable}
use Rattle.interleave_core.proofs.Crossing.{world_send}
use Rattle.worker_gate.proofs.workers.begun.Goals as goal

pub split-kept-requires-send-T : goal.split-kept-requires-send-T
split-kept-requires-send-T g c κs = search (world_send, sendable) depth 20
