use denote.Param.Send.{sendable}
use Rattle.interleave_core.proofs.Crossing.{world_send}
use Rattle.worker_tests.proofs.sharing.shared.Goals as goal

pub new-requires-send-T : goal.new-requires-send-T
new-requires-send-T g c κs = search (world_send, sendable) depth 20
