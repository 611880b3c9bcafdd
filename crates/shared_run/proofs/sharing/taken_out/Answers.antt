use denote.Param.Send.{sendable}
use Rattle.interleave_core.proofs.Crossing.{world_send}
use Rattle.shared_run.proofs.sharing.taken_out.Goals as goal

pub close-requires-send-T : goal.close-requires-send-T
close-requires-send-T c κs = search (world_send, sendable) depth 20
