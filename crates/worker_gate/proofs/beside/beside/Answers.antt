use denote.Exit.{no}
use denote.Param.Send.{param_send, arg_send, sendable}
use Rattle.interleave_core.proofs.Crossing.{world_send}
use Rattle.worker_gate.proofs.beside.beside.Goals as goal
use Rattle.worker_gate.proofs.Crossing.{first_errand_send, seat_send}

pub join_mut-here-requires-send-F : goal.join_mut-here-requires-send-F
join_mut-here-requires-send-F g c κs within =
    param_send 1 _ (arg_send _ no _ (first_errand_send _ _ _ _ _ _ _ _ g.row.R g.row.G g.row.B c.type_bounds.sync-R c.type_bounds.sync-G c.type_bounds.send-B))

pub join_mut-here-requires-send-A : goal.join_mut-here-requires-send-A
join_mut-here-requires-send-A g c κs within = search (seat_send, sendable) depth 20

pub join-requires-send-T : goal.join-requires-send-T
join-requires-send-T g c κs = search (world_send, sendable) depth 20
