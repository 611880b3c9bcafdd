use denote.Exit.{no}
use denote.Param.{param}
use denote.Param.Send.{IsSync, param_send, arg_send, sendable}
use Rattle.std.proofs.Crossing.{crosses}
use Rattle.interleave_core.proofs.Crossing.{world_send}
use Rattle.worker_gate.proofs.Crossing.{errand_send}
use Rattle.worker_gate.proofs.spreading.+fn-spread-join+arg3+spread.Goals as goal
use Rattle.world_lock.proofs.lock.WorldLock.TheSendSync as lock
use Rattle.world_lock.proofs.seat.Seat.TheSendSync as seat

pub split-mine-requires-send-T : goal.split-mine-requires-send-T
split-mine-requires-send-T g t c κs = search (world_send, sendable) depth 20

pub join-there-requires-send-F : goal.join-there-requires-send-F
join-there-requires-send-F g t c κs within =
    let r : IsSync (param 0 g.row.R) = search sendable in
    let h : IsSync (param 1 g.row.G) = search sendable in
    param_send 1 _ (arg_send _ no _ (errand_send _ _ _ _ _ _ _ g.row.R g.row.G r h))

pub join-there-requires-send-A : goal.join-there-requires-send-A
join-there-requires-send-A g t c κs within = search (world_send, seat.the_send, lock.the_sync, crosses, sendable) depth 60 fits 20000

pub join-requires-send-T : goal.join-requires-send-T
join-requires-send-T g t c κs = search (world_send, sendable) depth 20
