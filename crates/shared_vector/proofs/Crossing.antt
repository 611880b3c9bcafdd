-- Vectors may be moved into a thread, and be seen from several, where what they hold may be both.
use denote.RattleType.{RattleType}
use denote.Param.Send.{IsSend, IsSync, sendable}
use Rattle.std.proofs.Crossing.{crosses}
use Rattle.shared_vector.proofs.shared_vector.SharedVector.TheSendSync.{the_send, the_sync}
use Rattle.shared_vector.specs.contracts.shared_vector.SharedVector as vector

pub vector_send : (T : RattleType) → IsSend T → IsSync T → IsSend (vector.the_row T)
vector_send T sends syncs = search (the_send, sends, syncs, crosses, sendable)

pub vector_sync : (T : RattleType) → IsSend T → IsSync T → IsSync (vector.the_row T)
vector_sync T sends syncs = search (the_sync, sends, syncs, crosses, sendable)
