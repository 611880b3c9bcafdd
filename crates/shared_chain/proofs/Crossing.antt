-- Lists that share what they hold may be moved into a thread, and be seen from several, where what they hold may be both.
use denote.RattleType.{RattleType}
use denote.Param.Send.{IsSend, IsSync, sendable}
use denote.Param.SendFields.{variants_send, variants_sync}
use Rattle.std.proofs.Crossing.{crosses, Arc-send, Arc-sync}
use Rattle.std.specs.contracts.option.Option as option
use Rattle.std.specs.contracts.sync.Arc as arc
use Rattle.std.specs.contracts.alloc.Global as global
use Rattle.std.specs.contracts.impls.GlobalAllocator.TheImpl.{ghosts}
use Rattle.shared_chain.proofs.chain.Link.TheLaws.TheKnot as knot
use Rattle.shared_chain.specs.contracts.chain.Link as link

arc_send : (T : RattleType) → IsSend T → IsSync T → IsSend (arc.the_row T global.the_row ghosts)
arc_send T sends syncs = Arc-send T sends syncs

arc_sync : (T : RattleType) → IsSend T → IsSync T → IsSync (arc.the_row T global.the_row ghosts)
arc_sync T sends syncs = Arc-sync T sends syncs

-- what is below a link may cross where a link may
pub below_send : (T : RattleType) → IsSend T → IsSync T → IsSend (option.the_row (arc.the_row T global.the_row ghosts))
below_send T sends syncs = search (arc_send, sends, syncs, variants_send, crosses, sendable) depth 30

pub below_sync : (T : RattleType) → IsSend T → IsSync T → IsSync (option.the_row (arc.the_row T global.the_row ghosts))
below_sync T sends syncs = search (arc_sync, sends, syncs, variants_sync, crosses, sendable) depth 30

pub link_send : (T : RattleType) → IsSend T → IsSync T → IsSend (link.the_field T).row
link_send T sends syncs = knot.both_send-Link T sends syncs below_send below_sync

pub link_sync : (T : RattleType) → IsSend T → IsSync T → IsSync (link.the_field T).row
link_sync T sends syncs = knot.both_sync-Link T sends syncs below_send below_sync
