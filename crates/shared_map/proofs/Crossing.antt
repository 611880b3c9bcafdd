-- Maps that share what they hold may be moved into a thread, and be seen from several, where what they hold may be both.
use denote.RattleType.{RattleType}
use denote.Struct.Field.{u32-field}
use denote.Param.Send.{IsSend, IsSync, sendable}
use denote.Param.SendFields.{as_row_send, as_row_sync, declared_send, declared_sync, variants_send, variants_sync}
use Rattle.std.proofs.Crossing.{crosses, Arc-send, Arc-sync}
use Rattle.std.specs.contracts.option.Option as option
use Rattle.std.specs.contracts.sync.Arc as arc
use Rattle.std.specs.contracts.alloc.Global as global
use Rattle.std.specs.contracts.impls.GlobalAllocator.TheImpl.{ghosts}
use Rattle.shared_map.proofs.node.Node.TheLaws.TheKnot as knot
use Rattle.shared_map.specs.contracts.node.Entry as entry
use Rattle.shared_map.specs.contracts.node.Node as node
use Rattle.shared_map.specs.contracts.shared_map.SharedMap as shared_map
use Rattle.value_core.proofs.Crossing.{name_send, value_send, value_sync}
use Rattle.value_core.proofs.name.Name.TheSendSync as name
use Rattle.value_core.specs.contracts.value.Value as value

arc_send : (T : RattleType) → IsSend T → IsSync T → IsSend (arc.the_row T global.the_row ghosts)
arc_send T sends syncs = Arc-send T sends syncs

arc_sync : (T : RattleType) → IsSend T → IsSync T → IsSync (arc.the_row T global.the_row ghosts)
arc_sync T sends syncs = Arc-sync T sends syncs

-- what is on a side may cross where a node may
pub side_send : (T : RattleType) → IsSend T → IsSync T → IsSend (option.the_row (arc.the_row T global.the_row ghosts))
side_send T sends syncs = search (arc_send, sends, syncs, variants_send, crosses, sendable) depth 30

pub side_sync : (T : RattleType) → IsSend T → IsSync T → IsSync (option.the_row (arc.the_row T global.the_row ghosts))
side_sync T sends syncs = search (arc_sync, sends, syncs, variants_sync, crosses, sendable) depth 30

entry_send : (T : RattleType) → IsSend T → IsSend (entry.the_row T)
entry_send T sends = search (name_send, sends, declared_send, as_row_send, crosses, sendable) depth 60 fits 20000

entry_sync : (T : RattleType) → IsSync T → IsSync (entry.the_row T)
entry_sync T syncs = search (name.the_sync, syncs, declared_sync, as_row_sync, crosses, sendable) depth 60 fits 20000

entry_send-in : (T : RattleType) → IsSend T → IsSync T → IsSend (arc.the_row (entry.the_row T) global.the_row ghosts)
entry_send-in T sends syncs = arc_send (entry.the_row T) (entry_send T sends) (entry_sync T syncs)

entry_sync-in : (T : RattleType) → IsSend T → IsSync T → IsSync (arc.the_row (entry.the_row T) global.the_row ghosts)
entry_sync-in T sends syncs = arc_sync (entry.the_row T) (entry_send T sends) (entry_sync T syncs)

height_send : IsSend (u32-field).row
height_send = search (crosses, sendable) depth 30

height_sync : IsSync (u32-field).row
height_sync = search (crosses, sendable) depth 30

pub node_send : (T : RattleType) → IsSend T → IsSync T → IsSend (node.the_field T).row
node_send T sends syncs = knot.both_send-Node T side_send side_sync (entry_send-in T sends syncs) (entry_sync-in T sends syncs) height_send height_sync

pub node_sync : (T : RattleType) → IsSend T → IsSync T → IsSync (node.the_field T).row
node_sync T sends syncs = knot.both_sync-Node T side_send side_sync (entry_send-in T sends syncs) (entry_sync-in T sends syncs) height_send height_sync

-- a map of values
pub value_map_send : IsSend (shared_map.the_row value.the_row)
value_map_send = search (value_send, value_sync, node_send, node_sync, side_send, variants_send, declared_send, as_row_send, crosses, sendable) depth 60 fits 20000
