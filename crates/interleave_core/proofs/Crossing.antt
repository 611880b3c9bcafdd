-- The world may be moved into a thread.
use denote.Struct.Field.{usize-field}
use denote.Param.Send.{IsSend, IsSync, sendable}
use denote.Param.SendFields.{as_row_sync, declared_send, declared_sync, variants_sync}
use Rattle.std.proofs.Crossing.{crosses}
use Rattle.std.proofs.MapsCrossing as maps
use Rattle.actor_mailbox.specs.contracts.message.Message as message
use Rattle.actor_mails.proofs.Crossing.{mails_send, message_send}
use Rattle.core_syntax.proofs.program.Program.TheSendSync as program
use Rattle.eval_step.proofs.Crossing.{machine_send}
use Rattle.interleave_core.specs.contracts.world.World as world
use Rattle.piece_table.proofs.piece_table.PieceTable.TheSendSync as table
use Rattle.ref_store.specs.contracts.store.Store as store
use Rattle.ref_store.specs.contracts.version.Version as version
use Rattle.serial_model.proofs.Crossing.{answer_send, fields, request_send}
use Rattle.serial_model.proofs.history.History.TheSendSync as history
use Rattle.serial_model.proofs.limits.Limits.TheSendSync as limits
use Rattle.serial_model.specs.contracts.effect.Effect as effect
use Rattle.serial_model.specs.contracts.effect.What as what
use Rattle.serial_model.specs.contracts.end.End as end
use Rattle.serial_model.specs.contracts.entry.Entry as entry
use Rattle.shared_chain.proofs.Crossing.{link_send, link_sync, below_send}
use Rattle.shared_chain.specs.contracts.chain.Chain as chain
use Rattle.shared_map.proofs.Crossing.{node_send, node_sync, side_send, side_sync, value_map_send}
use Rattle.shared_map.specs.contracts.shared_map.SharedMap as shared_map
use Rattle.shared_map.specs.contracts.shared_names.SharedNames as shared_names
use Rattle.slot_set.proofs.slot_set.SlotSet.TheSendSync as slots
use Rattle.task_fork_join.specs.contracts.known.Known as known
use Rattle.task_fork_join.specs.contracts.task.Closing as closing
use Rattle.task_fork_join.specs.contracts.task.Stage as stage
use Rattle.task_fork_join.specs.contracts.task.Task as task
use Rattle.task_fork_join.specs.contracts.task_end.TaskEnd as task_end
use Rattle.task_fork_join.specs.contracts.tree.Tree as tree
use Rattle.task_log.specs.contracts.log.TaskLog as own_log
use Rattle.task_log.specs.contracts.shared_list.SharedList as shared_list
use Rattle.tentative_turn.specs.contracts.held.Held as held
use Rattle.tentative_turn.specs.contracts.held_effect.HeldEffect as held_effect
use Rattle.turns_ahead.specs.contracts.turn_ahead.TurnAhead as turn_ahead
use Rattle.txn_snapshot.specs.contracts.log.TaskLog as log
use Rattle.txn_snapshot.specs.contracts.reads.Reads as reads
use Rattle.txn_snapshot.specs.contracts.view.View as view
use Rattle.unit_table.specs.contracts.mark.Mark as mark
use Rattle.unit_table.specs.contracts.piece.Actor as actor
use Rattle.unit_table.specs.contracts.piece.Piece as piece
use Rattle.unit_table.specs.contracts.place.Place as place
use Rattle.unit_table.specs.contracts.places.Places as places
use Rattle.unit_table.specs.contracts.record.Record as record_row
use Rattle.unit_table.specs.contracts.unit.Becoming as becoming
use Rattle.unit_table.specs.contracts.unit.Unit as unit
use Rattle.unit_table.specs.contracts.units.Units as units
use Rattle.value_core.proofs.Crossing.{name_send, value_send, value_sync, values_send, values_sync}
use Rattle.value_core.proofs.name.Name.TheSendSync as name_crosses
use Rattle.value_core.specs.contracts.name.Name as name
use Rattle.value_core.specs.contracts.places.Places as places_of
use Rattle.value_core.specs.contracts.value.Value as value
use Rattle.wait_lists.proofs.wait_lists.WaitLists.TheSendSync as waits
use Rattle.world_steps.specs.contracts.kept.Kept as kept

mark_send : IsSend mark.the_row
mark_send = search (name_send, value_send, fields) depth 60 fits 20000

becoming_send : IsSend becoming.the_row
becoming_send = search (values_send, fields) depth 60 fits 20000

unit_send : IsSend unit.the_row
unit_send = search (name_send, becoming_send, machine_send, mark_send, fields) depth 60 fits 20000

actor_send : IsSend actor.the_row
actor_send = search (values_send, mark_send, fields) depth 60 fits 20000

piece_send : IsSend piece.the_row
piece_send = search (unit_send, mark_send, actor_send, fields) depth 60 fits 20000

record_send : IsSend record_row.the_row
record_send = search (piece_send, fields) depth 60 fits 20000

place_send : IsSend place.the_row
place_send = search (record_send, fields) depth 60 fits 20000

places_send : IsSend places.the_row
places_send = search (name_send, place_send, table.the_send, waits.the_send, maps.crosses, fields) depth 60 fits 20000

units_send : IsSend units.the_row
units_send = search (places_send, slots.the_send, fields) depth 60 fits 20000

version_send : IsSend version.the_row
version_send = search (value_send, fields) depth 60 fits 20000

store_send : IsSend store.the_row
store_send = search (name_send, version_send, maps.crosses, fields) depth 60 fits 20000

what_send : IsSend what.the_row
what_send = search (name_send, values_send, fields) depth 60 fits 20000

effect_send : IsSend effect.the_row
effect_send = search (name_send, what_send, fields) depth 60 fits 20000

what_sync : IsSync what.the_row
what_sync = search (name_crosses.the_sync, values_sync, variants_sync, as_row_sync, declared_sync, crosses, sendable) depth 60 fits 20000

effect_sync : IsSync effect.the_row
effect_sync = search (name_crosses.the_sync, what_sync, as_row_sync, declared_sync, crosses, sendable) depth 60 fits 20000

effect_chain_send : IsSend (chain.the_row effect.the_row)
effect_chain_send = search (effect_send, effect_sync, link_send, link_sync, below_send, fields) depth 60 fits 20000

effect_list_send : IsSend (shared_list.the_row effect.the_row)
effect_list_send = search (effect_chain_send, fields) depth 60 fits 20000

name_chain_send : IsSend (chain.the_row name.the_row)
name_chain_send = search (name_send, name_crosses.the_sync, link_send, link_sync, below_send, fields) depth 60 fits 20000

name_list_send : IsSend (shared_list.the_row name.the_row)
name_list_send = search (name_chain_send, fields) depth 60 fits 20000

names_send : IsSend shared_names.the_row
names_send = search (node_send, node_sync, side_send, fields) depth 60 fits 20000

value_map_sync : IsSync (shared_map.the_row value.the_row)
value_map_sync = search (value_send, value_sync, node_send, node_sync, side_sync, variants_sync, declared_sync, as_row_sync, crosses, sendable) depth 60 fits 20000

number_send : IsSend (usize-field).row
number_send = search (crosses, sendable) depth 30

number_sync : IsSync (usize-field).row
number_sync = search (crosses, sendable) depth 30

counts_send : IsSend (shared_map.the_row (usize-field).row)
counts_send = search (number_send, number_sync, node_send, node_sync, side_send, fields) depth 60 fits 20000

own_log_send : IsSend own_log.the_row
own_log_send = search (name_send, value_map_send, counts_send, name_list_send, names_send, effect_list_send, fields) depth 60 fits 20000

reads_send : IsSend reads.the_row
reads_send = search (name_send, fields) depth 60 fits 20000

layers_send : IsSend (chain.the_row (shared_map.the_row value.the_row))
layers_send = search (value_map_send, value_map_sync, link_send, link_sync, below_send, fields) depth 60 fits 20000

view_send : IsSend view.the_row
view_send = search (layers_send, fields) depth 60 fits 20000

log_send : IsSend log.the_row
log_send = search (name_send, own_log_send, view_send, names_send, fields) depth 60 fits 20000

known_send : IsSend known.the_row
known_send = search (names_send, fields) depth 60 fits 20000

task_end_send : IsSend task_end.the_row
task_end_send = search (value_send, fields) depth 60 fits 20000

closing_send : IsSend closing.the_row
closing_send = search (machine_send, value_send, fields) depth 60 fits 20000

stage_send : IsSend stage.the_row
stage_send = search (machine_send, closing_send, task_end_send, fields) depth 60 fits 20000

task_send : IsSend task.the_row
task_send = search (log_send, known_send, stage_send, fields) depth 60 fits 20000

tree_send : IsSend tree.the_row
tree_send = search (name_send, task_send, reads_send, task_end_send, maps.crosses, fields) depth 60 fits 20000

owners_send : IsSend (places_of.the_row name.the_row)
owners_send = search (name_send, maps.crosses, fields) depth 60 fits 20000

taken_send : IsSend (places_of.the_row message.the_row)
taken_send = search (name_send, message_send, maps.crosses, fields) depth 60 fits 20000

entry_send : IsSend entry.the_row
entry_send = search (name_send, fields) depth 60 fits 20000

held_effect_send : IsSend held_effect.the_row
held_effect_send = search (entry_send, request_send, answer_send, fields) depth 60 fits 20000

held_send : IsSend held.the_row
held_send = search (name_send, held_effect_send, fields) depth 60 fits 20000

turn_ahead_send : IsSend turn_ahead.the_row
turn_ahead_send = search (held_send, becoming_send, fields) depth 60 fits 20000

end_send : IsSend end.the_row
end_send = search (name_send, fields) depth 60 fits 20000

-- field by field, as they stand: one search of them all finds no end
kept_send : IsSend kept.the_row
kept_send = declared_send kept.the_type (
  search (program.the_send, program.the_sync, fields) depth 60 fits 20000,
  (
    search (limits.the_send, fields) depth 60 fits 20000,
    (
      search (history.the_send, fields) depth 60 fits 20000,
      (
        search (store_send, fields) depth 60 fits 20000,
        (
          search (units_send, fields) depth 60 fits 20000,
          (
            search (mails_send, fields) depth 60 fits 20000,
            (
              search (taken_send, fields) depth 60 fits 20000,
              (
                search (name_send, turn_ahead_send, maps.crosses, fields) depth 60 fits 20000,
                (
                  search (name_send, maps.crosses, fields) depth 60 fits 20000,
                  (
                    search (name_send, tree_send, maps.crosses, fields) depth 60 fits 20000,
                    (
                      search (owners_send, fields) depth 60 fits 20000,
                      (
                        search fields depth 60 fits 20000,
                        (
                          search fields depth 60 fits 20000,
                          (search (end_send, fields) depth 60 fits 20000, tt),
                        ),
                      ),
                    ),
                  ),
                ),
              ),
            ),
          ),
        ),
      ),
    ),
  ),
)

pub world_send : IsSend world.the_row
world_send = search (kept_send, end_send, fields) depth 60 fits 20000
