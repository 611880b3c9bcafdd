-- A machine may be moved into a thread.
use denote.Param.Send.{IsSend, IsSync, sendable}
use denote.Param.SendFields.{as_row_sync, declared_sync, variants_sync}
use Rattle.std.proofs.Crossing.{crosses}
use Rattle.serial_model.proofs.Crossing.{fields}
use Rattle.eval_frames.proofs.Crossing.{frame_send, frame_sync, registers_send}
use Rattle.answer_runs.proofs.Crossing.{answers_send}
use Rattle.captured_values.proofs.Crossing.{captured_send}
use Rattle.shared_chain.proofs.Crossing.{link_send, link_sync, below_send}
use Rattle.shared_chain.specs.contracts.chain.Chain as chain
use Rattle.shared_chain.specs.contracts.chunk.Chunk as chunk
use Rattle.shared_chain.specs.contracts.stack.SharedStack as shared_stack
use Rattle.eval_step.specs.contracts.context.Context as context
use Rattle.eval_step.specs.contracts.item.Item as item
use Rattle.eval_step.specs.contracts.machine.Machine as machine
use Rattle.eval_step.specs.contracts.parts.Parts as parts
use Rattle.eval_step.specs.contracts.stack.Stack as stack
use Rattle.eval_step.specs.contracts.walk.Walk as walk

item_send : IsSend item.the_row
item_send = search (frame_send, fields) depth 60 fits 20000

item_sync : IsSync item.the_row
item_sync = search (frame_sync, variants_sync, as_row_sync, crosses, sendable) depth 60 fits 20000

chunk_send : IsSend (chunk.the_row item.the_row)
chunk_send = search (item_send, fields) depth 60 fits 20000

chunk_sync : IsSync (chunk.the_row item.the_row)
chunk_sync = search (item_sync, as_row_sync, declared_sync, crosses, sendable) depth 60 fits 20000

chunks_send : IsSend (chain.the_row (chunk.the_row item.the_row))
chunks_send = search (chunk_send, chunk_sync, link_send, link_sync, below_send, fields) depth 60 fits 20000

items_send : IsSend (shared_stack.the_row item.the_row)
items_send = search (item_send, chunks_send, fields) depth 60 fits 20000

stack_send : IsSend stack.the_row
stack_send = search (items_send, fields) depth 60 fits 20000

context_send : IsSend context.the_row
context_send = search (frame_send, stack_send, fields) depth 60 fits 20000

walk_send : IsSend walk.the_row
walk_send = search (registers_send, context_send, fields) depth 60 fits 20000

parts_send : IsSend parts.the_row
parts_send = search (walk_send, captured_send, answers_send, fields) depth 60 fits 20000

pub machine_send : IsSend machine.the_row
machine_send = search (parts_send, fields) depth 60 fits 20000
