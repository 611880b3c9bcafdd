-- Captured values may be moved into a thread.
use denote.Param.Send.{IsSend, IsSync, sendable}
use denote.Param.SendFields.{as_row_sync, declared_sync}
use Rattle.std.proofs.Crossing.{crosses}
use Rattle.value_core.proofs.Crossing.{value_send, value_sync, values_send}
use Rattle.serial_model.proofs.Crossing.{fields}
use Rattle.answer_runs.proofs.Crossing.{answers_send, answers_sync}
use Rattle.captured_values.specs.contracts.captured.Captured as captured
use Rattle.captured_values.specs.contracts.entry.Entry as entry

entry_send : IsSend entry.the_row
entry_send = search (value_send, answers_send, fields) depth 60 fits 20000

entry_sync : IsSync entry.the_row
entry_sync = search (value_sync, answers_sync, as_row_sync, declared_sync, crosses, sendable) depth 60 fits 20000

pub captured_send : IsSend captured.the_row
captured_send = search (values_send, entry_send, entry_sync, fields) depth 60 fits 20000
