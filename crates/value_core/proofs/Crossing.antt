-- Values may be moved into a thread, and seen from several.
use denote.Param.Send.{IsSend, IsSync, sendable}
use Rattle.std.proofs.Crossing.{crosses}
use Rattle.value_core.proofs.value.Value.TheLaws.TheKnot as knot
use Rattle.value_core.proofs.name.Name.TheSendSync.{the_send}
use Rattle.value_core.proofs.text.Text.TheSendSync.{the_send as text_send, the_sync as text_sync}
use Rattle.value_core.specs.contracts.name.Name as name
use Rattle.shared_vector.proofs.Crossing.{vector_send, vector_sync}
use Rattle.shared_vector.specs.contracts.shared_vector.SharedVector as vector
use Rattle.value_core.specs.contracts.value.Value as value

pub value_send : IsSend value.the_row
value_send = search (text_send, text_sync, vector_send, vector_sync, crosses, knot.crosses_both, sendable) depth 60 fits 20000

pub value_sync : IsSync value.the_row
value_sync = search (text_send, text_sync, vector_send, vector_sync, crosses, knot.crosses_both, sendable) depth 60 fits 20000

pub values_send : IsSend (vector.the_row value.the_row)
values_send = vector_send value.the_row value_send value_sync

pub values_sync : IsSync (vector.the_row value.the_row)
values_sync = vector_sync value.the_row value_send value_sync

pub name_send : IsSend name.the_row
name_send = the_send
