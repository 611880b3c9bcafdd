-- Frames and registers may be moved into a thread.
use denote.Param.Send.{IsSend, IsSync, sendable}
use denote.Param.SendFields.{as_row_sync, declared_sync}
use Rattle.std.proofs.Crossing.{crosses}
use Rattle.value_core.proofs.Crossing.{value_send, value_sync}
use Rattle.serial_model.proofs.Crossing.{fields, halt_send}
use Rattle.eval_frames.specs.contracts.frame.Frame as frame
use Rattle.eval_frames.specs.contracts.registers.Registers as registers
use Rattle.eval_frames.specs.contracts.registers.Stop as stop

pub frame_send : IsSend frame.the_row
frame_send = search (value_send, fields) depth 60 fits 20000

stop_send : IsSend stop.the_row
stop_send = search (halt_send, fields) depth 60 fits 20000

pub registers_send : IsSend registers.the_row
registers_send = search (value_send, frame_send, stop_send, fields) depth 60 fits 20000

pub frame_sync : IsSync frame.the_row
frame_sync = search (value_sync, as_row_sync, declared_sync, crosses, sendable) depth 60 fits 20000
