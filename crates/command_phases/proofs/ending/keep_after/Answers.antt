use Rattle.std.proofs.Common.{refl}
use Rattle.command_phases.proofs.EndWrites.{KeepsAfter-kept, KeepsAfter-unwritten}
use Rattle.command_phases.proofs.ending.keep_after.Goals as goal

pub returns-in-Ok : goal.returns-in-Ok
returns-in-Ok g c =
    KeepsAfter-kept c.args.ran.now c.args.trace.now _ _ c.args.written c.keep.result (rw c.in-Ok.is refl)
    c.keep.ensures.holds c.keep.ensures.others c.keep.ensures.memory c.keep.ensures.faults c.keep.ensures.later c.keep.ensures.reads

pub returns-in-Err : goal.returns-in-Err
returns-in-Err g c = KeepsAfter-unwritten c.args.ran.now c.args.trace.now _ c.args.written (rw c.in-Err.is refl)
