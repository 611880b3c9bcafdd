-- The entries before the index are replayed, of the same program and limits.
use Rattle.std.proofs.Common.{◌≡◌, take}
use Rattle.serial_commands.proofs.replay.replay.Given as goal

abbrev pub invariant-loop-entry : goal.invariant-loop-entry
invariant-loop-entry l = record {
  setup : l.serial.setup ≡ l.fn.serial.setup;
  so_far : l.serial.history ≡ take l.entry-index l.trace.history.items;
}
