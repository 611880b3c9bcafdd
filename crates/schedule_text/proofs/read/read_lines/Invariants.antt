use Rattle.std.proofs.Common.{◌≤◌, ◌≡◌, ◌+◌, length}
use Rattle.schedule_text.proofs.Passing.{Passed}
use Rattle.schedule_text.proofs.read.read_lines.Given as goal

-- the lines so far are read
abbrev pub invariant-loop-text : goal.invariant-loop-text
invariant-loop-text l = record {
  passed : Passed l.bytes l.lines l.rest;
  numbered : l.number ≡ 1 + length l.lines;
  within : length l.lines + length l.rest ≤ length l.bytes;
}

abbrev pub decreases-loop-text : goal.decreases-loop-text
decreases-loop-text l = length l.rest
