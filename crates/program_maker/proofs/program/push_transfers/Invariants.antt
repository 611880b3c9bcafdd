use Rattle.std.proofs.Common.{◌≡◌, ◌++◌, ◌*◌, map, flat_map}
use Rattle.std.specs.List.{range_with_len}
use Rattle.program_maker.specs.Draws.{state_after}
use Rattle.program_maker.specs.MadeText.{line_of, transfer, transfer_line}
use Rattle.program_maker.proofs.program.push_transfers.Given as goal

-- the transfers before the index are written, each by four draws
abbrev pub invariant-loop-index : goal.invariant-loop-index
invariant-loop-index l = record {
  written : l.text ≡ l.fn.text ++ flat_map line_of (map (λ index. transfer_line (transfer l.number index)) (range_with_len 0 l._index));
  drawn : l.draws ≡ state_after l.number (4 * l._index);
}
