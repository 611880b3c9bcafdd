use Rattle.std.proofs.Common.{◌≡◌, ◌*◌, [], drop, fold}
use Rattle.std.specs.List.{list_all}
use Rattle.value_core.specs.primitives.Parts.{paired, is_key, put_entry}
use Rattle.eval_frames.proofs.operation.mapped.Given as goal

abbrev pub invariant-loop-index : goal.invariant-loop-index
invariant-loop-index l = record {
  keys : list_all (λ e. is_key e.0) (paired (drop (2 * l.index) l.entries)) ≡ list_all (λ e. is_key e.0) (paired l.entries);
  left : fold put_entry l.pairs (paired (drop (2 * l.index) l.entries)) ≡ fold put_entry [] (paired l.entries);
}
