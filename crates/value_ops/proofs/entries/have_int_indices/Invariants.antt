use Rattle.std.proofs.Common.{◌≡◌, ◌*◌, drop}
use Rattle.std.specs.List.{list_all}
use Rattle.value_core.specs.primitives.Kinds.{is_int}
use Rattle.value_core.specs.primitives.Parts.{paired}
use Rattle.value_ops.proofs.entries.have_int_indices.Given as goal

abbrev pub invariant-loop-index : goal.invariant-loop-index
invariant-loop-index l = list_all (λ e. is_int e.0) (paired (drop (2 * l.index) l.entries)) ≡ list_all (λ e. is_int e.0) (paired l.entries)
