use Rattle.std.proofs.Common.{◌≡◌, fold}
use Rattle.std.specs.Prelude.{◌||◌}
use Rattle.std.specs.Vec.Iter.{into_iter_items}
use Rattle.shared_map.specs.Names.{with_member}
use Rattle.shared_map.proofs.shared_names.SharedNames.add_all.Given as goal

abbrev pub invariant-loop-name : goal.invariant-loop-name
invariant-loop-name l = fold with_member l.both (into_iter_items l.name-iterator) ≡ fold with_member l.fn.self l.more
