use Rattle.std.proofs.Common.{◌≡◌}
use Rattle.std.specs.Prelude.{◌||◌}
use Rattle.std.specs.BTreeMap.{is_at}
use Rattle.std.specs.List.{list_any}
use Rattle.value_core.specs.Name.{after_cmp}
use Rattle.value_core.specs.Named.{Name}
use Rattle.value_core.specs.NameSet.{has_name}
use Rattle.value_core.proofs.name_set.add_all.Given as goal

abbrev pub invariant-loop-name : goal.invariant-loop-name
invariant-loop-name l = (name : Name) → (has_name l.names name || list_any (is_at (after_cmp name)) l.name-iterator) ≡ (has_name l.fn.names name || has_name l.more name)
