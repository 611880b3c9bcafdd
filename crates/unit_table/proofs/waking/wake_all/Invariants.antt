use Rattle.std.proofs.Common.{◌≡◌, Some}
use Rattle.unit_table.specs.Board.{HasPlace, SameClaims}
use Rattle.unit_table.specs.Keeping.{IsKept, IsWokenOrSame, SameSlots, board_of, slot_at, waiting_count}
use Rattle.value_core.specs.Named.{Name}
use Rattle.unit_table.proofs.waking.wake_all.Given as goal

abbrev pub invariant-loop : goal.invariant-loop
invariant-loop l = record {
  kept : IsKept (board_of l.places) l.places.waits;
  slot : slot_at l.places.records.entries l.name ≡ Some l.slot;
  woken : IsWokenOrSame l.name (board_of l.fn.places) (board_of l.places);
  claims : SameClaims (board_of l.fn.places) (board_of l.places);
  places : (other : Name) → HasPlace (board_of l.fn.places) other → HasPlace (board_of l.places) other;
  slots : SameSlots (board_of l.fn.places) (board_of l.places);
}

abbrev pub decreases-loop : goal.decreases-loop
decreases-loop l = waiting_count l.places.waits
