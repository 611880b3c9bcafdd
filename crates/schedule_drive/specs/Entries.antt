-- The entries that a report tells of.
use Rattle.std.specs.Prelude.{[], List}
use Rattle.std.specs.List.{flat_map}
use Rattle.schedule_report.specs.declared.told.Told.{Told}
use Rattle.schedule_report.specs.declared.told.Told.TheVariants as told
use Rattle.serial_model.specs.declared.entry.Entry.{Entry}
use Rattle.shared_world.specs.Later.{settled_by}

abbrev pub entry_told : Told → List Entry
entry_told (told.Answered found) = settled_by found
entry_told _ = []

-- the entries of the lines that are settled, in their order
abbrev pub entries_told : List Told → List Entry
entries_told all = flat_map entry_told all
