-- What is seen of the objects that a command works on.
use Rattle.std.specs.Prelude.{⊤}
use Rattle.std.specs.Borrow.{MutBor}
use Rattle.world_io.specs.Seen.{FilesSeen, SinkSeen}
use Rattle.serial_commands.specs.declared.outside.Outside.{Outside}
use Rattle.command_phases.specs.Seen.{Seen, seen}

module _ {F K E : Type 0} (files : F → FilesSeen) (out : K → SinkSeen) (err : E → SinkSeen) where
  -- as they are passed
  abbrev pub seen_before : Outside F K E → Seen
  seen_before outside = seen (files outside.files.now) (out outside.out.now) (err outside.err.now)

  -- as a function that took them leaves them: its parameter at its `exit`
  abbrev pub seen_after : MutBor F × (MutBor K × (MutBor E × ⊤)) → Seen
  seen_after left = seen (files left.0.now) (out left.1.0.now) (err left.1.1.0.now)
