-- What a unit and the root of its attempt have sent, and is not settled.
use Rattle.std.specs.Prelude.{◌++◌, [], List, Option, None, Some, drop, length, map}
use Rattle.actor_mailbox.specs.declared.message.Message.{Message}
use Rattle.serial_model.specs.Sends.{effects_to, sends_to}
use Rattle.shared_world.specs.Ahead.{Ahead}
use Rattle.shared_world.specs.rows.Leading.{line_at}
use Rattle.shared_world.specs.Seen.{done_by_root}
use Rattle.shared_world.specs.Shared.{Shared}
use Rattle.task_fork_join.specs.Attempt.{Attempt}
use Rattle.value_core.specs.Named.{Name, named}
use Rattle.world_model.specs.Message.{tentative, unsettled}

-- the sends to an actor that a turn holds, where it runs ahead
abbrev pub held_to : Name → Name → Option Ahead → List Message
held_to u to None = []
held_to u to (Some h) = map (tentative u u) (sends_to to h.held)

-- what the unit and the root of its attempt have sent to an actor and is not settled
abbrev pub sent_to : Shared → Name → Attempt → Name → List Message
sent_to s u tree to = held_to u to (named u s.aheads) ++ map (tentative u tree.root) (effects_to to (done_by_root tree))

-- those of them that are kept: they are the last
abbrev pub kept_to : Shared → Name → Attempt → Name → List Message
kept_to s u tree to = drop (length (unsettled u (line_at s to))) (sent_to s u tree to)
