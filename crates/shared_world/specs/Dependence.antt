-- What hangs on an attempt, as it is kept.
use Rattle.std.specs.Prelude.{◌≡◌, Bool, Some, true}
use Rattle.actor_mailbox.specs.declared.message.Message.{Message}
use Rattle.serial_model.specs.declared.actor_state.ActorState.{ActorState}
use Rattle.shared_world.specs.Shared.{Shared}
use Rattle.task_fork_join.specs.Attempt.{Attempt}
use Rattle.unit_table.specs.Board.{actor_at}
use Rattle.value_core.specs.Named.{Name, made_by, named}

-- what hangs on the root of an attempt: it, the turns whose message depends on what hangs on it, and the attempts of these
pub data DependsIn (s : Shared) (root : Name) : Name → Type 0 where
  itself : {n : Name} → n ≡ root → DependsIn s root n
  turn : {n : Name} (a : Name) (actor : ActorState) (m : Message) (on : Name) → actor_at s.board a ≡ Some actor → named a s.taken ≡ Some m → m.depends ≡ Some on → n ≡ made_by a actor.turns
      → DependsIn s root on → DependsIn s root n
  attempt : {n : Name} (v : Name) (tree : Attempt) → named v s.attempts ≡ Some tree → n ≡ tree.root → DependsIn s root v → DependsIn s root n

-- these names, and no other, are those of what hangs on the root
pub record AreGone (s : Shared) (root : Name) (gone : Name → Bool) : Type 0 where
  pub all : (n : Name) → DependsIn s root n → gone n ≡ true
  pub only : (n : Name) → gone n ≡ true → DependsIn s root n
