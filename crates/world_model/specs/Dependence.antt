-- What depends on an attempt.
use Rattle.std.specs.Prelude.{Some, [], ◌∷◌, ◌≡◌}
use Rattle.value_core.specs.Named.{Name, made_by}
use Rattle.serial_model.specs.declared.actor_state.ActorState.{ActorState}
use Rattle.actor_mailbox.specs.declared.message.Message.{Message}
use Rattle.world_model.specs.World.{Attempt, World}

-- what hangs on an attempt: it, the turns whose message depends on what hangs on it, and the attempts of these
pub data DependsOn (w : World) (root : Name) : Name → Type 0 where
  itself : {n : Name} → n ≡ root → DependsOn w root n
  turn : {n : Name} (a : Name) (actor : ActorState) (m : Message) (on : Name) → w.actors a ≡ Some actor → w.taken a ≡ m ∷ [] → m.depends ≡ Some on → n ≡ made_by a actor.turns
      → DependsOn w root on → DependsOn w root n
  attempt : {n : Name} (v : Name) (tried : Attempt) → w.attempts v ≡ Some tried → n ≡ tried.root → DependsOn w root v → DependsOn w root n
