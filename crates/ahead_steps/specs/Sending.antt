-- What a turn sends that runs ahead.
use Rattle.std.specs.Prelude.{◌≡◌, [], Some}
use Rattle.serial_model.specs.declared.actor_state.ActorState.{ActorState}
use Rattle.shared_world.specs.Ahead.{Ahead}
use Rattle.shared_world.specs.rows.Leading.{kept_of_turn}
use Rattle.shared_world.specs.Shared.{Shared}
use Rattle.unit_table.specs.Board.{actor_at}
use Rattle.value_core.specs.Named.{Name}

-- the actor is there, and each earlier send of the turn to it is put
pub record CanPut (s : Shared) (name : Name) (h : Ahead) (to : Name) : Type 0 where
  pub actor : ActorState
  pub there : actor_at s.board to ≡ Some actor
  pub none_kept : kept_of_turn s name h to ≡ []
