-- How the begin of a turn is settled.
use Rattle.std.specs.Prelude.{◌≡◌, ◌==◌, Err, None, Ok, Result, Some}
use Rattle.std.specs.declared.alloc.AllocError.{AllocError}
use Rattle.std.specs.Option.{IfSome, IsSome}
use Rattle.actor_mailbox.specs.declared.message.Message.{Message}
use Rattle.serial_model.specs.declared.actor_state.ActorState.{ActorState}
use Rattle.serial_model.specs.declared.entry.Entry.{Entry}
use Rattle.serial_model.specs.declared.entry.Entry.TheVariants.{Take}
use Rattle.shared_world.specs.Ahead.{Ahead}
use Rattle.shared_world.specs.declared.given.Given.{Given}
use Rattle.shared_world.specs.rows.Leading.{SettlesBegin, TakeSettles, TakeSettlesIfAllowed}
use Rattle.shared_world.specs.rows.Pieces.{ClaimsEnd}
use Rattle.shared_world.specs.Shared.{Shared}
use Rattle.unit_table.specs.Board.{Board, actor_at, unit_at}
use Rattle.unit_table.specs.declared.unit.Unit.{Unit}
use Rattle.value_core.specs.Named.{Name, Named, made_by, named, same_name}
use Rattle.world_model.specs.rows.Turns.{busy_with}
use Rattle.world_steps.specs.Kept.{IsSameBut}

-- the turn, where it runs ahead, holds its begin
abbrev pub HoldsIts : Named Ahead → Name → Type 0
HoldsIts aheads u = IfSome (named u aheads) (λ h. IsSome h.takes)

-- the message is settled, and that is the entry of the begin of the actor's turn on it
pub record IsEntryOf (a : Name) (m : Message) (entry : Entry) : Type 0 where
  pub definite : m.depends ≡ None
  pub entry_is : entry ≡ Take a m.sender

-- the message is that which the actor's turn took
pub record IsTakeEntry (taken : Named Message) (a : Name) (entry : Entry) : Type 0 where
  pub message : Message
  pub took : named a taken ≡ Some message
  pub entry_of : IsEntryOf a message entry

-- the turn is the next one of the actor, which is so while it is busy with that
pub record IsNextTurn (b : Board) (u a : Name) (busy : ActorState) : Type 0 where
  pub actor : ActorState
  pub there : actor_at b a ≡ Some actor
  pub called : u ≡ made_by a actor.turns
  pub busy_is : busy ≡ busy_with actor

-- the begin of the turn of that actor, where it is held, is settled
pub record BeginSettled (old : Shared) (u a : Name) (new : Shared) (found : Given) : Type 0 where
  pub row : (x : Unit) (h : Ahead) → unit_at old.board u ≡ Some x → named u old.aheads ≡ Some h → h.takes ≡ Some a
      → (g : SettlesBegin old u x h a) × TakeSettlesIfAllowed old u x h a g.actor g.message (old.made == old.setup.limits.units) found new
  pub claims : ClaimsEnd (λ q. same_name q u) old new

-- or for want of memory nothing changes
abbrev pub BeginComes : Shared → Name → Name → Shared → Result Given AllocError → Type 0
BeginComes old u a new (Ok found) = BeginSettled old u a new found
BeginComes old u a new (Err e) = IsSameBut old new

-- the limit allows the turn
pub record HasBegunAhead (old : Shared) (u a : Name) (new : Shared) (found : Given) : Type 0 where
  pub row : (x : Unit) (h : Ahead) → unit_at old.board u ≡ Some x → named u old.aheads ≡ Some h → h.takes ≡ Some a
      → (g : SettlesBegin old u x h a) × TakeSettles old u x h a g.actor g.message found new
  pub claims : ClaimsEnd (λ q. same_name q u) old new
