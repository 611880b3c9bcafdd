-- The rows of effects: those that a turn holds, those that it held, and those that are done at once.
use Rattle.std.specs.List.{list_any}
use Rattle.std.specs.Prelude.{Bool, List, None, Some, [], cond, suc, true, ℕ, ◌++◌, ◌∷◌, ◌≡◌}
use Rattle.value_core.specs.Named.{Name, same_name}
use Rattle.value_core.specs.Place.{Spot}
use Rattle.value_core.specs.declared.value.Value.{Value}
use Rattle.core_syntax.specs.declared.node_id.NodeId.{NodeId}
use Rattle.serial_model.specs.State.{Setup, UnitState, new_unit}
use Rattle.serial_model.specs.Step.{idle, next_made}
use Rattle.serial_model.specs.declared.entry.Entry.TheVariants.{Run}
use Rattle.serial_model.specs.declared.request.Request.TheVariants as request
use Rattle.serial_model.specs.declared.request.Request.{Request}
use Rattle.world_model.specs.Ahead.{IsHeld, ahead}
use Rattle.actor_mailbox.specs.declared.message.Message.{Message}
use Rattle.actor_mailbox.specs.Messages.{passes}
use Rattle.world_model.specs.Message.{settle_or_put, settled, tentative}
use Rattle.world_model.specs.World.{LiveUnit, World, is_ahead, put_or_kept, still, with_at}

-- a turn that runs ahead asks for an effect that is held
pub record HoldsMore (setup : Setup) (w : World) (u : Name) (x : LiveUnit) (r : Request) (at : Spot) (after : UnitState) : Type 0 where
  pub there : w.units u ≡ Some x
  pub runs_ahead : is_ahead x ≡ true
  pub held : IsHeld setup u x.now r at after

-- the turn with that effect more
abbrev pub with_held : LiveUnit → Request → UnitState → LiveUnit
with_held x r after = record x { now = after; held = x.held ++ r ∷ [] }

-- the mailboxes, once a send is held
abbrev pub mails_held : World → Name → Request → Name → List Message
mails_held w u (request.Send to args) = put_or_kept w u to (tentative u u args)
mails_held w u _ = w.mails

-- Held: the effect is held last
abbrev pub held_more : World → Name → LiveUnit → Request → UnitState → (Name → List Message) → World
held_more w u x r after mails = record w { units = with_at w.units u (Some (with_held x r after)); mails = mails }

-- a definite turn, and the first effect that it holds
pub record SettlesHeld (w : World) (u : Name) (x : LiveUnit) (r : Request) (rest : List Request) (after : UnitState) : Type 0 where
  pub going : w.end ≡ None
  pub there : w.units u ≡ Some x
  pub takes : x.takes ≡ None
  pub held : x.held ≡ r ∷ rest
  pub gives : ahead u x.from r ≡ Some after

-- the turn, once that is settled
abbrev pub held_rest : LiveUnit → List Request → UnitState → LiveUnit
held_rest x rest after = record x { from = after; held = rest }

-- Settled: a become or a self
abbrev pub effect_settled : World → Name → LiveUnit → List Request → UnitState → World
effect_settled w u x rest after = record w { history = w.history ++ Run u ∷ []; units = with_at w.units u (Some (held_rest x rest after)) }

-- Settled: a print
abbrev pub print_settled : World → Name → LiveUnit → List Request → UnitState → List ℕ → World
print_settled w u x rest after text = record (effect_settled w u x rest after) { bytes = w.bytes ++ text }

-- one of the messages depends on that turn
abbrev pub has_put : Name → List Message → Bool
has_put u ms = list_any (λ m. passes (same_name u) m.depends) ms

-- A held send settles in its place: the first message that depends on its turn becomes definite, with the turn that took it or
-- in the mailbox. Where there is none it is appended.
abbrev pub settled_taken : Name → Message → List Message → List Message
settled_taken u m ms = cond (has_put u ms) (settle_or_put (same_name u) m ms) ms

-- the mailbox, where these messages were taken
abbrev pub settled_mail : Name → Message → List Message → List Message → List Message
settled_mail u m taken ms = cond (has_put u taken) ms (settle_or_put (same_name u) m ms)

-- Settled: a send
abbrev pub send_settled : World → Name → LiveUnit → List Request → UnitState → Name → List Value → World
send_settled w u x rest after to args = record (effect_settled w u x rest after) {
  taken = with_at w.taken to (settled_taken u (settled u args) (w.taken to));
  mails = with_at w.mails to (settled_mail u (settled u args) (w.taken to) (w.mails to));
}

-- Settled: a new ref
abbrev pub ref_settled : World → Name → LiveUnit → List Request → UnitState → Value → World
ref_settled w u x rest after v = record (effect_settled w u x rest after) { refs = with_at w.refs (next_made u x.from) (Some v) }

-- Settled: a new actor
abbrev pub spawn_settled : World → Name → LiveUnit → List Request → UnitState → ℕ → List Value → World
spawn_settled w u x rest after behaviour state = record (effect_settled w u x rest after) { actors = with_at w.actors (next_made u x.from) (Some (idle behaviour state)) }

-- a plain unit at its beginning
abbrev pub new_live : NodeId → List Value → LiveUnit
new_live body values = record { from = new_unit None body values; now = new_unit None body values; takes = None; held = [] }

-- Settled: a new unit
abbrev pub fork_settled : World → Name → LiveUnit → List Request → UnitState → NodeId → List Value → World
fork_settled w u x rest after body values = record w {
  history = w.history ++ Run u ∷ [];
  units = with_at (with_at w.units (next_made u x.from) (Some (new_live body values))) u (Some (held_rest x rest after));
  made = suc w.made;
}

-- a definite unit that holds nothing, and goes on
pub record Stands (setup : Setup) (w : World) (u : Name) (x : LiveUnit) : Type 0 where
  pub going : w.end ≡ None
  pub there : w.units u ≡ Some x
  pub takes : x.takes ≡ None
  pub held : x.held ≡ []
  pub unfinished : x.now.finished ≡ None

-- Settled: it does its effect at once
abbrev pub moved_on : World → Name → UnitState → World
moved_on w u after = record w { history = w.history ++ Run u ∷ []; units = with_at w.units u (Some (still after)) }
