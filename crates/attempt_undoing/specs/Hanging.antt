-- What hangs on an attempt, as it is found.
use Rattle.std.specs.Prelude.{◌≡◌, ◌&&◌, ◌||◌, ◌∷◌, [], Bool, List, Option, None, Some, cond, false, flat_map, map, true}
use Rattle.std.specs.List.{list_any}
use Rattle.actor_mailbox.specs.declared.message.Message.{Message}
use Rattle.actor_mailbox.specs.Messages.{depends_on}
use Rattle.serial_model.specs.declared.actor_state.ActorState.{ActorState}
use Rattle.serial_model.specs.declared.effect.Effect.{Effect}
use Rattle.serial_model.specs.declared.effect.What.{What}
use Rattle.serial_model.specs.declared.effect.What.TheVariants as what
use Rattle.shared_world.specs.Ahead.{Ahead}
use Rattle.shared_world.specs.Dependence.{DependsIn}
use Rattle.shared_world.specs.Seen.{done_by_root}
use Rattle.shared_world.specs.Shared.{Shared}
use Rattle.task_fork_join.specs.Attempt.{Attempt}
use Rattle.tentative_turn.specs.Sending.{request_receivers}
use Rattle.unit_table.specs.Board.{actor_at}
use Rattle.value_core.specs.Named.{Name, is_among, made_by, named, same_name}

-- ---- what was sent
-- the receiver of an effect, where it sends something
abbrev pub effect_receiver : What → List Name
effect_receiver (what.Send to args) = to ∷ []
effect_receiver _ = []

-- the receivers of what the effects send, in order
abbrev pub effect_receivers : List Effect → List Name
effect_receivers effects = flat_map (λ e. effect_receiver e.what) effects

-- to whom something was sent, and the name on which it depends
pub record Sent : Type 0 where
  pub to : Name
  pub on : Name

-- something was sent to that receiver under that name
abbrev pub sent_on : Name → Name → Sent
sent_on on to = record { to = to; on = on }

-- the same for each of these receivers
abbrev pub sends_on : Name → List Name → List Sent
sends_on on receivers = map (sent_on on) receivers

-- whether it is among these
abbrev pub is_sent : List Sent → Name → Name → Bool
is_sent sends to on = list_any (λ s. same_name to s.to && same_name s.on on) sends

-- ---- the turns that took some of it
abbrev pub depends_in : Name → Option Message → Bool
depends_in on None = false
depends_in on (Some m) = depends_on (same_name on) m

-- whether the actor has taken a message that depends on that name
abbrev pub is_taken : Shared → Name → Name → Bool
is_taken s on to = depends_in on (named to s.taken)

-- the turn of an actor that it begins next, which it has begun ahead where it has taken a message
abbrev pub next_turn : Name → Option ActorState → Option Name
next_turn to None = None
next_turn to (Some actor) = Some (made_by to actor.turns)

-- the turn of the actor on a message that depends on that name, where it has taken one
abbrev pub turn_on : Shared → Name → Name → Option Name
turn_on s on to = cond (is_taken s on to) (next_turn to (actor_at s.board to)) None

-- ---- all that hangs on an attempt
-- a turn that took a message which depends on what hangs on the root
pub record IsTurnOn (s : Shared) (root t : Name) : Type 0 where
  pub on : Name
  pub to : Name
  pub is : turn_on s on to ≡ Some t
  pub hangs : DependsIn s root on

-- what is found hangs on the root, and the turns are found that took some of what was sent
pub record IsFound (s : Shared) (root : Name) (turns : List Name) (sends : List Sent) : Type 0 where
  pub turns_hang : (t : Name) → is_among t turns ≡ true → IsTurnOn s root t
  pub sends_hang : (to on : Name) → is_sent sends to on ≡ true → DependsIn s root on
  pub took : (to on t : Name) → is_sent sends to on ≡ true → turn_on s on to ≡ Some t → is_among t turns ≡ true

-- all is found that the attempt of the unit has sent
abbrev pub TriedFound : Shared → Name → List Sent → Type 0
TriedFound s v sends = (tree : Attempt) → named v s.attempts ≡ Some tree → (to : Name) → is_among to (effect_receivers (done_by_root tree)) ≡ true → is_sent sends to tree.root ≡ true

-- and all that the turn holds
abbrev pub HeldFound : Shared → Name → List Sent → Type 0
HeldFound s v sends = (h : Ahead) → named v s.aheads ≡ Some h → (to : Name) → is_among to (request_receivers h.held) ≡ true → is_sent sends to v ≡ true

-- What is found is all that hangs on the root of that unit's attempt.
pub record IsAll (s : Shared) (u root : Name) (turns : List Name) (sends : List Sent) : Type 0 where
  pub found : IsFound s root turns sends
  pub own : TriedFound s u sends
  pub tried : (t : Name) → is_among t turns ≡ true → TriedFound s t sends
  pub held : (t : Name) → is_among t turns ≡ true → HeldFound s t sends

-- ---- the names that go
-- whether the name is the root of that attempt
abbrev pub is_root_of : Name → Option Attempt → Bool
is_root_of n None = false
is_root_of n (Some tree) = same_name n tree.root

-- or of one of those of these units
abbrev pub is_root_in : Shared → Name → List Name → Bool
is_root_in s n units = list_any (λ v. is_root_of n (named v s.attempts)) units

-- the turns, and the roots of their attempts and of that of the unit
abbrev pub goes_with : Shared → Name → List Name → Name → Bool
goes_with s u turns n = is_among n turns || is_root_in s n (u ∷ turns)
