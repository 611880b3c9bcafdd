-- What the root of an attempt sends: each send is put at once, or kept.
use Rattle.std.specs.Prelude.{◌≡◌, ◌⊎◌, ◌++◌, ◌∷◌, [], List, None, Some, drop, flat_map, is_some, length, map}
use Rattle.actor_mailbox.specs.declared.message.Message.{Message}
use Rattle.actor_mails.specs.Mails.{Mail, IsMailed, mail_at}
use Rattle.serial_model.specs.declared.actor_state.ActorState.{ActorState}
use Rattle.serial_model.specs.declared.effect.Effect.{Effect}
use Rattle.serial_model.specs.declared.effect.What.{What}
use Rattle.serial_model.specs.declared.effect.What.TheVariants as what
use Rattle.serial_model.specs.Sends.{if_to}
use Rattle.shared_world.specs.rows.Actors.{roused_unless}
use Rattle.shared_world.specs.rows.Leading.{line_at}
use Rattle.shared_world.specs.rows.Unsettled.{held_to}
use Rattle.shared_world.specs.Shared.{Shared}
use Rattle.unit_table.specs.Board.{Board, IsPutAt, actor_at, piece_at}
use Rattle.value_core.specs.declared.value.Value.{Value}
use Rattle.value_core.specs.Named.{Name, named}
use Rattle.world_model.specs.Message.{tentative, unsettled}

-- a send: to whom, and what
abbrev pub Send : Type 0
Send = Name × List Value

-- the sends among effects, in their order
abbrev pub send_in : What → List Send
send_in (what.Send to args) = (to, args) ∷ []
send_in _ = []

abbrev pub sends_in : List Effect → List Send
sends_in effects = flat_map (λ (e : Effect). send_in e.what) effects

-- what is sent to an actor among them
abbrev pub args_to : Name → List Send → List (List Value)
args_to actor sends = flat_map (λ (s : Send). if_to actor s.0 s.1) sends

-- what the unit has sent to an actor and is not settled, where that root of its attempt has sent these
abbrev pub sent_by : Shared → Name → Name → List Send → Name → List Message
sent_by s u root sends to = held_to u to (named u s.aheads) ++ map (tentative u root) (args_to to sends)

-- those of them that are kept: they are the last
abbrev pub kept_by : Shared → Name → Name → List Send → Name → List Message
kept_by s u root sends to = drop (length (unsettled u (line_at s to))) (sent_by s u root sends to)

-- The send is put at once: its receiver is there, and no earlier send of the unit or of its attempt to it is kept.
pub record IsPosted (old : Shared) (u root : Name) (sends : List Send) (to : Name) (args : List Value) (new : Shared) : Type 0 where
  pub actor : ActorState
  pub there : actor_at old.board to ≡ Some actor
  pub none_kept : kept_by old u root sends to ≡ []
  pub mails : Mail
  pub mailed : IsMailed to (mail_at old.mails to ++ tentative u root args ∷ []) old.mails mails
  pub board : Board
  pub rouses : IsPutAt to (roused_unless (is_some (named to old.taken)) (piece_at old.board to)) old.board board
  pub others : new ≡ record old { mails = mails; board = board }

-- or it is kept
pub data PutOrKept (old : Shared) (u root : Name) (sends : List Send) (to : Name) (args : List Value) (new : Shared) : Type 0 where
  put : IsPosted old u root sends to args new → PutOrKept old u root sends to args new
  keep : (actor_at old.board to ≡ None) ⊎ (kept_by old u root sends to ≡ [] → ⊥) → new ≡ old → PutOrKept old u root sends to args new

-- After those sends these are put or kept, one after another.
abbrev pub Posts : Shared → Name → Name → List Send → List Send → Shared → Type 0
Posts old u root sends [] new = new ≡ old
Posts old u root sends (more ∷ rest) new = (mid : Shared) × PutOrKept old u root sends more.0 more.1 mid × Posts mid u root (sends ++ more ∷ []) rest new
