-- What the effects of an attempt that commits come to among the pieces, as the meaning sees them.
use Rattle.std.proofs.Common.{◌≡◌, ◌∙◌, Bool, true, false, cond, List, [], ◌∷◌, refl, sym, ap}
use Rattle.std.specs.Option.{option_and_then, option_or}
use Rattle.std.specs.Prelude.{Option, None, Some, is_some}
use Rattle.actor_mailbox.specs.declared.message.Message.{Message}
use Rattle.actor_mails.specs.Mails.{mail_at}
use Rattle.eval_step.specs.Evaluation.{Evaluation}
use Rattle.serial_model.specs.declared.actor_state.ActorState.{ActorState}
use Rattle.serial_model.specs.declared.effect.Effect.{Effect}
use Rattle.serial_model.specs.declared.effect.What.{What}
use Rattle.serial_model.specs.declared.effect.What.TheVariants as what
use Rattle.serial_model.specs.State.{UnitState}
use Rattle.serial_model.specs.Step.{idle}
use Rattle.shared_world.proofs.ActorPieces.{SameActors, actor_of_piece, roused-same}
use Rattle.shared_world.proofs.LeadsFirst.{machine-of, same-actor, same-unit}
use Rattle.shared_world.proofs.Live.{no-piece}
use Rattle.shared_world.proofs.States.{EachMachine, roused-is, roused-state, state_of}
use Rattle.shared_world.specs.rows.Actors.{acted, spawned}
use Rattle.shared_world.specs.rows.Commits.{ActorsAct, definite_if, turns_on}
use Rattle.shared_world.specs.rows.Unsettled.{kept_to}
use Rattle.shared_world.specs.Shared.{Shared, state_at}
use Rattle.task_fork_join.specs.Attempt.{Attempt}
use Rattle.unit_table.specs.Board.{Board, actor_at, lent_at, piece_at, unit_at}
use Rattle.unit_table.specs.declared.piece.Piece.{Piece}
use Rattle.unit_table.specs.declared.unit.Unit.{Unit}
use Rattle.unit_table.specs.Piece.{unit_in}
use Rattle.value_core.proofs.NamedLaws.{same_name-equal}
use Rattle.value_core.specs.Named.{Name, named, same_name}
use Rattle.world_model.specs.rows.Commits.{effects_actors, what_actor}

-- the actors that effects make, over those that are there
effects-over : (es : List Effect) (f made below : Name → Option ActorState) → ((a : Name) → f a ≡ option_or (made a) (below a)) → (a : Name) → effects_actors es f a ≡ option_or (effects_actors es made a) (below a)
effects-over [] f made below same a = same a
effects-over (e ∷ es) f made below same a = effects-over es (what_actor e.what f) (what_actor e.what made) below (λ b. one e.what b) a
  where
    one : (k : What) (b : Name) → what_actor k f b ≡ option_or (what_actor k made b) (below b)
    one (what.Spawn actor behaviour state) b = on (same_name b actor)
      where
        on : (c : Bool) → cond c (Some (idle behaviour state)) (f b) ≡ option_or (cond c (Some (idle behaviour state)) (made b)) (below b)
        on true = refl
        on false = same b
    one (what.Bytes text) b = same b
    one (what.Send to args) b = same b
    one (what.Become behaviour state) b = same b

pub spawned-over : (es : List Effect) (below : Name → Option ActorState) (a : Name) → effects_actors es below a ≡ option_or (spawned es a) (below a)
spawned-over es below a = effects-over es below (λ b. None) below (λ b. refl) a

-- ---- a turn that is definite now, or not, stands where it did
definite-state : (so lent : Bool) (found : Option Piece) → state_of (definite_if so lent found) ≡ state_of found
definite-state false lent found = refl
definite-state true lent found = same-unit lent found

definite-actor : (so lent : Bool) (found : Option Piece) → actor_of_piece (definite_if so lent found) ≡ actor_of_piece found
definite-actor false lent found = refl
definite-actor true lent found = same-actor lent found

-- ---- a piece after effects: an actor that is made, or what stood there
acted-state : (begun : Bool) (last mail : List Message) (found : Option Piece) → state_of (acted begun None last mail found) ≡ state_of found
acted-state begun [] mail found = refl
acted-state begun (m ∷ ms) mail found = roused-state begun found

acted-actor : (begun : Bool) (made : Option ActorState) (last mail : List Message) (found : Option Piece) → actor_of_piece (acted begun made last mail found) ≡ option_or made (actor_of_piece found)
acted-actor begun (Some state) last mail found = refl
acted-actor begun None [] mail found = refl
acted-actor begun None (m ∷ ms) mail found = roused-same begun found

pub acted-unit : (begun : Bool) (made : Option ActorState) (last mail : List Message) (found : Option Piece) (z : Unit) → option_and_then unit_in (acted begun made last mail found) ≡ Some z → option_and_then unit_in found ≡ Some z
acted-unit begun (Some state) last mail found z is = cc
acted-unit begun None [] mail found z is = is
acted-unit begun None (m ∷ ms) mail found z is = sym (roused-is begun found) ∙ is

-- the state of what stood there, unless an actor is made
abbrev pub unless_made : Option ActorState → Option UnitState → Option UnitState
unless_made None found = found
unless_made (Some actor) found = None

-- ---- all pieces after the effects
module _ (effects : List Effect) (u : Name) (tree : Attempt) (base new : Shared) (board : Board) (acts : ActorsAct effects u tree base board new) where
  -- a turn of the actor is begun
  abbrev begun : Name → Bool
  begun a = is_some (named a base.taken)

  -- whether a turn is definite now
  abbrev so : Name → Bool
  so a = turns_on base tree.root a

  abbrev lent : Name → Bool
  lent a = is_some (lent_at base.board a)

  -- what stood there, which is definite now or not
  abbrev before_it : Name → Option Piece
  before_it a = definite_if (so a) (lent a) (piece_at board a)

  -- an actor is made, or what stood there stands where it did
  pub piece-state : (q : Name) → state_of (piece_at new.board q) ≡ unless_made (spawned effects q) (state_at board q)
  piece-state q = ap state_of (acts.pieces q) ∙ on (spawned effects q)
    where
      on : (made : Option ActorState) → state_of (acted (begun q) made (kept_to base u tree q) (mail_at new.mails q) (before_it q)) ≡ unless_made made (state_at board q)
      on None = acted-state (begun q) (kept_to base u tree q) (mail_at new.mails q) (before_it q) ∙ definite-state (so q) (lent q) (piece_at board q)
      on (Some actor) = refl

  -- a unit goes on, and the others stay
  pub act-states : (x : Unit) → unit_at base.board u ≡ Some x → (after : UnitState) → ((q : Name) → state_at board q ≡ cond (same_name q u) (Some after) (state_at base.board q))
      → (q : Name) → state_at new.board q ≡ cond (same_name q u) (Some after) (state_at base.board q)
  act-states x there after before q = piece-state q ∙ on (spawned effects q) refl
    where
      -- where an actor is made there was nothing
      fresh : piece_at base.board q ≡ None → (c : Bool) → same_name q u ≡ c → None ≡ cond c (Some after) (state_at base.board q)
      fresh none true e =
          let no : None ≡ Some x = sym (ap (option_and_then unit_in) none) ∙ ap (unit_at base.board) (same_name-equal q u e) ∙ there in cc
      fresh none false e = sym (no-piece base.board q none)

      on : (made : Option ActorState) → spawned effects q ≡ made → unless_made made (state_at board q) ≡ cond (same_name q u) (Some after) (state_at base.board q)
      on None is = before q
      on (Some actor) is = fresh (acts.none q actor is) (same_name q u) refl

  -- those that are made are there, and the others stay
  pub act-actors : SameActors base.board board → (a : Name) → actor_at new.board a ≡ option_or (spawned effects a) (actor_at base.board a)
  act-actors before a =
      ap actor_of_piece (acts.pieces a)
      ∙ acted-actor (begun a) (spawned effects a) (kept_to base u tree a) (mail_at new.mails a) (before_it a)
      ∙ ap (option_or (spawned effects a)) (definite-actor (so a) (lent a) (piece_at board a) ∙ before a)

  pub act-machines : (P : Evaluation → Type 0) → EachMachine P board → EachMachine P new.board
  act-machines P all q z there =
      by (so q) (acted-unit (begun q) (spawned effects q) (kept_to base u tree q) (mail_at new.mails q) (before_it q) z (sym (ap (option_and_then unit_in) (acts.pieces q)) ∙ there))
    where
      by : (c : Bool) → option_and_then unit_in (definite_if c (lent q) (piece_at board q)) ≡ Some z → P z.machine
      by false e = all q z e
      by true e = machine-of P (lent q) (piece_at board q) z e (all q)
