-- Which messages are taken: those of turns whose begin is held.
use Rattle.std.proofs.Common.{◌≡◌, ◌∙◌, List, [], ◌∷◌, refl, sym, ap, subst}
use Rattle.std.specs.Option.{option_map}
use Rattle.std.specs.Prelude.{None, Option, Some}
use Rattle.actor_mailbox.specs.declared.message.Message.{Message}
use Rattle.serial_model.proofs.runs.LastTurns.{replay-sounder}
use Rattle.serial_model.specs.declared.actor_state.ActorState.{ActorState}
use Rattle.serial_model.specs.State.{State, UnitState}
use Rattle.shared_world.proofs.Leading.{level-there}
use Rattle.shared_world.specs.Ahead.{Ahead}
use Rattle.shared_world.specs.Seen.{live_with, one_or_none}
use Rattle.shared_world.specs.Shared.{Shared, state_at}
use Rattle.shared_world.specs.Stands.{Stands}
use Rattle.unit_table.specs.Board.{actor_at}
use Rattle.value_core.specs.Named.{Name, made_by, named}
use Rattle.world_model.proofs.rows.MovesOn.{busy-free}
use Rattle.world_model.specs.StandsFor.{IsBegunTurn, LiveStands, TakenStands, UnitStands}
use Rattle.world_model.specs.World.{LiveUnit, World, still}

-- what is read of one message or none
none-is : (o : Option Message) → one_or_none o ≡ [] → o ≡ None
none-is None e = refl
none-is (Some m) e = cc

pub one-is : (o : Option Message) (m : Message) → one_or_none o ≡ m ∷ [] → o ≡ Some m
one-is None m e = cc
one-is (Some k) m e = let same : k ≡ m = cc in ap (λ j. Some j) same

module _ (s : Shared) (st : Stands s) where
  abbrev w : World
  w = st.world

  abbrev now : State
  now = st.is_world.state

  -- of what is no actor no message is taken
  pub none-taken : (a : Name) → actor_at s.board a ≡ None → named a s.taken ≡ None
  none-taken a none = none-is (named a s.taken) (sym (st.seen.taken a) ∙ on (w.taken a) (st.is_world.stands.turns a))
    where
      on : (ms : List Message) → TakenStands w.actors w.units a ms → ms ≡ []
      on [] t = refl
      on (m ∷ ms) t = let no : None ≡ Some t.actor = sym (st.seen.actors a ∙ none) ∙ t.there in cc

  -- nor of an actor with a turn that is not finished and stands where the history left it
  pub turn-free : (u a : Name) (unit : UnitState) → named u s.aheads ≡ None → state_at s.board u ≡ Some unit → unit.actor ≡ Some a → unit.finished ≡ None → named a s.taken ≡ None
  turn-free u a unit level there of unfinished =
      let last = (replay-sounder s.setup st.formed w.history now st.is_world.replays).last u unit a in_state of unfinished in
      none-is (named a s.taken) (sym (st.seen.taken a) ∙ busy-free s.setup w now a last.state st.is_world.stands (st.is_world.stands.actors a ∙ last.there) last.busy)
    where
      in_state : named u now.units ≡ Some unit
      in_state = on (named u now.units) (subst (λ live. UnitStands s.setup w.actors w.taken u live (named u now.units)) (level-there s st u unit level there) (st.is_world.stands.units u))
        where
          on : (found : Option UnitState) → LiveStands s.setup w.actors w.taken u (still unit) None found → found ≡ Some unit
          on None is = absurd is
          on (Some k) is = ap (λ j. Some j) is.0

  -- ---- turns whose begin is held
  pub begun-turn : (u a : Name) (h : Ahead) (leads : named u s.aheads ≡ Some h) → h.takes ≡ Some a → IsBegunTurn s.setup w.actors w.taken u (live_with (Some h) (st.aheads u h leads).unit) a
  begun-turn u a h leads takes = by h.takes takes (named u now.units) (subst (λ live. UnitStands s.setup w.actors w.taken u live (named u now.units)) seen (st.is_world.stands.units u))
    where
      unit : UnitState
      unit = (st.aheads u h leads).unit

      seen : w.units u ≡ Some (live_with (Some h) unit)
      seen = st.seen.units u ∙ ap (option_map (live_with (named u s.aheads))) (st.aheads u h leads).there ∙ ap (λ k. Some (live_with k unit)) leads

      by : (takes : Option Name) → takes ≡ Some a → (found : Option UnitState) → LiveStands s.setup w.actors w.taken u (live_with (Some h) unit) takes found → IsBegunTurn s.setup w.actors w.taken u (live_with (Some h) unit) a
      by None e found is = cc
      by (Some b) e None is = let same : b ≡ a = cc in subst (IsBegunTurn s.setup w.actors w.taken u (live_with (Some h) unit)) same is
      by (Some b) e (Some k) is = absurd is

  -- its message is taken
  pub takes-taken : (u a : Name) (h : Ahead) → named u s.aheads ≡ Some h → h.takes ≡ Some a → (m : Message) × (named a s.taken ≡ Some m)
  takes-taken u a h leads takes = let turn = begun-turn u a h leads takes in (turn.message, one-is (named a s.taken) turn.message (sym (st.seen.taken a) ∙ turn.took))

  -- and it has the name of the next turn
  pub takes-called : (u a : Name) (h : Ahead) (actor : ActorState) → named u s.aheads ≡ Some h → h.takes ≡ Some a → actor_at s.board a ≡ Some actor → u ≡ made_by a actor.turns
  takes-called u a h actor leads takes there =
      let turn = begun-turn u a h leads takes in
      let both : Some turn.actor ≡ Some actor = sym turn.there ∙ st.seen.actors a ∙ there in
      let same : turn.actor ≡ actor = cc in
      turn.called ∙ ap (λ (k : ActorState). made_by a k.turns) same

  -- a turn of that name runs ahead where a message is taken
  pub record IsTakenBy (a : Name) (actor : ActorState) : Type 0 where
    pub ahead : Ahead
    pub leads : named (made_by a actor.turns) s.aheads ≡ Some ahead
    pub takes : ahead.takes ≡ Some a

  pub taken-by : (a : Name) (m : Message) (actor : ActorState) → named a s.taken ≡ Some m → actor_at s.board a ≡ Some actor → IsTakenBy a actor
  taken-by a m actor taken there = on (w.taken a) (st.seen.taken a ∙ ap one_or_none taken) (st.is_world.stands.turns a)
    where
      on : (ms : List Message) → ms ≡ m ∷ [] → TakenStands w.actors w.units a ms → IsTakenBy a actor
      on [] e t = cc
      on (k ∷ ks) e t = subst (IsTakenBy a) same (by (named turn s.aheads) refl (state_at s.board turn) (sym (st.seen.units turn) ∙ t.begun))
        where
          same : t.actor ≡ actor
          same = let both : Some t.actor ≡ Some actor = sym t.there ∙ st.seen.actors a ∙ there in cc

          turn : Name
          turn = made_by a t.actor.turns

          by : (h : Option Ahead) → named turn s.aheads ≡ h → (k : Option UnitState) → option_map (live_with (named turn s.aheads)) k ≡ Some t.turn → IsTakenBy a t.actor
          by h is None e = cc
          by None is (Some k) e =
              let live : live_with (named turn s.aheads) k ≡ t.turn = cc in
              let no : None ≡ Some a = ap (λ g. (live_with g k).takes) (sym is) ∙ ap (λ (x : LiveUnit). x.takes) live ∙ t.takes in cc
          by (Some h) is (Some k) e =
              let live : live_with (named turn s.aheads) k ≡ t.turn = cc in
              record { ahead = h; leads = is; takes = ap (λ g. (live_with g k).takes) (sym is) ∙ ap (λ (x : LiveUnit). x.takes) live ∙ t.takes }
