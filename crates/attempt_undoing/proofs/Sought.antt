-- How what hangs on an attempt is found, as it goes.
use Rattle.std.proofs.Common.{◌≡◌, ◌∙◌, ◌⊎◌, Bool, true, false, cond, inl, inr, List, [], ◌∷◌, ◌++◌, refl, sym, ap, subst}
use Rattle.std.specs.Option.{option_map}
use Rattle.std.specs.Prelude.{None, Option, Some, ◌&&◌, ◌||◌}
use Rattle.actor_mailbox.specs.declared.message.Message.{Message}
use Rattle.actor_mailbox.specs.Messages.{passes}
use Rattle.attempt_undoing.proofs.Lists.{or-one, sent-append, sent-more}
use Rattle.attempt_undoing.specs.Hanging.{Sent, depends_in, is_sent, next_turn, turn_on, HeldFound, IsTurnOn, TriedFound}
use Rattle.serial_model.specs.declared.actor_state.ActorState.{ActorState}
use Rattle.serial_model.specs.State.{UnitState}
use Rattle.shared_world.specs.Ahead.{Ahead}
use Rattle.shared_world.specs.Dependence as depends
use Rattle.shared_world.specs.Dependence.{DependsIn}
use Rattle.shared_world.specs.rows.Undoing.{message_left}
use Rattle.shared_world.specs.Seen.{live_with, one_or_none}
use Rattle.shared_world.specs.Shared.{Shared, is_going, state_at}
use Rattle.shared_world.specs.Stands.{Stands}
use Rattle.unit_table.specs.Board.{actor_at}
use Rattle.unit_table.specs.declared.piece.Piece.TheVariants as piece
use Rattle.value_core.proofs.NamedLaws.{same_name-equal}
use Rattle.value_core.specs.Named.{Name, is_among, made_by, named, same_name}
use Rattle.world_model.specs.StandsFor.{HasBegun, LiveStands, TakenStands, UnitStands}
use Rattle.world_model.specs.World.{LiveUnit, World}

-- ---- the turn that took what was sent under a name
-- what it is the turn of
pub record TookOn (s : Shared) (on to t : Name) : Type 0 where
  pub actor : ActorState
  pub message : Message
  pub there : actor_at s.board to ≡ Some actor
  pub took : named to s.taken ≡ Some message
  pub depends : message.depends ≡ Some on
  pub called : t ≡ made_by to actor.turns

pub took-on : (s : Shared) (on to t : Name) → turn_on s on to ≡ Some t → TookOn s on to t
took-on s on to t is = by (named to s.taken) refl (actor_at s.board to) refl is
  where
    by : (taken : Option Message) → named to s.taken ≡ taken → (actor : Option ActorState) → actor_at s.board to ≡ actor → cond (depends_in on taken) (next_turn to actor) None ≡ Some t → TookOn s on to t
    by None took actor there e = cc
    by (Some m) took actor there e = one m.depends refl (passes (same_name on) m.depends) refl e
      where
        one : (depends : Option Name) → m.depends ≡ depends → (c : Bool) → passes (same_name on) depends ≡ c → cond c (next_turn to actor) None ≡ Some t → TookOn s on to t
        one depends dep false e none = cc
        one None dep true e none = cc
        one (Some o) dep true e some = with actor there some
          where
            with : (a : Option ActorState) → actor_at s.board to ≡ a → next_turn to a ≡ Some t → TookOn s on to t
            with None at is = cc
            with (Some a) at is = let same : made_by to a.turns ≡ t = cc in
                record { actor = a; message = m; there = at; took = took; depends = dep ∙ ap (λ n. Some n) (sym (same_name-equal on o e)); called = sym same }

-- what hangs on the root where it is found to be a turn
pub turn-hangs : (s : Shared) (root t : Name) → IsTurnOn s root t → DependsIn s root t
turn-hangs s root t is = let took = took-on s is.on is.to t is.is in depends.turn is.to took.actor took.message is.on took.there took.took took.depends took.called is.hangs

-- a message that is not left depends on what was sent
pub gone-message : (test : Name → Bool) (m : Message) → message_left test (Some m) ≡ None → (on : Name) × (m.depends ≡ Some on) × (test on ≡ true)
gone-message test m none = by m.depends refl none
  where
    by : (depends : Option Name) → m.depends ≡ depends → cond (passes test depends) None (Some m) ≡ None → (on : Name) × (m.depends ≡ Some on) × (test on ≡ true)
    by None e left = cc
    by (Some on) e left = at (test on) refl left
      where
        at : (c : Bool) → test on ≡ c → cond c None (Some m) ≡ None → (on : Name) × (m.depends ≡ Some on) × (test on ≡ true)
        at true is left = (on, e, is)
        at false is left = cc

-- and one that depends on that is not left
pub message-gone : (test : Name → Bool) (m : Message) (on : Name) → m.depends ≡ Some on → test on ≡ true → message_left test (Some m) ≡ None
message-gone test m on e is = ap (λ (d : Option Name). cond (passes test d) None (Some m)) e ∙ ap (λ c. cond c None (Some m)) is

-- ---- what the loop has found
-- what has gone hangs on the root, and all that it has sent has gone
pub record IsSought (s : Shared) (u root : Name) (turns : List Name) (sends : List Sent) : Type 0 where
  pub turns_hang : (t : Name) → is_among t turns ≡ true → IsTurnOn s root t
  pub sends_hang : (to on : Name) → is_sent sends to on ≡ true → DependsIn s root on
  pub own : TriedFound s u sends
  pub tried : (t : Name) → is_among t turns ≡ true → TriedFound s t sends
  pub held : (t : Name) → is_among t turns ≡ true → HeldFound s t sends

module _ (s : Shared) (u root : Name) (turns : List Name) (sends : List Sent) (sought : IsSought s u root turns sends) where
  -- more is sent, which hangs on the root too
  pub sought-more : (more : List Sent) → ((to on : Name) → is_sent more to on ≡ true → DependsIn s root on) → IsSought s u root turns (sends ++ more)
  sought-more more hang = record {
    turns_hang = sought.turns_hang;
    sends_hang = λ to on is. by to on (or-one (is_sent sends to on) (is_sent more to on) (sym (sent-append sends more to on) ∙ is));
    own = λ tree there to heard. sent-more sends more to tree.root (sought.own tree there to heard);
    tried = λ t is tree there to heard. sent-more sends more to tree.root (sought.tried t is tree there to heard);
    held = λ t is h there to heard. sent-more sends more to t (sought.held t is h there to heard);
  }
    where
      by : (to on : Name) → (is_sent sends to on ≡ true) ⊎ (is_sent more to on ≡ true) → DependsIn s root on
      by to on (inl before) = sought.sends_hang to on before
      by to on (inr now) = hang to on now

  -- one turn more
  pub sought-turn : (v : Name) → IsTurnOn s root v → TriedFound s v sends → HeldFound s v sends → IsSought s u root (v ∷ turns) sends
  sought-turn v hangs tried held = record {
    turns_hang = λ t is. either t (or-one (same_name t v) (is_among t turns) is) (IsTurnOn s root) hangs sought.turns_hang;
    sends_hang = sought.sends_hang;
    own = sought.own;
    tried = λ t is. either t (or-one (same_name t v) (is_among t turns) is) (λ n. TriedFound s n sends) tried sought.tried;
    held = λ t is. either t (or-one (same_name t v) (is_among t turns) is) (λ n. HeldFound s n sends) held sought.held;
  }
    where
      either : (t : Name) → (same_name t v ≡ true) ⊎ (is_among t turns ≡ true) → (P : Name → Type 0) → P v → ((n : Name) → is_among n turns ≡ true → P n) → P t
      either t (inl same) P here others = subst P (sym (same_name-equal t v same)) here
      either t (inr later) P here others = others t later

-- ---- what stands
module _ (s : Shared) (st : Stands s) (going : is_going s.end ≡ true) where
  abbrev w : World
  w = st.world

  -- the turn that runs ahead, as a unit
  live-ahead : (v : Name) (h : Ahead) → named v s.aheads ≡ Some h → (x : LiveUnit) × (w.units v ≡ Some x) × (x.takes ≡ h.takes)
  live-ahead v h leads =
      let a = st.aheads v h leads in
      (live_with (Some h) a.unit, st.seen.units v ∙ ap (option_map (live_with (named v s.aheads))) a.there ∙ ap (λ f. Some (live_with f a.unit)) leads, refl)

  -- a turn whose begin is held took a message of its actor, and is the one that the actor begins next
  pub record BeganBy (v actor : Name) : Type 0 where
    pub state : ActorState
    pub message : Message
    pub there : actor_at s.board actor ≡ Some state
    pub took : named actor s.taken ≡ Some message
    pub called : v ≡ made_by actor state.turns

  pub began-by : (v actor : Name) (h : Ahead) → named v s.aheads ≡ Some h → h.takes ≡ Some actor → BeganBy v actor
  began-by v actor h leads takes = by (live-ahead v h leads)
    where
      took-of : (ms : List Message) (m : Message) (found : Option Message) → one_or_none found ≡ m ∷ ms → found ≡ Some m
      took-of ms m None e = cc
      took-of ms m (Some k) e = let same : k ≡ m = cc in ap (λ q. Some q) same

      at : (x : LiveUnit) → w.units v ≡ Some x → x.takes ≡ Some actor → (found : Option UnitState) → UnitStands s.setup w.actors w.taken v (Some x) found → BeganBy v actor
      at x there is found stands = on found (subst (λ t. LiveStands s.setup w.actors w.taken v x t found) is stands)
        where
          on : (found : Option UnitState) → LiveStands s.setup w.actors w.taken v x (Some actor) found → BeganBy v actor
          on None begun = record {
            state = begun.actor;
            message = begun.message;
            there = sym (st.seen.actors actor) ∙ begun.there;
            took = took-of [] begun.message (named actor s.taken) (sym (st.seen.taken actor) ∙ begun.took);
            called = begun.called;
          }
          on (Some unit) begun = absurd begun

      by : (x : LiveUnit) × (w.units v ≡ Some x) × (x.takes ≡ h.takes) → BeganBy v actor
      by (x, there, same) = at x there (same ∙ takes) (named v st.is_world.state.units) (subst (λ found. UnitStands s.setup w.actors w.taken v found (named v st.is_world.state.units)) there (st.is_world.stands.units v))

  -- a message that is taken is of a turn that runs ahead, whose begin is held
  pub record TakenBy (v actor : Name) : Type 0 where
    pub ahead : Ahead
    pub leads : named v s.aheads ≡ Some ahead
    pub takes : ahead.takes ≡ Some actor
    pub unit : UnitState
    pub stands : state_at s.board v ≡ Some unit

  pub taken-by : (actor : Name) (state : ActorState) (m : Message) → actor_at s.board actor ≡ Some state → named actor s.taken ≡ Some m → TakenBy (made_by actor state.turns) actor
  taken-by actor state m there took =
      let begun : HasBegun w.actors w.units actor = subst (TakenStands w.actors w.units actor) (st.seen.taken actor ∙ ap one_or_none took) (st.is_world.stands.turns actor) in
      let both : Some begun.actor ≡ Some state = sym begun.there ∙ st.seen.actors actor ∙ there in
      let same : begun.actor ≡ state = cc in
      let at : w.units (made_by actor state.turns) ≡ Some begun.turn = ap (λ (k : ActorState). w.units (made_by actor k.turns)) (sym same) ∙ begun.begun in
      by (made_by actor state.turns) begun.turn begun.takes (named (made_by actor state.turns) s.aheads) refl (state_at s.board (made_by actor state.turns)) refl (sym (st.seen.units (made_by actor state.turns)) ∙ at)
    where
      by : (v : Name) (x : LiveUnit) → x.takes ≡ Some actor → (h : Option Ahead) → named v s.aheads ≡ h → (k : Option UnitState) → state_at s.board v ≡ k → option_map (live_with (named v s.aheads)) (state_at s.board v) ≡ Some x → TakenBy v actor
      by v x takes h leads k stands is = on h k leads stands (sym (ap₃ leads stands) ∙ is)
        where
          ap₃ : named v s.aheads ≡ h → state_at s.board v ≡ k → option_map (live_with (named v s.aheads)) (state_at s.board v) ≡ option_map (live_with h) k
          ap₃ p q = ap (λ f. option_map (live_with f) (state_at s.board v)) p ∙ ap (option_map (live_with h)) q

          on : (h : Option Ahead) (k : Option UnitState) → named v s.aheads ≡ h → state_at s.board v ≡ k → option_map (live_with h) k ≡ Some x → TakenBy v actor
          on h None leads stands e = cc
          on None (Some unit) leads stands e =
              let same : live_with None unit ≡ x = cc in
              let no : None ≡ Some actor = ap (λ (q : LiveUnit). q.takes) same ∙ takes in
              cc
          on (Some ahead) (Some unit) leads stands e =
              let same : live_with (Some ahead) unit ≡ x = cc in
              record { ahead = ahead; leads = leads; takes = ap (λ (q : LiveUnit). q.takes) same ∙ takes; unit = unit; stands = stands }
