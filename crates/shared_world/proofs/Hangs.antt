-- What hangs on others: whose a root is, and who has sent what depends on a name.
use Rattle.std.proofs.Common.{◌≡◌, ◌∙◌, true, List, [], ◌∷◌, map, refl, sym, ap, subst}
use Rattle.std.specs.Option.{option_map}
use Rattle.std.specs.Prelude.{Option, None, Some}
use Rattle.actor_mailbox.specs.declared.message.Message.{Message}
use Rattle.serial_model.proofs.runs.LastTurns.{replay-sounder}
use Rattle.serial_model.proofs.runs.Made.{IsMade}
use Rattle.serial_model.specs.declared.actor_state.ActorState.{ActorState}
use Rattle.serial_model.specs.Sends.{effects_to, sends_to}
use Rattle.serial_model.specs.State.{State, UnitState}
use Rattle.shared_world.proofs.Gone.{seen-as}
use Rattle.shared_world.specs.Ahead.{Ahead}
use Rattle.shared_world.specs.Seen.{AttemptSeen, IsSeenAttempt, done_by_root, live_with}
use Rattle.shared_world.specs.Shared.{Shared, is_going, state_at}
use Rattle.shared_world.specs.Stands.{Stands}
use Rattle.task_fork_join.specs.Attempt.{Attempt}
use Rattle.value_core.specs.Named.{Name, made_by, named}
use Rattle.world_model.proofs.lists.Lists.{Each, each-append, each-map}
use Rattle.world_model.proofs.records.Names.{maker, no-unit-of-root, root}
use Rattle.world_model.proofs.records.Sends.{line-each}
use Rattle.world_model.specs.Message.{tentative}
use Rattle.world_model.specs.StandsFor.{HasBegun, TakenStands}
use Rattle.world_model.specs.World as world
use Rattle.world_model.specs.World.{LiveUnit, World, attempt_sends, held_sends, line}

-- something was sent to that actor under that name: a turn of it that runs ahead holds that, or the root of an attempt of it did that
pub data IsSentBy (s : Shared) (on a : Name) : Type 0 where
  held : (h : Ahead) → named on s.aheads ≡ Some h → (sends_to a h.held ≡ [] → ⊥) → IsSentBy s on a
  done : (v : Name) (tree : Attempt) → named v s.attempts ≡ Some tree → tree.root ≡ on → (effects_to a (done_by_root tree) ≡ [] → ⊥) → IsSentBy s on a

-- what holds of each, where there is one, holds of all
each-some : {X Y : Type 0} (P : Y → Type 0) (f : X → Y) (xs : List X) → ((x : X) → (xs ≡ [] → ⊥) → P (f x)) → Each P (map f xs)
each-some P f [] of = tt
each-some P f (x ∷ xs) of = each-map P f (x ∷ xs) (λ y. of y (λ e. cc))

module _ (s : Shared) (st : Stands s) where
  abbrev w : World
  w = st.world

  abbrev now : State
  now = st.is_world.state

  pub made-so : IsMade now
  made-so = (replay-sounder s.setup st.formed w.history now st.is_world.replays).sound.made

  -- the turn of a message that is taken is a unit
  pub turn-there : (a : Name) (actor : ActorState) (m : Message) → w.actors a ≡ Some actor → w.taken a ≡ m ∷ [] → w.units (made_by a actor.turns) ≡ None → ⊥
  turn-there a actor m there took none =
      let t : HasBegun w.actors w.units a = subst (TakenStands w.actors w.units a) took (st.is_world.stands.turns a) in
      let both : Some t.actor ≡ Some actor = sym t.there ∙ there in
      let same : t.actor ≡ actor = cc in
      let no : Some t.turn ≡ None = sym t.begun ∙ ap (λ (o : ActorState). w.units (made_by a o.turns)) same ∙ none in cc

  -- a root is that of one unit's attempt
  pub same-unit : (v k : Name) (tried other : world.Attempt) → w.attempts v ≡ Some tried → w.attempts k ≡ Some other → tried.root ≡ other.root → v ≡ k
  same-unit v k tried other at_v at_k same =
      let of_v = root s.setup w now st.is_world.stands v tried at_v in
      let of_k = root s.setup w now st.is_world.stands k other at_k in
      maker v k of_v.0.now.made of_k.0.now.made (sym of_v.2 ∙ same ∙ of_k.2)

  module _ (going : is_going s.end ≡ true) where
    -- an attempt that is seen is one that is kept
    pub seen-tree : (v : Name) (tried : world.Attempt) → w.attempts v ≡ Some tried → (t : Attempt) × (named v s.attempts ≡ Some t) × IsSeenAttempt s.versions t tried
    seen-tree v tried at = on (named v s.attempts) refl (subst (λ f. AttemptSeen s.versions (named v s.attempts) f) at (st.seen.attempts going v))
      where
        on : (found : Option Attempt) → named v s.attempts ≡ found → AttemptSeen s.versions found (Some tried) → (t : Attempt) × (named v s.attempts ≡ Some t) × IsSeenAttempt s.versions t tried
        on None e saw = absurd saw
        on (Some t) e saw = (t, e, saw)

    -- a root is no unit
    pub no-unit-at : (v : Name) (t : Attempt) → named v s.attempts ≡ Some t → w.units t.root ≡ None
    no-unit-at v t there =
        let seen = seen-as s st going v t there in
        ap w.units (sym seen.is.root) ∙ no-unit-of-root s.setup w now st.is_world.stands made-so v seen.tried seen.there

    -- and whose attempt it is, is one
    pub unit-of : (v : Name) (t : Attempt) → named v s.attempts ≡ Some t → (x : LiveUnit) × (w.units v ≡ Some x)
    unit-of v t there =
        let seen = seen-as s st going v t there in
        let of = root s.setup w now st.is_world.stands v seen.tried seen.there in
        (of.0, of.1)

    -- ---- each message that depends on a name was sent under that
    abbrev IsOf : Name → Message → Type 0
    IsOf a m = (on : Name) → m.depends ≡ Some on → IsSentBy s on a

    held-by : (a v : Name) (h : Option Ahead) (state : Option UnitState) → named v s.aheads ≡ h → Each (IsOf a) (held_sends v a (option_map (live_with h) state))
    held-by a v None None leads = tt
    held-by a v None (Some k) leads = tt
    held-by a v (Some h) None leads = tt
    held-by a v (Some h) (Some k) leads = each-some (IsOf a) (tentative v v) (sends_to a h.held) (λ args some on is. let same : v ≡ on = cc in held h (ap (λ n. named n s.aheads) (sym same) ∙ leads) some)

    done-by : (a v : Name) (found : Option world.Attempt) → w.attempts v ≡ found → Each (IsOf a) (attempt_sends v a found)
    done-by a v None there = tt
    done-by a v (Some tried) there =
        let t = seen-tree v tried there in
        each-some (IsOf a) (tentative v tried.root) (effects_to a tried.effects)
        (λ args some on is. let same : tried.root ≡ on = cc in done v t.0 t.1 (sym t.2.root ∙ same) (λ none. some (ap (effects_to a) t.2.effects ∙ none)))

    pub sent-by : (a : Name) → Each (IsOf a) (line w a)
    sent-by a = line-each s.setup w now st.is_world.stands made-so a (λ v m. IsOf a m) (λ v args on is. cc)
        (λ v. each-append (IsOf a) (held_sends v a (w.units v)) (attempt_sends v a (w.attempts v))
        (subst (λ live. Each (IsOf a) (held_sends v a live)) (sym (st.seen.units v)) (held-by a v (named v s.aheads) (state_at s.board v) refl)) (done-by a v (w.attempts v) refl))
