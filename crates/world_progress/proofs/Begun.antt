-- Where all units of the state are finished: with a turn whose begin is held, or with one on which it hangs, something can be done.
use Rattle.std.proofs.Common.{◌≡◌, ◌∙◌, ◌<◌, ◌≤◌, ℕ, zero, suc, true, cond, List, [], ◌∷◌, ◌++◌, map, refl, sym, ap, ap₂, subst, arith}
use Rattle.std.specs.Option.{IsSome, option_map}
use Rattle.std.specs.Prelude.{Option, None, Some, is_some, not}
use Rattle.actor_mailbox.specs.declared.message.Message.{Message}
use Rattle.actor_mailbox.specs.Messages.{from}
use Rattle.serial_model.specs.State.{State, UnitState}
use Rattle.serial_model.specs.Step.{queue_of}
use Rattle.shared_world.specs.Ahead.{Ahead}
use Rattle.shared_world.specs.Marks.{AreMarked}
use Rattle.shared_world.specs.rows.Leading.{can_settle, is_definite, is_settled, settles_next}
use Rattle.shared_world.specs.Seen.{live_with, one_or_none}
use Rattle.shared_world.specs.Shared.{Shared, state_at}
use Rattle.shared_world.specs.Stands.{Stands}
use Rattle.value_core.proofs.NamedLaws.{Each, same_name-itself}
use Rattle.value_core.specs.declared.value.Value.{Value}
use Rattle.value_core.specs.Named.{Name, named}
use Rattle.world_model.proofs.lists.Lists as list
use Rattle.world_model.proofs.records.Sends.{sends-each}
use Rattle.world_model.specs.Message.{settled}
use Rattle.world_model.specs.StandsFor.{AttemptStands, IsBegunTurn, LiveStands, QueueStands, UnitStands}
use Rattle.world_model.specs.World.{Attempt, LiveUnit, World, attempt_sends, held_sends, line, sends}
use Rattle.world_progress.proofs.Now.{no-value, now, over-nothing, stands}
use Rattle.world_progress.proofs.Units.{settles-works}
use Rattle.world_progress.specs.Progress.{HasWork}

-- the unit is a turn whose begin is held
pub record HoldsBegin (w : World) (u : Name) : Type 0 where
  pub turn : LiveUnit
  pub there : w.units u ≡ Some turn
  pub actor : Name
  pub takes : turn.takes ≡ Some actor

module _ (s : Shared) (st : Stands s) (over : Each (λ u (unit : UnitState). IsSome unit.finished) (now s st).units) where
  abbrev w : World
  w = st.world

  abbrev N : State
  N = now s st

  -- a unit whose begin is settled is finished, and holds nothing
  pub level-done : (u : Name) (x : LiveUnit) → w.units u ≡ Some x → x.takes ≡ None → (x.held ≡ []) × IsSome x.now.finished
  level-done u x there level =
      on x.takes level (named u N.units) refl (subst (λ live. UnitStands s.setup w.actors w.taken u live (named u N.units)) there ((stands s st).units u))
    where
      on : (takes : Option Name) → takes ≡ None → (found : Option UnitState) → named u N.units ≡ found → LiveStands s.setup w.actors w.taken u x takes found → (x.held ≡ []) × IsSome x.now.finished
      on None e None is live = absurd live
      on None e (Some unit) is live =
          let value = subst (λ (k : UnitState). IsSome k.finished) live.0 (over u unit is) in
          let done = over-nothing s.setup u x.from x.now x.held value live.1 in
          (done.0, subst (λ (k : UnitState). IsSome k.finished) done.1 value)
      on (Some a) e found is live = cc

  -- only a unit has an attempt, and it is not finished
  no-attempt : (u : Name) → ((x : LiveUnit) → w.units u ≡ Some x → IsSome x.now.finished) → w.attempts u ≡ None
  no-attempt u all = on (w.units u) refl (w.attempts u) ((stands s st).attempts u)
    where
      on : (live : Option LiveUnit) → w.units u ≡ live → (found : Option Attempt) → AttemptStands s.setup u live found → found ≡ None
      on live is None tries = refl
      on None is (Some tried) tries = absurd tries
      on (Some x) is (Some tried) tries = no-value x.now.finished tries.unfinished (all x is)

  -- one that is finished and holds nothing sends nothing that is not settled
  done-sends : (u a : Name) → ((x : LiveUnit) → w.units u ≡ Some x → (x.held ≡ []) × IsSome x.now.finished) → sends w u a ≡ []
  done-sends u a all = ap₂ (λ xs ys. xs ++ ys) (held (w.units u) refl) (ap (attempt_sends u a) (no-attempt u (λ x is. (all x is).1)))
    where
      held : (live : Option LiveUnit) → w.units u ≡ live → held_sends u a live ≡ []
      held None is = refl
      held (Some x) is = ap (λ rs. held_sends u a (Some (record x { held = rs }))) (all x is).0

  -- so who sends something that is not settled is a turn whose begin is held
  pub sender-begun : (v a : Name) → (sends w v a ≡ [] → ⊥) → HoldsBegin w v
  sender-begun v a some = on (w.units v) refl
    where
      by : (y : LiveUnit) → w.units v ≡ Some y → (takes : Option Name) → y.takes ≡ takes → HoldsBegin w v
      by y is None e = absurd (some (done-sends v a (λ z there.
          let both : Some z ≡ Some y = sym there ∙ is in
          let same : z ≡ y = cc in level-done v z there (ap (λ (k : LiveUnit). k.takes) same ∙ e))))
      by y is (Some b) e = record { turn = y; there = is; actor = b; takes = e }

      on : (live : Option LiveUnit) → w.units v ≡ live → HoldsBegin w v
      on None is = absurd (some (done-sends v a (λ y there. let no : None ≡ Some y = sym is ∙ there in cc)))
      on (Some y) is = by y is y.takes refl

  -- ---- what it took, and how it runs ahead
  module _ (u : Name) (b : HoldsBegin w u) where
    -- it took a message of its actor's
    begun : IsBegunTurn s.setup w.actors w.taken u b.turn b.actor
    begun = on b.turn.takes b.takes (named u N.units) (subst (λ live. UnitStands s.setup w.actors w.taken u live (named u N.units)) b.there ((stands s st).units u))
      where
        on : (takes : Option Name) → takes ≡ Some b.actor → (found : Option UnitState) → LiveStands s.setup w.actors w.taken u b.turn takes found → IsBegunTurn s.setup w.actors w.taken u b.turn b.actor
        on None e found live = cc
        on (Some a) e (Some unit) live = absurd live
        on (Some a) e None live = let same : a ≡ b.actor = cc in subst (IsBegunTurn s.setup w.actors w.taken u b.turn) same live

    -- it is kept as one that runs ahead, with that actor
    record LeadsWith : Type 0 where
      ahead : Ahead
      leads : named u s.aheads ≡ Some ahead
      takes : ahead.takes ≡ Some b.actor

    -- so it is
    leads-with : LeadsWith
    leads-with = on (state_at s.board u) refl
      where
        by : (k : UnitState) → (found : Option Ahead) → named u s.aheads ≡ found → live_with found k ≡ b.turn → LeadsWith
        by k None is same = let no : None ≡ Some b.actor = ap (λ (y : LiveUnit). y.takes) same ∙ b.takes in cc
        by k (Some h) is same = record { ahead = h; leads = is; takes = ap (λ (y : LiveUnit). y.takes) same ∙ b.takes }

        on : (found : Option UnitState) → state_at s.board u ≡ found → LeadsWith
        on None is = let no : None ≡ Some b.turn = sym (st.seen.units u ∙ ap (option_map (live_with (named u s.aheads))) is) ∙ b.there in cc
        on (Some k) is =
            let both : Some (live_with (named u s.aheads) k) ≡ Some b.turn = sym (st.seen.units u ∙ ap (option_map (live_with (named u s.aheads))) is) ∙ b.there in by k (named u s.aheads) refl (cc)

    -- where its message is settled, so can be what it holds
    definite-settles : begun.message.depends ≡ None → can_settle s u ≡ true
    definite-settles settles =
        ap (settles_next s.taken) leads-with.leads ∙ ap (is_definite s.taken) leads-with.takes
        ∙ on (named b.actor s.taken) refl
      where
        on : (found : Option Message) → named b.actor s.taken ≡ found → is_settled (named b.actor s.taken) ≡ true
        on None is = let no : [] ≡ begun.message ∷ [] = sym (st.seen.taken b.actor ∙ ap one_or_none is) ∙ begun.took in cc
        on (Some m) is =
            let both : m ∷ [] ≡ begun.message ∷ [] = sym (st.seen.taken b.actor ∙ ap one_or_none is) ∙ begun.took in
            let same : m ≡ begun.message = cc in
            ap is_settled is ∙ ap (λ (x : Message). not (is_some x.depends)) same ∙ ap (λ d. not (is_some d)) settles

    -- and something can be done with it
    definite-works : AreMarked s → begun.message.depends ≡ None → HasWork s
    definite-works marks settles =
        let h = leads-with in
        let far = st.aheads u h.ahead h.leads in
        settles-works s marks u far.unit far.there far.unfinished h.ahead h.leads (definite-settles settles)

    -- what a message depends on does not rank below its sender
    record DependsAbove (v : Name) (m : Message) : Type 0 where
      on : Name
      depends : m.depends ≡ Some on
      above : st.is_world.ranks.rank v ≤ st.is_world.ranks.rank on

    -- a turn whose begin is held, and that ranks below this one
    record Below : Type 0 where
      sender : Name
      begun : HoldsBegin w sender
      below : st.is_world.ranks.rank sender < st.is_world.ranks.rank u

    -- else it hangs on a turn whose begin is held
    tentative-below : (d : Name) → begun.message.depends ≡ Some d → Below
    tentative-below d depends = record { sender = v; begun = sender-begun v b.actor (λ none. nothing (sym none ∙ first)); below = less }
      where
        v : Name
        v = begun.message.sender

        rest : List Message
        rest = from v (w.mails b.actor)

        at : QueueStands v (line w b.actor) (sends w v b.actor) (queue_of N.queues b.actor v)
        at = (stands s st).queues b.actor v

        lined : begun.message ∷ rest ≡ map (settled v) (queue_of N.queues b.actor v) ++ at.put
        lined = sym (ap (λ c. cond c (begun.message ∷ rest) rest) (same_name-itself v)) ∙ sym (ap (λ taken. from v (taken ++ w.mails b.actor)) begun.took) ∙ at.stands

        -- no message before it is settled
        unqueued : (queue : List (List Value)) → begun.message ∷ rest ≡ map (settled v) queue ++ at.put → begun.message ∷ rest ≡ at.put
        unqueued [] e = e
        unqueued (q ∷ qs) e = let same : begun.message ≡ settled v q = cc in let no : Some d ≡ None = sym depends ∙ ap (λ (m : Message). m.depends) same in cc

        first : sends w v b.actor ≡ (begun.message ∷ rest) ++ at.kept
        first = at.whole ∙ ap (λ put. put ++ at.kept) (sym (unqueued (queue_of N.queues b.actor v) lined))

        nothing : [] ≡ begun.message ∷ (rest ++ at.kept) → ⊥
        nothing e = cc

        above : DependsAbove v begun.message
        above = (subst (list.Each (DependsAbove v)) first (sends-each w v b.actor (DependsAbove v)
            (λ y args is. record { on = v; depends = refl; above = omega arith })
            (λ tried args is. let less = st.is_world.ranks.attempts_above v tried is in record { on = tried.root; depends = refl; above = omega (arith, less) }))).0

        less : st.is_world.ranks.rank v < st.is_world.ranks.rank u
        less =
            let below = st.is_world.ranks.turns b.actor begun.actor begun.message above.on begun.there begun.took above.depends in
            let least = above.above in
            subst (λ n. st.is_world.ranks.rank v < st.is_world.ranks.rank n) (sym begun.called) (omega (arith, below, least))

  -- ---- along the ranks
  begun-works-below : AreMarked s → (bound : ℕ) (u : Name) → HoldsBegin w u → st.is_world.ranks.rank u < bound → HasWork s
  begun-works-below marks zero u b less = absurd (omega (arith, less))
  begun-works-below marks (suc bound) u b less = by (begun u b).message.depends refl (λ v c fewer. begun-works-below marks bound v c (omega (arith, less, fewer)))
    where
      by : (depends : Option Name) → (begun u b).message.depends ≡ depends → ((v : Name) → HoldsBegin w v → st.is_world.ranks.rank v < st.is_world.ranks.rank u → HasWork s) → HasWork s
      by None is rest = definite-works u b marks is
      by (Some d) is rest = let low = tentative-below u b d is in rest low.sender low.begun low.below

  -- so with each such turn, or with one on which it hangs
  pub begun-works : AreMarked s → (u : Name) → HoldsBegin w u → HasWork s
  begun-works marks u b = begun-works-below marks (suc (st.is_world.ranks.rank u)) u b (omega arith)
