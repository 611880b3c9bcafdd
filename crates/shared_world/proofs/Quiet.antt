-- A world whose units are all finished: none runs ahead, and nothing is sent that is not settled.
use Rattle.std.proofs.Common.{◌≡◌, ◌∙◌, ◌<◌, ◌≤◌, ℕ, zero, suc, append-nil, cond, List, [], ◌∷◌, ◌++◌, map, refl, sym, ap, ap₂, subst, arith}
use Rattle.std.specs.Option.{IsSome, option_and_then, unwrap_or}
use Rattle.std.specs.Prelude.{None, Option, Some}
use Rattle.actor_mailbox.specs.declared.message.Message.{Message}
use Rattle.actor_mailbox.specs.Messages.{from}
use Rattle.serial_model.specs.Laws.{IsQuiet}
use Rattle.serial_model.specs.declared.request.Request.{Request}
use Rattle.serial_model.specs.State.{Queues, Setup, State, UnitState}
use Rattle.serial_model.specs.Step.{queue_of}
use Rattle.value_core.proofs.NamedLaws.{same_name-itself}
use Rattle.value_core.specs.declared.value.Value.{Value}
use Rattle.value_core.specs.Named.{Name, Named, made_by, named}
use Rattle.world_model.proofs.lists.Lists.{Each}
use Rattle.world_model.proofs.records.Sends.{sends-each}
use Rattle.world_model.specs.Ahead.{RunsAhead}
use Rattle.world_model.specs.IsWorld.{Ranks}
use Rattle.world_model.specs.Message.{settled}
use Rattle.world_model.specs.StandsFor.{AttemptStands, IsBegunTurn, LiveStands, QueueStands, StandsFor, TakenStands, UnitStands}
use Rattle.world_model.specs.World.{Attempt, LiveUnit, World, attempt_sends, held_sends, line, sends}

-- a unit that is finished, and holds nothing
pub record IsDone (x : LiveUnit) : Type 0 where
  pub takes : x.takes ≡ None
  pub held : x.held ≡ []
  pub finished : IsSome x.now.finished

abbrev pub AreDone : World → Type 0
AreDone w = (u : Name) (x : LiveUnit) → w.units u ≡ Some x → IsDone x

-- what is read of empty queues
pub empty-queue : (queues : Queues) → ((actor : Name) (mail : Named (List (List Value))) → named actor queues ≡ Some mail → (sender : Name) (queue : List (List Value)) → named sender mail ≡ Some queue → queue ≡ [])
    → (actor sender : Name) → queue_of queues actor sender ≡ []
empty-queue queues empty actor sender = on (named actor queues) refl
  where
    among : (mail : Named (List (List Value))) → named actor queues ≡ Some mail → (found : Option (List (List Value))) → named sender mail ≡ found → unwrap_or found [] ≡ []
    among mail there None none = refl
    among mail there (Some queue) found = empty actor mail there sender queue found

    on : (found : Option (Named (List (List Value)))) → named actor queues ≡ found → unwrap_or (option_and_then (named sender) found) [] ≡ []
    on None none = refl
    on (Some mail) there = among mail there (named sender mail) refl

-- what has no value has none
pub no-value : {Q : Type 0} (found : Option Value) → found ≡ None → IsSome found → Q
no-value None e is = absurd (cc)
no-value (Some v) e is = absurd (cc)

-- a finished unit has run ahead over nothing
runs-over-none : (setup : Setup) (u : Name) (unit now : UnitState) (held : List Request) → IsSome unit.finished → RunsAhead setup u unit held now → (held ≡ []) × (unit ≡ now)
runs-over-none setup u unit now [] finished runs = (refl, runs)
runs-over-none setup u unit now (r ∷ rs) finished runs = no-value unit.finished runs.2.unfinished finished

module _ (setup : Setup) (w : World) (s : State) (st : StandsFor setup w s) where
  -- only a unit has an attempt, and it is not finished
  no-attempt : (u : Name) → ((x : LiveUnit) → w.units u ≡ Some x → IsSome x.now.finished) → w.attempts u ≡ None
  no-attempt u all = on (w.units u) refl (w.attempts u) (st.attempts u)
    where
      on : (live : Option LiveUnit) → w.units u ≡ live → (found : Option Attempt) → AttemptStands setup u live found → found ≡ None
      on live is None stands = refl
      on None is (Some tried) stands = absurd stands
      on (Some x) is (Some tried) stands = no-value x.now.finished stands.unfinished (all x is)

  -- and sends nothing that is not settled, where it holds nothing
  done-sends : (u a : Name) → ((x : LiveUnit) → w.units u ≡ Some x → (x.held ≡ []) × IsSome x.now.finished) → sends w u a ≡ []
  done-sends u a all = ap₂ (λ xs ys. xs ++ ys) (held (w.units u) refl) (ap (attempt_sends u a) (no-attempt u (λ x is. (all x is).1)))
    where
      held : (live : Option LiveUnit) → w.units u ≡ live → held_sends u a live ≡ []
      held None is = refl
      held (Some x) is = ap (λ rs. held_sends u a (Some (record x { held = rs }))) (all x is).0

  -- ---- where all are finished
  module _ (done : AreDone w) where
    pub no-sends : (u a : Name) → sends w u a ≡ []
    no-sends u a = done-sends u a (λ x is. ((done u x is).held, (done u x is).finished))

    pub no-taken : (a : Name) → w.taken a ≡ []
    no-taken a = on (w.taken a) (st.turns a)
      where
        on : (ms : List Message) → TakenStands w.actors w.units a ms → ms ≡ []
        on [] is = refl
        on (m ∷ ms) is = let no : None ≡ Some a = sym (done (made_by a is.actor.turns) is.turn is.begun).takes ∙ is.takes in cc

    -- the messages of a sender are its queue
    pub line-queue : (a u : Name) → from u (line w a) ≡ map (settled u) (queue_of s.queues a u)
    line-queue a u = whole at.put (front at.put at.kept (sym (no-sends u a) ∙ at.whole)) at.stands
      where
        at : QueueStands u (line w a) (sends w u a) (queue_of s.queues a u)
        at = st.queues a u

        front : (put kept : List Message) → [] ≡ put ++ kept → put ≡ []
        front [] kept is = refl
        front (m ∷ ms) kept is = cc

        whole : (put : List Message) → put ≡ [] → from u (line w a) ≡ map (settled u) (queue_of s.queues a u) ++ put → from u (line w a) ≡ map (settled u) (queue_of s.queues a u)
        whole put none is = is ∙ ap (λ ms. map (settled u) (queue_of s.queues a u) ++ ms) none ∙ append-nil (map (settled u) (queue_of s.queues a u))

    -- a unit of the state is finished
    pub state-done : (u : Name) (unit : UnitState) → named u s.units ≡ Some unit → IsSome unit.finished
    state-done u unit there = on (w.units u) refl (subst (λ found. UnitStands setup w.actors w.taken u (w.units u) found) there (st.units u))
      where
        by : (x : LiveUnit) → IsDone x → (takes : Option Name) → x.takes ≡ takes → LiveStands setup w.actors w.taken u x takes (Some unit) → IsSome unit.finished
        by x is None e stands =
            let runs = subst (λ rs. RunsAhead setup u x.from rs x.now) is.held stands.1 in
            subst (λ (k : UnitState). IsSome k.finished) (sym (stands.0 ∙ runs)) is.finished
        by x is (Some a) e stands = absurd stands

        on : (live : Option LiveUnit) → w.units u ≡ live → UnitStands setup w.actors w.taken u live (Some unit) → IsSome unit.finished
        on None is stands = absurd stands
        on (Some x) is stands = by x (done u x is) x.takes refl stands

  -- ---- where nothing can be done, all are finished
  module _ (ranks : Ranks w.actors w.taken w.attempts) (quiet : IsQuiet s) where
    -- a unit of the state is
    level-done : (u : Name) (x : LiveUnit) → w.units u ≡ Some x → x.takes ≡ None → (x.held ≡ []) × IsSome x.now.finished
    level-done u x there definite = on x.takes definite (named u s.units) refl (subst (λ live. UnitStands setup w.actors w.taken u live (named u s.units)) there (st.units u))
      where
        on : (takes : Option Name) → takes ≡ None → (found : Option UnitState) → named u s.units ≡ found → LiveStands setup w.actors w.taken u x takes found → (x.held ≡ []) × IsSome x.now.finished
        on None e None is stands = absurd stands
        on None e (Some unit) is stands =
            let value = subst (λ (k : UnitState). IsSome k.finished) stands.0 (quiet.units u unit is) in
            let over = runs-over-none setup u x.from x.now x.held value stands.1 in
            (over.0, subst (λ (k : UnitState). IsSome k.finished) over.1 value)
        on (Some a) e found is stands = cc

    -- what a message depends on does not rank below its sender
    record DependsAbove (v : Name) (m : Message) : Type 0 where
      on : Name
      depends : m.depends ≡ Some on
      above : ranks.rank v ≤ ranks.rank on

    -- a turn whose begin is held took a message of such a turn, which ranks below it
    record TookOfTurn (u : Name) : Type 0 where
      sender : Name
      unit : LiveUnit
      there : w.units sender ≡ Some unit
      actor : Name
      takes : unit.takes ≡ Some actor
      below : ranks.rank sender < ranks.rank u

    took-of-turn : (u a : Name) (x : LiveUnit) → IsBegunTurn setup w.actors w.taken u x a → TookOfTurn u
    took-of-turn u a x t = on (w.units v) refl
      where
        v : Name
        v = t.message.sender

        at : QueueStands v (line w a) (sends w v a) (queue_of s.queues a v)
        at = st.queues a v

        -- its first message is one that its sender holds, or the sender's attempt
        first : sends w v a ≡ (t.message ∷ from v (w.mails a)) ++ at.kept
        first =
            at.whole
            ∙ ap (λ put. put ++ at.kept)
            (ap (λ queue. map (settled v) queue ++ at.put) (sym (empty-queue s.queues quiet.queues a v))
            ∙ sym at.stands
            ∙ ap (λ taken. from v (taken ++ w.mails a)) t.took
            ∙ ap (λ c. cond c (t.message ∷ from v (w.mails a)) (from v (w.mails a))) (same_name-itself v))

        above : DependsAbove v t.message
        above = (subst (Each (DependsAbove v)) first (sends-each w v a (DependsAbove v)
            (λ y args is. record { on = v; depends = refl; above = omega arith })
            (λ tried args is. let less = ranks.attempts_above v tried is in record { on = tried.root; depends = refl; above = omega (arith, less) }))).0

        less : ranks.rank v < ranks.rank u
        less =
            let below = ranks.turns a t.actor t.message above.on t.there t.took above.depends in
            let least = above.above in
            subst (λ n. ranks.rank v < ranks.rank n) (sym t.called) (omega (arith, below, least))

        -- so its sender does send
        nothing : sends w v a ≡ [] → TookOfTurn u
        nothing none = let no : [] ≡ (t.message ∷ from v (w.mails a)) ++ at.kept = sym none ∙ first in cc

        by : (y : LiveUnit) → w.units v ≡ Some y → (takes : Option Name) → y.takes ≡ takes → TookOfTurn u
        by y is None e = nothing (done-sends v a (λ z there. level-done v z there (let both : Some z ≡ Some y = sym there ∙ is in let same : z ≡ y = cc in ap (λ (k : LiveUnit). k.takes) same ∙ e)))
        by y is (Some b) e = record { sender = v; unit = y; there = is; actor = b; takes = e; below = less }

        on : (live : Option LiveUnit) → w.units v ≡ live → TookOfTurn u
        on (Some y) is = by y is y.takes refl
        on None is = nothing (done-sends v a (λ y there. let no : None ≡ Some y = sym is ∙ there in cc))

    begun-took : (u a : Name) (x : LiveUnit) → w.units u ≡ Some x → x.takes ≡ Some a → TookOfTurn u
    begun-took u a x there takes = on x.takes takes (named u s.units) (subst (λ live. UnitStands setup w.actors w.taken u live (named u s.units)) there (st.units u))
      where
        on : (takes : Option Name) → takes ≡ Some a → (found : Option UnitState) → LiveStands setup w.actors w.taken u x takes found → TookOfTurn u
        on None e found stands = cc
        on (Some b) e (Some unit) stands = absurd stands
        on (Some b) e None stands = took-of-turn u b x stands

    none-begun : (n : ℕ) (u a : Name) (x : LiveUnit) → ranks.rank u < n → w.units u ≡ Some x → x.takes ≡ Some a → ⊥
    none-begun zero u a x less there takes = omega (arith, less)
    none-begun (suc n) u a x less there takes =
        let took = begun-took u a x there takes in
        let below = took.below in none-begun n took.sender took.actor took.unit (omega (arith, less, below)) took.there took.takes

    pub quiet-done : AreDone w
    quiet-done u x there = by x.takes refl
      where
        by : (takes : Option Name) → x.takes ≡ takes → IsDone x
        by None e = let level = level-done u x there e in record { takes = e; held = level.0; finished = level.1 }
        by (Some a) e = absurd (none-begun (suc (ranks.rank u)) u a x (omega arith) there e)
