-- What the names of a world's units, turns and attempts owe to those of the state.
use Rattle.std.proofs.Common.{◌≡◌, ◌∙◌, ℕ, ◌≤◌, ◌<◌, List, [], ◌∷◌, ◌++◌, append_assoc, refl, sym, ap, ap₂, subst, arith}
use Rattle.std.specs.Prelude.{Option, None, Some}
use Rattle.value_core.specs.Named.{Name, named, made_by}
use Rattle.serial_model.proofs.runs.Fresh.{OfUnit, OfActor}
use Rattle.serial_model.proofs.runs.Made.{IsMade}
use Rattle.serial_model.specs.Ahead.{answer_ahead}
use Rattle.serial_model.specs.State.{Setup, UnitState, State}
use Rattle.serial_model.specs.Step.{answered, unit_after}
use Rattle.serial_model.specs.declared.actor_state.ActorState.{ActorState}
use Rattle.serial_model.specs.declared.answer.Answer.TheVariants as answer
use Rattle.serial_model.specs.declared.answer.Answer.{Answer}
use Rattle.serial_model.specs.declared.request.Request.TheVariants as request
use Rattle.serial_model.specs.declared.request.Request.{Request}
use Rattle.world_model.specs.Ahead.{after_answer, ahead, RunsAhead}
use Rattle.actor_mailbox.specs.declared.message.Message.{Message}
use Rattle.world_model.specs.StandsFor.{LiveStands, UnitStands, AttemptStands, StandsFor}
use Rattle.world_model.specs.World.{LiveUnit, Attempt, World}

-- who made a thing is told by its name
pub maker : (p q : Name) (k j : ℕ) → p ++ k ∷ [] ≡ q ++ j ∷ [] → p ≡ q
maker [] [] k j e = refl
maker [] (y ∷ []) k j e = cc
maker [] (y ∷ z ∷ q) k j e = cc
maker (x ∷ []) [] k j e = cc
maker (x ∷ z ∷ p) [] k j e = cc
maker (x ∷ p) (y ∷ q) k j e = let head : x ≡ y = cc in let tail : p ++ k ∷ [] ≡ q ++ j ∷ [] = cc in ap₂ (λ a b. a ∷ b) head (maker p q k j tail)

pub number-of : (p q : Name) (k j : ℕ) → p ++ k ∷ [] ≡ q ++ j ∷ [] → k ≡ j
number-of [] [] k j e = cc
number-of [] (y ∷ []) k j e = cc
number-of [] (y ∷ z ∷ q) k j e = cc
number-of (x ∷ []) [] k j e = cc
number-of (x ∷ z ∷ p) [] k j e = cc
number-of (x ∷ p) (y ∷ q) k j e = let tail : p ++ k ∷ [] ≡ q ++ j ∷ [] = cc in number-of p q k j tail

-- running ahead makes things and takes none back
ahead-grows : (u : Name) (unit : UnitState) (r : Request) (after : UnitState) → ahead u unit r ≡ Some after → unit.made ≤ after.made
ahead-grows u unit r after gives = on (answer_ahead unit.actor (made_by u unit.made) r) gives
  where
    grown : (r : Request) → unit.made ≤ (unit_after unit r).made
    grown (request.Print text) = omega arith
    grown (request.NewRef v) = omega arith
    grown (request.Deref ref) = omega arith
    grown (request.RefSet ref v) = omega arith
    grown (request.Fork body values) = omega arith
    grown (request.Join future) = omega arith
    grown (request.Dosync body values) = omega arith
    grown (request.Spawn behaviour state) = omega arith
    grown (request.Send actor message) = omega arith
    grown (request.Become behaviour state) = omega arith
    grown request.SelfActor = omega arith

    on : (found : Option Answer) → after_answer (unit_after unit r) found ≡ Some after → unit.made ≤ after.made
    on None e = cc
    on (Some (answer.Fault failed)) e = cc
    on (Some (answer.Value v)) e = let same : answered (unit_after unit r) v ≡ after = cc in subst (λ (to : UnitState). unit.made ≤ to.made) same (grown r)

runs-grow : (setup : Setup) (u : Name) (unit : UnitState) (rs : List Request) (now : UnitState) → RunsAhead setup u unit rs now → unit.made ≤ now.made
runs-grow setup u unit [] now same = subst (λ (to : UnitState). unit.made ≤ to.made) same (omega arith)
runs-grow setup u unit (r ∷ rs) now runs =
    let first = ahead-grows u unit r runs.1 runs.2.gives in
    let rest = runs-grow setup u runs.1 rs now runs.3 in omega arith

not-less : (k : ℕ) → ¬ (k < k)
not-less k less = omega arith

-- a unit of the world is the state's, and made no more than it has now, or it is an idle actor's next turn
pub data Whose (w : World) (s : State) (u : Name) (x : LiveUnit) : Type 0 where
  Settled : (unit : UnitState) → named u s.units ≡ Some unit → unit.made ≤ x.now.made → Whose w s u x
  Begun : (a : Name) (actor : ActorState) (message : Message) → named a s.actors ≡ Some actor → u ≡ made_by a actor.turns → w.taken a ≡ message ∷ [] → x.takes ≡ Some a → Whose w s u x

module _ (setup : Setup) (w : World) (s : State) (st : StandsFor setup w s) where
  pub whose : (u : Name) (x : LiveUnit) → w.units u ≡ Some x → Whose w s u x
  whose u x there = on x.takes refl (named u s.units) refl (subst (λ live. UnitStands setup w.actors w.taken u live (named u s.units)) there (st.units u))
    where
      on : (takes : Option Name) → x.takes ≡ takes → (found : Option UnitState) → named u s.units ≡ found → LiveStands setup w.actors w.taken u x takes found → Whose w s u x
      on None e None is stands = absurd stands
      on None e (Some unit) is stands = Settled unit is (subst (λ (from : UnitState). from.made ≤ x.now.made) (sym stands.0) (runs-grow setup u x.from x.held x.now stands.1))
      on (Some a) e None is t = Begun a t.actor t.message (sym (st.actors a) ∙ t.there) t.called t.took e
      on (Some a) e (Some unit) is stands = absurd stands

  root-of : (v : Name) (at : Attempt) (live : Option LiveUnit) → AttemptStands setup v live (Some at) → (x : LiveUnit) × (live ≡ Some x) × (at.root ≡ v ++ x.now.made ∷ [])
  root-of v at None stands = absurd stands
  root-of v at (Some x) stands = (x, refl, stands.root)

  pub root : (v : Name) (at : Attempt) → w.attempts v ≡ Some at → (x : LiveUnit) × (w.units v ≡ Some x) × (at.root ≡ v ++ x.now.made ∷ [])
  root v at is = root-of v at (w.units v) (subst (AttemptStands setup v (w.units v)) is (st.attempts v))

  module _ (made : IsMade s) where
    -- no actor has the name of a unit
    pub not-actor : (v : Name) (x : LiveUnit) (actor : ActorState) → w.units v ≡ Some x → named v s.actors ≡ Some actor → ⊥
    not-actor v x actor there is = on (whose v x there)
      where
        on : Whose w s v x → ⊥
        on (Settled unit found less) = made.apart v unit actor found is
        on (Begun a other message found called took takes) = not-less other.turns (made.fresh a other.turns v actor.turns other.turns [] (OfActor other found refl) (OfActor actor is refl) called)

    -- an attempt has the name of no unit
    pub no-unit-of-root : (v : Name) (at : Attempt) → w.attempts v ≡ Some at → w.units at.root ≡ None
    no-unit-of-root v at is = on (w.units at.root) refl
      where
        of : (x : LiveUnit) × (w.units v ≡ Some x) × (at.root ≡ v ++ x.now.made ∷ [])
        of = root v at is

        none : (y : LiveUnit) → w.units at.root ≡ Some y → ⊥
        none y there = both (whose v of.0 of.1) (whose at.root y there)
          where
            both : Whose w s v of.0 → Whose w s at.root y → ⊥
            both (Settled unit found less) (Settled child there2 less2) =
                let fewer = made.fresh v unit.made at.root child.made of.0.now.made [] (OfUnit unit found refl) (OfUnit child there2 refl) of.2 in not-less unit.made (omega arith)
            both (Begun a actor message found called took takes) (Settled child there2 less2) =
                not-less actor.turns (made.fresh a actor.turns at.root child.made actor.turns (of.0.now.made ∷ []) (OfActor actor found refl) (OfUnit child there2 refl)
                (of.2 ∙ ap (λ n. n ++ of.0.now.made ∷ []) called ∙ append_assoc a (actor.turns ∷ []) (of.0.now.made ∷ [])))
            both other (Begun a actor message found called took takes) =
                not-actor v of.0 actor of.1 (ap (λ n. named n s.actors) (maker v a of.0.now.made actor.turns (sym of.2 ∙ called)) ∙ found)

        on : (found : Option LiveUnit) → w.units at.root ≡ found → found ≡ None
        on None there = refl
        on (Some y) there = absurd (none y there)

    -- an idle actor's next turn is new, and has the name of no attempt
    pub new-turn : (a : Name) (actor : ActorState) → w.actors a ≡ Some actor → w.taken a ≡ [] → w.units (made_by a actor.turns) ≡ None
    new-turn a actor there free = on (w.units (made_by a actor.turns)) refl
      where
        is : named a s.actors ≡ Some actor
        is = sym (st.actors a) ∙ there

        none : (y : LiveUnit) → Whose w s (made_by a actor.turns) y → ⊥
        none y (Settled child found less) = not-less actor.turns (made.fresh a actor.turns (made_by a actor.turns) child.made actor.turns [] (OfActor actor is refl) (OfUnit child found refl) refl)
        none y (Begun b other message found called took takes) = let no : message ∷ [] ≡ [] = sym took ∙ ap w.taken (maker b a other.turns actor.turns (sym called)) ∙ free in cc

        on : (found : Option LiveUnit) → w.units (made_by a actor.turns) ≡ found → found ≡ None
        on None there = refl
        on (Some y) there = absurd (none y (whose (made_by a actor.turns) y there))

    -- what a unit of the state makes next is new
    module _ (u : Name) (x : LiveUnit) (unit : UnitState) (there : w.units u ≡ Some x) (found : named u s.units ≡ Some unit) where
      pub new-actor : named (made_by u unit.made) s.actors ≡ None
      new-actor = on (named (made_by u unit.made) s.actors) refl
        where
          on : (a : Option ActorState) → named (made_by u unit.made) s.actors ≡ a → a ≡ None
          on None is = refl
          on (Some actor) is = absurd (not-less unit.made (made.fresh u unit.made (made_by u unit.made) actor.turns unit.made [] (OfUnit unit found refl) (OfActor actor is refl) refl))

      pub new-unit : w.units (made_by u unit.made) ≡ None
      new-unit = on (w.units (made_by u unit.made)) refl
        where
          none : (y : LiveUnit) → Whose w s (made_by u unit.made) y → ⊥
          none y (Settled child is less) = not-less unit.made (made.fresh u unit.made (made_by u unit.made) child.made unit.made [] (OfUnit unit found refl) (OfUnit child is refl) refl)
          none y (Begun a actor message is called took takes) = made.apart u unit actor found (ap (λ n. named n s.actors) (maker u a unit.made actor.turns called) ∙ is)

          on : (y : Option LiveUnit) → w.units (made_by u unit.made) ≡ y → y ≡ None
          on None is = refl
          on (Some y) is = absurd (none y (whose (made_by u unit.made) y is))
