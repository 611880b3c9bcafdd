-- The names that units and actors make are fresh, no name is both a unit's and an actor's, and a busy actor has a turn that is not finished.
use Rattle.std.proofs.Common.{◌≡◌, ◌∙◌, ◌⊎◌, inl, inr, ℕ, suc, ◌<◌, true, false, List, [], ◌∷◌, ◌++◌, append_assoc, refl, sym, ap, subst, arith}
use Rattle.std.specs.Prelude.{None, Some}
use Rattle.serial_model.specs.declared.actor_state.ActorState.{ActorState}
use Rattle.value_core.specs.Named.{Name, Named, named, with_named, made_by}
use Rattle.serial_model.specs.State.{UnitState}
use Rattle.serial_model.proofs.Early.{Branch, Here, Under, Above, branch, not-below-itself}
use Rattle.value_core.proofs.NamedLaws.{found_apart, same_or_not, named-here, named-other}

-- a unit or an actor of that name makes its k-th thing next
pub data Makes (units : Named UnitState) (actors : Named ActorState) (name : Name) (k : ℕ) : Type 0 where
  OfUnit : (unit : UnitState) → named name units ≡ Some unit → unit.made ≡ k → Makes units actors name k
  OfActor : (actor : ActorState) → named name actors ≡ Some actor → actor.turns ≡ k → Makes units actors name k

-- whatever is below another one is below something that it has made
abbrev pub AreFresh : (Name → ℕ → Type 0) → Type 0
AreFresh C = (x : Name) (c : ℕ) (n : Name) (d j : ℕ) (q : List ℕ) → C x c → C n d → n ≡ x ++ j ∷ q → j < c

-- what changes where p makes its k-th thing: p itself, and new things below that
pub data Change (C : Name → ℕ → Type 0) (N : Name → Type 0) (p : Name) (k : ℕ) (x : Name) (c : ℕ) : Type 0 where
  Old : C x c → ¬ (x ≡ p) → Change C N p k x c
  Itself : x ≡ p → c ≡ suc k → Change C N p k x c
  New : N x → c ≡ 0 → Change C N p k x c

-- new things are below the k-th thing that p makes, and none is below another
pub record AreNew (N : Name → Type 0) (p : Name) (k : ℕ) : Type 0 where
  pub below : (x : Name) → N x → (q : List ℕ) × (x ≡ p ++ k ∷ q)
  pub apart : (x y : Name) (j : ℕ) (q : List ℕ) → N x → N y → ¬ (y ≡ x ++ j ∷ q)

under_again : (p r : Name) (k j : ℕ) (q : List ℕ) → (p ++ k ∷ r) ++ j ∷ q ≡ p ++ k ∷ (r ++ j ∷ q)
under_again p r k j q = append_assoc p (k ∷ r) (j ∷ q)

not_less : (k : ℕ) → ¬ (k < k)
not_less k less = omega arith

pub fresh-step : (C D : Name → ℕ → Type 0) (N : Name → Type 0) (p : Name) (k : ℕ) → AreFresh C → C p k → ((x : Name) (c : ℕ) → D x c → Change C N p k x c) → AreNew N p k → AreFresh D
fresh-step C D N p k fresh maker change new x c n d j q made below is = on (change x c made) (change n d below)
  where
    old_new : C x c → ¬ (x ≡ p) → (r : List ℕ) → n ≡ p ++ k ∷ r → j < c
    old_new old apart r under = at (branch p k r x j q (sym under ∙ is))
      where
        at : Branch p k x j → j < c
        at (Here same number) = absurd (apart (sym same))
        at (Under r over) = fresh x c p k j r old maker over
        at (Above r over) = absurd (not_less k (fresh p k x c k r maker old over))

    itself_new : x ≡ p → c ≡ suc k → (r : List ℕ) → n ≡ p ++ k ∷ r → j < c
    itself_new same count r under = at (branch p k r p j q (sym under ∙ is ∙ ap (λ m. m ++ j ∷ q) same))
      where
        at : Branch p k p j → j < c
        at (Here same number) = omega arith
        at (Under r over) = absurd (not-below-itself p j r over)
        at (Above r over) = absurd (not-below-itself p k r over)

    -- nothing old is below a new thing
    new_old : (r : List ℕ) → x ≡ p ++ k ∷ r → (e : ℕ) → C n e → j < c
    new_old r under e old = absurd (not_less k (fresh p k n e k (r ++ j ∷ q) maker old (is ∙ ap (λ m. m ++ j ∷ q) under ∙ under_again p r k j q)))

    on : Change C N p k x c → Change C N p k n d → j < c
    on (Old old apart) (Old other far) = fresh x c n d j q old other is
    on (Old old apart) (Itself same count) = fresh x c p k j q old maker (sym same ∙ is)
    on (Old old apart) (New fresh_one count) = let under = new.below n fresh_one in old_new old apart under.0 under.1
    on (Itself same count) (Old other far) = let less = fresh p k n d j q maker other (is ∙ ap (λ m. m ++ j ∷ q) same) in omega arith
    on (Itself same count) (Itself also count2) = absurd (not-below-itself p j q (sym also ∙ is ∙ ap (λ m. m ++ j ∷ q) same))
    on (Itself same count) (New fresh_one count2) = let under = new.below n fresh_one in itself_new same count under.0 under.1
    on (New fresh_one count) (Old other far) = let under = new.below x fresh_one in new_old under.0 under.1 d other
    on (New fresh_one count) (Itself same count2) = let under = new.below x fresh_one in new_old under.0 under.1 k (subst (λ m. C m k) (sym same) maker)
    on (New fresh_one count) (New other count2) = absurd (new.apart x n j q fresh_one other is)

-- nothing new was there
pub new-not-old : (C : Name → ℕ → Type 0) (N : Name → Type 0) (p : Name) (k : ℕ) → AreFresh C → C p k → AreNew N p k → (x : Name) (c : ℕ) → N x → ¬ (C x c)
new-not-old C N p k fresh maker new x c fresh_one old = let under = new.below x fresh_one in not_less k (fresh p k x c k under.0 maker old under.1)

-- one new thing
pub one-new : (p : Name) (k : ℕ) → AreNew (λ x. x ≡ made_by p k) p k
one-new p k = record {
  below = λ x same. ([], same);
  apart = λ x y j q first second under. not-below-itself x j q (first ∙ sym second ∙ under);
}

-- an actor's turn that is not finished
pub record HasTurn (units : Named UnitState) (actor : Name) : Type 0 where
  pub number : ℕ
  pub unit : UnitState
  pub there : named (made_by actor number) units ≡ Some unit
  pub unfinished : unit.finished ≡ None
  pub of : unit.actor ≡ Some actor

pub record AreMade (units : Named UnitState) (actors : Named ActorState) : Type 0 where
  pub fresh : AreFresh (Makes units actors)
  pub apart : (name : Name) (unit : UnitState) (actor : ActorState) → named name units ≡ Some unit → named name actors ≡ Some actor → ⊥
  pub busy : (name : Name) (actor : ActorState) → named name actors ≡ Some actor → actor.busy ≡ true → HasTurn units name

-- ---- a unit goes on, and nothing is made
pub record GoesOn (unit after : UnitState) : Type 0 where
  pub made : after.made ≡ unit.made
  pub finished : after.finished ≡ unit.finished
  pub actor : after.actor ≡ unit.actor

module _ (units : Named UnitState) (actors : Named ActorState) (are : AreMade units actors) (name : Name) (unit : UnitState) (there : named name units ≡ Some unit) where
  same_unit : (u : UnitState) → named name units ≡ Some u → u ≡ unit
  same_unit u is = cc

  -- a turn that is not the unit's own, or is carried on, stays
  turn-stays : (after : UnitState) → after.finished ≡ unit.finished → after.actor ≡ unit.actor → (actor : Name) → HasTurn units actor → HasTurn (with_named units name after) actor
  turn-stays after finished of_actor actor turn = on (same_or_not (made_by actor turn.number) name)
    where
      on : (made_by actor turn.number ≡ name) ⊎ ¬ (made_by actor turn.number ≡ name) → HasTurn (with_named units name after) actor
      on (inl same) =
          let its : turn.unit ≡ unit = same_unit turn.unit (subst (λ n. named n units ≡ Some turn.unit) same turn.there) in
          record {
            number = turn.number;
            unit = after;
            there = subst (λ n. named n (with_named units name after) ≡ Some after) (sym same) (named-here name after units);
            unfinished = finished ∙ sym (ap (λ u. u.finished) its) ∙ turn.unfinished;
            of = of_actor ∙ sym (ap (λ u. u.actor) its) ∙ turn.of;
          }
      on (inr other) = record {
        number = turn.number;
        unit = turn.unit;
        there = named-other (made_by actor turn.number) name after units other ∙ turn.there;
        unfinished = turn.unfinished;
        of = turn.of;
      }

  pub goes-on : (after : UnitState) → GoesOn unit after → AreMade (with_named units name after) actors
  goes-on after on_it = record {
    fresh = λ x c n d j q made below is. are.fresh x c n d j q (back x c made) (back n d below) is;
    apart = λ n u a unit_there actor_there. both n u a (found_apart n name after u units unit_there) actor_there;
    busy = λ n a actor_there is_busy. turn-stays after on_it.finished on_it.actor n (are.busy n a actor_there is_busy);
  }
    where
      back : (x : Name) (c : ℕ) → Makes (with_named units name after) actors x c → Makes units actors x c
      back x c (OfActor a is count) = OfActor a is count
      back x c (OfUnit u is count) = at (found_apart x name after u units is)
        where
          at : ((x ≡ name) × (u ≡ after)) ⊎ (¬ (x ≡ name) × (named x units ≡ Some u)) → Makes units actors x c
          at (inl same) = OfUnit unit (ap (λ n. named n units) same.0 ∙ there) (sym on_it.made ∙ sym (ap (λ u. u.made) same.1) ∙ count)
          at (inr other) = OfUnit u other.1 count

      both : (n : Name) (u : UnitState) (a : ActorState) → ((n ≡ name) × (u ≡ after)) ⊎ (¬ (n ≡ name) × (named n units ≡ Some u)) → named n actors ≡ Some a → ⊥
      both n u a (inl same) is_actor = are.apart n unit a (ap (λ n. named n units) same.0 ∙ there) is_actor
      both n u a (inr other) is_actor = are.apart n u a other.1 is_actor

  -- ---- a unit makes its next thing
  -- what stands in the maps after that: the unit itself, what was there, and new units and idle actors
  pub record HaveMade (N M : Name → Type 0) (units2 : Named UnitState) (actors2 : Named ActorState) (after : UnitState) : Type 0 where
    pub made : after.made ≡ suc unit.made
    pub finished : after.finished ≡ unit.finished
    pub actor : after.actor ≡ unit.actor
    pub itself : named name units2 ≡ Some after
    pub kept : (x : Name) (u : UnitState) → ¬ (x ≡ name) → ¬ (N x) → named x units ≡ Some u → named x units2 ≡ Some u
    pub units_from : (x : Name) (u : UnitState) → ¬ (x ≡ name) → named x units2 ≡ Some u → (named x units ≡ Some u) ⊎ (N x × (u.made ≡ 0))
    pub actors_from : (x : Name) (a : ActorState) → named x actors2 ≡ Some a → (named x actors ≡ Some a) ⊎ (M x × (a.turns ≡ 0) × (a.busy ≡ false))
    pub new : AreNew (λ x. N x ⊎ M x) name unit.made
    pub disjoint : (x : Name) → N x → M x → ⊥

  pub makes-one : (N M : Name → Type 0) (units2 : Named UnitState) (actors2 : Named ActorState) (after : UnitState) → HaveMade N M units2 actors2 after → AreMade units2 actors2
  makes-one N M units2 actors2 after have = record {
    fresh = fresh-step (Makes units actors) (Makes units2 actors2) (λ x. N x ⊎ M x) name unit.made are.fresh maker change have.new;
    apart = λ n u a unit_there actor_there. both n u a unit_there (have.actors_from n a actor_there) (same_or_not n name);
    busy = λ n a actor_there is_busy. turn n a is_busy (have.actors_from n a actor_there);
  }
    where
      maker : Makes units actors name unit.made
      maker = OfUnit unit there refl

      none_old : (x : Name) (c : ℕ) → N x ⊎ M x → ¬ (Makes units actors x c)
      none_old x c fresh_one = new-not-old (Makes units actors) (λ x. N x ⊎ M x) name unit.made are.fresh maker have.new x c fresh_one

      change : (x : Name) (c : ℕ) → Makes units2 actors2 x c → Change (Makes units actors) (λ x. N x ⊎ M x) name unit.made x c
      change x c (OfUnit u is count) = at (same_or_not x name)
        where
          from : ¬ (x ≡ name) → (named x units ≡ Some u) ⊎ (N x × (u.made ≡ 0)) → Change (Makes units actors) (λ x. N x ⊎ M x) name unit.made x c
          from other (inl old) = Old (OfUnit u old count) other
          from other (inr fresh_one) = New (inl fresh_one.0) (sym count ∙ fresh_one.1)

          at : (x ≡ name) ⊎ ¬ (x ≡ name) → Change (Makes units actors) (λ x. N x ⊎ M x) name unit.made x c
          at (inl same) =
              let found : named name units2 ≡ Some u = subst (λ n. named n units2 ≡ Some u) same is in
              let its = have.itself in
              let equal : u ≡ after = cc in Itself same (sym count ∙ ap (λ u. u.made) equal ∙ have.made)
          at (inr other) = from other (have.units_from x u other is)
      change x c (OfActor a is count) = at (have.actors_from x a is)
        where
          not_it : named x actors ≡ Some a → ¬ (x ≡ name)
          not_it old same = are.apart x unit a (ap (λ n. named n units) same ∙ there) old

          at : (named x actors ≡ Some a) ⊎ (M x × (a.turns ≡ 0) × (a.busy ≡ false)) → Change (Makes units actors) (λ x. N x ⊎ M x) name unit.made x c
          at (inl old) = Old (OfActor a old count) (not_it old)
          at (inr fresh_one) = New (inr fresh_one.0) (sym count ∙ fresh_one.1)

      both : (n : Name) (u : UnitState) (a : ActorState) → named n units2 ≡ Some u → (named n actors ≡ Some a) ⊎ (M n × (a.turns ≡ 0) × (a.busy ≡ false)) → (n ≡ name) ⊎ ¬ (n ≡ name) → ⊥
      both n u a is (inl old) (inl same) = are.apart n unit a (ap (λ n. named n units) same ∙ there) old
      both n u a is (inr fresh_one) (inl same) = none_old n unit.made (inr fresh_one.0) (subst (λ m. Makes units actors m unit.made) (sym same) maker)
      both n u a is from (inr other) = split (have.units_from n u other is) from
        where
          split : (named n units ≡ Some u) ⊎ (N n × (u.made ≡ 0)) → (named n actors ≡ Some a) ⊎ (M n × (a.turns ≡ 0) × (a.busy ≡ false)) → ⊥
          split (inl unit_old) (inl old) = are.apart n u a unit_old old
          split (inl unit_old) (inr fresh_one) = none_old n u.made (inr fresh_one.0) (OfUnit u unit_old refl)
          split (inr unit_new) (inl old) = none_old n a.turns (inl unit_new.0) (OfActor a old refl)
          split (inr unit_new) (inr fresh_one) = have.disjoint n unit_new.0 fresh_one.0

      turn : (n : Name) (a : ActorState) → a.busy ≡ true → (named n actors ≡ Some a) ⊎ (M n × (a.turns ≡ 0) × (a.busy ≡ false)) → HasTurn units2 n
      turn n a is_busy (inr fresh_one) = let idle = fresh_one.2 in cc
      turn n a is_busy (inl old) = at (are.busy n a old is_busy) (same_or_not (made_by n (are.busy n a old is_busy).number) name)
        where
          at : (t : HasTurn units n) → (made_by n t.number ≡ name) ⊎ ¬ (made_by n t.number ≡ name) → HasTurn units2 n
          at t (inl same) =
              let its : t.unit ≡ unit = same_unit t.unit (subst (λ n. named n units ≡ Some t.unit) same t.there) in
              record {
                number = t.number;
                unit = after;
                there = ap (λ n. named n units2) same ∙ have.itself;
                unfinished = have.finished ∙ sym (ap (λ u. u.finished) its) ∙ t.unfinished;
                of = have.actor ∙ sym (ap (λ u. u.actor) its) ∙ t.of;
              }
          at t (inr other) = record {
            number = t.number;
            unit = t.unit;
            there = have.kept (made_by n t.number) t.unit other (λ fresh_one. none_old (made_by n t.number) t.unit.made (inl fresh_one) (OfUnit t.unit t.there refl)) t.there;
            unfinished = t.unfinished;
            of = t.of;
          }

  -- ---- a unit is finished, and its actor is idle
  pub finishes-made : (after : UnitState) (actors2 : Named ActorState) → after.made ≡ unit.made
      → ((x : Name) (a : ActorState) → named x actors2 ≡ Some a → (old : ActorState) × (named x actors ≡ Some old) × (a.turns ≡ old.turns) × (a.busy ≡ true → (old.busy ≡ true) × ¬ (unit.actor ≡ Some x)))
      → AreMade (with_named units name after) actors2
  finishes-made after actors2 count from = record {
    fresh = λ x c n d j q made below is. are.fresh x c n d j q (back x c made) (back n d below) is;
    apart = λ n u a unit_there actor_there. both n u (from n a actor_there).0 (found_apart n name after u units unit_there) (from n a actor_there).1;
    busy = λ n a actor_there is_busy. let old = from n a actor_there in turn n (old.3 is_busy).1 (are.busy n old.0 old.1 (old.3 is_busy).0);
  }
    where
      back : (x : Name) (c : ℕ) → Makes (with_named units name after) actors2 x c → Makes units actors x c
      back x c (OfActor a is turns) = let old = from x a is in OfActor old.0 old.1 (sym old.2 ∙ turns)
      back x c (OfUnit u is made) = at (found_apart x name after u units is)
        where
          at : ((x ≡ name) × (u ≡ after)) ⊎ (¬ (x ≡ name) × (named x units ≡ Some u)) → Makes units actors x c
          at (inl same) = OfUnit unit (ap (λ n. named n units) same.0 ∙ there) (sym count ∙ sym (ap (λ u. u.made) same.1) ∙ made)
          at (inr other) = OfUnit u other.1 made

      both : (n : Name) (u : UnitState) (a : ActorState) → ((n ≡ name) × (u ≡ after)) ⊎ (¬ (n ≡ name) × (named n units ≡ Some u)) → named n actors ≡ Some a → ⊥
      both n u a (inl same) is_actor = are.apart n unit a (ap (λ n. named n units) same.0 ∙ there) is_actor
      both n u a (inr other) is_actor = are.apart n u a other.1 is_actor

      turn : (n : Name) → ¬ (unit.actor ≡ Some n) → HasTurn units n → HasTurn (with_named units name after) n
      turn n not_its t = at (same_or_not (made_by n t.number) name)
        where
          at : (made_by n t.number ≡ name) ⊎ ¬ (made_by n t.number ≡ name) → HasTurn (with_named units name after) n
          at (inl same) =
              let its : t.unit ≡ unit = same_unit t.unit (subst (λ n. named n units ≡ Some t.unit) same t.there) in
              absurd (not_its (sym (ap (λ u. u.actor) its) ∙ t.of))
          at (inr other) = record { number = t.number; unit = t.unit; there = named-other (made_by n t.number) name after units other ∙ t.there; unfinished = t.unfinished; of = t.of }

-- ---- an actor begins a turn
pub turn-made : (units : Named UnitState) (actors : Named ActorState) → AreMade units actors → (name : Name) (actor after : ActorState) (new : UnitState) → named name actors ≡ Some actor
    → after.turns ≡ suc actor.turns → new.made ≡ 0 → new.finished ≡ None → new.actor ≡ Some name
    → AreMade (with_named units (made_by name actor.turns) new) (with_named actors name after)
turn-made units actors are name actor after new there count zero_made unfinished of = record {
  fresh = fresh-step (Makes units actors) (Makes (with_named units child new) (with_named actors name after)) (λ x. x ≡ child) name actor.turns are.fresh maker change (one-new name actor.turns);
  apart = λ n u a unit_there actor_there. both n u a (found_apart n child new u units unit_there) (found_apart n name after a actors actor_there);
  busy = λ n a actor_there is_busy. turn n a is_busy (found_apart n name after a actors actor_there);
}
  where
    child : Name
    child = made_by name actor.turns

    maker : Makes units actors name actor.turns
    maker = OfActor actor there refl

    none_old : (x : Name) (c : ℕ) → x ≡ child → ¬ (Makes units actors x c)
    none_old x c same = new-not-old (Makes units actors) (λ x. x ≡ child) name actor.turns are.fresh maker (one-new name actor.turns) x c same

    change : (x : Name) (c : ℕ) → Makes (with_named units child new) (with_named actors name after) x c → Change (Makes units actors) (λ x. x ≡ child) name actor.turns x c
    change x c (OfUnit u is made) = at (found_apart x child new u units is)
      where
        at : ((x ≡ child) × (u ≡ new)) ⊎ (¬ (x ≡ child) × (named x units ≡ Some u)) → Change (Makes units actors) (λ x. x ≡ child) name actor.turns x c
        at (inl same) = New same.0 (sym made ∙ ap (λ u. u.made) same.1 ∙ zero_made)
        at (inr old) = Old (OfUnit u old.1 made) (λ same. are.apart name u actor (ap (λ n. named n units) (sym same) ∙ old.1) there)
    change x c (OfActor a is turns) = at (found_apart x name after a actors is)
      where
        at : ((x ≡ name) × (a ≡ after)) ⊎ (¬ (x ≡ name) × (named x actors ≡ Some a)) → Change (Makes units actors) (λ x. x ≡ child) name actor.turns x c
        at (inl same) = Itself same.0 (sym turns ∙ ap (λ a. a.turns) same.1 ∙ count)
        at (inr old) = Old (OfActor a old.1 turns) old.0

    both : (n : Name) (u : UnitState) (a : ActorState) → ((n ≡ child) × (u ≡ new)) ⊎ (¬ (n ≡ child) × (named n units ≡ Some u)) → ((n ≡ name) × (a ≡ after)) ⊎ (¬ (n ≡ name) × (named n actors ≡ Some a)) → ⊥
    both n u a (inl is_child) (inl is_actor) = not-below-itself name actor.turns [] (sym is_actor.0 ∙ is_child.0)
    both n u a (inl is_child) (inr old) = none_old n a.turns is_child.0 (OfActor a old.1 refl)
    both n u a (inr old) (inl is_actor) = are.apart name u actor (ap (λ n. named n units) (sym is_actor.0) ∙ old.1) there
    both n u a (inr unit_old) (inr old) = are.apart n u a unit_old.1 old.1

    turn : (n : Name) (a : ActorState) → a.busy ≡ true → ((n ≡ name) × (a ≡ after)) ⊎ (¬ (n ≡ name) × (named n actors ≡ Some a)) → HasTurn (with_named units child new) n
    turn n a is_busy (inl same) = record {
      number = actor.turns;
      unit = new;
      there = ap (λ m. named (made_by m actor.turns) (with_named units child new)) same.0 ∙ named-here child new units;
      unfinished = unfinished;
      of = of ∙ ap Some (sym same.0);
    }
    turn n a is_busy (inr old) =
        let t = are.busy n a old.1 is_busy in
        record {
          number = t.number;
          unit = t.unit;
          there = named-other (made_by n t.number) child new units (λ same. none_old (made_by n t.number) t.unit.made same (OfUnit t.unit t.there refl)) ∙ t.there;
          unfinished = t.unfinished;
          of = t.of;
        }
