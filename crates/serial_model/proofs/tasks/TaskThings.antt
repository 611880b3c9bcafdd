-- What a task keeps of names, at each of its steps: all that it has done and knows was given or is made below it, and all of it stands well
-- together.
use Rattle.std.proofs.Common.{◌≡◌, ◌∙◌, ◌⊎◌, inl, inr, ℕ, ◌+◌, true, List, [], ◌∷◌, ◌++◌, append_assoc, refl, sym, ap, subst, arith}
use Rattle.std.specs.Option.{IsSome}
use Rattle.std.proofs.lemmas.List.{append-nil}
use Rattle.value_core.specs.declared.value.Value.{Value as Datum}
use Rattle.serial_model.specs.declared.effect.Effect.{Effect}
use Rattle.serial_model.specs.declared.effect.What.{What}
use Rattle.serial_model.specs.Log.{Log, new_log, with_made, merged}
use Rattle.value_core.specs.Named.{Name, Named, named, is_among, made_by}
use Rattle.serial_model.specs.Task.{Result, Known, And, result_of, with_known}
use Rattle.serial_model.proofs.Early.{IsEarlier, earlier-below, not-below-itself}
use Rattle.value_core.proofs.NamedLaws.{named_over, still_over}
use Rattle.serial_model.proofs.tasks.TaskNames.{Thing, AnActor, AnEffect, AResult, OfEffect, InEffects, IsResult, InKnown, Has, Lower, AreTogether, name_of, IsEarly, IsOwn, IsUnder, not-earlier-itself, turned, early-together, early-under, under-early, under-made, early-next, made-next, among-merged, spawned-in, in-spawned, effects-left, effects-append, merge-in, merge-kept, merge-spawned, IsFound, known-append, known-left, known-right, named-left, named-right, named-behind}
use Rattle.serial_model.proofs.tasks.TaskScope.{Spawns, IsSpawned}

-- ---- more is there
-- all refs that are written, all actors that begin and all futures that are known are so there too
pub record IsMore (log : Log) (known : Known) (log' : Log) (known' : Known) : Type 0 where
  pub refs : (name : Name) → IsSome (named name log.writes) → IsSome (named name log'.writes)
  pub actors : (name : Name) → IsSpawned name log.effects → IsSpawned name log'.effects
  pub futures : (name : Name) → IsSome (result_of name known) → IsSome (result_of name known')

pub more-itself : (log : Log) (known : Known) → IsMore log known log known
more-itself log known = record { refs = λ name is. is; actors = λ name is. is; futures = λ name is. is }

pub more-trans : (log : Log) (known : Known) (log1 : Log) (known1 : Known) (log2 : Log) (known2 : Known) → IsMore log known log1 known1 → IsMore log1 known1 log2 known2 → IsMore log known log2 known2
more-trans log known log1 known1 log2 known2 a b = record {
  refs = λ name is. b.refs name (a.refs name is);
  actors = λ name is. b.actors name (a.actors name is);
  futures = λ name is. b.futures name (a.futures name is);
}

-- a joined future's result is known, and all of it is there
pub record IsJoined (q : Name) (log : Log) (known : Known) : Type 0 where
  pub result : Result
  pub there : InKnown known (AResult q result)
  pub more : IsMore result.log result.known log known

abbrev pub AreJoined : Log → Known → Type 0
AreJoined log known = (q : Name) → is_among q log.joined ≡ true → IsJoined q log known

-- a known result is that of its task, and has all that the task joined
abbrev pub IsSound : Thing → Type 0
IsSound (AResult q r) = (r.log.name ≡ q) × AreJoined r.log r.known
IsSound _ = Unit {0}

-- what is given to a task of that name
pub record AreGiven (name : Name) (given : Known) : Type 0 where
  pub early : (x : Thing) → InKnown given x → IsEarly name x
  pub together : (x y : Thing) → InKnown given x → InKnown given y → AreTogether x y
  pub sound : (x : Thing) → InKnown given x → IsSound x

-- what a task has done and knows
pub record IsOrderly (given : Known) (log : Log) (known : Known) : Type 0 where
  pub known_early : (x : Thing) → InKnown known x → IsEarly (made_by log.name log.made) x
  pub own_early : (x : Thing) → InEffects log.effects x → IsEarly (made_by log.name log.made) x ⊎ IsOwn log.name log.own x
  pub together : (x y : Thing) → Has log known x → Has log known y → AreTogether x y
  pub from : (x : Thing) → Has log known x → InKnown given x ⊎ IsUnder log.name x
  pub sound : (x : Thing) → InKnown known x → IsSound x
  pub joined : AreJoined log known

effects-sound : (x : Thing) (es : List Effect) → InEffects es x → IsSound x
effects-sound (AnActor a) es is = tt
effects-sound (AnEffect e) es is = tt
effects-sound (AResult q r) [] is = absurd is
effects-sound (AResult q r) (e ∷ es) (inl is) = absurd is
effects-sound (AResult q r) (e ∷ es) (inr is) = effects-sound (AResult q r) es is

-- a task begins with what it is given
pub fresh-orderly : (name : Name) (given : Known) → AreGiven name given → IsOrderly given (new_log name) given
fresh-orderly name given is = record {
  known_early = λ x there. earlier-below (name_of x) name (0 ∷ []) (is.early x there);
  own_early = λ x none. absurd none;
  together = together;
  from = from;
  sound = is.sound;
  joined = λ q none. cc;
}
  where
    together : (x y : Thing) → Has (new_log name) given x → Has (new_log name) given y → AreTogether x y
    together x y (inl none) there = absurd none
    together x y (inr here) (inl none) = absurd none
    together x y (inr here) (inr there) = is.together x y here there

    from : (x : Thing) → Has (new_log name) given x → InKnown given x ⊎ IsUnder name x
    from x (inl none) = absurd none
    from x (inr there) = inl there

module _ (given : Known) (log : Log) (known : Known) (is : IsOrderly given log known) where
  -- the next thing that it makes
  abbrev next : Name
  next = made_by log.name log.made

  place : (x : Thing) → Has log known x → IsEarly next x ⊎ IsOwn log.name log.own x
  place x (inl there) = is.own_early x there
  place x (inr there) = inl (is.known_early x there)

  -- what it knows can be given to its next child
  pub known-given : AreGiven next known
  known-given = record { early = is.known_early; together = λ x y here there. is.together x y (inr here) (inr there); sound = is.sound }

  early_later : (x : Thing) → IsEarly next x ⊎ IsOwn log.name log.own x → IsEarly (made_by log.name (log.made + 1)) x ⊎ IsOwn log.name log.own x
  early_later x (inl early) = inl (early-next log.name log.made x early)
  early_later x (inr own) = inr own

  more_joined : (log' : Log) (known' : Known) → IsMore log known log' known' → ((x : Thing) → InKnown known x → InKnown known' x) → (q : Name) → IsJoined q log known → IsJoined q log' known'
  more_joined log' known' more there q joined = record {
    result = joined.result;
    there = there (AResult q joined.result) joined.there;
    more = more-trans joined.result.log joined.result.known log known log' known' joined.more more;
  }

  -- ---- a write, with or without a thing made
  pub wrote-orderly : (writes : Named Datum) → ((name : Name) → IsSome (named name log.writes) → IsSome (named name writes)) → IsOrderly given (record log { writes = writes }) known
  wrote-orderly writes wider = record {
    known_early = is.known_early;
    own_early = is.own_early;
    together = is.together;
    from = is.from;
    sound = is.sound;
    joined = λ q among. more_joined (record log { writes = writes }) known (record { refs = wider; actors = λ name there. there; futures = λ name there. there }) (λ x there. there) q (is.joined q among);
  }

  pub made-orderly : IsOrderly given (with_made log) known
  made-orderly = record {
    known_early = λ x there. early-next log.name log.made x (is.known_early x there);
    own_early = λ x there. early_later x (is.own_early x there);
    together = is.together;
    from = is.from;
    sound = is.sound;
    joined = λ q among. more_joined (with_made log) known (record { refs = λ name there. there; actors = λ name there. there; futures = λ name there. there }) (λ x there. there) q (is.joined q among);
  }

  -- ---- an effect of its own, that begins at most the next thing that it makes
  module _ (what : What) (made : ℕ) (later : (x : Thing) → IsEarly next x → IsEarly (made_by log.name made) x)
      (begins : (a : Name) → Spawns a what → (a ≡ next) × IsEarlier next (made_by log.name made)) where
    abbrev effect : Effect
    effect = record { task = log.name; number = log.own; what = what }

    abbrev after : Log
    after = record log { made = made; own = log.own + 1; effects = log.effects ++ effect ∷ [] }

    new_early : (x : Thing) → OfEffect effect x → IsEarly (made_by log.name made) x ⊎ IsOwn log.name (log.own + 1) x
    new_early (AnActor a) spawns = let new = begins a spawns in inl (subst (λ n. IsEarlier n (made_by log.name made)) (sym new.0) new.1)
    new_early (AnEffect e) same = inr (ap (λ (f : Effect). f.task) same, (let number : e.number ≡ log.own = ap (λ (f : Effect). f.number) same in omega arith))
    new_early (AResult q r) none = absurd none

    own_more : (x : Thing) → IsOwn log.name log.own x → IsOwn log.name (log.own + 1) x
    own_more (AnActor a) own = own
    own_more (AnEffect e) own = let number = own.1 in (own.0, omega arith)
    own_more (AResult q r) own = own

    old_new : (x y : Thing) → IsEarly next x ⊎ IsOwn log.name log.own x → OfEffect effect y → AreTogether x y
    old_new x (AResult q r) at none = absurd none
    old_new x (AnActor b) (inl early) spawns = let new = begins b spawns in early-together x (AnActor b) (subst (IsEarlier (name_of x)) (sym new.0) early)
    old_new (AnActor a) (AnActor b) (inr own) spawns = absurd own
    old_new (AnEffect e) (AnActor b) (inr own) spawns = tt
    old_new (AResult q r) (AnActor b) (inr own) spawns = tt
    old_new (AnActor a) (AnEffect f) at same = tt
    old_new (AResult q r) (AnEffect f) at same = tt
    old_new (AnEffect e) (AnEffect f) (inl early) same =
        λ task number. absurd (not-earlier-itself log.name (log.made ∷ []) (subst (λ n. IsEarlier n next) (task ∙ ap (λ (g : Effect). g.task) same) early))
    old_new (AnEffect e) (AnEffect f) (inr own) same =
        λ task number. absurd (let less = own.1 in let new : f.number ≡ log.own = ap (λ (g : Effect). g.number) same in omega arith)

    not_lower : (a b : Name) → a ≡ next → b ≡ next → ¬ Lower a b
    not_lower a b first second low = not-below-itself a low.0 low.1 (first ∙ sym second ∙ low.2)

    new_new : (x y : Thing) → OfEffect effect x → OfEffect effect y → AreTogether x y
    new_new (AnActor a) (AnActor b) first second =
        let one = begins a first in let two = begins b second in (not_lower a b one.0 two.0, not_lower b a two.0 one.0)
    new_new (AnActor a) (AnEffect f) first second = tt
    new_new (AnActor a) (AResult q r) first second = tt
    new_new (AnEffect e) (AnActor b) first second = tt
    new_new (AnEffect e) (AnEffect f) first second = λ task number. first ∙ sym second
    new_new (AnEffect e) (AResult q r) first second = tt
    new_new (AResult q r) y first second = absurd first

    -- what is there afterwards was there or is new
    abbrev OldOrNew : Thing → Type 0
    OldOrNew x = Has log known x ⊎ OfEffect effect x

    in_effects : (x : Thing) → InEffects (log.effects ++ effect ∷ []) x → InEffects log.effects x ⊎ OfEffect effect x
    in_effects x there = on (effects-append x log.effects (effect ∷ []) there)
      where
        on : InEffects log.effects x ⊎ InEffects (effect ∷ []) x → InEffects log.effects x ⊎ OfEffect effect x
        on (inl old) = inl old
        on (inr (inl new)) = inr new
        on (inr (inr none)) = absurd none

    old_or_new : (x : Thing) → Has after known x → OldOrNew x
    old_or_new x (inr there) = inl (inr there)
    old_or_new x (inl there) = on (in_effects x there)
      where
        on : InEffects log.effects x ⊎ OfEffect effect x → OldOrNew x
        on (inl old) = inl (inl old)
        on (inr new) = inr new

    both : (x y : Thing) → OldOrNew x → OldOrNew y → AreTogether x y
    both x y (inl old) (inl other) = is.together x y old other
    both x y (inl old) (inr new) = old_new x y (place x old) new
    both x y (inr new) (inl old) = turned y x (old_new y x (place y old) new)
    both x y (inr new) (inr other) = new_new x y new other

    new_under : (x : Thing) → OfEffect effect x → IsUnder log.name x
    new_under (AnActor a) spawns = (log.made, [], (begins a spawns).0)
    new_under (AnEffect e) same = ([], ap (λ (f : Effect). f.task) same ∙ sym (append-nil log.name))
    new_under (AResult q r) none = absurd none

    whence : (x : Thing) → OldOrNew x → InKnown given x ⊎ IsUnder log.name x
    whence x (inl old) = is.from x old
    whence x (inr new) = inr (new_under x new)

    when : (x : Thing) → InEffects log.effects x ⊎ OfEffect effect x → IsEarly (made_by log.name made) x ⊎ IsOwn log.name (log.own + 1) x
    when x (inr new) = new_early x new
    when x (inl old) = on (is.own_early x old)
      where
        on : IsEarly next x ⊎ IsOwn log.name log.own x → IsEarly (made_by log.name made) x ⊎ IsOwn log.name (log.own + 1) x
        on (inl early) = inl (later x early)
        on (inr own) = inr (own_more x own)

    pub effect-more : IsMore log known after known
    effect-more = record {
      refs = λ name there. there;
      actors = λ name there. in-spawned name after.effects (effects-left (AnActor name) log.effects (effect ∷ []) (spawned-in name log.effects there));
      futures = λ name there. there;
    }

    pub effect-orderly : IsOrderly given after known
    effect-orderly = record {
      known_early = λ x there. later x (is.known_early x there);
      own_early = λ x there. when x (in_effects x there);
      together = λ x y here there. both x y (old_or_new x here) (old_or_new y there);
      from = λ x there. whence x (old_or_new x there);
      sound = is.sound;
      joined = λ q among. more_joined after known effect-more (λ x there. there) q (is.joined q among);
    }

  -- ---- a child that is forked
  module _ (child : Result) (orderly : IsOrderly known child.log child.known) (its_name : child.log.name ≡ next) where
    abbrev child_known : Known
    child_known = And next child.outcome child.log child.known known

    child_under : (x : Thing) → IsUnder child.log.name x → IsUnder next x
    child_under x under = subst (λ n. IsUnder n x) its_name under

    -- what is there was there, is the child's result, or is below the child
    data Part (x : Thing) : Type 0 where
      Old : Has log known x → Part x
      Self : IsResult next child x → Part x
      New : Has child.log child.known x → IsUnder next x → Part x

    of_child : (x : Thing) → Has child.log child.known x → Part x
    of_child x there = on (orderly.from x there)
      where
        on : InKnown known x ⊎ IsUnder child.log.name x → Part x
        on (inl old) = Old (inr old)
        on (inr under) = New there (child_under x under)

    part : (x : Thing) → Has (with_made log) child_known x → Part x
    part x (inl there) = Old (inl there)
    part x (inr (inl self)) = Self self
    part x (inr (inr (inl effects))) = of_child x (inl effects)
    part x (inr (inr (inr (inl inner)))) = of_child x (inr inner)
    part x (inr (inr (inr (inr there)))) = Old (inr there)

    self_name : (x : Thing) → IsResult next child x → name_of x ≡ next
    self_name (AnActor a) none = absurd none
    self_name (AnEffect e) none = absurd none
    self_name (AResult q r) self = self.0

    own_self : (x y : Thing) → IsOwn log.name log.own x → IsResult next child y → AreTogether x y
    own_self x (AnActor b) own none = absurd none
    own_self x (AnEffect f) own none = absurd none
    own_self (AnActor a) (AResult s t) own self = tt
    own_self (AnEffect e) (AResult s t) own self = tt
    own_self (AResult q r) (AResult s t) own self = absurd own

    own_under : (x y : Thing) → IsOwn log.name log.own x → IsUnder next y → AreTogether x y
    own_under (AnActor a) y own under = absurd own
    own_under (AResult q r) y own under = absurd own
    own_under (AnEffect e) (AnActor b) own under = tt
    own_under (AnEffect e) (AResult s t) own under = tt
    own_under (AnEffect e) (AnEffect f) own under =
        λ task number. absurd (not-below-itself log.name log.made under.0 (sym own.0 ∙ task ∙ under.1 ∙ append_assoc log.name (log.made ∷ []) under.0))

    self_under : (x y : Thing) → IsResult next child x → IsUnder next y → AreTogether x y
    self_under (AnActor a) y none under = absurd none
    self_under (AnEffect e) y none under = absurd none
    self_under (AResult q r) (AnActor b) self under = tt
    self_under (AResult q r) (AnEffect f) self under = tt
    self_under (AResult q r) (AResult s t) self under = λ same. absurd (not-below-itself next under.0 under.1 (sym self.0 ∙ same ∙ under.2))

    self_self : (x y : Thing) → IsResult next child x → IsResult next child y → AreTogether x y
    self_self (AnActor a) y none also = absurd none
    self_self (AnEffect e) y none also = absurd none
    self_self (AResult q r) (AnActor b) self none = tt
    self_self (AResult q r) (AnEffect f) self none = tt
    self_self (AResult q r) (AResult s t) self also = λ same. self.1 ∙ sym also.1

    before_self : (x y : Thing) → IsEarly next x ⊎ IsOwn log.name log.own x → IsResult next child y → AreTogether x y
    before_self x y (inl early) self = early-together x y (subst (IsEarlier (name_of x)) (sym (self_name y self)) early)
    before_self x y (inr own) self = own_self x y own self

    before_under : (x y : Thing) → IsEarly next x ⊎ IsOwn log.name log.own x → IsUnder next y → AreTogether x y
    before_under x y (inl early) under = early-together x y (early-under (name_of x) next y early under)
    before_under x y (inr own) under = own_under x y own under

    parts : (x y : Thing) → Part x → Part y → AreTogether x y
    parts x y (Old old) (Old other) = is.together x y old other
    parts x y (Old old) (Self self) = before_self x y (place x old) self
    parts x y (Old old) (New new under) = before_under x y (place x old) under
    parts x y (Self self) (Old old) = turned y x (before_self y x (place y old) self)
    parts x y (Self self) (Self also) = self_self x y self also
    parts x y (Self self) (New new under) = self_under x y self under
    parts x y (New new under) (Old old) = turned y x (before_under y x (place y old) under)
    parts x y (New new under) (Self self) = turned y x (self_under y x self under)
    parts x y (New new under) (New other below) = orderly.together x y new other

    self_is_under : (x : Thing) → IsResult next child x → IsUnder log.name x
    self_is_under (AnActor a) none = absurd none
    self_is_under (AnEffect e) none = absurd none
    self_is_under (AResult q r) self = (log.made, [], self.0)

    part_from : (x : Thing) → Part x → InKnown given x ⊎ IsUnder log.name x
    part_from x (Old old) = is.from x old
    part_from x (Self self) = inr (self_is_under x self)
    part_from x (New new under) = inr (under-made log.name log.made x under)

    abbrev last : Name
    last = made_by log.name (log.made + 1)

    child_early : (x : Thing) → Has child.log child.known x → IsEarly last x
    child_early x there = on (orderly.from x there)
      where
        on : InKnown known x ⊎ IsUnder child.log.name x → IsEarly last x
        on (inl old) = early-next log.name log.made x (is.known_early x old)
        on (inr under) = under-early next last x (made-next log.name log.made) (child_under x under)

    known_is_early : (x : Thing) → InKnown child_known x → IsEarly last x
    known_is_early x (inl self) = subst (λ n. IsEarlier n last) (sym (self_name x self)) (made-next log.name log.made)
    known_is_early x (inr (inl effects)) = child_early x (inl effects)
    known_is_early x (inr (inr (inl inner))) = child_early x (inr inner)
    known_is_early x (inr (inr (inr there))) = early-next log.name log.made x (is.known_early x there)

    self_sound : (x : Thing) → IsResult next child x → IsSound x
    self_sound (AnActor a) none = absurd none
    self_sound (AnEffect e) none = absurd none
    self_sound (AResult q r) self = (
      ap (λ (t : Result). t.log.name) self.1 ∙ its_name ∙ sym self.0,
      subst (λ (t : Result). AreJoined t.log t.known) (sym self.1) orderly.joined,
    )

    known_is_sound : (x : Thing) → InKnown child_known x → IsSound x
    known_is_sound x (inl self) = self_sound x self
    known_is_sound x (inr (inl effects)) = effects-sound x child.log.effects effects
    known_is_sound x (inr (inr (inl inner))) = orderly.sound x inner
    known_is_sound x (inr (inr (inr there))) = is.sound x there

    pub fork-more : IsMore log known (with_made log) child_known
    fork-more = record {
      refs = λ name there. there;
      actors = λ name there. there;
      futures = λ name there. named-behind name next child.outcome child.log child.known known there;
    }

    pub fork-orderly : IsOrderly given (with_made log) child_known
    fork-orderly = record {
      known_early = known_is_early;
      own_early = λ x there. early_later x (is.own_early x there);
      together = λ x y here there. parts x y (part x here) (part y there);
      from = λ x there. part_from x (part x there);
      sound = known_is_sound;
      joined = λ q among. more_joined (with_made log) child_known fork-more (λ x there. inr (inr (inr there))) q (is.joined q among);
    }

  -- ---- a child that is joined
  module _ (future : Name) (child : Result) (found : IsFound known future child) where
    abbrev joint : Log
    joint = merged log child.log

    abbrev joint_known : Known
    joint_known = with_known known child.known

    abbrev HasEffect : Effect → Type 0
    HasEffect e = Has log known (AnEffect e)

    -- all of it was there before
    in_known : (x : Thing) → InKnown joint_known x → InKnown known x
    in_known x there = on (known-append x known child.known there)
      where
        on : InKnown known x ⊎ InKnown child.known x → InKnown known x
        on (inl there) = there
        on (inr there) = found.inner x there

    in_effects_of : (x : Thing) → InEffects joint.effects x → Has log known x
    in_effects_of x there = on (merge-in x child.log.effects log.effects there)
      where
        on : InEffects log.effects x ⊎ InEffects child.log.effects x → Has log known x
        on (inl there) = inl there
        on (inr there) = inr (found.effects x there)

    before : (x : Thing) → Has joint joint_known x → Has log known x
    before x (inl there) = in_effects_of x there
    before x (inr there) = inr (in_known x there)

    pub joint-more : IsMore log known joint joint_known
    joint-more = record {
      refs = λ name there. still_over name child.log.writes log.writes there;
      actors = λ name there. in-spawned name joint.effects (merge-kept (AnActor name) child.log.effects log.effects (spawned-in name log.effects there));
      futures = λ name there. named-left name known child.known there;
    }

    pub child-more : IsMore child.log child.known joint joint_known
    child-more = record {
      refs = λ name there. named_over name child.log.writes log.writes there;
      actors = λ name there.
          in-spawned name joint.effects
          (merge-spawned HasEffect (λ e f here there. is.together (AnEffect e) (AnEffect f) here there) name child.log.effects log.effects (λ f there. inl there)
          (λ f there. inr (found.effects (AnEffect f) there)) (spawned-in name child.log.effects there));
      futures = λ name there. named-right name known child.known there;
    }

    child_sound : IsSound (AResult future child)
    child_sound = is.sound (AResult future child) found.itself

    joins : (q : Name) → (is_among q log.joined ≡ true) ⊎ (q ≡ child.log.name) ⊎ (is_among q child.log.joined ≡ true) → IsJoined q joint joint_known
    joins q (inl among) = more_joined joint joint_known joint-more (λ x there. known-left x known child.known there) q (is.joined q among)
    joins q (inr (inl same)) = record {
      result = child;
      there = known-left (AResult q child) known child.known (subst (λ n. InKnown known (AResult n child)) (sym (same ∙ child_sound.0)) found.itself);
      more = child-more;
    }
    joins q (inr (inr among)) =
        let one = child_sound.1 q among in
        record {
          result = one.result;
          there = known-right (AResult q one.result) known child.known one.there;
          more = more-trans one.result.log one.result.known child.log child.known joint joint_known one.more child-more;
        }

    pub join-orderly : IsOrderly given joint joint_known
    join-orderly = record {
      known_early = λ x there. is.known_early x (in_known x there);
      own_early = λ x there. place x (in_effects_of x there);
      together = λ x y here there. is.together x y (before x here) (before y there);
      from = λ x there. is.from x (before x there);
      sound = λ x there. is.sound x (in_known x there);
      joined = λ q among. joins q (among-merged q log child.log among);
    }

    -- what was joined before is there
    pub joined-more : is_among future log.joined ≡ true → IsMore child.log child.known log known
    joined-more among =
        let one = is.joined future among in
        let same : one.result ≡ child = is.together (AResult future one.result) (AResult future child) (inr one.there) (inr found.itself) refl in
        subst (λ (r : Result). IsMore r.log r.known log known) same one.more
