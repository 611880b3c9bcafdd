-- The scope of a task: the refs, the actors and the futures that there are with what it has done and knows. Its values, its answers, its
-- writes, its effects and the results that it knows are within it, and it only grows.
use Rattle.std.proofs.Common.{◌≡◌, ◌∙◌, ◌⊎◌, inl, inr, Bool, true, false, cond, List, [], ◌∷◌, ◌++◌, refl, ap, subst}
use Rattle.std.specs.Prelude.{Option, None, Some, All, fold}
use Rattle.std.specs.Option.{IsSome, option_or}
use Rattle.std.specs.declared.cmp.Ordering.{Ordering}
use Rattle.std.specs.declared.cmp.Ordering.TheVariants.{Less, Equal, Greater}
use Rattle.std.specs.FinMap.Entries.{by_order}
use Rattle.std.proofs.lemmas.List.Elements.{All-nil, All-cons, All-head, All-tail, All-push, All-weaker}
use Rattle.value_core.specs.declared.value.Value.{Value as Datum}
use Rattle.value_core.specs.Within.{Within}
use Rattle.value_core.proofs.Within.{Within-weaker}
use Rattle.value_core.specs.Name.{after_cmp}
use Rattle.core_syntax.specs.Table.{Table}
use Rattle.core_syntax.specs.WellFormed.{IsWellFormed}
use Rattle.serial_model.specs.declared.answer.Answer.{Answer}
use Rattle.serial_model.specs.declared.answer.Answer.TheVariants as answer
use Rattle.serial_model.specs.declared.effect.Effect.{Effect}
use Rattle.serial_model.specs.Carried.{OfAnswer}
use Rattle.serial_model.specs.Log.{Log, is_held, with_missing, merged}
use Rattle.value_core.specs.Named.{Name, Named, named, with_named, over, same_name}
use Rattle.serial_model.specs.Task.{Around, Value, Blocked, Result, Known, Nothing, And, result_of, with_known, read_in}
use Rattle.value_core.proofs.NamedLaws.{Each, each-over, named_over, still_over}
use Rattle.serial_model.proofs.runs.ScopeEffects.{effect-weaker}
use Rattle.serial_model.proofs.tasks.TaskNames.{as_result}
use Rattle.serial_model.proofs.tasks.TaskScope.{NoFuture, RefsWith, ActorsWith, FuturesWith, EffectWithin, IsWaitedFor}
use Rattle.serial_model.proofs.tasks.TaskThings.{IsMore}

-- the futures that there are with the known results
abbrev pub FuturesIn : (Name → Type 0) → Known → Name → Type 0
FuturesIn F known name = F name ⊎ IsSome (result_of name known)

-- one predicate on names says no more than another
abbrev pub IsLess : (Name → Type 0) → (Name → Type 0) → Type 0
IsLess P Q = (name : Name) → P name → Q name

-- the values of writes are within these names
abbrev pub WritesWithin : (Name → Type 0) → (Name → Type 0) → Named Datum → Type 0
WritesWithin R A writes = All (λ (e : Name × Datum). Within R A NoFuture e.1) writes

abbrev pub EffectsWithin : Table → (Name → Type 0) → (Name → Type 0) → List Effect → Type 0
EffectsWithin table R A effects = All (λ (e : Effect). EffectWithin table R A e.what) effects

-- a result of a task in a scope
pub record IsWithin (around : Around) (F R A : Name → Type 0) (result : Result) : Type 0 where
  pub waits : result.outcome ≡ Blocked → IsWaitedFor around F
  pub value : (v : Datum) → result.outcome ≡ Value v → Within (RefsWith R result.log) (ActorsWith A result.log) (FuturesWith F result) v
  pub writes : WritesWithin (RefsWith R result.log) (ActorsWith A result.log) result.log.writes
  pub effects : EffectsWithin around.program (RefsWith R result.log) (ActorsWith A result.log) result.log.effects

-- each known result is within the scope, and what it knows is within the scope with what it did
abbrev pub KnownWithin : (around : Around) (F : Name → Type 0) → Known → (R A : Name → Type 0) → Type 0
KnownWithin around F Nothing R A = Unit {0}
KnownWithin around F (And name outcome log inner others) R A =
    IsWithin around F R A (as_result outcome log inner) × KnownWithin around F inner (RefsWith R log) (ActorsWith A log) × KnownWithin around F others R A

-- ---- wider scopes
pub refs_with-less : (R R' : Name → Type 0) (log : Log) → IsLess R R' → IsLess (RefsWith R log) (RefsWith R' log)
refs_with-less R R' log less name (inl there) = inl (less name there)
refs_with-less R R' log less name (inr there) = inr there

pub actors_with-less : (A A' : Name → Type 0) (log : Log) → IsLess A A' → IsLess (ActorsWith A log) (ActorsWith A' log)
actors_with-less A A' log less name (inl there) = inl (less name there)
actors_with-less A A' log less name (inr there) = inr there

pub writes-wider : (R A R' A' : Name → Type 0) → IsLess R R' → IsLess A A' → (writes : Named Datum) → WritesWithin R A writes → WritesWithin R' A' writes
writes-wider R A R' A' refs actors writes all =
    All-weaker (λ (e : Name × Datum). Within R A NoFuture e.1) (λ (e : Name × Datum). Within R' A' NoFuture e.1)
    (λ e holds. Within-weaker R A NoFuture R' A' NoFuture refs actors (λ name none. none) e.1 holds) writes all

pub effects-wider : (table : Table) (R A R' A' : Name → Type 0) → IsLess R R' → IsLess A A' → (effects : List Effect) → EffectsWithin table R A effects → EffectsWithin table R' A' effects
effects-wider table R A R' A' refs actors effects all =
    All-weaker (λ (e : Effect). EffectWithin table R A e.what) (λ (e : Effect). EffectWithin table R' A' e.what)
    (λ e holds. effect-weaker table R A R' A' refs actors e.what holds) effects all

pub within-wider : (around : Around) (F R A R' A' : Name → Type 0) → IsLess R R' → IsLess A A' → (result : Result) → IsWithin around F R A result → IsWithin around F R' A' result
within-wider around F R A R' A' refs actors result is = record {
  waits = is.waits;
  value = λ v same.
      Within-weaker (RefsWith R result.log) (ActorsWith A result.log) (FuturesWith F result) (RefsWith R' result.log) (ActorsWith A' result.log) (FuturesWith F result)
      (refs_with-less R R' result.log refs) (actors_with-less A A' result.log actors) (λ name there. there) v (is.value v same);
  writes = writes-wider (RefsWith R result.log) (ActorsWith A result.log) (RefsWith R' result.log) (ActorsWith A' result.log)
      (refs_with-less R R' result.log refs) (actors_with-less A A' result.log actors) result.log.writes is.writes;
  effects = effects-wider around.program (RefsWith R result.log) (ActorsWith A result.log) (RefsWith R' result.log) (ActorsWith A' result.log)
      (refs_with-less R R' result.log refs) (actors_with-less A A' result.log actors) result.log.effects is.effects;
}

pub known-wider : (around : Around) (F : Name → Type 0) (known : Known) (R A R' A' : Name → Type 0) → IsLess R R' → IsLess A A' → KnownWithin around F known R A → KnownWithin around F known R' A'
known-wider around F Nothing R A R' A' refs actors is = tt
known-wider around F (And name outcome log inner others) R A R' A' refs actors is = (
  within-wider around F R A R' A' refs actors (as_result outcome log inner) is.0,
  known-wider around F inner (RefsWith R log) (ActorsWith A log) (RefsWith R' log) (ActorsWith A' log) (refs_with-less R R' log refs) (actors_with-less A A' log actors) is.1,
  known-wider around F others R A R' A' refs actors is.2,
)

-- the results of both
pub known-both : (around : Around) (F : Name → Type 0) (known others : Known) (R A : Name → Type 0) → KnownWithin around F known R A → KnownWithin around F others R A
    → KnownWithin around F (with_known known others) R A
known-both around F Nothing others R A is also = also
known-both around F (And name outcome log inner rest) others R A is also = (is.0, is.1, known-both around F rest others R A is.2 also)

-- a result that is looked up
pub record IsFoundWithin (around : Around) (F R A : Name → Type 0) (child : Result) : Type 0 where
  pub itself : IsWithin around F R A child
  pub inner : KnownWithin around F child.known (RefsWith R child.log) (ActorsWith A child.log)

pub found-within : (around : Around) (F : Name → Type 0) (known : Known) (R A : Name → Type 0) (future : Name) (child : Result) → result_of future known ≡ Some child → KnownWithin around F known R A
    → IsFoundWithin around F R A child
found-within around F Nothing R A future child is within = cc
found-within around F (And name outcome log inner others) R A future child is within =
    on (same_name name future) is (λ found. found-within around F others R A future child found within.2)
  where
    first : as_result outcome log inner ≡ child → IsFoundWithin around F R A child
    first same = subst (IsFoundWithin around F R A) same (record { itself = within.0; inner = within.1 })

    on : (b : Bool) → cond b (Some (as_result outcome log inner)) (result_of future others) ≡ Some child → (result_of future others ≡ Some child → IsFoundWithin around F R A child)
        → IsFoundWithin around F R A child
    on true is rest = first (cc)
    on false is rest = rest is

-- ---- writes
pub all-put : (P : Datum → Type 0) (name : Name) (v : Datum) (all : Named Datum) → All (λ (e : Name × Datum). P e.1) all → P v → All (λ (e : Name × Datum). P e.1) (with_named all name v)
all-put P name v [] all holds = All-cons (λ (e : Name × Datum). P e.1) (name, v) [] holds (All-nil (λ (e : Name × Datum). P e.1))
all-put P name v (e ∷ es) all holds =
    on (after_cmp name e.0) (all-put P name v es (All-tail Q e es all) holds)
  where
    Q : Name × Datum → Type 0
    Q e = P e.1

    on : (o : Ordering) → All Q (with_named es name v) → All Q (by_order o ((name, v) ∷ e ∷ es) ((e.0, v) ∷ es) (e ∷ with_named es name v))
    on Less rest = All-cons Q (name, v) (e ∷ es) holds all
    on Equal rest = All-cons Q (e.0, v) es holds (All-tail Q e es all)
    on Greater rest = All-cons Q e (with_named es name v) (All-head Q e es all) rest

pub all-over : (P : Datum → Type 0) (upper lower : Named Datum) → All (λ (e : Name × Datum). P e.1) upper → All (λ (e : Name × Datum). P e.1) lower → All (λ (e : Name × Datum). P e.1) (over upper lower)
all-over P [] lower all also = also
all-over P (e ∷ es) lower all also =
    all-over P es (with_named lower e.0 e.1) (All-tail (λ (e : Name × Datum). P e.1) e es all) (all-put P e.0 e.1 lower also (All-head (λ (e : Name × Datum). P e.1) e es all))

pub all-named : (P : Datum → Type 0) (name : Name) (v : Datum) (all : Named Datum) → All (λ (e : Name × Datum). P e.1) all → named name all ≡ Some v → P v
all-named P name v [] all is = cc
all-named P name v (e ∷ es) all is =
    on (same_name name e.0) is (λ found. all-named P name v es (All-tail (λ (e : Name × Datum). P e.1) e es all) found)
  where
    first : e.1 ≡ v → P v
    first same = subst P same (All-head (λ (e : Name × Datum). P e.1) e es all)

    on : (b : Bool) → cond b (Some e.1) (named name es) ≡ Some v → (named name es ≡ Some v → P v) → P v
    on true is rest = first (cc)
    on false is rest = rest is

-- ---- effects
missing-all : (P : Effect → Type 0) (es : List Effect) (e : Effect) → All P es → P e → All P (with_missing es e)
missing-all P es e all holds = on (is_held es e)
  where
    on : (b : Bool) → All P (cond b es (es ++ e ∷ []))
    on true = all
    on false = All-push P es e all holds

pub merge-all : (P : Effect → Type 0) (fs es : List Effect) → All P es → All P fs → All P (fold with_missing es fs)
merge-all P [] es all also = all
merge-all P (f ∷ fs) es all also = merge-all P fs (with_missing es f) (missing-all P es f all (All-head P f fs also)) (All-tail P f fs also)

-- ---- what a task has
-- a value within the scope of a task
abbrev pub IsValueOf : (F R A : Name → Type 0) → Log → Known → Datum → Type 0
IsValueOf F R A log known v = Within (RefsWith R log) (ActorsWith A log) (FuturesIn F known) v

pub record IsScoped (around : Around) (F R A : Name → Type 0) (frame : List Datum) (log : Log) (results : Known) (replies : List Answer) : Type 0 where
  pub values : All (IsValueOf F R A log results) frame
  pub answers : All (OfAnswer (IsValueOf F R A log results)) replies
  pub writes : WritesWithin (RefsWith R log) (ActorsWith A log) log.writes
  pub effects : EffectsWithin around.program (RefsWith R log) (ActorsWith A log) log.effects
  pub known : KnownWithin around F results (RefsWith R log) (ActorsWith A log)

of_answer-weaker : (P Q : Datum → Type 0) → ((v : Datum) → P v → Q v) → (a : Answer) → OfAnswer P a → OfAnswer Q a
of_answer-weaker P Q weaker (answer.Value v) holds = weaker v holds
of_answer-weaker P Q weaker (answer.Fault code) holds = tt

module _ (F R A : Name → Type 0) (log : Log) (known : Known) (log' : Log) (known' : Known) (more : IsMore log known log' known') where
  pub refs-more : IsLess (RefsWith R log) (RefsWith R log')
  refs-more name (inl there) = inl there
  refs-more name (inr there) = inr (more.refs name there)

  pub actors-more : IsLess (ActorsWith A log) (ActorsWith A log')
  actors-more name (inl there) = inl there
  actors-more name (inr there) = inr (more.actors name there)

  pub futures-more : IsLess (FuturesIn F known) (FuturesIn F known')
  futures-more name (inl there) = inl there
  futures-more name (inr there) = inr (more.futures name there)

  pub value-more : (v : Datum) → IsValueOf F R A log known v → IsValueOf F R A log' known' v
  value-more v holds =
      Within-weaker (RefsWith R log) (ActorsWith A log) (FuturesIn F known) (RefsWith R log') (ActorsWith A log') (FuturesIn F known') refs-more actors-more futures-more v holds

  pub writes-more : (writes : Named Datum) → WritesWithin (RefsWith R log) (ActorsWith A log) writes → WritesWithin (RefsWith R log') (ActorsWith A log') writes
  writes-more writes all = writes-wider (RefsWith R log) (ActorsWith A log) (RefsWith R log') (ActorsWith A log') refs-more actors-more writes all

  pub effects-more : (table : Table) (effects : List Effect) → EffectsWithin table (RefsWith R log) (ActorsWith A log) effects → EffectsWithin table (RefsWith R log') (ActorsWith A log') effects
  effects-more table effects all = effects-wider table (RefsWith R log) (ActorsWith A log) (RefsWith R log') (ActorsWith A log') refs-more actors-more effects all

  pub known-more : (around : Around) (others : Known) → KnownWithin around F others (RefsWith R log) (ActorsWith A log) → KnownWithin around F others (RefsWith R log') (ActorsWith A log')
  known-more around others is = known-wider around F others (RefsWith R log) (ActorsWith A log) (RefsWith R log') (ActorsWith A log') refs-more actors-more is

  -- with more done, and writes, effects and known results that are within the wider scope
  pub scoped-more : (around : Around) (values : List Datum) (answers : List Answer) → IsScoped around F R A values log known answers
      → WritesWithin (RefsWith R log') (ActorsWith A log') log'.writes
      → EffectsWithin around.program (RefsWith R log') (ActorsWith A log') log'.effects
      → KnownWithin around F known' (RefsWith R log') (ActorsWith A log')
      → IsScoped around F R A values log' known' answers
  scoped-more around values answers is writes effects knows = record {
    values = All-weaker (IsValueOf F R A log known) (IsValueOf F R A log' known') value-more values is.values;
    answers = All-weaker (OfAnswer (IsValueOf F R A log known)) (OfAnswer (IsValueOf F R A log' known'))
        (of_answer-weaker (IsValueOf F R A log known) (IsValueOf F R A log' known') value-more) answers is.answers;
    writes = writes;
    effects = effects;
    known = knows;
  }

-- one answer more
pub scoped-answered : (around : Around) (F R A : Name → Type 0) (values : List Datum) (log : Log) (known : Known) (answers : List Answer) (a : Answer) → IsScoped around F R A values log known answers
    → OfAnswer (IsValueOf F R A log known) a → IsScoped around F R A values log known (answers ++ a ∷ [])
scoped-answered around F R A values log known answers a is holds = record {
  values = is.values;
  answers = All-push (OfAnswer (IsValueOf F R A log known)) answers a is.answers holds;
  writes = is.writes;
  effects = is.effects;
  known = is.known;
}

-- a join of what is within the scope
pub scoped-joined : (around : Around) (F R A : Name → Type 0) (values : List Datum) (log : Log) (known : Known) (answers : List Answer) (child : Result)
    → IsMore log known (merged log child.log) (with_known known child.known) → IsMore child.log child.known (merged log child.log) (with_known known child.known)
    → IsScoped around F R A values log known answers → IsFoundWithin around F (RefsWith R log) (ActorsWith A log) child
    → IsScoped around F R A values (merged log child.log) (with_known known child.known) answers
scoped-joined around F R A values log known answers child more theirs is found =
    scoped-more F R A log known joint joint_known more around values answers is
    (all-over (Within (RefsWith R joint) (ActorsWith A joint) NoFuture) child.log.writes log.writes
    (writes-wider (RefsWith (RefsWith R log) child.log) (ActorsWith (ActorsWith A log) child.log) (RefsWith R joint) (ActorsWith A joint) refs actors child.log.writes found.itself.writes)
    (writes-more F R A log known joint joint_known more log.writes is.writes))
    (merge-all (λ (e : Effect). EffectWithin around.program (RefsWith R joint) (ActorsWith A joint) e.what) child.log.effects log.effects
    (effects-more F R A log known joint joint_known more around.program log.effects is.effects)
    (effects-wider around.program (RefsWith (RefsWith R log) child.log) (ActorsWith (ActorsWith A log) child.log) (RefsWith R joint) (ActorsWith A joint) refs actors child.log.effects found.itself.effects))
    (known-both around F known child.known (RefsWith R joint) (ActorsWith A joint) (known-more F R A log known joint joint_known more around known is.known)
    (known-wider around F child.known (RefsWith (RefsWith R log) child.log) (ActorsWith (ActorsWith A log) child.log) (RefsWith R joint) (ActorsWith A joint) refs actors found.inner))
  where
    joint : Log
    joint = merged log child.log

    joint_known : Known
    joint_known = with_known known child.known

    refs : IsLess (RefsWith (RefsWith R log) child.log) (RefsWith R joint)
    refs name (inl there) = refs-more F R A log known joint joint_known more name there
    refs name (inr there) = inr (theirs.refs name there)

    actors : IsLess (ActorsWith (ActorsWith A log) child.log) (ActorsWith A joint)
    actors name (inl there) = actors-more F R A log known joint joint_known more name there
    actors name (inr there) = inr (theirs.actors name there)

-- the value of a result that is all there
pub child-value : (around : Around) (F R A : Name → Type 0) (log : Log) (known : Known) (child : Result) (log' : Log) (known' : Known)
    → IsMore log known log' known' → IsMore child.log child.known log' known'
    → IsWithin around F (RefsWith R log) (ActorsWith A log) child → (v : Datum) → child.outcome ≡ Value v → IsValueOf F R A log' known' v
child-value around F R A log known child log' known' more theirs is v same =
    Within-weaker (RefsWith (RefsWith R log) child.log) (ActorsWith (ActorsWith A log) child.log) (FuturesWith F child) (RefsWith R log') (ActorsWith A log') (FuturesIn F known')
    refs actors futures v (is.value v same)
  where
    refs : IsLess (RefsWith (RefsWith R log) child.log) (RefsWith R log')
    refs name (inl there) = refs-more F R A log known log' known' more name there
    refs name (inr there) = inr (theirs.refs name there)

    actors : IsLess (ActorsWith (ActorsWith A log) child.log) (ActorsWith A log')
    actors name (inl there) = actors-more F R A log known log' known' more name there
    actors name (inr there) = inr (theirs.actors name there)

    futures : IsLess (FuturesWith F child) (FuturesIn F known')
    futures name (inl there) = inl there
    futures name (inr there) = inr (theirs.futures name there)

-- ---- what a task runs with
-- a ref's value in the store
pub record IsStored (around : Around) (R A : Name → Type 0) (ref : Name) : Type 0 where
  pub value : Datum
  pub stored : around.store ref ≡ Some value
  pub within : Within R A NoFuture value

-- R: the refs that are there, in the view or in the store; A: the actors; F: the plain units
pub record IsTask (around : Around) (F R A : Name → Type 0) (view : Named Datum) : Type 0 where
  pub formed : IsWellFormed around.program
  pub viewed : Each (λ name v. Within R A NoFuture v) view
  pub refs_there : (ref : Name) → R ref → IsSome (named ref view) ⊎ IsStored around R A ref
  pub units_hold : (future : Name) (v : Datum) → F future → around.finished future ≡ Some v → Within R A F v
  pub actor_there : (actor : Name) → around.actor ≡ Some actor → A actor

-- what is read for a ref
pub record IsRead (around : Around) (R A : Name → Type 0) (view : Named Datum) (log : Log) (ref : Name) : Type 0 where
  pub value : Datum
  pub read : read_in around view log ref ≡ Some value
  pub within : Within (RefsWith R log) (ActorsWith A log) NoFuture value

module _ (around : Around) (F R A : Name → Type 0) (view : Named Datum) (task : IsTask around F R A view) (log : Log) (writes : WritesWithin (RefsWith R log) (ActorsWith A log) log.writes) where
  wider : (v : Datum) → Within R A NoFuture v → Within (RefsWith R log) (ActorsWith A log) NoFuture v
  wider v holds = Within-weaker R A NoFuture (RefsWith R log) (ActorsWith A log) NoFuture (λ name there. inl there) (λ name there. inl there) (λ name none. none) v holds

  -- a ref that is there can be read, and what is read is within the scope
  pub ref-read : (ref : Name) → RefsWith R log ref → IsRead around R A view log ref
  ref-read ref there = on (named ref log.writes) refl there
    where
      below : (found : Option Datum) → named ref view ≡ found → named ref log.writes ≡ None → IsSome found ⊎ IsStored around R A ref → IsRead around R A view log ref
      below (Some v) seen none at = record {
        value = v;
        read = ap (λ o. option_or o (option_or (named ref view) (around.store ref))) none ∙ ap (λ o. option_or o (around.store ref)) seen;
        within = wider v (task.viewed ref v seen);
      }
      below None seen none (inl at) = absurd (cc)
      below None seen none (inr at) = record {
        value = at.value;
        read = ap (λ o. option_or o (option_or (named ref view) (around.store ref))) none ∙ ap (λ o. option_or o (around.store ref)) seen ∙ at.stored;
        within = wider at.value at.within;
      }

      seen_or_stored : R ref → IsSome (named ref view) ⊎ IsStored around R A ref
      seen_or_stored there = task.refs_there ref there

      on : (found : Option Datum) → named ref log.writes ≡ found → R ref ⊎ IsSome found → IsRead around R A view log ref
      on (Some v) found there = record {
        value = v;
        read = ap (λ o. option_or o (option_or (named ref view) (around.store ref))) found;
        within = all-named (Within (RefsWith R log) (ActorsWith A log) NoFuture) ref v log.writes writes found;
      }
      on None found (inl there) = below (named ref view) refl found (seen_or_stored there)
      on None found (inr none) = absurd (cc)

  -- a child is run with the view now
  pub child-task : IsTask around F (RefsWith R log) (ActorsWith A log) (over log.writes view)
  child-task = record {
    formed = task.formed;
    viewed = each-over (λ name v. Within (RefsWith R log) (ActorsWith A log) NoFuture v) log.writes view writes (λ name v found. wider v (task.viewed name v found));
    refs_there = λ ref there. on ref there;
    units_hold = λ future v known finished.
        Within-weaker R A F (RefsWith R log) (ActorsWith A log) F (λ name there. inl there) (λ name there. inl there) (λ name there. there) v (task.units_hold future v known finished);
    actor_there = λ actor is. inl (task.actor_there actor is);
  }
    where
      below : (ref : Name) → IsSome (named ref view) ⊎ IsStored around R A ref → IsSome (named ref (over log.writes view)) ⊎ IsStored around (RefsWith R log) (ActorsWith A log) ref
      below ref (inl there) = inl (still_over ref log.writes view there)
      below ref (inr at) = inr (record { value = at.value; stored = at.stored; within = wider at.value at.within })

      on : (ref : Name) → RefsWith R log ref → IsSome (named ref (over log.writes view)) ⊎ IsStored around (RefsWith R log) (ActorsWith A log) ref
      on ref (inr there) = inl (named_over ref log.writes view there)
      on ref (inl there) = below ref (task.refs_there ref there)
