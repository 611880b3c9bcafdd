-- The names that values may have: the parts of a state have the refs, the actors and the units that there are, each unit has futures of
-- units that are early for it, and no ref, actor or message has a future.
use Rattle.std.proofs.Common.{◌≡◌, ℕ, suc, ◌<◌, false, List, [], ◌∷◌, length, refl, ap, subst}
use Rattle.std.specs.Prelude.{Option, None, Some, All}
use Rattle.std.specs.Option.{option_and_then, unwrap_or}
use Rattle.std.proofs.lemmas.List.Elements.{All-nil, All-push, All-weaker}
use Rattle.value_core.specs.declared.value.Value.{Value}
use Rattle.value_core.specs.Futures.{holds_future}
use Rattle.value_core.specs.Within.{Within}
use Rattle.value_core.proofs.Within.{Within-weaker, Within-any_futures, all_within-any_futures}
use Rattle.core_syntax.specs.declared.node_id.NodeId.{NodeId}
use Rattle.core_syntax.specs.Table.{Table}
use Rattle.serial_model.specs.declared.actor_state.ActorState.{ActorState}
use Rattle.serial_model.specs.declared.answer.Answer.{Answer}
use Rattle.serial_model.specs.declared.answer.Answer.TheVariants as answer
use Rattle.serial_model.specs.Carried.{OfAnswer}
use Rattle.value_core.specs.Named.{Name, Named, named, with_named, over, made_by, Rises}
use Rattle.serial_model.specs.Operation.{some_future}
use Rattle.serial_model.specs.State.{Becoming, UnitState, Queues, new_unit}
use Rattle.serial_model.specs.Step.{answered, with_made, becoming, with_queue, queue_of}
use Rattle.serial_model.proofs.Early.{IsEarlier, earlier-next, earlier-below}
use Rattle.value_core.proofs.NamedLaws.{rises-with_named, Each, each-put, each-over}
use Rattle.serial_model.proofs.tasks.TaskScope.{NoFuture}

-- the refs, the actors and the units that there are
pub record Scope : Type 1 where
  pub refs : Name → Type 0
  pub actors : Name → Type 0
  pub units : Name → Type 0

pub record IsWider (S T : Scope) : Type 0 where
  pub refs : (name : Name) → S.refs name → T.refs name
  pub actors : (name : Name) → S.actors name → T.actors name
  pub units : (name : Name) → S.units name → T.units name

-- the units that are early for the k-th thing that a unit makes
abbrev pub EarlyUnit : Scope → Name → ℕ → Name → Type 0
EarlyUnit S name k future = S.units future × IsEarlier future (made_by name k)

-- a value with no future
abbrev pub IsSealedIn : Scope → Value → Type 0
IsSealedIn S v = Within S.refs S.actors NoFuture v

-- a value that a unit may have before it makes its k-th thing
abbrev pub IsSeenIn : Scope → Name → ℕ → Value → Type 0
IsSeenIn S name k v = Within S.refs S.actors (EarlyUnit S name k) v

pub sealed-wider : (S T : Scope) → IsWider S T → (v : Value) → IsSealedIn S v → IsSealedIn T v
sealed-wider S T wider v holds = Within-weaker S.refs S.actors NoFuture T.refs T.actors NoFuture wider.refs wider.actors (λ name none. none) v holds

pub seen-wider : (S T : Scope) → IsWider S T → (name : Name) (k : ℕ) (v : Value) → IsSeenIn S name k v → IsSeenIn T name k v
seen-wider S T wider name k v holds =
    Within-weaker S.refs S.actors (EarlyUnit S name k) T.refs T.actors (EarlyUnit T name k) wider.refs wider.actors (λ future known. (wider.units future known.0, known.1)) v holds

-- what is early at one place is early at another
pub seen-later : (S : Scope) (name other : Name) (k j : ℕ) → ((future : Name) → IsEarlier future (made_by name k) → IsEarlier future (made_by other j))
    → (v : Value) → IsSeenIn S name k v → IsSeenIn S other j v
seen-later S name other k j later v holds =
    Within-weaker S.refs S.actors (EarlyUnit S name k) S.refs S.actors (EarlyUnit S other j) (λ ref there. there) (λ actor there. there) (λ future known. (known.0, later future known.1)) v holds

pub sealed-seen : (S : Scope) (name : Name) (k : ℕ) (v : Value) → IsSealedIn S v → IsSeenIn S name k v
sealed-seen S name k v holds =
    Within-weaker S.refs S.actors NoFuture S.refs S.actors (EarlyUnit S name k) (λ ref there. there) (λ actor there. there) (λ future none. absurd none) v holds

pub seen-sealed : (S : Scope) (name : Name) (k : ℕ) (v : Value) → holds_future v ≡ false → IsSeenIn S name k v → IsSealedIn S v
seen-sealed S name k v none holds = Within-any_futures S.refs S.actors (EarlyUnit S name k) NoFuture v none holds

pub all_seen-sealed : (S : Scope) (name : Name) (k : ℕ) (vs : List Value) → some_future vs ≡ false → All (IsSeenIn S name k) vs → All (IsSealedIn S) vs
all_seen-sealed S name k vs none holds = all_within-any_futures S.refs S.actors (EarlyUnit S name k) NoFuture vs none holds

of_answer-weaker : (P Q : Value → Type 0) → ((v : Value) → P v → Q v) → (a : Answer) → OfAnswer P a → OfAnswer Q a
of_answer-weaker P Q weaker (answer.Value v) holds = weaker v holds
of_answer-weaker P Q weaker (answer.Fault code) holds = tt

-- a behaviour that is there, and a state with no future
pub record IsBecoming (table : Table) (S : Scope) (behaviour : ℕ) (state : List Value) : Type 0 where
  pub there : behaviour < length table.behaviours
  pub sealed : All (IsSealedIn S) state

pub becoming-wider : (table : Table) (S T : Scope) → IsWider S T → (behaviour : ℕ) (state : List Value) → IsBecoming table S behaviour state → IsBecoming table T behaviour state
becoming-wider table S T wider behaviour state is = record { there = is.there; sealed = All-weaker (IsSealedIn S) (IsSealedIn T) (sealed-wider S T wider) state is.sealed }

-- what a unit has
pub record UnitScoped (table : Table) (S : Scope) (name : Name) (unit : UnitState) : Type 0 where
  pub values : All (IsSeenIn S name unit.made) unit.values
  pub answers : All (OfAnswer (IsSeenIn S name unit.made)) unit.answers
  pub finished : (v : Value) → unit.finished ≡ Some v → IsSeenIn S name unit.made v
  pub becomes : (b : Becoming) → unit.becomes ≡ Some b → IsBecoming table S b.behaviour b.state
  pub actor : (actor : Name) → unit.actor ≡ Some actor → S.actors actor

abbrev pub ActorScoped : Table → Scope → Name → ActorState → Type 0
ActorScoped table S name actor = IsBecoming table S actor.behaviour actor.state

-- the mail of an actor that is there
pub record MailScoped (S : Scope) (name : Name) (mail : Named (List (List Value))) : Type 0 where
  pub actor : S.actors name
  pub rises : Rises mail
  pub messages : Each (λ sender queue. All (All (IsSealedIn S)) queue) mail

pub unit-wider : (table : Table) (S T : Scope) → IsWider S T → (name : Name) (unit : UnitState) → UnitScoped table S name unit → UnitScoped table T name unit
unit-wider table S T wider name unit is = record {
  values = All-weaker (IsSeenIn S name unit.made) (IsSeenIn T name unit.made) (seen-wider S T wider name unit.made) unit.values is.values;
  answers = All-weaker (OfAnswer (IsSeenIn S name unit.made)) (OfAnswer (IsSeenIn T name unit.made))
      (of_answer-weaker (IsSeenIn S name unit.made) (IsSeenIn T name unit.made) (seen-wider S T wider name unit.made)) unit.answers is.answers;
  finished = λ v over. seen-wider S T wider name unit.made v (is.finished v over);
  becomes = λ b said. becoming-wider table S T wider b.behaviour b.state (is.becomes b said);
  actor = λ actor of. wider.actors actor (is.actor actor of);
}

messages-wider : (S T : Scope) → IsWider S T → (queue : List (List Value)) → All (All (IsSealedIn S)) queue → All (All (IsSealedIn T)) queue
messages-wider S T wider queue all =
    All-weaker (All (IsSealedIn S)) (All (IsSealedIn T)) (λ message holds. All-weaker (IsSealedIn S) (IsSealedIn T) (sealed-wider S T wider) message holds) queue all

pub mail-wider : (S T : Scope) → IsWider S T → (name : Name) (mail : Named (List (List Value))) → MailScoped S name mail → MailScoped T name mail
mail-wider S T wider name mail is = record {
  actor = wider.actors name is.actor;
  rises = is.rises;
  messages = λ sender queue there. messages-wider S T wider queue (is.messages sender queue there);
}

-- ---- units
pub answered-scoped : (table : Table) (S : Scope) (name : Name) (unit : UnitState) (v : Value) → UnitScoped table S name unit → IsSeenIn S name unit.made v → UnitScoped table S name (answered unit v)
answered-scoped table S name unit v is seen = record {
  values = is.values;
  answers = All-push (OfAnswer (IsSeenIn S name unit.made)) unit.answers (answer.Value v) is.answers seen;
  finished = is.finished;
  becomes = is.becomes;
  actor = is.actor;
}

pub made-scoped : (table : Table) (S : Scope) (name : Name) (unit : UnitState) → UnitScoped table S name unit → UnitScoped table S name (with_made unit)
made-scoped table S name unit is = record {
  values = All-weaker (IsSeenIn S name unit.made) (IsSeenIn S name (suc unit.made)) later unit.values is.values;
  answers = All-weaker (OfAnswer (IsSeenIn S name unit.made)) (OfAnswer (IsSeenIn S name (suc unit.made)))
      (of_answer-weaker (IsSeenIn S name unit.made) (IsSeenIn S name (suc unit.made)) later) unit.answers is.answers;
  finished = λ v over. later v (is.finished v over);
  becomes = is.becomes;
  actor = is.actor;
}
  where
    later : (v : Value) → IsSeenIn S name unit.made v → IsSeenIn S name (suc unit.made) v
    later v seen = seen-later S name name unit.made (suc unit.made) (λ future early. earlier-next future name unit.made early) v seen

pub becoming-scoped : (table : Table) (S : Scope) (name : Name) (unit : UnitState) (behaviour : ℕ) (state : List Value) → UnitScoped table S name unit → IsBecoming table S behaviour state
    → UnitScoped table S name (becoming unit behaviour state)
becoming-scoped table S name unit behaviour state is said = record {
  values = is.values;
  answers = is.answers;
  finished = is.finished;
  becomes = λ b same.
      let behaviour_same : behaviour ≡ b.behaviour = ap (λ o. (unwrap_or o b).behaviour) same in
      let state_same : state ≡ b.state = ap (λ o. (unwrap_or o b).state) same in
      subst (IsBecoming table S b.behaviour) state_same (subst (λ n. IsBecoming table S n state) behaviour_same said);
  actor = is.actor;
}

pub finished-scoped : (table : Table) (S : Scope) (name : Name) (unit : UnitState) (v : Value) → UnitScoped table S name unit → IsSeenIn S name unit.made v
    → UnitScoped table S name (record unit { finished = Some v })
finished-scoped table S name unit v is seen = record {
  values = is.values;
  answers = is.answers;
  finished = λ w same. let v_same : v ≡ w = ap (λ o. unwrap_or o w) same in subst (IsSeenIn S name unit.made) v_same seen;
  becomes = is.becomes;
  actor = is.actor;
}

-- a task of the unit begins with what the unit has
pub task-scoped : (table : Table) (S : Scope) (name : Name) (k : ℕ) (body : NodeId) (values : List Value) → All (IsSeenIn S name k) values → UnitScoped table S (made_by name k) (new_unit None body values)
task-scoped table S name k body values seen = record {
  values = All-weaker (IsSeenIn S name k) (IsSeenIn S (made_by name k) 0)
      (λ v holds. seen-later S name (made_by name k) k 0 (λ future early. earlier-below future (made_by name k) (0 ∷ []) early) v holds) values seen;
  answers = All-nil (OfAnswer (IsSeenIn S (made_by name k) 0));
  finished = λ v none. cc;
  becomes = λ b none. cc;
  actor = λ actor none. cc;
}

pub turn-scoped : (table : Table) (S : Scope) (name actor : Name) (body : NodeId) (values : List Value) → S.actors actor → All (IsSealedIn S) values → UnitScoped table S name (new_unit (Some actor) body values)
turn-scoped table S name actor body values there sealed = record {
  values = All-weaker (IsSealedIn S) (IsSeenIn S name 0) (sealed-seen S name 0) values sealed;
  answers = All-nil (OfAnswer (IsSeenIn S name 0));
  finished = λ v none. cc;
  becomes = λ b none. cc;
  actor = λ other same. let is : actor ≡ other = ap (λ o. unwrap_or o other) same in subst S.actors is there;
}

-- ---- the parts of a state
pub record AreScoped (table : Table) (S : Scope) (refs : Named Value) (units : Named UnitState) (actors : Named ActorState) (queues : Queues) : Type 0 where
  pub each_ref : Each (λ name v. IsSealedIn S v) refs
  pub each_unit : Each (UnitScoped table S) units
  pub each_actor : Each (ActorScoped table S) actors
  pub each_queue : Each (MailScoped S) queues

module _ (table : Table) (S : Scope) (refs : Named Value) (units : Named UnitState) (actors : Named ActorState) (queues : Queues) (scoped : AreScoped table S refs units actors queues) where
  pub scoped-wider : (T : Scope) → IsWider S T → AreScoped table T refs units actors queues
  scoped-wider T wider = record {
    each_ref = λ name v there. sealed-wider S T wider v (scoped.each_ref name v there);
    each_unit = λ name unit there. unit-wider table S T wider name unit (scoped.each_unit name unit there);
    each_actor = λ name actor there. becoming-wider table S T wider actor.behaviour actor.state (scoped.each_actor name actor there);
    each_queue = λ name mail there. mail-wider S T wider name mail (scoped.each_queue name mail there);
  }

  pub unit-put : (name : Name) (unit : UnitState) → UnitScoped table S name unit → AreScoped table S refs (with_named units name unit) actors queues
  unit-put name unit is = record {
    each_ref = scoped.each_ref;
    each_unit = each-put (UnitScoped table S) name unit units scoped.each_unit is;
    each_actor = scoped.each_actor;
    each_queue = scoped.each_queue;
  }

  pub ref-put : (name : Name) (v : Value) → IsSealedIn S v → AreScoped table S (with_named refs name v) units actors queues
  ref-put name v is = record {
    each_ref = each-put (λ name v. IsSealedIn S v) name v refs scoped.each_ref is;
    each_unit = scoped.each_unit;
    each_actor = scoped.each_actor;
    each_queue = scoped.each_queue;
  }

  pub refs-over : (writes : Named Value) → All (λ e. IsSealedIn S e.1) writes → AreScoped table S (over writes refs) units actors queues
  refs-over writes all = record {
    each_ref = each-over (λ name v. IsSealedIn S v) writes refs all scoped.each_ref;
    each_unit = scoped.each_unit;
    each_actor = scoped.each_actor;
    each_queue = scoped.each_queue;
  }

  pub actor-put : (name : Name) (actor : ActorState) → IsBecoming table S actor.behaviour actor.state → AreScoped table S refs units (with_named actors name actor) queues
  actor-put name actor is = record {
    each_ref = scoped.each_ref;
    each_unit = scoped.each_unit;
    each_actor = each-put (ActorScoped table S) name actor actors scoped.each_actor is;
    each_queue = scoped.each_queue;
  }

  -- the messages of one sender
  pub queue-sealed : (actor sender : Name) → All (All (IsSealedIn S)) (queue_of queues actor sender)
  queue-sealed actor sender = on (named actor queues) refl
    where
      inner : (mail : Named (List (List Value))) → named actor queues ≡ Some mail → (found : Option (List (List Value))) → named sender mail ≡ found → All (All (IsSealedIn S)) (unwrap_or found [])
      inner mail there None found = All-nil (All (IsSealedIn S))
      inner mail there (Some queue) found = (scoped.each_queue actor mail there).messages sender queue found

      on : (found : Option (Named (List (List Value)))) → named actor queues ≡ found → All (All (IsSealedIn S)) (unwrap_or (option_and_then (named sender) found) [])
      on None there = All-nil (All (IsSealedIn S))
      on (Some mail) there = inner mail there (named sender mail) refl

  pub queue-put : (actor sender : Name) (messages : List (List Value)) → S.actors actor → All (All (IsSealedIn S)) messages → AreScoped table S refs units actors (with_queue queues actor sender messages)
  queue-put actor sender messages is_there sealed = record {
    each_ref = scoped.each_ref;
    each_unit = scoped.each_unit;
    each_actor = scoped.each_actor;
    each_queue = each-put (MailScoped S) actor (with_named (unwrap_or (named actor queues) []) sender messages) queues scoped.each_queue (on (named actor queues) refl);
  }
    where
      more : (mail : Named (List (List Value))) → Rises mail → Each (λ sender queue. All (All (IsSealedIn S)) queue) mail → MailScoped S actor (with_named mail sender messages)
      more mail rises each = record {
        actor = is_there;
        rises = rises-with_named sender messages mail rises;
        messages = each-put (λ sender queue. All (All (IsSealedIn S)) queue) sender messages mail each sealed;
      }

      on : (found : Option (Named (List (List Value)))) → named actor queues ≡ found → MailScoped S actor (with_named (unwrap_or found []) sender messages)
      on None found = more [] tt (λ sender queue none. cc)
      on (Some mail) found = let is = scoped.each_queue actor mail found in more mail is.rises is.messages
