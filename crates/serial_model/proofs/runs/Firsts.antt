-- What the first unit that is not finished is, and the first message; and what holds where there is none.
use Rattle.std.proofs.Common.{◌≡◌, ◌∙◌, ◌⊎◌, inl, inr, Bool, true, false, cond, List, [], ◌∷◌, refl, sym, ap, subst}
use Rattle.std.specs.Prelude.{Option, None, Some}
use Rattle.std.specs.Option.{IsSome, option_or, option_map, option_and_then, unwrap_or}
use Rattle.std.specs.declared.cmp.Ordering.TheVariants.{Less}
use Rattle.value_core.specs.Name.{after_cmp}
use Rattle.value_core.specs.declared.value.Value.{Value}
use Rattle.serial_model.specs.declared.actor_state.ActorState.{ActorState}
use Rattle.serial_model.specs.declared.end.End.{End}
use Rattle.serial_model.specs.declared.end.End.TheVariants.{Done}
use Rattle.serial_model.specs.declared.entry.Entry.{Entry}
use Rattle.serial_model.specs.declared.entry.Entry.TheVariants.{Run, Take}
use Rattle.serial_model.specs.First.{first_unit, first_sender, first_message, first_of, if_unfinished, if_waiting, unless_over}
use Rattle.serial_model.specs.Laws.{IsQuiet}
use Rattle.value_core.specs.Named.{Name, Named, named, Rises}
use Rattle.serial_model.specs.Replay.{IsOver, still}
use Rattle.serial_model.specs.State.{Setup, UnitState, Queues, State}
use Rattle.serial_model.specs.Step.{step, queue_of, unit_step, take_step, unless_ended, begins_turn}
use Rattle.value_core.proofs.NamedLaws.{Each, rises-rest, named-rest, named-first, named-before, found_first}

-- the unit is there and not finished, and each unit before it is finished
pub record IsFirstUnit (units : Named UnitState) (name : Name) (unit : UnitState) : Type 0 where
  pub there : named name units ≡ Some unit
  pub unfinished : unit.finished ≡ None
  pub before : (other : Name) (u : UnitState) → after_cmp other name ≡ Less → named other units ≡ Some u → IsSome u.finished

pub first_unit-is : (units : Named UnitState) (name : Name) → Rises units → first_unit units ≡ Some name → (unit : UnitState) × IsFirstUnit units name unit
first_unit-is [] name rises is = cc
first_unit-is (e ∷ es) name rises is = on e.1.finished refl is (λ first. first_unit-is es name (rises-rest e es rises) first)
  where
    here : name ≡ e.0 → e.1.finished ≡ None → IsFirstUnit (e ∷ es) name e.1
    here same open_still = record {
      there = subst (λ n. named n (e ∷ es) ≡ Some e.1) (sym same) (named-first e es);
      unfinished = open_still;
      before = λ other u less found. let none = named-before other e es rises (subst (λ n. after_cmp other n ≡ Less) same less) in cc;
    }

    behind : IsSome e.1.finished → (unit : UnitState) → IsFirstUnit es name unit → IsFirstUnit (e ∷ es) name unit
    behind over unit first = record {
      there = named-rest name unit e es rises first.there;
      unfinished = first.unfinished;
      before = λ other u less found. among (found_first other u e es found) (λ rest. first.before other u less rest);
    }
      where
        among : {other : Name} {u : UnitState} → ((other ≡ e.0) × (u ≡ e.1)) ⊎ (named other es ≡ Some u) → (named other es ≡ Some u → IsSome u.finished) → IsSome u.finished
        among (inl same) rest = subst (λ u. IsSome u.finished) (sym same.1) over
        among (inr found) rest = rest found

    on : (finished : Option Value) → e.1.finished ≡ finished → option_or (if_unfinished finished e.0) (first_unit es) ≡ Some name
        → (first_unit es ≡ Some name → (unit : UnitState) × IsFirstUnit es name unit) → (unit : UnitState) × IsFirstUnit (e ∷ es) name unit
    on None open_still found rest = let same : name ≡ e.0 = cc in (e.1, here same open_still)
    on (Some v) over found rest = let behind_it = rest found in (behind_it.0, behind (subst IsSome (sym over) refl) behind_it.0 behind_it.1)

-- where there is none all units are finished
pub first_unit-none : (units : Named UnitState) → first_unit units ≡ None → Each (λ name unit. IsSome unit.finished) units
first_unit-none [] is name unit found = cc
first_unit-none (e ∷ es) is name unit found = on e.1.finished refl is (λ none rest. first_unit-none es none name unit rest)
  where
    on : (finished : Option Value) → e.1.finished ≡ finished → option_or (if_unfinished finished e.0) (first_unit es) ≡ None
        → (first_unit es ≡ None → named name es ≡ Some unit → IsSome unit.finished) → IsSome unit.finished
    on None open_still none rest = cc
    on (Some v) over none rest = among (found_first name unit e es found)
      where
        among : ((name ≡ e.0) × (unit ≡ e.1)) ⊎ (named name es ≡ Some unit) → IsSome unit.finished
        among (inl same) = subst (λ u. IsSome u.finished) (sym same.1) (subst IsSome (sym over) refl)
        among (inr found) = rest none found

-- a message waits there
pub record IsWaiting (queue : List (List Value)) : Type 0 where
  pub message : List Value
  pub messages : List (List Value)
  pub is : queue ≡ message ∷ messages

pub record IsFirstSender (queues : Named (List (List Value))) (sender : Name) : Type 0 where
  pub queue : List (List Value)
  pub there : named sender queues ≡ Some queue
  pub waiting : IsWaiting queue

pub first_sender-is : (queues : Named (List (List Value))) (sender : Name) → Rises queues → first_sender queues ≡ Some sender → IsFirstSender queues sender
first_sender-is [] sender rises is = cc
first_sender-is (e ∷ es) sender rises is = on e.1 refl is (λ first. first_sender-is es sender (rises-rest e es rises) first)
  where
    on : (queue : List (List Value)) → e.1 ≡ queue → option_or (if_waiting queue e.0) (first_sender es) ≡ Some sender
        → (first_sender es ≡ Some sender → IsFirstSender es sender) → IsFirstSender (e ∷ es) sender
    on [] empty found rest =
        let behind = rest found in record { queue = behind.queue; there = named-rest sender behind.queue e es rises behind.there; waiting = behind.waiting }
    on (message ∷ messages) waits found rest =
        let same : e.0 ≡ sender = cc in
        record { queue = e.1; there = subst (λ n. named n (e ∷ es) ≡ Some e.1) same (named-first e es); waiting = record { message = message; messages = messages; is = waits } }

pub first_sender-none : (queues : Named (List (List Value))) → first_sender queues ≡ None → Each (λ sender queue. queue ≡ []) queues
first_sender-none [] is sender queue found = cc
first_sender-none (e ∷ es) is sender queue found = on e.1 refl is (λ none rest. first_sender-none es none sender queue rest)
  where
    on : (first : List (List Value)) → e.1 ≡ first → option_or (if_waiting first e.0) (first_sender es) ≡ None
        → (first_sender es ≡ None → named sender es ≡ Some queue → queue ≡ []) → queue ≡ []
    on [] empty none rest = among (found_first sender queue e es found)
      where
        among : ((sender ≡ e.0) × (queue ≡ e.1)) ⊎ (named sender es ≡ Some queue) → queue ≡ []
        among (inl same) = same.1 ∙ empty
        among (inr found) = rest none found
    on (message ∷ messages) waits none rest = cc

-- the entry takes the message of an actor's first sender
pub record IsFirstMessage (queues : Queues) (entry : Entry) : Type 0 where
  pub actor : Name
  pub sender : Name
  pub mail : Named (List (List Value))
  pub is : entry ≡ Take actor sender
  pub there : named actor queues ≡ Some mail
  pub first : first_sender mail ≡ Some sender

pub first_message-is : (queues : Queues) (entry : Entry) → Rises queues → first_message queues ≡ Some entry → IsFirstMessage queues entry
first_message-is [] entry rises is = cc
first_message-is (e ∷ es) entry rises is = on (first_sender e.1) refl is (λ first. first_message-is es entry (rises-rest e es rises) first)
  where
    on : (first : Option Name) → first_sender e.1 ≡ first → option_or (option_map (λ sender. Take e.0 sender) first) (first_message es) ≡ Some entry
        → (first_message es ≡ Some entry → IsFirstMessage es entry) → IsFirstMessage (e ∷ es) entry
    on None none found rest =
        let behind = rest found in
        record { actor = behind.actor; sender = behind.sender; mail = behind.mail; is = behind.is; there = named-rest behind.actor behind.mail e es rises behind.there; first = behind.first }
    on (Some sender) first found rest = let same : entry ≡ Take e.0 sender = cc in record { actor = e.0; sender = sender; mail = e.1; is = same; there = named-first e es; first = first }

-- all queues are empty
abbrev pub AreEmpty : Queues → Type 0
AreEmpty queues = Each (λ actor mail. Each (λ sender queue. queue ≡ []) mail) queues

pub first_message-none : (queues : Queues) → first_message queues ≡ None → AreEmpty queues
first_message-none [] is actor mail found = cc
first_message-none (e ∷ es) is actor mail found = on (first_sender e.1) refl is (λ none rest. first_message-none es none actor mail rest)
  where
    on : (first : Option Name) → first_sender e.1 ≡ first → option_or (option_map (λ sender. Take e.0 sender) first) (first_message es) ≡ None
        → (first_message es ≡ None → named actor es ≡ Some mail → Each (λ sender queue. queue ≡ []) mail) → Each (λ sender queue. queue ≡ []) mail
    on None no_sender none rest = among (found_first actor mail e es found)
      where
        among : ((actor ≡ e.0) × (mail ≡ e.1)) ⊎ (named actor es ≡ Some mail) → Each (λ sender queue. queue ≡ []) mail
        among (inl same) = subst (λ m. Each (λ sender queue. queue ≡ []) m) (sym same.1) (first_sender-none e.1 no_sender)
        among (inr found) = rest none found
    on (Some sender) first none rest = cc

pub empty_queue : (queues : Queues) (actor sender : Name) → AreEmpty queues → queue_of queues actor sender ≡ []
empty_queue queues actor sender empty = on (named actor queues) refl
  where
    inner : (mail : Named (List (List Value))) → named actor queues ≡ Some mail → (found : Option (List (List Value))) → named sender mail ≡ found → unwrap_or found [] ≡ []
    inner mail there None found = refl
    inner mail there (Some queue) found = empty actor mail there sender queue found

    on : (found : Option (Named (List (List Value)))) → named actor queues ≡ found → unwrap_or (option_and_then (named sender) found) [] ≡ []
    on None there = refl
    on (Some mail) there = inner mail there (named sender mail) refl

pub first_of-none : (s : State) → s.end ≡ None → first_of s ≡ None → IsQuiet s
first_of-none s going is = on (first_unit s.units) refl (first_message s.queues) refl (sym (ap (λ end. unless_over end (option_or (option_map (λ name. Run name) (first_unit s.units)) (first_message s.queues))) going) ∙ is)
  where
    on : (unit : Option Name) → first_unit s.units ≡ unit → (message : Option Entry) → first_message s.queues ≡ message → option_or (option_map (λ name. Run name) unit) message ≡ None → IsQuiet s
    on None no_unit None no_message none = record { units = first_unit-none s.units no_unit; queues = first_message-none s.queues no_message }
    on None no_unit (Some entry) message none = cc
    on (Some name) unit message is_message none = cc

-- in a quiet state nothing is enabled
pub quiet-is-still : (setup : Setup) (s : State) → IsQuiet s → (entry : Entry) → step setup s entry ≡ None
unfolding step
quiet-is-still setup s quiet (Run name) = ended s.end (found (named name s.units) refl)
  where
    ended : (end : Option End) → {next : Option State} → next ≡ None → unless_ended end next ≡ None
    ended None none = none
    ended (Some end) none = refl

    finished : (unit : UnitState) (finished : Option Value) → unit.finished ≡ finished → IsSome finished → unit_step setup s name unit ≡ None
    finished unit None is some = cc
    finished unit (Some v) is some = rw is refl

    found : (unit : Option UnitState) → named name s.units ≡ unit → option_and_then (unit_step setup s name) unit ≡ None
    found None is = refl
    found (Some unit) is = finished unit unit.finished refl (quiet.units name unit is)
quiet-is-still setup s quiet (Take actor sender) = ended s.end (found (named actor s.actors))
  where
    ended : (end : Option End) → {next : Option State} → next ≡ None → unless_ended end next ≡ None
    ended None none = none
    ended (Some end) none = refl

    at_rest : (state : ActorState) (busy : Bool) → cond busy None (begins_turn setup s actor sender state (queue_of s.queues actor sender)) ≡ None
    at_rest state true = refl
    at_rest state false = rw (empty_queue s.queues actor sender quiet.queues) refl

    found : (state : Option ActorState) → option_and_then (take_step setup s actor sender) state ≡ None
    found None = refl
    found (Some state) = at_rest state state.busy

-- where one thread finds no entry, and no end is set, the state is over
pub none_is_over : (setup : Setup) (s : State) → s.end ≡ None → first_of s ≡ None → IsOver setup s Done
none_is_over setup s going none = still going (quiet-is-still setup s (first_of-none s going none))
