-- What makes an entry the one that one thread settles next.
use Rattle.std.proofs.Common.{◌≡◌, ◌∙◌, ◌⊎◌, inl, inr, List, [], ◌∷◌, refl, sym, ap, ap₂, subst}
use Rattle.std.specs.Option.{IsSome, option_and_then, option_map, option_or, unwrap_or}
use Rattle.std.specs.Prelude.{None, Option, Some}
use Rattle.run_end.specs.InTurn.{IsUpTo}
use Rattle.serial_model.proofs.runs.Firsts.{first_sender-is}
use Rattle.serial_model.specs.declared.entry.Entry.{Entry}
use Rattle.serial_model.specs.declared.entry.Entry.TheVariants.{Run, Take}
use Rattle.serial_model.specs.First.{first_message, first_of, first_sender, first_unit, if_unfinished, if_waiting, unless_over}
use Rattle.serial_model.specs.State.{Queues, State, UnitState}
use Rattle.serial_model.specs.Step.{queue_of}
use Rattle.value_core.proofs.NamedLaws.{Each, found_first, named-before, named-first, named-rest, rises-rest}
use Rattle.value_core.specs.declared.value.Value.{Value}
use Rattle.value_core.specs.Named.{Name, Named, Rises, named}

some-same : {X : Type 0} (x y : X) → Some x ≡ Some y → x ≡ y
some-same x y e = cc

-- ---- the first of a map that is picked
module _ {X Y : Type 0} (pick : Name → X → Option Y) (first : Named X → Option Y) (nil : first [] ≡ None) (step : (e : Name × X) (es : Named X) → first (e ∷ es) ≡ option_or (pick e.0 e.1) (first es)) where
  -- where none is picked there is none
  pub first-none : (all : Named X) → Rises all → Each (λ k x. pick k x ≡ None) all → first all ≡ None
  first-none [] rises none = nil
  first-none (e ∷ es) rises none =
      step e es
      ∙ ap (λ o. option_or o (first es)) (none e.0 e.1 (named-first e es))
      ∙ first-none es (rises-rest e es rises) (λ k x there. none k x (named-rest k x e es rises there))

  -- what is picked, and of which no other that is comes before, is the first
  pub first-is : (all : Named X) → Rises all → (k : Name) (x : X) (y : Y) → named k all ≡ Some x → pick k x ≡ Some y → Each (λ j z. IsSome (pick j z) → IsUpTo k j) all → first all ≡ Some y
  first-is [] rises k x y there picked least = cc
  first-is (e ∷ es) rises k x y there picked least = on (pick e.0 e.1) refl (λ behind. first-is es (rises-rest e es rises) k x y behind picked (λ j z at some. least j z (named-rest j z e es rises at) some))
    where
      here : (y' : Y) → pick e.0 e.1 ≡ Some y' → IsUpTo k e.0 → Some y' ≡ Some y
      here y' is (inl same) =
          let both : Some e.1 ≡ Some x = sym (named-first e es) ∙ ap (λ n. named n (e ∷ es)) (sym same) ∙ there in
          sym is ∙ ap₂ pick (sym same) (some-same e.1 x both) ∙ picked
      here y' is (inr less) = let no : None ≡ Some x = sym (named-before k e es rises less) ∙ there in cc

      among : pick e.0 e.1 ≡ None → (named k es ≡ Some x → first es ≡ Some y) → ((k ≡ e.0) × (x ≡ e.1)) ⊎ (named k es ≡ Some x) → first es ≡ Some y
      among none rest (inl same) = let no : None ≡ Some y = sym none ∙ ap₂ pick (sym same.0) (sym same.1) ∙ picked in cc
      among none rest (inr behind) = rest behind

      on : (o : Option Y) → pick e.0 e.1 ≡ o → (named k es ≡ Some x → first es ≡ Some y) → first (e ∷ es) ≡ Some y
      on None is rest = step e es ∙ ap (λ o. option_or o (first es)) is ∙ among is rest (found_first k x e es there)
      on (Some y') is rest =
          step e es ∙ ap (λ o. option_or o (first es)) is
          ∙ here y' is (least e.0 e.1 (named-first e es) (subst IsSome (sym is) refl))

-- ---- units
abbrev pick_unit : Name → UnitState → Option Name
pick_unit k unit = if_unfinished unit.finished k

finished-none : (v : Option Value) (k : Name) → IsSome v → if_unfinished v k ≡ None
finished-none None k some = cc
finished-none (Some v) k some = refl

some-open : (v : Option Value) (k : Name) → IsSome (if_unfinished v k) → v ≡ None
some-open None k some = refl
some-open (Some v) k some = cc

-- where each unit is finished there is no first
pub units-none : (units : Named UnitState) → Rises units → Each (λ k unit. IsSome unit.finished) units → first_unit units ≡ None
units-none units rises all = first-none pick_unit first_unit refl (λ e es. refl) units rises (λ k unit there. finished-none unit.finished k (all k unit there))

-- a unit that is not finished is the first, where each that is not finished is that one, or comes behind it
pub unit-first : (units : Named UnitState) → Rises units → (u : Name) (unit : UnitState) → named u units ≡ Some unit → unit.finished ≡ None → Each (λ other k. k.finished ≡ None → IsUpTo u other) units → first_unit units ≡ Some u
unit-first units rises u unit there unfinished least =
    first-is pick_unit first_unit refl (λ e es. refl) units rises u unit u there (ap (λ v. if_unfinished v u) unfinished) (λ other k at some. least other k at (some-open k.finished other some))

-- ---- messages
abbrev pick_sender : Name → List (List Value) → Option Name
pick_sender u queue = if_waiting queue u

abbrev pick_mail : Name → Named (List (List Value)) → Option Entry
pick_mail actor mail = option_map (λ sender. Take actor sender) (first_sender mail)

some-waits : (queue : List (List Value)) (u : Name) → IsSome (if_waiting queue u) → queue ≡ [] → ⊥
some-waits [] u some none = cc
some-waits (m ∷ ms) u some none = cc

-- a message of that sender waits for that actor
abbrev pub HasQueue : Queues → Name → Name → Type 0
HasQueue queues actor sender = queue_of queues actor sender ≡ [] → ⊥

queue-there : (queues : Queues) (actor sender : Name) (mail : Named (List (List Value))) (queue : List (List Value)) → named actor queues ≡ Some mail → named sender mail ≡ Some queue → queue_of queues actor sender ≡ queue
queue-there queues actor sender mail queue at there = ap (λ o. unwrap_or (option_and_then (named sender) o) []) at ∙ ap (λ o. unwrap_or o []) there

-- where it stands
pub record IsQueued (queues : Queues) (actor sender : Name) : Type 0 where
  pub mail : Named (List (List Value))
  pub queue : List (List Value)
  pub at : named actor queues ≡ Some mail
  pub there : named sender mail ≡ Some queue
  pub waits : queue ≡ [] → ⊥

pub queued : (queues : Queues) (actor sender : Name) → HasQueue queues actor sender → IsQueued queues actor sender
queued queues actor sender has = on (named actor queues) refl
  where
    among : (mail : Named (List (List Value))) → named actor queues ≡ Some mail → (found : Option (List (List Value))) → named sender mail ≡ found → IsQueued queues actor sender
    among mail at None none = absurd (has (ap (λ o. unwrap_or (option_and_then (named sender) o) []) at ∙ ap (λ o. unwrap_or o []) none))
    among mail at (Some queue) there = record { mail = mail; queue = queue; at = at; there = there; waits = λ none. has (queue-there queues actor sender mail queue at there ∙ none) }

    on : (found : Option (Named (List (List Value)))) → named actor queues ≡ found → IsQueued queues actor sender
    on None none = absurd (has (ap (λ o. unwrap_or (option_and_then (named sender) o) []) none))
    on (Some mail) at = among mail at (named sender mail) refl

waiting-so : (queue : List (List Value)) (u : Name) → (queue ≡ [] → ⊥) → if_waiting queue u ≡ Some u
waiting-so [] u waits = absurd (waits refl)
waiting-so (m ∷ ms) u waits = refl

-- The first message: of the sender that is the first who has one for that actor, where that is the first who has any.
pub message-first : (queues : Queues) → Rises queues → Each (λ actor mail. Rises mail) queues → (actor sender : Name) → HasQueue queues actor sender
    → ((other u : Name) → HasQueue queues other u → IsUpTo actor other) → ((u : Name) → HasQueue queues actor u → IsUpTo sender u) → first_message queues ≡ Some (Take actor sender)
message-first queues rises each actor sender has least before =
    first-is pick_mail first_message refl (λ e es. refl) queues rises actor q.mail (Take actor sender) q.at (ap (option_map (λ n. Take actor n)) sends)
    (λ other mail at some. other-behind other mail at (first_sender mail) refl some)
  where
    q : IsQueued queues actor sender
    q = queued queues actor sender has

    sends : first_sender q.mail ≡ Some sender
    sends =
        first-is pick_sender first_sender refl (λ e es. refl) q.mail (each actor q.mail q.at) sender q.queue sender q.there (waiting-so q.queue sender q.waits)
        (λ u queue there some. before u (λ none. some-waits queue u some (sym (queue-there queues actor u q.mail queue q.at there) ∙ none)))

    other-behind : (other : Name) (mail : Named (List (List Value))) → named other queues ≡ Some mail → (found : Option Name) → first_sender mail ≡ found → IsSome (option_map (λ n. Take other n) found) → IsUpTo actor other
    other-behind other mail at None is some = cc
    other-behind other mail at (Some u) is some =
        let first = first_sender-is mail u (each other mail at) is in
        least other u (λ none. let no : first.waiting.message ∷ first.waiting.messages ≡ [] = sym first.waiting.is ∙ sym (queue-there queues other u mail first.queue at first.there) ∙ none in cc)

-- ---- entries
module _ (s : State) (going : s.end ≡ None) where
  first-as : (unit : Option Name) (message : Option Entry) → first_unit s.units ≡ unit → first_message s.queues ≡ message → first_of s ≡ option_or (option_map (λ name. Run name) unit) message
  first-as unit message unit_is message_is =
      ap (λ end. unless_over end (option_or (option_map (λ name. Run name) (first_unit s.units)) (first_message s.queues))) going
      ∙ ap₂ (λ u m. option_or (option_map (λ name. Run name) u) m) unit_is message_is

  -- a step of the first unit that is not finished
  pub run-first : (u : Name) → first_unit s.units ≡ Some u → first_of s ≡ Some (Run u)
  run-first u is = first-as (Some u) (first_message s.queues) is refl

  -- where each is finished, the first message is taken
  pub take-first : (entry : Entry) → first_unit s.units ≡ None → first_message s.queues ≡ Some entry → first_of s ≡ Some entry
  take-first entry none is = first-as None (Some entry) none is
