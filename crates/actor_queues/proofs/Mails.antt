-- Which senders have messages, and which actors have mail, after a change.
use Rattle.std.proofs.Common.{◌≡◌, ◌∙◌, ℕ, Bool, true, false, List, [], ◌∷◌, ◌++◌, refl, sym, ap, subst, Option, Some, None, length, arith}
use Rattle.std.specs.Prelude.{◌==◌, not, unwrap_or, Result, Ok, Err, OnOk, OnErr}
use Rattle.std.proofs.lemmas.Bool.{eqb-true}
use Rattle.std.specs.Option.{option_and_then}
use Rattle.std.specs.BTreeMap.{BTreeMap}
use Rattle.std.specs.BTreeSet.{BTreeSet}
use Rattle.std.specs.List.Sorted.{IsStrictlySortedBy}
use Rattle.std.specs.Map.{keys_of}
use Rattle.std.specs.declared.alloc.Global.{Global}
use Rattle.std.specs.declared.collections.VecDeque.{VecDeque}
use Rattle.value_core.specs.Name.{after_cmp}
use Rattle.value_core.specs.declared.value.Value.{Value}
use Rattle.value_core.specs.Named.{Name, Named, named, with_named, each_as, AgreeBut, Rises}
use Rattle.value_core.specs.NameSet.{holds_at, HasJust}
use Rattle.value_core.proofs.NamedLaws.{named-here}
use Rattle.value_core.proofs.NamedViews.{view_found, view_none, view_rises}
use Rattle.value_core.proofs.NameMarks.{agree_put, agree_same, just_still}
use Rattle.serial_model.specs.State.{Queues}
use Rattle.serial_model.specs.Step.{queue_of, with_queue}
use Rattle.actor_queues.specs.Waiting.{BySender, mail_of, has_first, waits, IsTaken, IsTakenFrom}
use Rattle.actor_queues.proofs.FirstMessages.{waits_for}

abbrev Mail : Type 0
Mail = Named (List (List Value))

abbrev items_of : VecDeque (List Value) Global → List (List Value)
items_of queue = queue.items

pub first_is : (n : ℕ) (items : List (List Value)) → n ≡ length items → not (n == 0) ≡ has_first items
first_is n [] is = ap (λ m. not (m == 0)) is
first_is n (m ∷ ms) is = on (n == 0) refl
  where
    on : (b : Bool) → (n == 0) ≡ b → not b ≡ true
    on true none = let zero : n ≡ 0 = eqb-true n 0 none in absurd (omega (arith, is, zero))
    on false some = refl

pub waits_there : (sender : Name) (queues : BySender) (queue : VecDeque (List Value) Global) → named sender queues.entries ≡ Some queue → holds_at has_first (named sender (mail_of queues)) ≡ has_first queue.items
waits_there sender queues queue found = ap (holds_at has_first) (view_found items_of sender queues.entries queue found)

pub waits_nowhere : (sender : Name) (queues : BySender) → named sender queues.entries ≡ None → holds_at has_first (named sender (mail_of queues)) ≡ false
waits_nowhere sender queues none = ap (holds_at has_first) (view_none items_of sender queues.entries none)

-- what is done with a result in either case
either_way : {A E : Type 0} (r : Result A E) (P Q R : Type 0) → OnOk r P → OnErr r Q → (P → R) → (Q → R) → R
either_way (Ok a) P Q R p q ok err = ok p
either_way (Err e) P Q R p q ok err = err q

pub on_err_weaker : {A E : Type 0} (r : Result A E) {P Q : Type 0} → (P → Q) → OnErr r P → OnErr r Q
on_err_weaker (Ok a) f p = tt
on_err_weaker (Err e) f p = f p

-- a map whose entries are as before shows the same
pub mail_same : (new mid old : BySender) → new.entries ≡ mid.entries → mid ≡ old → mail_of new ≡ mail_of old
mail_same new mid old same still = ap (each_as items_of) (same ∙ ap (λ (m : BySender). m.entries) still)

pub mails_same : (new mid old : BTreeMap Name Mail) → new.entries ≡ mid.entries → mid ≡ old → new.entries ≡ old.entries
mails_same new mid old same still = same ∙ ap (λ (m : BTreeMap Name Mail). m.entries) still

pub mail_rises : (queues : BySender) → IsStrictlySortedBy after_cmp (keys_of queues.entries) → Rises (mail_of queues)
mail_rises queues sorted = view_rises items_of queues.entries sorted

-- ---- the mail of an actor
-- a sender has a message where its queue has one
pub first_at : (o : Option (List (List Value))) → holds_at has_first o ≡ has_first (unwrap_or o [])
first_at None = refl
first_at (Some queue) = refl

-- one message more waits
pub appended_holds : (sender : Name) (old new : Mail) (queue : List (List Value)) (message : List Value) → new ≡ with_named old sender (queue ++ message ∷ []) → holds_at has_first (named sender new) ≡ true
appended_holds sender old new queue message put = ap (holds_at has_first) (ap (named sender) put ∙ named-here sender (queue ++ message ∷ []) old) ∙ some queue
  where
    some : (q : List (List Value)) → has_first (q ++ message ∷ []) ≡ true
    some [] = refl
    some (m ∷ ms) = refl

-- the senders of the set stay where one that waits sends more
pub append_keeps : (set : BTreeSet Name) {A E : Type 0} (r : Result A E) (sender : Name) (old new : Mail) (queue : List (List Value)) (message : List Value) → HasJust has_first set old → holds_at has_first (named sender old) ≡ true
    → OnOk r (new ≡ with_named old sender (queue ++ message ∷ [])) → OnErr r (new ≡ old) → HasJust has_first set new
append_keeps set r sender old new queue message just waiting put same =
    either_way r (new ≡ with_named old sender (queue ++ message ∷ [])) (new ≡ old) (HasJust has_first set new) put same
    (λ put. just_still has_first sender old new set just (agree_put sender (queue ++ message ∷ []) old new put) (appended_holds sender old new queue message put ∙ sym waiting))
    (λ same. subst (HasJust has_first set) (sym same) just)

-- what a take leaves, but for the queue of the sender
pub taken_agree : (sender : Name) (old new : Mail) (queue : List (List Value)) (taken : Option (List Value)) → IsTakenFrom old sender queue new taken → AgreeBut sender old new
taken_agree sender old new [] taken is = agree_same sender old new is.1
taken_agree sender old new (m ∷ ms) taken is = agree_put sender ms old new is.1

-- a sender that has a message left had one
pub taken_held : (sender : Name) (old new : Mail) (taken : Option (List Value)) → IsTakenFrom old sender (unwrap_or (named sender old) []) new taken → holds_at has_first (named sender new) ≡ true
    → holds_at has_first (named sender new) ≡ holds_at has_first (named sender old)
taken_held sender old new taken is left = on (unwrap_or (named sender old) []) refl is
  where
    on : (queue : List (List Value)) → unwrap_or (named sender old) [] ≡ queue → IsTakenFrom old sender queue new taken → holds_at has_first (named sender new) ≡ holds_at has_first (named sender old)
    on [] held is = ap (λ mail. holds_at has_first (named sender mail)) is.1
    on (m ∷ ms) held is = left ∙ sym (first_at (named sender old) ∙ ap has_first held)

-- ---- the mails of all actors
module _ (actor sender : Name) (old new : Queues) where
  -- what a send leaves, but for the mail of the actor
  pub sent_agree : (messages : List (List Value)) → new ≡ with_queue old actor sender messages → AgreeBut actor old new
  sent_agree messages put = agree_put actor (with_named (unwrap_or (named actor old) []) sender messages) old new put

  pub sent_holds : (queue : List (List Value)) (message : List Value) → new ≡ with_queue old actor sender (queue ++ message ∷ []) → holds_at waits (named actor new) ≡ true
  sent_holds queue message put =
      let mail = with_named (unwrap_or (named actor old) []) sender (queue ++ message ∷ []) in
      ap (holds_at waits) (ap (named actor) put ∙ named-here actor mail old)
      ∙ waits_for sender mail (queue ++ message ∷ []) (named-here sender (queue ++ message ∷ []) (unwrap_or (named actor old) [])) (some queue)
    where
      some : (q : List (List Value)) → has_first (q ++ message ∷ []) ≡ true
      some [] = refl
      some (m ∷ ms) = refl

  -- the actors of the set stay where one that has mail is sent more
  pub send_keeps : (set : BTreeSet Name) {A E : Type 0} (r : Result A E) (queue : List (List Value)) (message : List Value) → HasJust waits set old → holds_at waits (named actor old) ≡ true
      → OnOk r (new ≡ with_queue old actor sender (queue ++ message ∷ [])) → OnErr r (new ≡ old) → HasJust waits set new
  send_keeps set r queue message just waiting put same =
      either_way r (new ≡ with_queue old actor sender (queue ++ message ∷ [])) (new ≡ old) (HasJust waits set new) put same
      (λ put. just_still waits actor old new set just (sent_agree (queue ++ message ∷ []) put) (sent_holds queue message put ∙ sym waiting))
      (λ same. subst (HasJust waits set) (sym same) just)

  pub took_agree : (queue : List (List Value)) (taken : Option (List Value)) → IsTaken old actor sender queue new taken → AgreeBut actor old new
  took_agree [] taken is = agree_same actor old new is.1
  took_agree (m ∷ ms) taken is = sent_agree ms is.1

  -- an actor that has mail left had some
  pub took_held : (taken : Option (List Value)) → IsTaken old actor sender (queue_of old actor sender) new taken → holds_at waits (named actor new) ≡ true
      → holds_at waits (named actor new) ≡ holds_at waits (named actor old)
  took_held taken is left = on (queue_of old actor sender) refl is
    where
      had : (o : Option Mail) (m : List Value) (ms : List (List Value)) → unwrap_or (option_and_then (named sender) o) [] ≡ m ∷ ms → holds_at waits o ≡ true
      had None m ms held = cc
      had (Some mail) m ms held = at (named sender mail) refl held
        where
          at : (q : Option (List (List Value))) → named sender mail ≡ q → unwrap_or q [] ≡ m ∷ ms → waits mail ≡ true
          at None there is = cc
          at (Some queue) there is = waits_for sender mail queue there (ap has_first is)

      on : (queue : List (List Value)) → queue_of old actor sender ≡ queue → IsTaken old actor sender queue new taken → holds_at waits (named actor new) ≡ holds_at waits (named actor old)
      on [] held is = ap (λ mails. holds_at waits (named actor mails)) is.1
      on (m ∷ ms) held is = left ∙ sym (had (named actor old) m ms held)

-- the queue of a sender in the mail of an actor
pub queue_there : (actor sender : Name) (queues : Queues) (mail : Mail) → named actor queues ≡ Some mail → holds_at has_first (named sender mail) ≡ has_first (queue_of queues actor sender)
queue_there actor sender queues mail there = first_at (named sender mail) ∙ sym (ap (λ o. has_first (unwrap_or (option_and_then (named sender) o) [])) there)

pub queue_nowhere : (actor sender : Name) (queues : Queues) → named actor queues ≡ None → has_first (queue_of queues actor sender) ≡ false
queue_nowhere actor sender queues none = ap (λ o. has_first (unwrap_or (option_and_then (named sender) o) [])) none
