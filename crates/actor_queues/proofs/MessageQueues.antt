-- Queues of messages that are changed in their place.
use Rattle.std.proofs.Common.{◌≡◌, ◌∙◌, List, [], ◌∷◌, ◌++◌, refl, sym, ap, subst, Option, Some, None, arith}
use Rattle.std.specs.Prelude.{◌<◌, true, T, unwrap_or, length, is_some}
use Rattle.std.specs.declared.alloc.Global.{Global}
use Rattle.std.specs.declared.collections.VecDeque.{VecDeque}
use Rattle.std.specs.BTreeMap.{BTreeMap, WritesThrough}
use Rattle.std.specs.Option.{option_and_then, option_to_list}
use Rattle.value_core.specs.Name.{after_cmp}
use Rattle.value_core.specs.declared.value.Value.{Value}
use Rattle.value_core.specs.Named.{Name, Named, named, with_named, each_as}
use Rattle.value_core.proofs.NameMaps.{written_is_put, written_same}
use Rattle.value_core.proofs.NamedViews.{each_as-with_named, view_written, view_found, view_none, view_same}
use Rattle.serial_model.specs.Step.{queue_of, with_queue}
use Rattle.actor_queues.specs.Waiting.{BySender, mail_of, IsTaken, IsTakenFrom}

abbrev items_of : VecDeque (List Value) Global → List (List Value)
items_of queue = queue.items

-- a message is appended to a queue that is there, or to a new one
pub appended : (sender : Name) (message : List Value) (old new : BySender) (w y : VecDeque (List Value) Global) → WritesThrough after_cmp (after_cmp sender) old w new → named sender old.entries ≡ Some y
    → w.items ≡ y.items ++ message ∷ [] → mail_of new ≡ with_named (mail_of old) sender (unwrap_or (named sender (mail_of old)) [] ++ message ∷ [])
appended sender message old new w y writes there is =
    view_written items_of sender old new w y writes there
    ∙ ap (with_named (mail_of old) sender) (is ∙ ap (λ found. unwrap_or found [] ++ message ∷ []) (sym (view_found items_of sender old.entries y there)))

pub appended_first : (sender : Name) (message : List Value) (old none new : BySender) (w : VecDeque (List Value) Global) → none ≡ old → new.entries ≡ with_named none.entries sender w → named sender old.entries ≡ None
    → w.items ≡ message ∷ [] → mail_of new ≡ with_named (mail_of old) sender (unwrap_or (named sender (mail_of old)) [] ++ message ∷ [])
appended_first sender message old still new w same put none is =
    ap (each_as items_of) (put ∙ ap (λ (m : BySender). with_named m.entries sender w) same) ∙ each_as-with_named items_of sender w old.entries
    ∙ ap (with_named (mail_of old) sender) (is ∙ ap (λ found. unwrap_or found [] ++ message ∷ []) (sym (view_none items_of sender old.entries none)))

-- what the messages of an actor become where some are there, and where there are none
module _ (actor sender : Name) (message : List Value) (old new : BTreeMap Name (Named (List (List Value)))) where
  abbrev IsSent : Type 0
  IsSent = new.entries ≡ with_queue old.entries actor sender (queue_of old.entries actor sender ++ message ∷ [])

  with_found : (found : Option (Named (List (List Value)))) → named actor old.entries ≡ found
      → with_named old.entries actor (with_named (unwrap_or found []) sender (unwrap_or (option_and_then (named sender) found) [] ++ message ∷ []))
      ≡ with_queue old.entries actor sender (queue_of old.entries actor sender ++ message ∷ [])
  with_found found is = ap (λ (o : Option (Named (List (List Value)))).
      with_named old.entries actor (with_named (unwrap_or o []) sender (unwrap_or (option_and_then (named sender) o) [] ++ message ∷ []))) (sym is)

  pub sent_there : (w y : Named (List (List Value))) → WritesThrough after_cmp (after_cmp actor) old w new → named actor old.entries ≡ Some y
      → w ≡ with_named y sender (unwrap_or (named sender y) [] ++ message ∷ []) → IsSent
  sent_there w y writes there is = written_is_put actor old new w y writes there ∙ ap (with_named old.entries actor) is ∙ with_found (Some y) there

  pub sent_first : (w empty : Named (List (List Value))) (still : BTreeMap Name (Named (List (List Value)))) → still ≡ old → new.entries ≡ with_named still.entries actor w → named actor old.entries ≡ None → empty ≡ []
      → w ≡ with_named empty sender (unwrap_or (named sender empty) [] ++ message ∷ []) → IsSent
  sent_first w empty still same put none nothing is = put ∙ ap (λ (m : BTreeMap Name (Named (List (List Value)))). with_named m.entries actor w) same
      ∙ ap (with_named old.entries actor) (is ∙ ap (λ (es : Named (List (List Value))). with_named es sender (unwrap_or (named sender es) [] ++ message ∷ [])) nothing)
      ∙ with_found None none

-- the first message of a sender is taken
pub taken_from : (sender : Name) (old new : BySender) (w y : VecDeque (List Value) Global) (taken : Option (List Value)) → WritesThrough after_cmp (after_cmp sender) old w new → named sender old.entries ≡ Some y
    → y.items ≡ option_to_list taken ++ w.items → (0 < length y.items → is_some taken ≡ true) → IsTakenFrom (mail_of old) sender (unwrap_or (named sender (mail_of old)) []) (mail_of new) taken
taken_from sender old new w y taken writes there is some =
    subst (λ (found : List (List Value)). IsTakenFrom (mail_of old) sender found (mail_of new) taken)
    (sym (ap (λ (o : Option (List (List Value))). unwrap_or o []) (view_found items_of sender old.entries y there))) (on taken y.items refl is some)
  where
    on : (o : Option (List Value)) (items : List (List Value)) → y.items ≡ items → items ≡ option_to_list o ++ w.items → (0 < length items → is_some o ≡ true) → IsTakenFrom (mail_of old) sender items (mail_of new) o
    on None [] held is some = (refl, view_same items_of sender old new w y writes there (sym is ∙ sym held))
    on None (m ∷ ms) held is some = absurd (subst T (sym (some (omega arith))) tt)
    on (Some m) [] held is some = cc
    on (Some m) (n ∷ ns) held is some =
        let rest : ns ≡ w.items = cc in let same : m ≡ n = cc in
        (ap Some same, view_written items_of sender old new w y writes there ∙ ap (with_named (mail_of old) sender) (sym rest))

pub taken_none : (sender : Name) (old new : BySender) → new ≡ old → named sender old.entries ≡ None → IsTakenFrom (mail_of old) sender (unwrap_or (named sender (mail_of old)) []) (mail_of new) None
taken_none sender old new same none =
    subst (λ (o : Option (List (List Value))). IsTakenFrom (mail_of old) sender (unwrap_or o []) (mail_of new) None) (sym (view_none items_of sender old.entries none)) (refl, ap mail_of same)

-- the first message that a sender sent to an actor is taken
pub taken_first : (actor sender : Name) (old new : BTreeMap Name (Named (List (List Value)))) (w y : Named (List (List Value))) (taken : Option (List Value)) → WritesThrough after_cmp (after_cmp actor) old w new → named actor old.entries ≡ Some y
    → IsTakenFrom y sender (unwrap_or (named sender y) []) w taken
    → IsTaken old.entries actor sender (queue_of old.entries actor sender) new.entries taken
taken_first actor sender old new w y taken writes there from =
    subst (λ (o : Option (Named (List (List Value)))). IsTaken old.entries actor sender (unwrap_or (option_and_then (named sender) o) []) new.entries taken)
    (sym there) (on (unwrap_or (named sender y) []) from)
  where
    on : (items : List (List Value)) → IsTakenFrom y sender items w taken → IsTaken old.entries actor sender items new.entries taken
    on [] is = (is.0, written_same actor old new w y writes there is.1)
    on (m ∷ ms) is = (
      is.0,
      written_is_put actor old new w y writes there ∙ ap (with_named old.entries actor) is.1
          ∙ ap (λ (o : Option (Named (List (List Value)))). with_named old.entries actor (with_named (unwrap_or o []) sender ms)) (sym there),
    )

pub taken_nowhere : (actor sender : Name) (old new : BTreeMap Name (Named (List (List Value)))) → new ≡ old → named actor old.entries ≡ None
    → IsTaken old.entries actor sender (queue_of old.entries actor sender) new.entries None
taken_nowhere actor sender old new same none =
    subst (λ (o : Option (Named (List (List Value)))). IsTaken old.entries actor sender (unwrap_or (option_and_then (named sender) o) []) new.entries None)
    (sym none) (refl, ap (λ (m : BTreeMap Name (Named (List (List Value)))). m.entries) same)
