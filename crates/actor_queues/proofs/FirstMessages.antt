-- The first sender and the first actor that have a message.
use Rattle.std.proofs.Common.{◌≡◌, ◌∙◌, Bool, true, false, cond, [], ◌∷◌, List, refl, sym, ap, subst, Option, Some, None}
use Rattle.std.specs.Prelude.{is_some, if◌then◌else◌}
use Rattle.std.specs.Option.{option_map, option_or}
use Rattle.value_core.specs.declared.value.Value.{Value}
use Rattle.value_core.specs.Named.{Name, Named, named, same_name}
use Rattle.value_core.proofs.NamedLaws.{named-first, same_name-equal}
use Rattle.value_core.proofs.NameMarks.{first_name}
use Rattle.serial_model.specs.declared.entry.Entry.TheVariants.{Take}
use Rattle.serial_model.specs.First.{if_waiting, first_sender, first_message}
use Rattle.actor_queues.specs.Waiting.{has_first, waits}

pub sender_first : (mail : Named (List (List Value))) → first_sender mail ≡ first_name has_first mail
sender_first [] = refl
sender_first (e ∷ es) = on e.1 (sender_first es)
  where
    on : (queue : List (List Value)) → first_sender es ≡ first_name has_first es → option_or (if_waiting queue e.0) (first_sender es) ≡ (if has_first queue then Some e.0 else first_name has_first es)
    on [] rest = rest
    on (m ∷ ms) rest = refl

abbrev Queues : Type 0
Queues = Named (Named (List (List Value)))

-- the first message is that of the first sender to the first actor that has mail
pub message_first : (queues : Queues) (actor sender : Name) (mail : Named (List (List Value))) → first_name waits queues ≡ Some actor → named actor queues ≡ Some mail → first_sender mail ≡ Some sender
    → first_message queues ≡ Some (Take actor sender)
message_first [] actor sender mail first there from = cc
message_first (e ∷ es) actor sender mail first there from = on (first_sender e.1) refl first (λ more found. message_first es actor sender mail more found from)
  where
    same : e.0 ≡ actor → e.1 ≡ mail
    same is = let here : named e.0 (e ∷ es) ≡ Some mail = subst (λ n. named n (e ∷ es) ≡ Some mail) (sym is) there in some_same (sym (named-first e es) ∙ here)
      where
        some_same : Some e.1 ≡ Some mail → e.1 ≡ mail
        some_same equal = cc

    later : first_sender e.1 ≡ None → (b : Bool) → same_name actor e.0 ≡ b → cond b (Some e.1) (named actor es) ≡ Some mail → named actor es ≡ Some mail
    later none true is found = let no = same (sym (same_name-equal actor e.0 is)) in let yes = ap first_sender no in cc
    later none false is found = found

    on : (o : Option Name) → first_sender e.1 ≡ o → (if is_some o then Some e.0 else first_name waits es) ≡ Some actor
        → (first_name waits es ≡ Some actor → named actor es ≡ Some mail → first_message es ≡ Some (Take actor sender))
        → option_or (option_map (λ s. Take e.0 s) (first_sender e.1)) (first_message es) ≡ Some (Take actor sender)
    on None none more rest = ap (λ o. option_or (option_map (λ s. Take e.0 s) o) (first_message es)) none ∙ rest more (later none (same_name actor e.0) refl there)
    on (Some s) some is rest =
        let here : e.0 ≡ actor = cc in
        let whole = ap first_sender (same here) ∙ from in
        ap (λ o. option_or (option_map (λ s. Take e.0 s) o) (first_message es)) whole ∙ ap (λ n. Some (Take n sender)) here

pub no_message : (queues : Queues) → first_name waits queues ≡ None → first_message queues ≡ None
no_message [] none = refl
no_message (e ∷ es) none = on (first_sender e.1) none (no_message es)
  where
    on : (o : Option Name) → (if is_some o then Some e.0 else first_name waits es) ≡ None → (first_name waits es ≡ None → first_message es ≡ None)
        → option_or (option_map (λ s. Take e.0 s) o) (first_message es) ≡ None
    on None none rest = rest none
    on (Some s) some rest = cc

-- a sender with a message makes the mail wait
pub waits_for : (sender : Name) (mail : Named (List (List Value))) (queue : List (List Value)) → named sender mail ≡ Some queue → has_first queue ≡ true → waits mail ≡ true
waits_for sender [] queue there has = cc
waits_for sender (e ∷ es) queue there has = on e.1 refl (same_name sender e.0) there (λ rest. waits_for sender es queue rest has)
  where
    on : (q : List (List Value)) → e.1 ≡ q → (b : Bool) → cond b (Some e.1) (named sender es) ≡ Some queue → (named sender es ≡ Some queue → waits es ≡ true)
        → is_some (option_or (if_waiting q e.0) (first_sender es)) ≡ true
    on (m ∷ ms) is b found rest = refl
    on [] is true found rest = let same : e.1 ≡ queue = cc in let none = ap has_first (sym is ∙ same) in cc
    on [] is false found rest = rest found
