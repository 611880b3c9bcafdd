-- How many messages pass.
use Rattle.std.proofs.Common.{◌≡◌, ◌∙◌, Bool, true, false, ◌&&◌, cond, List, [], ◌∷◌, length, ap, refl, sym}
use Rattle.std.proofs.lemmas.List.Sums.{length-filter}
use Rattle.std.specs.Prelude.{count_by, filter}
use Rattle.actor_mailbox.specs.declared.message.Message.{Message}
use Rattle.actor_mailbox.specs.Messages.{is_from}
use Rattle.actor_mailbox.specs.Unsettled.{is_unsettled, unsettled_of}
use Rattle.value_core.specs.Named.{Name}

-- those that pass the one test and then the other pass both
filtered-twice : {X : Type 0} (p q : X → Bool) (xs : List X) → filter q (filter p xs) ≡ filter (λ x. p x && q x) xs
filtered-twice p q [] = refl
filtered-twice {X} p q (x ∷ xs) = on (p x) (filtered-twice p q xs)
  where
    on : (b : Bool) → filter q (filter p xs) ≡ filter (λ y. p y && q y) xs → filter q (cond b (x ∷ filter p xs) (filter p xs)) ≡ cond (b && q x) (x ∷ filter (λ y. p y && q y) xs) (filter (λ y. p y && q y) xs)
    on true rest = ap (λ (ys : List X). cond (q x) (x ∷ ys) ys) rest
    on false rest = rest

-- how many of a sender's messages are not settled
pub counted-unsettled : (sender : Name) (ms : List Message) → count_by (λ m. is_from sender m && is_unsettled m) ms ≡ length (unsettled_of sender ms)
counted-unsettled sender ms = sym (ap length (filtered-twice (is_from sender) is_unsettled ms) ∙ length-filter (λ m. is_from sender m && is_unsettled m) ms)
