-- The messages that wait for an actor, and for all actors.
use Rattle.std.specs.Prelude.{◌≡◌, Bool, true, false, is_some, List, [], ◌∷◌, Option, None, Some}
use Rattle.std.specs.BTreeMap.{BTreeMap}
use Rattle.std.specs.Coded.{Coded, coded×, coded_list, coded_ℕ}
use Rattle.std.specs.declared.alloc.Global.{Global}
use Rattle.std.specs.declared.collections.VecDeque.{VecDeque}
use Rattle.value_core.specs.contracts.value.Value as value
use Rattle.value_core.specs.declared.value.Value.{Value}
use Rattle.value_core.specs.Named.{Name, Named, with_named, each_as}
use Rattle.serial_model.specs.First.{first_sender}
use Rattle.serial_model.specs.State.{Queues}
use Rattle.serial_model.specs.Step.{with_queue}

-- the queues of messages by sender, as they are kept
abbrev pub BySender : Type 0
BySender = BTreeMap Name (VecDeque (List Value) Global)

-- the messages of each sender
abbrev pub mail_of : BySender → Named (List (List Value))
mail_of queues = each_as (λ (queue : VecDeque (List Value) Global). queue.items) queues.entries

-- the first message is taken, and the others stay; where there is none nothing changes
abbrev pub IsTakenFrom : Named (List (List Value)) → Name → List (List Value) → Named (List (List Value)) → Option (List Value) → Type 0
IsTakenFrom old sender [] new taken = (taken ≡ None) × (new ≡ old)
IsTakenFrom old sender (message ∷ messages) new taken = (taken ≡ Some message) × (new ≡ with_named old sender messages)

-- the same, of the messages of all actors
abbrev pub IsTaken : Queues → Name → Name → List (List Value) → Queues → Option (List Value) → Type 0
IsTaken old actor sender [] new taken = (taken ≡ None) × (new ≡ old)
IsTaken old actor sender (message ∷ messages) new taken = (taken ≡ Some message) × (new ≡ with_queue old actor sender messages)

-- a queue has a message
abbrev pub has_first : List (List Value) → Bool
has_first [] = false
has_first (message ∷ messages) = true

-- one of the senders has a message
abbrev pub waits : Named (List (List Value)) → Bool
waits mail = is_some (first_sender mail)

-- the messages of an actor are stored as their parts
abbrev pub mail_code : Coded (Named (List (List Value)))
mail_code = coded_list (coded× (coded_list coded_ℕ) (coded_list (coded_list (value.the_row).coded)))

-- the messages of all actors too
abbrev pub queues_code : Coded Queues
queues_code = coded_list (coded× (coded_list coded_ℕ) mail_code)
