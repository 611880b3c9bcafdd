-- The entry that one thread settles next: the unit that is first in after-order among those that are not finished runs.
-- Where all are finished, the actor that is first in after-order among those with a message takes the one of its first sender.
use Rattle.std.specs.Prelude.{List, [], ◌∷◌, Option, None, Some}
use Rattle.std.specs.Option.{option_or, option_map}
use Rattle.value_core.specs.declared.value.Value.{Value}
use Rattle.serial_model.specs.declared.end.End.{End}
use Rattle.serial_model.specs.declared.entry.Entry.{Entry}
use Rattle.serial_model.specs.declared.entry.Entry.TheVariants.{Run, Take}
use Rattle.value_core.specs.Named.{Name, Named}
use Rattle.serial_model.specs.State.{UnitState, Queues, State}

abbrev pub if_unfinished : Option Value → Name → Option Name
if_unfinished None name = Some name
if_unfinished (Some v) name = None

abbrev pub first_unit : Named UnitState → Option Name
first_unit [] = None
first_unit (unit ∷ units) = option_or (if_unfinished unit.1.finished unit.0) (first_unit units)

abbrev pub if_waiting : List (List Value) → Name → Option Name
if_waiting [] name = None
if_waiting (message ∷ messages) name = Some name

abbrev pub first_sender : Named (List (List Value)) → Option Name
first_sender [] = None
first_sender (queue ∷ queues) = option_or (if_waiting queue.1 queue.0) (first_sender queues)

abbrev pub first_message : Queues → Option Entry
first_message [] = None
first_message (mail ∷ mails) = option_or (option_map (λ sender. Take mail.0 sender) (first_sender mail.1)) (first_message mails)

abbrev pub unless_over : Option End → Option Entry → Option Entry
unless_over None entry = entry
unless_over (Some end) entry = None

-- no entry where an end is set, and where there is neither an unfinished unit nor a message
abbrev pub first_of : State → Option Entry
first_of s = unless_over s.end (option_or (option_map (λ name. Run name) (first_unit s.units)) (first_message s.queues))
