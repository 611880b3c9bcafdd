-- The mail of actors by name: a box of messages for each name that has one, with its room. Mail is what the boxes hold.
use Rattle.std.specs.Prelude.{◌≡◌, ℕ, ◌≤◌, List, [], ◌∷◌, Option, None, Some}
use Rattle.std.specs.Coded.{Coded, coded×, coded_list, coded_ℕ}
use Rattle.value_core.specs.Named.{Name, Named, each_as, named}
use Rattle.value_core.specs.Placed.{filled}
use Rattle.value_core.specs.Roomy.{Roomy, roomy_code}
use Rattle.actor_mailbox.specs.contracts.message.Message as message
use Rattle.actor_mailbox.specs.declared.message.Message.{Message}

-- the boxes of actors by name
abbrev pub Boxes : Type 0
Boxes = Named (Roomy Message)

-- they are stored as a list of names and boxes
abbrev pub boxes_code : Coded Boxes
boxes_code = coded_list (coded× (coded_list coded_ℕ) (roomy_code (message.the_row).coded))

-- the messages that wait, by the names of the actors for which they do
abbrev pub Mail : Type 0
Mail = Named (List Message)

-- it is stored as a list of names and messages
abbrev pub mail_code : Coded Mail
mail_code = coded_list (coded× (coded_list coded_ℕ) (coded_list (message.the_row).coded))

-- these messages, where there are any
abbrev pub if_any : List Message → Option (List Message)
if_any [] = None
if_any (first ∷ others) = Some (first ∷ others)

-- what a box holds, nothing where it is empty
abbrev pub held_in : Roomy Message → Option (List Message)
held_in box = if_any box.items

-- the messages of each box that is not empty, without the room
abbrev pub held : Boxes → Mail
held boxes = filled (each_as held_in boxes)

-- these messages, none where there are none
abbrev pub those : Option (List Message) → List Message
those None = []
those (Some messages) = messages

-- the messages in a box, none where there is no box
abbrev pub items_in : Option (Roomy Message) → List Message
items_in None = []
items_in (Some box) = box.items

-- the room in a box, none where there is no box
abbrev pub room_in : Option (Roomy Message) → ℕ
room_in None = 0
room_in (Some box) = box.room

-- the messages that wait for the actor of that name, in the order in which they arrived
abbrev pub mail_at : Mail → Name → List Message
mail_at mail actor = those (named actor mail)

-- no message waits for anybody
abbrev pub NoMail : Mail → Type 0
NoMail mail = (actor : Name) → mail_at mail actor ≡ []

-- for how many messages more to that actor there is room
abbrev pub room_at : Boxes → Name → ℕ
room_at boxes actor = room_in (named actor boxes)

-- the same messages wait for each actor
abbrev pub SameMail : Mail → Mail → Type 0
SameMail old new = (actor : Name) → mail_at new actor ≡ mail_at old actor

-- the same messages wait for each actor but this one
abbrev pub SameMailBut : Name → Mail → Mail → Type 0
SameMailBut but old new = (actor : Name) → ¬ (actor ≡ but) → mail_at new actor ≡ mail_at old actor

-- no actor has less room
abbrev pub KeepsRoom : Boxes → Boxes → Type 0
KeepsRoom old new = (actor : Name) → room_at old actor ≤ room_at new actor

-- no actor but this one has less room
abbrev pub KeepsRoomBut : Name → Boxes → Boxes → Type 0
KeepsRoomBut but old new = (actor : Name) → ¬ (actor ≡ but) → room_at old actor ≤ room_at new actor

-- this is the mail of that actor now, and the same messages as before wait for each other one
pub record IsMailed (to : Name) (mail : List Message) (old new : Mail) : Type 0 where
  pub here : mail_at new to ≡ mail
  pub others : SameMailBut to old new
