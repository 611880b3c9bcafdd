-- What is sent by a step, in the order in which it is sent.
use Rattle.std.specs.Prelude.{◌≡◌, ◌+◌, ◌++◌, ◌∷◌, [], ℕ, List, Option, None, Some, length}
use Rattle.attempt_sends.specs.declared.letters.Letter.{Letter}
use Rattle.serial_model.specs.declared.effect.Effect.{Effect}
use Rattle.serial_model.specs.Sends.{effects_to, sends_to}
use Rattle.shared_world.specs.Ahead.{Ahead}
use Rattle.shared_world.specs.rows.Sending.{Send, args_to}
use Rattle.value_core.specs.declared.value.Value.{Value}
use Rattle.value_core.specs.Named.{Name, Named, named}
use Rattle.world_model.specs.Message.{tentative}

-- what a turn sends to an actor by what it holds, where it runs ahead
abbrev pub held_sends : Name → Option Ahead → List (List Value)
held_sends to None = []
held_sends to (Some h) = sends_to to h.held

-- how many sends to an actor are not settled of a unit that holds that, and whose attempt has made those
abbrev pub count_sent : Option Ahead → List Send → Name → ℕ
count_sent held sends to = length (held_sends to held) + length (args_to to sends)

-- the message of a send of that unit's attempt, which has made those before
abbrev pub letter_of : Name → Name → Option Ahead → List Send → Send → Letter
letter_of u root held sends s = record { to = s.0; message = tentative u root s.1; earlier = count_sent held sends s.0 }

-- the messages of sends, one after another
abbrev pub letters_of : Name → Name → Option Ahead → List Send → List Send → List Letter
letters_of u root held sends [] = []
letters_of u root held sends (s ∷ more) = letter_of u root held sends s ∷ letters_of u root held (sends ++ s ∷ []) more

-- a number that is noted, else how many of all effects send something to the actor
abbrev pub noted_or : Option ℕ → Name → List Effect → ℕ
noted_or None actor all = length (effects_to actor all)
noted_or (Some n) actor all = n

-- how many are counted for an actor
abbrev pub left_at : Name → Named ℕ → List Effect → ℕ
left_at actor counts all = noted_or (named actor counts) actor all

-- for each actor as many are counted as these of all the effects send to it
abbrev pub AreLeft : Named ℕ → List Effect → List Effect → Type 0
AreLeft counts all these = (actor : Name) → left_at actor counts all ≡ length (effects_to actor these)
