-- What a turn holds first.
use Rattle.std.specs.Prelude.{◌≡◌, None, Some}
use Rattle.turns_ahead.specs.declared.next_held.NextHeld.{NextHeld}
use Rattle.turns_ahead.specs.declared.next_held.NextHeld.TheVariants as next
use Rattle.turns_ahead.specs.Leading.{Leading, begins, first_asked}

-- it holds that first
abbrev pub IsFirstHeld : Leading → NextHeld → Type 0
IsFirstHeld l (next.Begin actor) = begins l.turn.effects ≡ Some actor
IsFirstHeld l (next.Asked request) = (begins l.turn.effects ≡ None) × (first_asked l.turn.effects ≡ Some request)
