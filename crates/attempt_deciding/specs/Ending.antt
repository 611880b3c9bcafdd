-- Claims that end.
use Rattle.shared_world.specs.declared.given.Given.{Given}
use Rattle.shared_world.specs.Gave.{ended_by}
use Rattle.shared_world.specs.rows.Pieces.{ClaimsEnd}
use Rattle.shared_world.specs.Shared.{Shared}

-- those end that end by what is answered
abbrev pub FoundEnd : Given → Shared → Shared → Type 0
FoundEnd found old new = ClaimsEnd (ended_by found old.board new.board) old new
