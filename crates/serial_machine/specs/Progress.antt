-- How far a run by one thread has come.
use Rattle.std.specs.Prelude.{List, Option, refl}
use Rattle.std.specs.Coded.{Coded, code_by, coded×, coded_list}
use Rattle.core_syntax.specs.Table.{Table}
use Rattle.core_syntax.specs.contracts.program.Program as program
use Rattle.serial_model.specs.contracts.entry.Entry as entry
use Rattle.serial_model.specs.contracts.limits.Limits as limits
use Rattle.serial_model.specs.declared.entry.Entry.{Entry}
use Rattle.serial_model.specs.Limits.{Budget}
use Rattle.serial_model.specs.State.{Setup, State}
use Rattle.serial_model.specs.Replay.{replay}

-- what is run, and the entries so far
pub record Progress : Type 0 where
  pub setup : Setup
  pub history : List Entry

-- it is stored as its parts
abbrev pub progress_code : Coded Progress
progress_code =
    code_by ((Table × Budget) × List Entry)
    (coded× (coded× (program.the_row).coded (limits.the_row).coded) (coded_list (entry.the_row).coded))
    (λ p. ((p.setup.program, p.setup.limits), p.history))
    (λ p. record { setup = record { program = p.0.0; limits = p.0.1 }; history = p.1 })
    (λ _. refl)

-- the state that the entries so far replay to
abbrev pub state_of : Progress → Option State
state_of p = replay p.setup p.history
