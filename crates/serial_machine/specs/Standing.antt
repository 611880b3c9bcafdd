-- Where a run by one thread stands.
use Rattle.std.specs.Prelude.{◌≡◌, ℕ, Bool, true, false, List, [], ◌∷◌, ◌++◌, Option, None, Some}
use Rattle.std.specs.Option.{IsSome}
use Rattle.core_syntax.specs.WellFormed.{IsWellFormed}
use Rattle.serial_model.specs.declared.end.End.{End}
use Rattle.serial_model.specs.declared.end.End.TheVariants.{Done}
use Rattle.serial_model.specs.declared.entry.Entry.{Entry}
use Rattle.serial_model.specs.First.{first_of}
use Rattle.serial_model.specs.Replay.{replay}
use Rattle.serial_model.specs.State.{Setup, State}
use Rattle.serial_machine.specs.declared.now.Now.{Now}
use Rattle.serial_machine.specs.Now.{IsNow}

-- The run is at that state, and no bytes wait to be handed out. After want of memory it is at none, and the state is not over.
abbrev pub IsAt : Setup → List ℕ → Option Now → State → Type 0
IsAt setup output None s = IsSome (first_of s)
IsAt setup output (Some now) s = IsNow setup output now s × (now.text.items ≡ [])

-- the entries so far replay to a state, whose bytes are those printed
pub record Stands (setup : Setup) (history : List Entry) (output : List ℕ) (done : End) (now : Option Now) : Type 0 where
  pub formed : IsWellFormed setup.program
  pub state : State
  pub replays : replay setup history ≡ Some state
  pub bytes : state.bytes ≡ output
  pub done_is : done ≡ Done
  pub at : IsAt setup output now state

-- the end that the state has: the one that is set, or Done where one thread finds nothing to settle
abbrev pub if_still : Option Entry → Option End
if_still None = Some Done
if_still (Some entry) = None

abbrev pub if_going : Option End → Option End → Option End
if_going None still = still
if_going (Some end) still = Some end

abbrev pub end_seen : State → Option End
end_seen s = if_going s.end (if_still (first_of s))

-- the entry was enabled and is done, or it was not
abbrev pub IsAdvanced : Setup → State → Entry → List Entry → List Entry → List ℕ → List ℕ → Now → Option State → Bool → Type 0
IsAdvanced setup s entry before after old new now (Some t) true = (after ≡ before ++ entry ∷ []) × (t.bytes ≡ new) × IsNow setup new now t × (now.text.items ≡ [])
IsAdvanced setup s entry before after old new now None false = (after ≡ before) × (new ≡ old) × IsNow setup new now s × (now.text.items ≡ [])
IsAdvanced setup s entry before after old new now _ _ = ⊥
