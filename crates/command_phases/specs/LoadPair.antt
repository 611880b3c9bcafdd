-- What is answered to the reading of two files: of a program, and of a text that is read line by line, as a trace or a schedule.
use Rattle.std.specs.Prelude.{◌≡◌, ◌≢◌, ℕ, List, Option, None, Some, Result, Ok, Err, IfSome, IsSomeAnd}
use Rattle.core_syntax.specs.Table.{Table}
use Rattle.schedule_text.specs.Schedule.{IsTextOfSchedule, schedule_refusal}
use Rattle.serial_model.specs.Trace.{IsTextOfTrace, trace_refusal}
use Rattle.serial_model.specs.declared.trace.LineKind.{LineKind}
use Rattle.serial_model.specs.declared.trace.LineKind.TheVariants as line_kind
use Rattle.sexpr_reader.specs.Limits.{source_limit}
use Rattle.world_io.specs.Held.{told, IsHeld}
use Rattle.world_io.specs.Seen.{FilesSeen}
use Rattle.command_phases.specs.Fetch.{Fetches, IsNotRead, NoReadFailed}
use Rattle.command_phases.specs.Load.{GivesFile, IsLoaded, Loads}
use Rattle.command_phases.specs.declared.fetch.Fetched.{Fetched}
use Rattle.command_phases.specs.declared.fetch.Fetched.TheVariants.{Bytes, TooLong}
use Rattle.command_phases.specs.declared.load.LoadNo.TheVariants as load
use Rattle.command_phases.specs.declared.load_pair.FetchedPair.{FetchedPair}
use Rattle.command_phases.specs.declared.load_pair.Given.{Given}
use Rattle.command_phases.specs.declared.load_pair.PairNo.{PairNo}
use Rattle.command_phases.specs.declared.load_pair.PairNo.TheVariants.{Source, NotRead, Refused}
use Rattle.command_phases.specs.declared.load_pair.Scheduled.{Scheduled}

-- the bytes held are refused as a trace, with that kind at that line, where it is told what is held
abbrev pub IsTraceDue : Option (Option (List ℕ)) → LineKind → ℕ → Type 0
IsTraceDue found kind line = IfSome found (λ held. IsSomeAnd held (λ bytes. trace_refusal bytes kind line))

-- the bytes held are refused as a schedule, with that kind at that line, where it is told what is held
abbrev pub IsScheduleDue : Option (Option (List ℕ)) → LineKind → ℕ → Type 0
IsScheduleDue found kind line = IfSome found (λ held. IsSomeAnd held (λ bytes. schedule_refusal bytes kind line))

-- the bytes held are refused as such a text, with that kind at that line, where it is told what is held
abbrev pub IsTextDue : (List ℕ → LineKind → ℕ → Type 0) → Option (Option (List ℕ)) → LineKind → ℕ → Type 0
IsTextDue refusal found kind line = IfSome found (λ held. IsSomeAnd held (λ bytes. refusal bytes kind line))

-- the bytes held are such a text
pub record IsHeldAs (spells : List ℕ → Type 0) (found : Option (Option (List ℕ))) : Type 0 where
  pub bytes : List ℕ
  pub read : IsHeld found bytes
  pub text : spells bytes

-- what becomes of the reading of both files, the first of which is read as a source
abbrev pub FetchesPair : List ℕ → List ℕ → ℕ → FilesSeen → FilesSeen → Result FetchedPair PairNo → Type 0
FetchesPair file second limit before after (Ok pair) = Fetches file source_limit before after (Ok pair.source) × Fetches second limit before after (Ok pair.second)
FetchesPair file second limit before after (Err (Source load.NotRead)) = IsNotRead file before after
FetchesPair file second limit before after (Err (Source load.Memory)) = Unit {0}
FetchesPair file second limit before after (Err NotRead) = (told before.held file ≢ Some None) × IsNotRead second before after
FetchesPair file second limit before after (Err error) = ⊥

-- the file that was read holds such a text
abbrev pub HoldsText : (List ℕ → Type 0) → Fetched → Type 0
HoldsText spells (Bytes bytes) = spells bytes.items
HoldsText spells TooLong = ⊥

-- the file that was read is refused with that kind at that line; one over the limit is refused at its first line
abbrev pub RefusesText : (List ℕ → LineKind → ℕ → Type 0) → Fetched → LineKind → ℕ → Type 0
RefusesText refusal (Bytes bytes) kind line = refusal bytes.items kind line
RefusesText refusal TooLong kind line = (kind ≡ line_kind.TooLong) × (line ≡ 1)

-- why no text is read of a file that was read; want of memory is free
abbrev pub WhyNoText : (List ℕ → LineKind → ℕ → Type 0) → Fetched → PairNo → Type 0
WhyNoText refusal file (Source load.Memory) = Unit {0}
WhyNoText refusal file (Refused kind line) = RefusesText refusal file kind line
WhyNoText refusal file error = ⊥

-- what becomes of a file that was read, of a kind of text and the bytes that are refused as such
module _ {T : Type 0} (spells : T → List ℕ → Type 0) (refusal : List ℕ → LineKind → ℕ → Type 0) where
  abbrev pub ReadsText : Fetched → Result T PairNo → Type 0
  ReadsText file (Ok text) = HoldsText (spells text) file
  ReadsText file (Err error) = WhyNoText refusal file error

-- the bytes that are refused as the second file
module _ (refusal : List ℕ → LineKind → ℕ → Type 0) where
  -- The cause of each refusal: both files are read, in this order, before one is checked, and the program is checked first.
  abbrev pub RefusesPair : List ℕ → List ℕ → FilesSeen → FilesSeen → PairNo → Type 0
  RefusesPair file second before after (Source load.NotRead) = IsNotRead file before after
  RefusesPair file second before after (Source load.Memory) = Unit {0}
  RefusesPair file second before after (Source error) = (told before.held second ≢ Some None) × Loads file before after (Err error)
  RefusesPair file second before after NotRead = (told before.held file ≢ Some None) × IsNotRead second before after
  RefusesPair file second before after (Refused kind line) =
      ((program : Table) × IsLoaded (told before.held file) program)
      × IsTextDue refusal (told before.held second) kind line × NoReadFailed before after

  -- what is loaded: a program, and a text behind it
  module _ {P : Type 0} (program : P → Table) (spells : P → List ℕ → Type 0) where
    -- what becomes of the second file, where the first gave this program
    abbrev pub GivesSecond : Table → Fetched → Result P PairNo → Type 0
    GivesSecond table second (Ok both) = (program both ≡ table) × HoldsText (spells both) second
    GivesSecond table second (Err error) = WhyNoText refusal second error

    -- what becomes of both files where they were read
    abbrev pub GivesPair : Fetched → Fetched → Result P PairNo → Type 0
    GivesPair source second (Ok both) = GivesFile source (Ok (program both)) × HoldsText (spells both) second
    GivesPair source second (Err (Source load.Memory)) = Unit {0}
    GivesPair source second (Err (Source error)) = GivesFile source (Err error)
    GivesPair source second (Err (Refused kind line)) = (table : Table) × GivesFile source (Ok table) × RefusesText refusal second kind line
    GivesPair source second (Err NotRead) = ⊥

    -- the cause of each answer to the reading of both
    abbrev pub LoadsPair : List ℕ → List ℕ → FilesSeen → FilesSeen → Result P PairNo → Type 0
    LoadsPair file second before after (Ok both) =
        IsLoaded (told before.held file) (program both) × IsHeldAs (spells both) (told before.held second) × NoReadFailed before after
    LoadsPair file second before after (Err error) = RefusesPair file second before after error

-- of a program and of a trace
abbrev pub GivesTrace : Table → Fetched → Result Given PairNo → Type 0
GivesTrace program text answer = GivesSecond trace_refusal (λ (given : Given). given.program) (λ (given : Given). IsTextOfTrace given.trace) program text answer

abbrev pub GivesReplay : Fetched → Fetched → Result Given PairNo → Type 0
GivesReplay source text answer = GivesPair trace_refusal (λ (given : Given). given.program) (λ (given : Given). IsTextOfTrace given.trace) source text answer

abbrev pub LoadsReplay : List ℕ → List ℕ → FilesSeen → FilesSeen → Result Given PairNo → Type 0
LoadsReplay file trace before after answer = LoadsPair trace_refusal (λ (given : Given). given.program) (λ (given : Given). IsTextOfTrace given.trace) file trace before after answer

-- of a program and of a schedule
abbrev pub GivesLines : Table → Fetched → Result Scheduled PairNo → Type 0
GivesLines program text answer = GivesSecond schedule_refusal (λ (given : Scheduled). given.program) (λ (given : Scheduled). IsTextOfSchedule given.lines) program text answer

abbrev pub GivesSchedule : Fetched → Fetched → Result Scheduled PairNo → Type 0
GivesSchedule source text answer = GivesPair schedule_refusal (λ (given : Scheduled). given.program) (λ (given : Scheduled). IsTextOfSchedule given.lines) source text answer

abbrev pub LoadsSchedule : List ℕ → List ℕ → FilesSeen → FilesSeen → Result Scheduled PairNo → Type 0
LoadsSchedule file schedule before after answer =
    LoadsPair schedule_refusal (λ (given : Scheduled). given.program) (λ (given : Scheduled). IsTextOfSchedule given.lines) file schedule before after answer
