-- From the files of a program and of a second text to what is read of them.
use Rattle.std.proofs.Common.{◌≡◌, ◌∙◌, ℕ, List, refl, sym, subst}
use Rattle.std.specs.Prelude.{Option, None, Some, Result, Ok, Err}
use Rattle.core_syntax.specs.Table.{Table}
use Rattle.schedule_text.specs.Schedule.{schedule_limit, schedule_refusal}
use Rattle.serial_model.specs.Trace.{trace_limit, trace_refusal}
use Rattle.serial_model.specs.declared.trace.LineKind.{LineKind}
use Rattle.serial_model.specs.declared.trace.LineKind.TheVariants as line_kind
use Rattle.world_io.specs.Held.{told, IsHeld, ExceedsLimit}
use Rattle.world_io.specs.Seen.{FilesSeen}
use Rattle.command_phases.specs.declared.fetch.Fetched.{Fetched}
use Rattle.command_phases.specs.declared.fetch.Fetched.TheVariants.{Bytes, TooLong}
use Rattle.command_phases.specs.declared.load.LoadNo.TheVariants as load
use Rattle.command_phases.specs.declared.load_pair.FetchedPair.{FetchedPair}
use Rattle.command_phases.specs.declared.load_pair.PairNo.{PairNo}
use Rattle.command_phases.specs.declared.load_pair.PairNo.TheVariants.{Source, NotRead, Refused}
use Rattle.command_phases.specs.Fetch.{Fetches, NoReadFailed}
use Rattle.command_phases.specs.Load.{GivesFile}
use Rattle.command_phases.specs.LoadPair.{FetchesPair, GivesPair, GivesSecond, HoldsText, IsHeldAs, IsTextDue, LoadsPair, RefusesPair, RefusesText, WhyNoText}
use Rattle.command_phases.proofs.Loading.{loads_file, none_failed, there}

-- the bytes that are held are those that are refused
module _ (refusal : List ℕ → LineKind → ℕ → Type 0) where
  due_of : (found : Option (Option (List ℕ))) (bytes : List ℕ) (kind : LineKind) (line : ℕ) → IsHeld found bytes → refusal bytes kind line → IsTextDue refusal found kind line
  due_of None bytes kind line h r = tt
  due_of (Some None) bytes kind line h r = absurd (cc)
  due_of (Some (Some held)) bytes kind line h r = let same : bytes ≡ held = cc in subst (λ b. refusal b kind line) same r

  pub due_bytes : (found : Option (Option (List ℕ))) (text : List ℕ) (kind : LineKind) (line : ℕ) → found ≡ Some (Some text) → IsTextDue refusal found kind line → refusal text kind line
  due_bytes found text kind line is h = subst (λ x. IsTextDue refusal x kind line) is h

  too_long_due : (limit : ℕ) (over : (bytes : List ℕ) → ExceedsLimit (Some (Some bytes)) limit → refusal bytes line_kind.TooLong 1) (found : Option (Option (List ℕ)))
      → ExceedsLimit found limit → IsTextDue refusal found line_kind.TooLong 1
  too_long_due limit over None h = tt
  too_long_due limit over (Some None) h = absurd h
  too_long_due limit over (Some (Some bytes)) h = over bytes h

  holds_text : (spells : List ℕ → Type 0) (limit : ℕ) (name : List ℕ) (before after : FilesSeen) (file : Fetched) → Fetches name limit before after (Ok file) → HoldsText spells file
      → IsHeldAs spells (told before.held name)
  holds_text spells limit name before after (Bytes bytes) f h = record { bytes = bytes.items; read = f.0; text = h }
  holds_text spells limit name before after TooLong f h = absurd h

  refuses_text : (limit : ℕ) (over : (bytes : List ℕ) → ExceedsLimit (Some (Some bytes)) limit → refusal bytes line_kind.TooLong 1) (name : List ℕ) (before after : FilesSeen) (file : Fetched)
      (kind : LineKind) (line : ℕ) → Fetches name limit before after (Ok file) → RefusesText refusal file kind line → IsTextDue refusal (told before.held name) kind line
  refuses_text limit over name before after (Bytes bytes) kind line f h = due_of (told before.held name) bytes.items kind line f.0 h
  refuses_text limit over name before after TooLong kind line f h = rw (h.0, h.1) (too_long_due limit over (told before.held name) f.0)

never : (source : Fetched) → GivesFile source (Err load.NotRead) → ⊥
never (Bytes bytes) h = h
never TooLong h = h

-- a file that was read, seen from what comes after
pub read_first : (name : List ℕ) (limit : ℕ) (before mid after : FilesSeen) (file : Fetched) → NoReadFailed mid after → Fetches name limit before mid (Ok file) → Fetches name limit before after (Ok file)
read_first name limit before mid after (Bytes bytes) quiet f = (f.0, f.1, quiet ∙ f.2)
read_first name limit before mid after TooLong quiet f = (f.0, quiet ∙ f.1)

-- both, where both were read
module _ (refusal : List ℕ → LineKind → ℕ → Type 0) (limit : ℕ)
    (over : (bytes : List ℕ) → ExceedsLimit (Some (Some bytes)) limit → refusal bytes line_kind.TooLong 1)
    {P : Type 0} (program : P → Table) (spells : P → List ℕ → Type 0) (file second : List ℕ) (before after : FilesSeen) where
  pub loads_pair : (pair : FetchedPair) (answer : Result P PairNo) → FetchesPair file second limit before after (Ok pair)
      → GivesPair refusal program spells pair.source pair.second answer → LoadsPair refusal program spells file second before after answer
  loads_pair pair (Ok both) f h =
      let quiet = none_failed second limit before after pair.second f.1 in
      ((loads_file file before after after pair.source (Ok (program both)) f.0 quiet h.0).0, holds_text refusal (spells both) limit second before after pair.second f.1 h.1, quiet)
  loads_pair pair (Err (Source load.NotRead)) f h = absurd (never pair.source h)
  loads_pair pair (Err (Source (load.Refused kind at))) f h =
      let quiet = none_failed second limit before after pair.second f.1 in
      (there second limit before after pair.second f.1, loads_file file before after after pair.source (Err (load.Refused kind at)) f.0 quiet h)
  loads_pair pair (Err (Source (load.OutOfScope kind at))) f h =
      let quiet = none_failed second limit before after pair.second f.1 in
      (there second limit before after pair.second f.1, loads_file file before after after pair.source (Err (load.OutOfScope kind at)) f.0 quiet h)
  loads_pair pair (Err (Source load.Memory)) f h = tt
  loads_pair pair (Err NotRead) f h = absurd h
  loads_pair pair (Err (Refused kind line)) f h =
      let quiet = none_failed second limit before after pair.second f.1 in
      ((h.0, (loads_file file before after after pair.source (Ok h.0) f.0 quiet h.1).0), refuses_text refusal limit over second before after pair.second kind line f.1 h.2, quiet)

  -- and where one was not
  pub unread_pair : (error : PairNo) → FetchesPair file second limit before after (Err error) → RefusesPair refusal file second before after error
  unread_pair (Source load.NotRead) h = h
  unread_pair (Source load.Memory) h = tt
  unread_pair (Source (load.Refused kind at)) h = absurd h
  unread_pair (Source (load.OutOfScope kind at)) h = absurd h
  unread_pair NotRead h = h
  unread_pair (Refused kind line) h = absurd h

-- what becomes of the second file, where the first gave this program
module _ (refusal : List ℕ → LineKind → ℕ → Type 0) {P : Type 0} (program : P → Table) (spells : P → List ℕ → Type 0) where
  pub no_second : (table : Table) (second : Fetched) (error : PairNo) → WhyNoText refusal second error → GivesSecond refusal program spells table second (Err error)
  no_second table second (Source error) h = h
  no_second table second NotRead h = h
  no_second table second (Refused kind line) h = h

  pub gives_pair : (source second : Fetched) (table : Table) (answer : Result P PairNo) → GivesFile source (Ok table) → GivesSecond refusal program spells table second answer
      → GivesPair refusal program spells source second answer
  gives_pair source second table (Ok both) file h = (subst (λ p. GivesFile source (Ok p)) (sym h.0) file, h.1)
  gives_pair source second table (Err (Refused kind line)) file h = (table, file, h)
  gives_pair source second table (Err (Source load.Memory)) file h = tt
  gives_pair source second table (Err (Source load.NotRead)) file h = absurd h
  gives_pair source second table (Err (Source (load.Refused kind at))) file h = absurd h
  gives_pair source second table (Err (Source (load.OutOfScope kind at))) file h = absurd h
  gives_pair source second table (Err NotRead) file h = absurd h

-- bytes over the limit are refused
pub trace_too_long : (bytes : List ℕ) → ExceedsLimit (Some (Some bytes)) trace_limit → trace_refusal bytes line_kind.TooLong 1
trace_too_long bytes h = (h, refl)

pub schedule_too_long : (bytes : List ℕ) → ExceedsLimit (Some (Some bytes)) schedule_limit → schedule_refusal bytes line_kind.TooLong 1
schedule_too_long bytes h = (h, refl)
