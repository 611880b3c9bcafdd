-- What is answered to the reading of a program's file.
use Rattle.std.specs.Prelude.{◌≡◌, ℕ, List, Option, Result, Ok, Err, IfSome, IsSomeAnd}
use Rattle.value_core.specs.Place.{Spot}
use Rattle.sexpr_reader.specs.Cursor.{start}
use Rattle.sexpr_reader.specs.declared.error.ReadKind.{ReadKind}
use Rattle.sexpr_reader.specs.declared.error.ReadKind.TheVariants as read_kind
use Rattle.sexpr_reader.specs.declared.error.ReadNo.{ReadNo}
use Rattle.sexpr_reader.specs.declared.error.ReadNo.TheVariants as read
use Rattle.sexpr_reader.specs.declared.form.Form.{Form}
use Rattle.sexpr_reader.specs.Grammar.{IsSource, IsRefused}
use Rattle.scope_refusals.specs.declared.kind.ScopeKind.{ScopeKind}
use Rattle.scope_check.specs.declared.error.ScopeNo.{ScopeNo}
use Rattle.scope_check.specs.declared.error.ScopeNo.TheVariants as scope
use Rattle.scope_check.specs.Check.{IsProgram, IsRefused as IsScopeRefused}
use Rattle.world_io.specs.Held.{told, IsHeld}
use Rattle.world_io.specs.Seen.{FilesSeen}
use Rattle.core_syntax.specs.Table.{Table}
use Rattle.command_phases.specs.Fetch.{NoReadFailed, IsNotRead}
use Rattle.command_phases.specs.Program.{IsProgramOf}
use Rattle.command_phases.specs.declared.fetch.Fetched.{Fetched}
use Rattle.command_phases.specs.declared.fetch.Fetched.TheVariants.{Bytes, TooLong}
use Rattle.command_phases.specs.declared.load.LoadNo.{LoadNo}
use Rattle.command_phases.specs.declared.load.LoadNo.TheVariants.{NotRead, Refused, OutOfScope, Memory}

-- the bytes held are refused with that kind at that place, where it is told what is held
abbrev pub IsDue : Option (Option (List ℕ)) → ReadKind → Spot → Type 0
IsDue found kind at = IfSome found (λ held. IsSomeAnd held (λ bytes. IsRefused bytes kind at))

-- the bytes held are a source whose forms have this program by scope
pub record IsLoaded (found : Option (Option (List ℕ))) (program : Table) : Type 0 where
  pub bytes : List ℕ
  pub read : IsHeld found bytes
  pub source : IsProgramOf bytes program

-- the bytes are a source whose forms are refused by scope, with that kind at that place
pub record IsOutOfScope (bytes : List ℕ) (kind : ScopeKind) (at : Spot) : Type 0 where
  pub forms : List Form
  pub source : IsSource bytes forms
  pub due : IsScopeRefused forms kind at

-- the bytes held are such a source
pub record IsScopeDue (found : Option (Option (List ℕ))) (kind : ScopeKind) (at : Spot) : Type 0 where
  pub bytes : List ℕ
  pub read : IsHeld found bytes
  pub refused : IsOutOfScope bytes kind at

-- the cause of each answer; want of memory is free
abbrev pub Loads : List ℕ → FilesSeen → FilesSeen → Result Table LoadNo → Type 0
Loads name before after (Ok program) = IsLoaded (told before.held name) program × NoReadFailed before after
Loads name before after (Err NotRead) = IsNotRead name before after
Loads name before after (Err (Refused kind at)) = IsDue (told before.held name) kind at × NoReadFailed before after
Loads name before after (Err (OutOfScope kind at)) = IsScopeDue (told before.held name) kind at × NoReadFailed before after
Loads name before after (Err Memory) = Unit {0}

-- the refusal of a source is passed on
abbrev pub load_error : ReadNo → LoadNo
load_error (read.Refused kind at) = Refused kind at
load_error read.Memory = Memory

-- and so is the refusal of its forms
abbrev pub scope_error : ScopeNo → LoadNo
scope_error (scope.Refused kind at) = OutOfScope kind at
scope_error scope.Memory = Memory

-- what becomes of the forms of a source; want of memory is free
abbrev pub GivesForms : List Form → Result Table LoadNo → Type 0
GivesForms forms (Ok program) = IsProgram forms program
GivesForms forms (Err (OutOfScope kind at)) = IsScopeRefused forms kind at
GivesForms forms (Err Memory) = Unit {0}
GivesForms forms (Err error) = ⊥

-- what becomes of the text of a source
abbrev pub GivesText : List ℕ → Result Table LoadNo → Type 0
GivesText bytes (Ok program) = IsProgramOf bytes program
GivesText bytes (Err (Refused kind at)) = IsRefused bytes kind at
GivesText bytes (Err (OutOfScope kind at)) = IsOutOfScope bytes kind at
GivesText bytes (Err Memory) = Unit {0}
GivesText bytes (Err error) = ⊥

-- what becomes of a file that was read; one over the limit is refused at its start
abbrev pub GivesFile : Fetched → Result Table LoadNo → Type 0
GivesFile (Bytes bytes) answer = GivesText bytes.items answer
GivesFile TooLong (Err (Refused kind at)) = (kind ≡ read_kind.TooLong) × (at ≡ start)
GivesFile TooLong answer = ⊥
