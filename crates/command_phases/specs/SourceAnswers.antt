-- What is owed where files are read: which statuses their faults and refusals come to, and what is said of an outcome.
use Rattle.std.specs.Prelude.{◌≡◌, ◌≢◌, ℕ, ◌⊎◌, List, All, Contains}
use Rattle.std.specs.Io.KnownBytes.{append_known}
use Rattle.value_core.specs.Place.{Spot}
use Rattle.world_io.specs.Held.{told}
use Rattle.world_io.specs.Taken.{TookPrefix, Said}
use Rattle.sexpr_reader.specs.declared.error.ReadKind.{ReadKind}
use Rattle.sexpr_reader.specs.Grammar.{IsRefused}
use Rattle.scope_refusals.specs.declared.kind.ScopeKind.{ScopeKind}
use Rattle.command_phases.specs.declared.outcome.Outcome.{Outcome}
use Rattle.command_phases.specs.declared.outcome.Detail.{Detail}
use Rattle.command_phases.specs.Lines.{line_of, line_begun, ended_line}
use Rattle.command_phases.specs.Load.{IsDue, IsScopeDue, IsOutOfScope}
use Rattle.command_phases.specs.Outcome.{IsEnded, IsWithoutRun, refused_as, out_of_scope}
use Rattle.command_phases.specs.Seen.{Seen, ReadFailed, WriteFailed, ReadsWell, IsMissing, IsGiven, IsUnread}
use Rattle.command_phases.specs.Status as exit
use Rattle.std.specs.Prelude.{Option, None, Some}

-- the source that is held is refused, with its kind and place in the detail
abbrev pub IsRefusedSource : Option (Option (List ℕ)) → Detail → Type 0
IsRefusedSource found detail =
    ((kind : ReadKind) × (at : Spot) × IsDue found kind at × (detail ≡ refused_as kind at))
    ⊎ ((kind : ScopeKind) × (at : Spot) × IsScopeDue found kind at × (detail ≡ out_of_scope kind at))

-- something is held under each of the names, or it is not told
abbrev pub AreThere : List (List ℕ) → Seen → Type 0
AreThere names before = All (λ name. told before.files.held name ≢ Some None) names

-- The names are read, the first of them as a source. A name under which nothing is held, and a source that is refused,
-- come to their statuses, or there was no memory. So does a read that failed; and a write that failed comes to its own,
-- where no file was refused.
pub record ReadsSource (file : List ℕ) (names : List (List ℕ)) (before after : Seen) (outcome : Outcome) : Type 0 where
  pub missing : (name : List ℕ) → Contains names name → IsMissing name before → (outcome.status ≡ exit.not_read) ⊎ (outcome.status ≡ exit.no_memory)
  pub must_refuse : (bytes : List ℕ) (kind : ReadKind) (at : Spot) → IsGiven file bytes before → AreThere names before → IsRefused bytes kind at
      → ReadsWell before after → ((outcome.status ≡ exit.refused) × (outcome.detail ≡ refused_as kind at)) ⊎ (outcome.status ≡ exit.no_memory)
  pub must_refuse_scope : (bytes : List ℕ) (kind : ScopeKind) (at : Spot) → IsGiven file bytes before → AreThere names before → IsOutOfScope bytes kind at
      → ReadsWell before after → ((outcome.status ≡ exit.refused) × (outcome.detail ≡ out_of_scope kind at)) ⊎ (outcome.status ≡ exit.no_memory)
  pub failed_read : ReadFailed before after → (outcome.status ≡ exit.not_read) ⊎ (outcome.status ≡ exit.no_memory)
  pub failed_write : WriteFailed before after
      → IsWithoutRun outcome.status ⊎ ((outcome.status ≡ exit.no_memory) ⊎ (outcome.status ≡ exit.not_written))

-- What standard error took: exactly the line of the outcome where its count did not rise, and else a front of it. At an
-- end that was written it is the whole line, whatever was counted. The name that is said not to be read is the one that
-- was not.
pub record Says (names : List (List ℕ)) (before after : Seen) (outcome : Outcome) : Type 0 where
  pub unread : List ℕ
  pub not_read : outcome.status ≡ exit.not_read → IsUnread names before after unread
  pub said : Said before.err after.err (line_of unread outcome.status outcome.detail outcome.end)
  pub said_at_most : TookPrefix before.err.taken after.err.taken (line_begun unread outcome.status outcome.detail outcome.end)
  pub end_said : IsEnded outcome.status → outcome.status ≢ exit.not_written → after.err.taken ≡ append_known before.err.taken (ended_line outcome.end)
