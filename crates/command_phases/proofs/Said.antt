-- The line of an outcome.
use Rattle.std.proofs.Common.{◌≡◌, ℕ, List, [], ◌++◌, refl, subst, inl, inr}
use Rattle.std.specs.Prelude.{◌⊎◌, Option, Some}
use Rattle.std.specs.Io.KnownBytes.{append_known}
use Rattle.serial_model.specs.declared.end.End.{End}
use Rattle.world_io.specs.Seen.{SinkSeen}
use Rattle.world_io.specs.Taken.{TookPrefix, Said}
use Rattle.command_phases.specs.declared.outcome.Detail.TheVariants.{Nothing}
use Rattle.command_phases.specs.declared.load.LoadNo.{LoadNo}
use Rattle.command_phases.specs.declared.load.LoadNo.TheVariants.{NotRead, Refused, OutOfScope, Memory}
use Rattle.command_phases.specs.Lines.{ended_line, line_of, line_begun, load_line}
use Rattle.command_phases.specs.Outcome.{IsEnded, end_unless_memory, load_status, load_detail}
use Rattle.command_phases.specs.SaysOutcome.{SaysOutcome}
use Rattle.command_phases.specs.SaysReport.{SaysReport}
use Rattle.command_phases.specs.declared.outcome.Outcome.{Outcome}
use Rattle.command_phases.proofs.Statuses.{six_not_ended}

pub line_of-load : (name : List ℕ) (error : LoadNo) (end : Option End) → line_of name (load_status error) (load_detail error) end ≡ load_line name error
line_of-load name NotRead end = refl
line_of-load name (Refused kind at) end = refl
line_of-load name (OutOfScope kind at) end = refl
line_of-load name Memory end = refl

pub line_begun-load : (name : List ℕ) (error : LoadNo) (end : Option End) → line_begun name (load_status error) (load_detail error) end ≡ load_line name error
line_begun-load name NotRead end = refl
line_begun-load name (Refused kind at) end = refl
line_begun-load name (OutOfScope kind at) end = refl
line_begun-load name Memory end = refl

-- the line that a run begins doesn't depend on its end where that is left out
pub line_begun-unless : (s : ℕ) (end : End) → IsEnded s ⊎ (s ≡ 6) → line_begun [] s Nothing (Some end) ≡ line_begun [] s Nothing (end_unless_memory s end)
line_begun-unless s end h = elim h [
  | inl e ↦ elim e [ inl z ↦ rw z refl | inr e ↦ elim e [ inl o ↦ rw o refl | inr e ↦ elim e [ inl f ↦ rw f refl | inr n ↦ rw n refl ] ] ]
  | inr m ↦ rw m refl
]

line_of-unless : (s : ℕ) (end : End) → IsEnded s ⊎ (s ≡ 6) → line_of [] s Nothing (Some end) ≡ line_of [] s Nothing (end_unless_memory s end)
line_of-unless s end h = elim h [
  | inl e ↦ elim e [ inl z ↦ rw z refl | inr e ↦ elim e [ inl o ↦ rw o refl | inr e ↦ elim e [ inl f ↦ rw f refl | inr n ↦ rw n refl ] ] ]
  | inr m ↦ rw m refl
]

ended_line-unless : (s : ℕ) (end : End) → IsEnded s → ended_line (Some end) ≡ ended_line (end_unless_memory s end)
ended_line-unless s end h = elim h [ inl z ↦ rw z refl | inr e ↦ elim e [ inl o ↦ rw o refl | inr e ↦ elim e [ inl f ↦ rw f refl | inr n ↦ rw n refl ] ] ]

-- so what was said of a run is said of its outcome
pub SaysOutcome-unless : (s : ℕ) (end : End) (old new : SinkSeen) → IsEnded s ⊎ (s ≡ 6) → SaysOutcome s Nothing (Some end) old new → SaysOutcome s Nothing (end_unless_memory s end) old new
SaysOutcome-unless s end old new h says = record {
  said = subst (Said old new) (line_of-unless s end h) says.said;
  said_at_most = subst (TookPrefix old.taken new.taken) (line_begun-unless s end h) says.said_at_most;
  end_said = λ ended written. subst (λ line. new.taken ≡ append_known old.taken line) (ended_line-unless s end ended) (says.end_said ended written);
}

-- and so is what was said of a run by a schedule that came to its end
pub SaysReport-unless : (report : List ℕ) (s : ℕ) (end : End) (old new : SinkSeen) → IsEnded s → SaysReport report s (Some end) old new → SaysReport report s (end_unless_memory s end) old new
SaysReport-unless report s end old new ended says = record {
  said = subst (λ line. Said old new (report ++ line)) (line_of-unless s end (inl ended)) says.said;
  said_at_most = subst (λ line. TookPrefix old.taken new.taken (report ++ line)) (line_begun-unless s end (inl ended)) says.said_at_most;
  end_said = λ written. subst (λ line. new.taken ≡ append_known old.taken (report ++ line)) (ended_line-unless s end ended) (says.end_said written);
}

-- with no report, standard error took the line of the outcome alone
pub SaysOutcome-unreported : (report : List ℕ) (outcome : Outcome) (old new : SinkSeen) → report ≡ [] → outcome.detail ≡ Nothing → IsEnded outcome.status ⊎ (outcome.status ≡ 6)
    → (IsEnded outcome.status → SaysReport report outcome.status outcome.end old new)
    → ((IsEnded outcome.status → ⊥) → SaysOutcome outcome.status outcome.detail outcome.end old new)
    → SaysOutcome outcome.status outcome.detail outcome.end old new
SaysOutcome-unreported report outcome old new none nothing status reports says = elim status [
  | inl ended ↦
      let all : SaysReport [] outcome.status outcome.end old new = subst (λ text. SaysReport text outcome.status outcome.end old new) none (reports ended) in
      rw nothing (record { said = all.said; said_at_most = all.said_at_most; end_said = λ e written. all.end_said written })
  | inr six ↦ says (λ ended. six_not_ended (subst IsEnded six ended))
]
