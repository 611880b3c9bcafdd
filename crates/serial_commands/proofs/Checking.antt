-- From what was read and counted to what is owed to a check.
use Rattle.std.proofs.Common.{◌≡◌, ◌≢◌, ℕ, List, [], ◌∷◌, refl, sym, ◌∙◌, ap, subst, inl, inr}
use Rattle.std.specs.Prelude.{◌⊎◌, Option, None, Err}
use Rattle.std.specs.Io.KnownBytes.{append_known}
use Rattle.core_syntax.specs.Table.{Table}
use Rattle.world_io.specs.Counts.{Rose}
use Rattle.world_io.specs.Held.{told}
use Rattle.world_io.specs.Taken.{TookPrefix}
use Rattle.world_io.proofs.TakenLemmas.{TookPrefix-none, append_known-nil}
use Rattle.serial_model.specs.declared.end.End.{End}
use Rattle.command_phases.specs.declared.outcome.Outcome.{Outcome}
use Rattle.command_phases.specs.declared.outcome.Detail.TheVariants.{Nothing}
use Rattle.command_phases.specs.declared.load.LoadNo.{LoadNo}
use Rattle.command_phases.specs.Check.{check_line}
use Rattle.serial_commands.specs.CheckAnswers.{CheckAnswers}
use Rattle.command_phases.specs.LineWritten.{SaysLine}
use Rattle.command_phases.specs.Lines.{load_line, line_of, line_begun}
use Rattle.command_phases.specs.Load.{IsLoaded, Loads}
use Rattle.command_phases.specs.Outcome.{IsEnded, load_status, load_detail}
use Rattle.command_phases.specs.Seen.{Seen, IsUntouched}
use Rattle.command_phases.specs.SourceAnswers.{Says}
use Rattle.command_phases.specs.Unrun.{IsUnrun}
use Rattle.command_phases.specs.Written.{IsWritten}
use Rattle.command_phases.proofs.Loading.{error_checks}
use Rattle.command_phases.proofs.Statuses.{not_three, not_four}
use Rattle.command_phases.proofs.Unloaded.{idle_error, reads_error, reads_loaded, refused_error, says_error, error_not_ended, error_status, error_detail}

pub check_error : (file : List ℕ) (before after : Seen) (outcome : Outcome) (error : LoadNo) → Loads file before.files after.files (Err error)
    → IsUnrun (load_status error) (load_detail error) outcome → after.out.taken ≡ before.out.taken → IsUntouched before after
    → SaysLine (load_line file error) before.err after.err → CheckAnswers file before after outcome
check_error file before after outcome error loads unrun printed files line = record {
  statuses = rw unrun.status (inr (error_status error));
  checked = λ ended. absurd (error_not_ended error (subst IsEnded unrun.status ended));
  complete = λ bytes program given source calm. inr (unrun.status ∙ error_checks file before.files after.files bytes given error program loads source calm.reads);
  reads = reads_error file before after outcome error loads unrun;
  refused = refused_error file before after outcome error loads unrun;
  not_written = λ seven. absurd (error_not_ended error (inr (inr (inr (sym unrun.status ∙ seven)))));
  no_entries = unrun.history;
  no_end = unrun.end;
  files = files;
  idle = λ e. idle_error file before after outcome error loads unrun printed files;
  detail = λ apart. unrun.detail ∙ error_detail error (λ e. apart (unrun.status ∙ e));
  says = says_error file before after outcome error loads unrun [] line;
}

-- the status of a check that came to its end
ended : (s : ℕ) → (s ≡ 0) ⊎ (s ≡ 7) → IsEnded s
ended s h = elim h [ inl z ↦ inl z | inr x ↦ inr (inr (inr x)) ]

-- it has no line
no_line : (s : ℕ) (end : Option End) → (s ≡ 0) ⊎ (s ≡ 7) → end ≡ None → line_of [] s Nothing end ≡ []
no_line s end h none = elim h [ inl z ↦ rw z refl | inr x ↦ rw x refl ]

no_line_begun : (s : ℕ) (end : Option End) → (s ≡ 0) ⊎ (s ≡ 7) → end ≡ None → line_begun [] s Nothing end ≡ []
no_line_begun s end h none = elim h [ inl z ↦ rw z refl | inr x ↦ rw (x, none) refl ]

-- nor is anything said
pub says_nothing : (names : List (List ℕ)) (before after : Seen) (outcome : Outcome) → (outcome.status ≡ 0) ⊎ (outcome.status ≡ 7) → IsUnrun outcome.status Nothing outcome
    → after.err ≡ before.err → Says names before after outcome
says_nothing names before after outcome status unrun same =
    let silent : after.err.taken ≡ before.err.taken = ap (λ sink. sink.taken) same in
    record {
      unread = [];
      not_read = λ three. absurd (not_three outcome.status (inl (ended outcome.status status)) three);
      said = rw (unrun.detail, no_line outcome.status outcome.end status unrun.end) (λ calm. silent ∙ sym (append_known-nil before.err.taken));
      said_at_most = rw (unrun.detail, no_line_begun outcome.status outcome.end status unrun.end) (TookPrefix-none before.err.taken after.err.taken [] silent);
      end_said = λ e written. rw unrun.end (silent ∙ sym (append_known-nil before.err.taken));
    }

pub check_loaded : (file : List ℕ) (before after : Seen) (outcome : Outcome) (program : Table) → IsLoaded (told before.files.held file) program
    → (outcome.status ≡ 0) ⊎ (outcome.status ≡ 7) → TookPrefix before.out.taken after.out.taken (check_line program)
    → (IsWritten outcome.status before.out after.out → after.out.taken ≡ append_known before.out.taken (check_line program))
    → (outcome.status ≡ 7 → Rose before.out.faults after.out.faults) → (outcome.status ≢ 7 → after.out.faults ≡ before.out.faults)
    → IsUnrun outcome.status Nothing outcome → IsUntouched before after → after.err ≡ before.err
    → after.files.read_faults ≡ before.files.read_faults → CheckAnswers file before after outcome
check_loaded file before after outcome program loaded status prefix whole fault unfailed unrun files same reads =
    record {
      statuses = inl (ended outcome.status status);
      checked = λ e. record { bytes = loaded.bytes; program = program; read = loaded.read; source = loaded.source; done = status; prefix = prefix; all_when_written = whole };
      complete = λ bytes other given source calm. elim status [ inl z ↦ inl z | inr seven ↦ absurd (calm.out (fault seven)) ];
      reads = reads_loaded file before after outcome program loaded reads (inl (ended outcome.status status))
          (λ seven six. record { out = unfailed seven; err = ap (λ sink. sink.faults) same; files = files.faults });
      refused = λ four. absurd (not_four outcome.status (inl (ended outcome.status status)) four);
      not_written = fault;
      no_entries = unrun.history;
      no_end = unrun.end;
      files = files;
      idle = λ e. absurd (e (ended outcome.status status));
      detail = λ apart. unrun.detail;
      says = says_nothing (file ∷ []) before after outcome status unrun same;
    }
