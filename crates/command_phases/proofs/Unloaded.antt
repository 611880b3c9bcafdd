-- What is owed where a file gives no program, and where it gives one.
use Rattle.std.proofs.Common.{◌≡◌, ◌≢◌, ◌<◌, ℕ, zero, suc, List, [], ◌∷◌, refl, sym, ◌∙◌, subst, inl, inr, arith}
use Rattle.std.specs.Prelude.{◌⊎◌, None, Some, Err, Contains, slice_index_or}
use Rattle.core_syntax.specs.Table.{Table}
use Rattle.world_io.specs.Held.{told}
use Rattle.world_io.specs.Seen.{FilesSeen}
use Rattle.command_phases.specs.declared.outcome.Outcome.{Outcome}
use Rattle.command_phases.specs.declared.outcome.Detail.TheVariants.{Nothing}
use Rattle.command_phases.specs.declared.load.LoadNo.{LoadNo}
use Rattle.command_phases.specs.declared.load.LoadNo.TheVariants.{NotRead, Refused, OutOfScope, Memory}
use Rattle.command_phases.specs.LineWritten.{SaysLine}
use Rattle.command_phases.specs.Lines.{load_line}
use Rattle.command_phases.specs.Load.{IsLoaded, Loads}
use Rattle.command_phases.specs.Outcome.{IsEnded, IsIdle, IsWithoutRun, load_status, load_detail}
use Rattle.command_phases.specs.Seen.{Seen, IsUnread, IsUntouched, NoWriteFailed}
use Rattle.command_phases.specs.SourceAnswers.{IsRefusedSource, ReadsSource, Says}
use Rattle.command_phases.specs.Unrun.{IsUnrun}
use Rattle.command_phases.proofs.Statuses.{three_not_ended, four_not_ended, six_not_ended, must_tell}
use Rattle.command_phases.proofs.Loading.{missing_loaded, missing_error, failed_error, found_refused, found_out_of_scope, error_refused, error_out_of_scope}
use Rattle.command_phases.proofs.Said.{line_of-load, line_begun-load}

-- the only name
only_one : (file name : List ℕ) → Contains (file ∷ []) name → name ≡ file
only_one file name h = on h.0 h.1 h.2
  where
    on : (k : ℕ) → k < 1 → slice_index_or (file ∷ []) k name ≡ name → name ≡ file
    on zero lt e = sym e
    on (suc k) lt e = absurd (omega (arith, lt))

pub error_not_ended : (error : LoadNo) → IsEnded (load_status error) → ⊥
error_not_ended NotRead h = three_not_ended h
error_not_ended (Refused kind at) h = four_not_ended h
error_not_ended (OutOfScope kind at) h = four_not_ended h
error_not_ended Memory h = six_not_ended h

pub error_status : (error : LoadNo) → IsWithoutRun (load_status error) ⊎ (load_status error ≡ 6)
error_status NotRead = inl (inl refl)
error_status (Refused kind at) = inl (inr refl)
error_status (OutOfScope kind at) = inl (inr refl)
error_status Memory = inr refl

pub error_detail : (error : LoadNo) → load_status error ≢ 4 → load_detail error ≡ Nothing
error_detail NotRead apart = refl
error_detail (Refused kind at) apart = absurd (apart refl)
error_detail (OutOfScope kind at) apart = absurd (apart refl)
error_detail Memory apart = refl

-- what is refused where a file gives no program
pub refuses : (name : List ℕ) (before after : FilesSeen) (error : LoadNo) → Loads name before after (Err error) → load_status error ≡ 4
    → IsRefusedSource (told before.held name) (load_detail error)
refuses name before after NotRead h e = absurd (omega (arith, e))
refuses name before after (Refused kind at) h e = inl (kind, at, h.0, refl)
refuses name before after (OutOfScope kind at) h e = inr (kind, at, h.0, refl)
refuses name before after Memory h e = absurd (omega (arith, e))

-- the first name is one of the names
pub first_of : (file : List ℕ) (names : List (List ℕ)) → Contains (file ∷ names) file
first_of file names = (0, omega arith, refl)

pub unread_error : (file : List ℕ) (names : List (List ℕ)) (before after : Seen) (error : LoadNo) → Loads file before.files after.files (Err error) → load_status error ≡ 3
    → IsUnread (file ∷ names) before after file
unread_error file names before after NotRead h e = elim h [
  | inl failed ↦ inl (first_of file names, failed.0, failed.1)
  | inr absent ↦ inr (absent.0, inl (refl, absent.1))
]
unread_error file names before after (Refused kind at) h e = absurd (omega (arith, e))
unread_error file names before after (OutOfScope kind at) h e = absurd (omega (arith, e))
unread_error file names before after Memory h e = absurd (omega (arith, e))

-- where a file gives no program
module _ (file : List ℕ) (before after : Seen) (outcome : Outcome) (error : LoadNo) (loads : Loads file before.files after.files (Err error))
    (unrun : IsUnrun (load_status error) (load_detail error) outcome) where
  is_status : outcome.status ≡ load_status error
  is_status = unrun.status

  is_detail : outcome.detail ≡ load_detail error
  is_detail = unrun.detail

  pub reads_error : ReadsSource file (file ∷ []) before after outcome
  reads_error = record {
    missing = λ name among none. rw is_status
        (missing_error file before.files after.files error (subst (λ n. told before.files.held n ≡ Some None) (only_one file name among) none) loads);
    must_refuse = λ bytes kind at given there refused calm. rw (is_status, is_detail)
        (error_refused file before.files after.files bytes given error kind at loads refused calm);
    must_refuse_scope = λ bytes kind at given there refused calm. rw (is_status, is_detail)
        (error_out_of_scope file before.files after.files bytes given error kind at loads refused calm);
    failed_read = λ failed. rw is_status (failed_error file before.files after.files error failed loads);
    failed_write = λ failed. rw is_status (elim (error_status error) [ inl w ↦ inl w | inr six ↦ inr (inl six) ]);
  }

  pub refused_error : outcome.status ≡ 4 → IsRefusedSource (told before.files.held file) outcome.detail
  refused_error four = rw is_detail (refuses file before.files after.files error loads (sym is_status ∙ four))

  pub idle_error : after.out.taken ≡ before.out.taken → IsUntouched before after → IsIdle before after outcome
  idle_error printed files = record { history = unrun.history; end = unrun.end; printed = printed; files = files }

  pub says_error : (names : List (List ℕ)) → SaysLine (load_line file error) before.err after.err → Says (file ∷ names) before after outcome
  says_error names line = record {
    unread = file;
    not_read = λ three. unread_error file names before after error loads (sym is_status ∙ three);
    said = rw (is_status, is_detail, line_of-load file error outcome.end) line.said;
    said_at_most = rw (is_status, is_detail, line_begun-load file error outcome.end) line.said_at_most;
    end_said = λ ended written. absurd (error_not_ended error (subst IsEnded is_status ended));
  }

-- where it gives one
module _ (file : List ℕ) (before after : Seen) (outcome : Outcome) (program : Table) (loaded : IsLoaded (told before.files.held file) program)
    (reads : after.files.read_faults ≡ before.files.read_faults) (statuses : IsEnded outcome.status ⊎ (outcome.status ≡ 6))
    (unfailed : outcome.status ≢ 7 → outcome.status ≢ 6 → NoWriteFailed before after) where
  pub reads_loaded : ReadsSource file (file ∷ []) before after outcome
  reads_loaded = record {
    missing = λ name among none. absurd (missing_loaded (told before.files.held file) program (subst (λ n. told before.files.held n ≡ Some None) (only_one file name among) none) loaded);
    must_refuse = λ bytes kind at given there refused calm. absurd (found_refused file before.files after.files bytes given program kind at loaded refused);
    must_refuse_scope = λ bytes kind at given there refused calm. absurd (found_out_of_scope file before.files after.files bytes given program kind at loaded refused);
    failed_read = λ failed. absurd (failed reads);
    failed_write = must_tell before after outcome.status statuses unfailed;
  }
