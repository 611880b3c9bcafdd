-- What is owed where the files of a program and of a second text give nothing to run, and where they were read.
use Rattle.std.proofs.Common.{◌≡◌, ◌≢◌, ◌<◌, ℕ, zero, suc, List, [], ◌∷◌, refl, sym, ◌∙◌, ap, subst, inl, inr, arith}
use Rattle.std.specs.Prelude.{◌⊎◌, Option, None, Some, Err, Contains, slice_index_or}
use Rattle.core_syntax.specs.Table.{Table}
use Rattle.scope_refusals.specs.declared.kind.ScopeKind.{ScopeKind}
use Rattle.serial_model.specs.declared.end.End.{End}
use Rattle.serial_model.specs.declared.trace.LineKind.{LineKind}
use Rattle.sexpr_reader.specs.declared.error.ReadKind.{ReadKind}
use Rattle.sexpr_reader.specs.Grammar.{IsRefused}
use Rattle.value_core.specs.Place.{Spot}
use Rattle.world_io.specs.Held.{told}
use Rattle.command_phases.specs.declared.outcome.Outcome.{Outcome}
use Rattle.command_phases.specs.declared.outcome.Detail.TheVariants.{Nothing}
use Rattle.command_phases.specs.declared.outcome.Part.{Part}
use Rattle.command_phases.specs.declared.load.LoadNo.{LoadNo}
use Rattle.command_phases.specs.declared.load.LoadNo.TheVariants as load
use Rattle.command_phases.specs.declared.load_pair.PairNo.{PairNo}
use Rattle.command_phases.specs.declared.load_pair.PairNo.TheVariants.{Source, NotRead, Refused}
use Rattle.command_phases.specs.Fetch.{IsNotRead}
use Rattle.command_phases.specs.Lines.{line_of, line_begun, pair_line}
use Rattle.command_phases.specs.LineWritten.{SaysLine}
use Rattle.command_phases.specs.Load.{IsLoaded, IsOutOfScope, Loads}
use Rattle.command_phases.specs.LoadPair.{IsHeldAs, IsTextDue, RefusesPair}
use Rattle.command_phases.specs.Outcome.{IsEnded, IsWithoutRun, out_of_scope, pair_detail, pair_status, refused_as, refused_lines}
use Rattle.command_phases.specs.Program.{IsProgramOf}
use Rattle.command_phases.specs.Seen.{Seen, IsGiven, IsMissing, IsUnread, ReadFailed, ReadsWell, WriteFailed}
use Rattle.command_phases.specs.SourceAnswers.{AreThere, IsRefusedSource, ReadsSource, Says}
use Rattle.command_phases.specs.Unrun.{IsUnrun}
use Rattle.command_phases.proofs.Statuses.{four_not_ended, three_not_ended}
use Rattle.command_phases.proofs.Loading.{error_checks, error_out_of_scope, error_refused, failed_error, found_out_of_scope, found_program, found_refused, missing_error, missing_held, missing_loaded}
use Rattle.command_phases.proofs.PairLoads.{due_bytes}
use Rattle.command_phases.proofs.Said.{line_begun-load, line_of-load}
use Rattle.command_phases.proofs.Unloaded.{error_detail, error_not_ended, error_status, refuses, unread_error}

-- one of the two names
pub one_of_two : (file second name : List ℕ) → Contains (file ∷ second ∷ []) name → (name ≡ file) ⊎ (name ≡ second)
one_of_two file second name h = on h.0 h.1 h.2
  where
    on : (k : ℕ) → k < 2 → slice_index_or (file ∷ second ∷ []) k name ≡ name → (name ≡ file) ⊎ (name ≡ second)
    on zero lt e = inl (sym e)
    on (suc zero) lt e = inr (sym e)
    on (suc (suc k)) lt e = absurd (omega (arith, lt))

second_there : (file second : List ℕ) (before : Seen) → AreThere (file ∷ second ∷ []) before → told before.files.held second ≢ Some None
second_there file second before there = there 1 [] (omega arith)

-- the statuses of an error
pub pair_not_ended : (error : PairNo) → IsEnded (pair_status error) → ⊥
pair_not_ended (Source error) h = error_not_ended error h
pair_not_ended NotRead h = three_not_ended h
pair_not_ended (Refused kind line) h = four_not_ended h

pub pair_not_eight : (error : PairNo) → pair_status error ≡ 8 → ⊥
pair_not_eight (Source load.NotRead) e = omega (arith, e)
pair_not_eight (Source (load.Refused kind at)) e = omega (arith, e)
pair_not_eight (Source (load.OutOfScope kind at)) e = omega (arith, e)
pair_not_eight (Source load.Memory) e = omega (arith, e)
pair_not_eight NotRead e = omega (arith, e)
pair_not_eight (Refused kind line) e = omega (arith, e)

pub pair_is_without : (error : PairNo) → IsWithoutRun (pair_status error) ⊎ (pair_status error ≡ 6)
pair_is_without (Source error) = error_status error
pair_is_without NotRead = inl (inl refl)
pair_is_without (Refused kind line) = inl (inr refl)

pub pair_no_detail : (part : Part) (error : PairNo) → pair_status error ≢ 4 → pair_detail part error ≡ Nothing
pair_no_detail part (Source error) apart = error_detail error apart
pair_no_detail part NotRead apart = refl
pair_no_detail part (Refused kind line) apart = absurd (apart refl)

-- where both were read
pub reads_pair : (file second : List ℕ) (before after : Seen) (outcome : Outcome) (program : Table) (spells : List ℕ → Type 0) → IsLoaded (told before.files.held file) program
    → IsHeldAs spells (told before.files.held second) → after.files.read_faults ≡ before.files.read_faults
    → (WriteFailed before after → IsWithoutRun outcome.status ⊎ ((outcome.status ≡ 6) ⊎ (outcome.status ≡ 7)))
    → ReadsSource file (file ∷ second ∷ []) before after outcome
reads_pair file second before after outcome program spells loaded is reads writes = record {
  missing = λ name among gone. absurd (elim (one_of_two file second name among) [
    | inl e ↦ missing_loaded (told before.files.held file) program (subst (λ n. told before.files.held n ≡ Some None) e gone) loaded
    | inr e ↦ missing_held (told before.files.held second) is.bytes (subst (λ n. told before.files.held n ≡ Some None) e gone) is.read
  ]);
  must_refuse = λ bytes kind at given there refused calm. absurd (found_refused file before.files after.files bytes given program kind at loaded refused);
  must_refuse_scope = λ bytes kind at given there refused calm. absurd (found_out_of_scope file before.files after.files bytes given program kind at loaded refused);
  failed_read = λ failed. absurd (failed reads);
  failed_write = writes;
}

-- where they give nothing to run
module _ (refusal : List ℕ → LineKind → ℕ → Type 0) (part : Part) (file second : List ℕ) (before after : Seen) where
  abbrev Caused : PairNo → Type 0
  Caused error = RefusesPair refusal file second before.files after.files error

  -- the cause on the side of the program
  source_loads : (error : LoadNo) → Caused (Source error) → Loads file before.files after.files (Err error)
  source_loads load.NotRead h = h
  source_loads (load.Refused kind at) h = h.1
  source_loads (load.OutOfScope kind at) h = h.1
  source_loads load.Memory h = tt

  -- the name that was not read
  abbrev unread_of : PairNo → List ℕ
  unread_of (Source error) = file
  unread_of NotRead = second
  unread_of (Refused kind line) = file

  is_unread : (error : PairNo) → Caused error → pair_status error ≡ 3 → IsUnread (file ∷ second ∷ []) before after (unread_of error)
  is_unread (Source error) h three = unread_error file (second ∷ []) before after error (source_loads error h) three
  is_unread NotRead h three = elim h.1 [
    | inl failed ↦ inl ((1, omega arith, refl), failed.0, failed.1)
    | inr absent ↦ inr (absent.0, inr (h.0, inl (refl, absent.1)))
  ]
  is_unread (Refused kind line) h three = absurd (omega (arith, three))

  line_of-pair : (error : PairNo) (end : Option End) → line_of (unread_of error) (pair_status error) (pair_detail part error) end ≡ pair_line part file second error
  line_of-pair (Source error) end = line_of-load file error end
  line_of-pair NotRead end = refl
  line_of-pair (Refused kind line) end = refl

  line_begun-pair : (error : PairNo) (end : Option End) → line_begun (unread_of error) (pair_status error) (pair_detail part error) end ≡ pair_line part file second error
  line_begun-pair (Source error) end = line_begun-load file error end
  line_begun-pair NotRead end = refl
  line_begun-pair (Refused kind line) end = refl

  -- what is refused
  pub pair_refused : (error : PairNo) → Caused error → pair_status error ≡ 4 → IsRefusedSource (told before.files.held file) (pair_detail part error)
      ⊎ ((kind : LineKind) × (line : ℕ) × IsTextDue refusal (told before.files.held second) kind line × (pair_detail part error ≡ refused_lines part kind line))
  pair_refused (Source error) h four = inl (refuses file before.files after.files error (source_loads error h) four)
  pair_refused NotRead h four = absurd (omega (arith, four))
  pair_refused (Refused kind line) h four = inr (kind, line, h.1, refl)

  missing_file : (error : PairNo) → Caused error → IsMissing file before → (pair_status error ≡ 3) ⊎ (pair_status error ≡ 6)
  missing_file (Source error) h none = missing_error file before.files after.files error none (source_loads error h)
  missing_file NotRead h none = absurd (h.0 none)
  missing_file (Refused kind line) h none = absurd (missing_loaded (told before.files.held file) h.0.0 none h.0.1)

  missing_second : (error : PairNo) → Caused error → IsMissing second before → (pair_status error ≡ 3) ⊎ (pair_status error ≡ 6)
  missing_second (Source load.NotRead) h none = inl refl
  missing_second (Source (load.Refused kind at)) h none = absurd (h.0 none)
  missing_second (Source (load.OutOfScope kind at)) h none = absurd (h.0 none)
  missing_second (Source load.Memory) h none = inr refl
  missing_second NotRead h none = inl refl
  missing_second (Refused kind line) h none =
      let due : IsTextDue refusal (Some None) kind line = subst (λ x. IsTextDue refusal x kind line) none h.1 in absurd due

  never_unread : (Q : Type 0) → IsNotRead second before.files after.files → ReadsWell before after → told before.files.held second ≢ Some None → Q
  never_unread Q h calm there = absurd (elim h [ inl failed ↦ calm failed.0 | inr absent ↦ there absent.1 ])

  has_failed : (error : PairNo) → Caused error → ReadFailed before after → (pair_status error ≡ 3) ⊎ (pair_status error ≡ 6)
  has_failed (Source error) h failed = failed_error file before.files after.files error failed (source_loads error h)
  has_failed NotRead h failed = inl refl
  has_failed (Refused kind line) h failed = absurd (failed h.2)

  -- a second file that is given is there
  given_there : (text : List ℕ) → IsGiven second text before → told before.files.held second ≢ Some None
  given_there text is none = absurd (let x = sym is ∙ none in cc)

  -- where the source is given
  module _ (bytes : List ℕ) (is : IsGiven file bytes before) (calm : ReadsWell before after) where
    must_refuse : (error : PairNo) → Caused error → (kind : ReadKind) (at : Spot) → AreThere (file ∷ second ∷ []) before → IsRefused bytes kind at
        → ((pair_status error ≡ 4) × (pair_detail part error ≡ refused_as kind at)) ⊎ (pair_status error ≡ 6)
    must_refuse (Source error) h kind at there refused = error_refused file before.files after.files bytes is error kind at (source_loads error h) refused calm
    must_refuse NotRead h kind at there refused = never_unread _ h.1 calm (second_there file second before there)
    must_refuse (Refused k line) h kind at there refused = absurd (found_refused file before.files after.files bytes is h.0.0 kind at h.0.1 refused)

    must_refuse_scope : (error : PairNo) → Caused error → (kind : ScopeKind) (at : Spot) → AreThere (file ∷ second ∷ []) before → IsOutOfScope bytes kind at
        → ((pair_status error ≡ 4) × (pair_detail part error ≡ out_of_scope kind at)) ⊎ (pair_status error ≡ 6)
    must_refuse_scope (Source error) h kind at there refused = error_out_of_scope file before.files after.files bytes is error kind at (source_loads error h) refused calm
    must_refuse_scope NotRead h kind at there refused = never_unread _ h.1 calm (second_there file second before there)
    must_refuse_scope (Refused k line) h kind at there refused = absurd (found_out_of_scope file before.files after.files bytes is h.0.0 kind at h.0.1 refused)

    -- and so is its program
    module _ (program : Table) (source : IsProgramOf bytes program) where
      same_program : (found : Table) → IsLoaded (told before.files.held file) found → found ≡ program
      same_program found loaded = found_program file before.files after.files bytes is found program loaded source

      -- beside a second file
      module _ (text : List ℕ) (given : IsGiven second text before) where
        pub pair_completes : (error : PairNo) → Caused error → ((kind : LineKind) (line : ℕ) → refusal text kind line → ⊥) → pair_status error ≡ 6
        pair_completes (Source error) h spelled = error_checks file before.files after.files bytes is error program (source_loads error h) source calm
        pair_completes NotRead h spelled = never_unread _ h.1 calm (given_there text given)
        pair_completes (Refused kind line) h spelled = absurd (spelled kind line (due_bytes refusal (told before.files.held second) text kind line given h.1))

        pub pair_must_refuse_lines : (error : PairNo) → Caused error → (kind : LineKind) (line : ℕ)
            → ((k : LineKind) (l : ℕ) → refusal text k l → (k ≡ kind) × (l ≡ line))
            → ((pair_status error ≡ 4) × (pair_detail part error ≡ refused_lines part kind line)) ⊎ (pair_status error ≡ 6)
        pair_must_refuse_lines (Source error) h kind line one = inr (error_checks file before.files after.files bytes is error program (source_loads error h) source calm)
        pair_must_refuse_lines NotRead h kind line one = never_unread _ h.1 calm (given_there text given)
        pair_must_refuse_lines (Refused k l) h kind line one =
            let same = one k l (due_bytes refusal (told before.files.held second) text k l given h.1) in
            inl (refl, ap (λ x. refused_lines part x l) same.0 ∙ ap (λ x. refused_lines part kind x) same.1)

  module _ (outcome : Outcome) (error : PairNo) (h : Caused error) (unrun : IsUnrun (pair_status error) (pair_detail part error) outcome) where
    pub reads_pair_error : ReadsSource file (file ∷ second ∷ []) before after outcome
    reads_pair_error = record {
      missing = λ name among none. rw unrun.status (elim (one_of_two file second name among) [
        | inl e ↦ missing_file error h (subst (λ n. told before.files.held n ≡ Some None) e none)
        | inr e ↦ missing_second error h (subst (λ n. told before.files.held n ≡ Some None) e none)
      ]);
      must_refuse = λ bytes kind at is there refused calm. rw (unrun.status, unrun.detail) (must_refuse bytes is calm error h kind at there refused);
      must_refuse_scope = λ bytes kind at is there refused calm. rw (unrun.status, unrun.detail) (must_refuse_scope bytes is calm error h kind at there refused);
      failed_read = λ failed. rw unrun.status (has_failed error h failed);
      failed_write = λ failed. rw unrun.status (elim (pair_is_without error) [ inl w ↦ inl w | inr six ↦ inr (inl six) ]);
    }

    pub says_pair_error : SaysLine (pair_line part file second error) before.err after.err → Says (file ∷ second ∷ []) before after outcome
    says_pair_error line = record {
      unread = unread_of error;
      not_read = λ three. is_unread error h (sym unrun.status ∙ three);
      said = rw (unrun.status, unrun.detail, line_of-pair error outcome.end) line.said;
      said_at_most = rw (unrun.status, unrun.detail, line_begun-pair error outcome.end) line.said_at_most;
      end_said = λ ended written. absurd (pair_not_ended error (subst IsEnded unrun.status ended));
    }
