-- From the run of a made program to what is owed to it.
use Rattle.std.proofs.Common.{◌≡◌, ◌≤◌, ◌⊎◌, ℕ, zero, suc, List, [], ◌∷◌, refl, sym, ◌∙◌, subst, inl, inr, arith}
use Rattle.std.specs.Prelude.{Err, None, Some}
use Rattle.core_syntax.specs.Table.{Table}
use Rattle.program_maker.specs.MadeText.{made_text}
use Rattle.serial_model.specs.Limits.{default_budget}
use Rattle.world_io.specs.Held.{told}
use Rattle.world_io.specs.Seen.{FilesSeen, SinkSeen}
use Rattle.command_phases.specs.declared.load.LoadNo.{LoadNo}
use Rattle.command_phases.specs.declared.load.LoadNo.TheVariants.{NotRead, Refused, OutOfScope, Memory}
use Rattle.command_phases.specs.declared.outcome.Detail.TheVariants.{Nothing}
use Rattle.command_phases.specs.declared.outcome.Outcome.{Outcome}
use Rattle.command_phases.specs.LineWritten.{SaysLine}
use Rattle.command_phases.specs.Lines.{load_line, memory_line}
use Rattle.command_phases.specs.Load.{GivesText, Loads}
use Rattle.command_phases.specs.Outcome.{IsEnded, IsIdle, IsStatusOfEnd, load_detail, load_status}
use Rattle.command_phases.specs.Program.{IsProgramOf}
use Rattle.command_phases.specs.SaysOutcome.{SaysOutcome}
use Rattle.command_phases.specs.Seen.{Seen, IsCalm, IsUntouched, ReadsWell, seen}
use Rattle.command_phases.specs.SourceAnswers.{AreThere}
use Rattle.command_phases.specs.Traced.{KeepsTrace}
use Rattle.command_phases.specs.Unrun.{IsUnrun}
use Rattle.command_phases.proofs.Loading.{error_checks, held_bytes}
use Rattle.command_phases.proofs.Statuses.{no_run, not_four, not_three}
use Rattle.made_programs.proofs.MadePrograms.{made_program}
use Rattle.run_command.specs.ProgramAnswers.{ProgramAnswers}
use Rattle.run_command.specs.RunAnswers.{IsRun, IsRunOf, RunAnswers}
use Rattle.stress_command.specs.StressAnswers.{StressAnswers}
use Rattle.run_command.proofs.Answering.{run_error, run_loaded}

-- Files that hold this text alone, under the empty name, of which no read has failed: as if the text had been read from there.
abbrev holding : List ℕ → ℕ → FilesSeen
holding text failed = record { held = Some (record { name = []; bytes = text } ∷ []); read_faults = 0; write_faults = failed; last_unread = None }

module _ (number size : ℕ) (before after : Seen) (outcome : Outcome) where
  abbrev text : List ℕ
  text = made_text number size

  abbrev was : Seen
  was = record before { files = holding text before.files.write_faults }

  abbrev now : Seen
  now = record after { files = holding text after.files.write_faults }

  is_held : told was.files.held [] ≡ Some (Some text)
  is_held = refl

  text_there : AreThere ([] ∷ []) was
  text_there zero d lt none = absurd (cc)
  text_there (suc k) d lt none = absurd (omega (arith, lt))

  reads_well : ReadsWell was now
  reads_well rose = omega (arith, rose)

  run_of_text : IsRun [] default_budget was now outcome → IsRunOf text default_budget before after outcome
  run_of_text run = record {
    program = run.run.program;
    source = subst (λ bytes. IsProgramOf bytes run.run.program) (sym (held_bytes (Some (Some text)) text run.bytes is_held run.read)) run.run.source;
    finished = run.run.finished;
  }

  module _ (untouched : IsUntouched before after) (reads : after.files.read_faults ≡ before.files.read_faults) (answers : RunAnswers [] default_budget None was now outcome)
      (statuses : IsEnded outcome.status ⊎ (outcome.status ≡ 6)) (complete : IsCalm was now → IsStatusOfEnd outcome ⊎ (outcome.status ≡ 6)) where
    quiet : IsCalm before after → IsCalm was now
    quiet calm = record { reads = reads_well; writes = calm.writes; out = calm.out; err = calm.err }

    idle_so : IsIdle was now outcome → IsIdle before after outcome
    idle_so idle = record { history = idle.history; end = idle.end; printed = idle.printed; files = untouched }

    of_run : StressAnswers number size before after outcome
    of_run = record {
      statuses = statuses;
      run = λ ended. run_of_text (answers.run ended);
      ended = answers.ended;
      unless_memory = λ six. elim (answers.unless_memory six) [ inl idle ↦ inl (idle_so idle) | inr run ↦ inr (run_of_text run) ];
      complete = λ calm. complete (quiet calm);
      failed_write = λ failed. elim (answers.reads.failed_write failed) [ inl without ↦ absurd (no_run outcome.status statuses without) | inr rest ↦ rest ];
      not_written = answers.not_written;
      files = untouched;
      reads = reads;
      detail = answers.detail (not_four outcome.status statuses);
      says = record {
        unread = answers.says.unread;
        not_read = λ three. absurd (not_three outcome.status statuses three);
        said = answers.says.said;
        said_at_most = answers.says.said_at_most;
        end_said = answers.says.end_said;
      };
    }

  -- a text that has a program
  pub stress_ran : (program : Table) → IsProgramOf text program → ProgramAnswers (record { program = program; limits = default_budget }) None before after outcome
      → SaysOutcome outcome.status outcome.detail outcome.end before.err after.err → StressAnswers number size before after outcome
  stress_ran program source answers says =
      let kept = answers.keeps.no_other_name in
      let same : IsUntouched was now = record { held = refl; faults = kept.1 } in
      let keeps : KeepsTrace default_budget None was now outcome = record {
        trace_holds_the_history = tt;
        no_other_name = (refl, kept.1);
        none_after_a_fault = λ apart. same;
        none_without_memory = λ six. same;
      } in
      let answered = run_loaded [] was now outcome program (record { bytes = text; read = refl; source = source }) refl answers.statuses
      (λ seven six. let none = answers.unfailed seven six in record { out = none.out; err = none.err; files = none.files })
      default_budget None answers.finished answers.ended keeps answers.not_written answers.detail says in
      of_run (record { held = kept.0; faults = kept.1 }) answers.reads answered answers.statuses (answered.complete text program is_held source)

module _ (number size : ℕ) (files : FilesSeen) (out err err_after : SinkSeen) (outcome : Outcome) where
  abbrev given : FilesSeen
  given = holding (made_text number size) files.write_faults

  caused : (error : LoadNo) → GivesText (made_text number size) (Err error) → Loads [] given given (Err error)
  caused NotRead h = absurd h
  caused (Refused kind at) h = (h, refl)
  caused (OutOfScope kind at) h = (record { bytes = made_text number size; read = refl; refused = h }, refl)
  caused Memory h = tt

  -- and one that is found to have none, which no made text is
  pub stress_refused : size ≤ 10000 → (error : LoadNo) → GivesText (made_text number size) (Err error) → IsUnrun (load_status error) (load_detail error) outcome
      → SaysLine (load_line [] error) err err_after → StressAnswers number size (seen files out err) (seen files out err_after) outcome
  stress_refused at_most error gives unrun line =
      let made = made_program number size at_most in
      let loads = caused error gives in
      let six = unrun.status ∙ error_checks [] given given (made_text number size) refl error made.0 loads made.1 (λ rose. omega (arith, rose)) in
      let same : IsUntouched (seen given out err) (seen given out err_after) = record { held = refl; faults = refl } in
      of_run number size (seen files out err) (seen files out err_after) outcome (record { held = refl; faults = refl }) refl
      (run_error [] (seen given out err) (seen given out err_after) outcome error loads unrun default_budget None refl same line)
      (inr six) (λ calm. inr six)

  -- and one for which there is no memory
  pub stress_without_memory : size ≤ 10000 → IsUnrun 6 Nothing outcome → SaysLine memory_line err err_after → StressAnswers number size (seen files out err) (seen files out err_after) outcome
  stress_without_memory at_most unrun line = stress_refused at_most Memory tt unrun line
