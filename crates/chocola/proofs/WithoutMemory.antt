-- What is owed to the words where there was no memory to read them.
use Rattle.std.proofs.Common.{◌≡◌, ℕ, List, [], ◌∷◌, refl, subst, inl, inr, arith, le_refl}
use Rattle.std.specs.Prelude.{Option, Some}
use Rattle.command_words.specs.Said.{command_of}
use Rattle.said_commands.specs.declared.command.Command.TheVariants as said
use Rattle.serial_model.specs.Limits.{Budget}
use Rattle.world_io.specs.Seen.{FilesSeen, SinkSeen}
use Rattle.command_phases.specs.declared.outcome.Outcome.{Outcome}
use Rattle.command_phases.specs.declared.outcome.Detail.TheVariants.{Nothing}
use Rattle.chocola.specs.Answers.{Answers}
use Rattle.serial_commands.specs.CheckAnswers.{CheckAnswers}
use Rattle.command_phases.specs.LineWritten.{SaysLine}
use Rattle.command_phases.specs.Lines.{memory_line}
use Rattle.command_phases.specs.Outcome.{IsEnded, IsWithoutRun, IsIdle}
use Rattle.serial_commands.specs.MakeAnswers.{MakeAnswers}
use Rattle.serial_commands.specs.ReplayAnswers.{IsReplayed, ReplayAnswers}
use Rattle.run_command.specs.RunAnswers.{RunAnswers}
use Rattle.schedule_command.specs.ScheduleAnswers.{ScheduleAnswers}
use Rattle.command_phases.specs.Seen.{Seen, seen, IsUntouched}
use Rattle.command_phases.specs.SourceAnswers.{ReadsSource, Says}
use Rattle.command_phases.specs.Unrun.{IsUnrun}
use Rattle.command_phases.proofs.Statuses.{six_not_ended}
use Rattle.stress_command.specs.StressAnswers.{StressAnswers}
use Rattle.serial_commands.proofs.Making.{make_without_memory}
use Rattle.chocola.proofs.StressSize.{stress_size}
use Rattle.stress_command.proofs.Stressing.{stress_without_memory}
use Rattle.run_command.proofs.Tracing.{KeepsTrace-none}

module _ (words : List (List ℕ)) (files : FilesSeen) (out err err2 : SinkSeen) (outcome : Outcome) (unrun : IsUnrun 6 Nothing outcome) (line : SaysLine memory_line err err2) where
  six : outcome.status ≡ 6
  six = unrun.status

  abbrev before : Seen
  before = seen files out err

  abbrev after : Seen
  after = seen files out err2

  not_ended : IsEnded outcome.status → ⊥
  not_ended ended = six_not_ended (subst IsEnded six ended)

  not_without : IsWithoutRun outcome.status → ⊥
  not_without w = elim w [ inl e ↦ absurd (omega (arith, six, e)) | inr e ↦ absurd (omega (arith, six, e)) ]

  not_replayed : IsReplayed outcome.status → ⊥
  not_replayed r = elim r [ inl e ↦ not_ended e | inr e ↦ absurd (omega (arith, six, e)) ]

  same : IsUntouched before after
  same = record { held = refl; faults = refl }

  idle : IsIdle before after outcome
  idle = record { history = unrun.history; end = unrun.end; printed = refl; files = same }

  says : (names : List (List ℕ)) → Says names before after outcome
  says names = record {
    unread = [];
    not_read = λ three. absurd (omega (arith, six, three));
    said = rw six line.said;
    said_at_most = rw six line.said_at_most;
    end_said = λ ended apart. absurd (not_ended ended);
  }

  reads : (file : List ℕ) (names : List (List ℕ)) → ReadsSource file names before after outcome
  reads file names = record {
    missing = λ name among gone. inr six;
    must_refuse = λ bytes kind at given there refused calm. inr six;
    must_refuse_scope = λ bytes kind at given there refused calm. inr six;
    failed_read = λ failed. inr six;
    failed_write = λ failed. inr (inl six);
  }

  run : (file : List ℕ) (limits : Budget) (trace : Option (List ℕ)) → RunAnswers file limits trace before after outcome
  run file limits trace = record {
    statuses = inr (inr six);
    run = λ ended. absurd (not_ended ended);
    ended = λ ended. absurd (not_ended ended);
    unless_memory = λ is. inl idle;
    complete = λ bytes program given source calm. inr six;
    keeps = KeepsTrace-none limits trace before after outcome unrun.end same;
    reads = reads file (file ∷ []);
    refused = λ four. absurd (omega (arith, six, four));
    not_written = λ seven. absurd (omega (arith, six, seven));
    idle = λ w. absurd (not_without w);
    detail = λ apart. unrun.detail;
    says = says (file ∷ []);
  }

  schedule : (file schedule : List ℕ) (limits : Budget) (trace : Option (List ℕ)) → ScheduleAnswers file schedule limits trace before after outcome
  schedule file given limits trace = record {
    statuses = inr (inr six);
    run = λ ended. absurd (not_ended ended);
    ended = λ ended. absurd (not_ended ended);
    unless_memory = λ is. inl idle;
    complete = λ bytes text program lines found source held is_text calm. inr six;
    keeps = KeepsTrace-none limits trace before after outcome unrun.end same;
    reads = reads file (file ∷ given ∷ []);
    must_refuse_schedule = λ bytes text program kind line found source held refusal calm. inr six;
    refused = λ four. absurd (omega (arith, six, four));
    not_written = λ seven. absurd (omega (arith, six, seven));
    idle = λ w. absurd (not_without w);
    detail = λ apart. unrun.detail;
    says = λ apart. says (file ∷ given ∷ []);
  }

  replay : (file trace : List ℕ) → ReplayAnswers file trace before after outcome
  replay file trace = record {
    statuses = inr (inr six);
    replayed = λ r. absurd (not_replayed r);
    unless_memory = λ is. inl idle;
    complete = λ bytes text program stated given source given_trace is_text calm replays. inr six;
    must_differ = λ bytes text program stated given source given_trace is_text calm replays. inr six;
    reads = reads file (file ∷ trace ∷ []);
    must_refuse_trace = λ bytes text program kind line given source given_trace refusal calm. inr six;
    refused = λ four. absurd (omega (arith, six, four));
    not_written = λ seven. absurd (omega (arith, six, seven));
    files = same;
    idle = λ w. absurd (not_without w);
    no_detail = λ s. unrun.detail;
    says = says (file ∷ trace ∷ []);
    differs_said = λ eight. absurd (omega (arith, six, eight));
  }

  check : (file : List ℕ) → CheckAnswers file before after outcome
  check file = record {
    statuses = inr (inr six);
    checked = λ ended. absurd (not_ended ended);
    complete = λ bytes program given source calm. inr six;
    reads = reads file (file ∷ []);
    refused = λ four. absurd (omega (arith, six, four));
    not_written = λ seven. absurd (omega (arith, six, seven));
    no_entries = unrun.history;
    no_end = unrun.end;
    files = same;
    idle = λ apart. idle;
    detail = λ apart. unrun.detail;
    says = says (file ∷ []);
  }

  stress : (number size workers : ℕ) → command_of words ≡ Some (said.Stress number size workers) → StressAnswers number size before after outcome
  stress number size workers is = stress_without_memory number size files out err err2 outcome (stress_size words number size workers is) unrun line

  make : (number size : ℕ) → MakeAnswers number size before after outcome
  make number size = make_without_memory number size files out err err2 outcome unrun line

  pub without_memory : Answers words before after outcome
  without_memory = record {
    statuses = inl (inr (inr six));
    run = λ file workers limits trace is. run file limits trace;
    schedule = λ file given limits trace is. schedule file given limits trace;
    replay = λ file trace is. replay file trace;
    check = λ file is. check file;
    make = λ number size is. make number size;
    stress = stress;
    no_command = λ is. record { status = inr six; idle = idle; reads = refl; detail = unrun.detail; says = says [] };
    usage = λ two. absurd (omega (arith, six, two));
    no_count_falls = record { reads = le_refl files.read_faults; writes = le_refl files.write_faults; out = le_refl out.faults; err = line.later };
  }
