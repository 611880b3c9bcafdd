-- What is owed where there is no replay of the files.
use Rattle.std.proofs.Common.{◌≡◌, ℕ, List, sym, ◌∙◌, subst, inl, inr, arith}
use Rattle.std.specs.Prelude.{◌⊎◌}
use Rattle.serial_model.specs.Trace.{IsTextOfTrace, trace_refusal}
use Rattle.serial_model.specs.declared.trace.LineKind.{LineKind}
use Rattle.serial_model.specs.declared.trace.Trace.{Trace}
use Rattle.trace_text.proofs.Unique.{not_refused, one_refusal}
use Rattle.world_io.specs.Held.{told}
use Rattle.command_phases.specs.declared.load_pair.PairNo.{PairNo}
use Rattle.command_phases.specs.declared.outcome.Outcome.{Outcome}
use Rattle.command_phases.specs.declared.outcome.Part.TheVariants as part
use Rattle.command_phases.specs.LineWritten.{SaysLine}
use Rattle.command_phases.specs.Lines.{pair_line}
use Rattle.command_phases.specs.LoadPair.{IsTraceDue, RefusesPair}
use Rattle.command_phases.specs.Outcome.{IsIdle, pair_detail, pair_status, refused_trace}
use Rattle.command_phases.specs.Program.{IsProgramOf}
use Rattle.command_phases.specs.Seen.{Seen, IsGiven, IsUntouched, ReadsWell}
use Rattle.command_phases.specs.SourceAnswers.{IsRefusedSource}
use Rattle.command_phases.specs.Unrun.{IsUnrun}
use Rattle.core_syntax.specs.Table.{Table}
use Rattle.command_phases.proofs.PairErrors.{pair_completes, pair_is_without, pair_must_refuse_lines, pair_no_detail, pair_not_eight, pair_not_ended, pair_refused, reads_pair_error, says_pair_error}
use Rattle.serial_commands.specs.ReplayAnswers.{IsReplayed, ReplayAnswers}

not_replayed : (error : PairNo) → IsReplayed (pair_status error) → ⊥
not_replayed error h = elim h [ inl e ↦ pair_not_ended error e | inr e ↦ pair_not_eight error e ]

module _ (file trace : List ℕ) (before after : Seen) (error : PairNo) (h : RefusesPair trace_refusal file trace before.files after.files error) where
  is_refused : pair_status error ≡ 4 → IsRefusedSource (told before.files.held file) (pair_detail part.Trace error)
      ⊎ ((kind : LineKind) × (line : ℕ) × IsTraceDue (told before.files.held trace) kind line × (pair_detail part.Trace error ≡ refused_trace kind line))
  is_refused four = pair_refused trace_refusal part.Trace file trace before after error h four

  completes : (bytes text : List ℕ) (program : Table) (stated : Trace) → IsGiven file bytes before → IsProgramOf bytes program → IsGiven trace text before → IsTextOfTrace stated text
      → ReadsWell before after → pair_status error ≡ 6
  completes bytes text program stated is source is_trace is_text calm =
      pair_completes trace_refusal part.Trace file trace before after bytes is calm program source text is_trace error h
      (λ kind line refusal. not_refused text stated kind line is_text refusal)

  must_refuse : (bytes text : List ℕ) (program : Table) (kind : LineKind) (line : ℕ) → IsGiven file bytes before → IsProgramOf bytes program → IsGiven trace text before
      → trace_refusal text kind line → ReadsWell before after → ((pair_status error ≡ 4) × (pair_detail part.Trace error ≡ refused_trace kind line)) ⊎ (pair_status error ≡ 6)
  must_refuse bytes text program kind line is source is_trace refusal calm =
      pair_must_refuse_lines trace_refusal part.Trace file trace before after bytes is calm program source text is_trace error h kind line
      (λ k l due. one_refusal text k kind l line due refusal)

  pub replay_error : (outcome : Outcome) → IsUnrun (pair_status error) (pair_detail part.Trace error) outcome → after.out.taken ≡ before.out.taken → IsUntouched before after
      → SaysLine (pair_line part.Trace file trace error) before.err after.err → ReplayAnswers file trace before after outcome
  replay_error outcome unrun printed files line =
      let idle : IsIdle before after outcome = record { history = unrun.history; end = unrun.end; printed = printed; files = files } in
      record {
        statuses = rw unrun.status (inr (pair_is_without error));
        replayed = λ e. absurd (not_replayed error (subst IsReplayed unrun.status e));
        unless_memory = λ m. inl idle;
        complete = λ bytes text program stated is source is_trace is_text calm replays. inr (unrun.status ∙ completes bytes text program stated is source is_trace is_text calm.reads);
        must_differ = λ bytes text program stated is source is_trace is_text calm never. inr (unrun.status ∙ completes bytes text program stated is source is_trace is_text calm.reads);
        reads = reads_pair_error trace_refusal part.Trace file trace before after outcome error h unrun;
        must_refuse_trace = λ bytes text program kind line is source is_trace refusal calm.
            rw (unrun.status, unrun.detail) (must_refuse bytes text program kind line is source is_trace refusal calm);
        refused = λ four. rw unrun.detail (is_refused (sym unrun.status ∙ four));
        not_written = λ seven. absurd (not_replayed error (inl (inr (inr (inr (sym unrun.status ∙ seven))))));
        files = files;
        idle = λ w. idle;
        no_detail = λ s. unrun.detail ∙ pair_no_detail part.Trace error (λ four. elim s [ inl three ↦ omega (arith, unrun.status, four, three) | inr six ↦ omega (arith, unrun.status, four, six) ]);
        says = says_pair_error trace_refusal part.Trace file trace before after outcome error h unrun line;
        differs_said = λ eight. absurd (not_replayed error (inr (sym unrun.status ∙ eight)));
      }
