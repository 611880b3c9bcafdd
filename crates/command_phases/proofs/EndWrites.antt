-- What is written at the end of a run: its trace, its report and the line of its end.
use Rattle.std.proofs.Common.{◌≡◌, ◌≢◌, ◌≤◌, ◌∙◌, ℕ, List, refl, sym, ap, subst, inl, inr, arith, le_refl}
use Rattle.std.specs.Prelude.{Option, None, Some, IfSome, Result, Ok, Err, IsOk, IsErr, IsErrOf, OnOk}
use Rattle.std.specs.Io.KnownBytes.{append_known}
use Rattle.serial_model.specs.Replay.{status}
use Rattle.serial_model.specs.Trace.{trace_text}
use Rattle.serial_model.specs.declared.end.End.{End}
use Rattle.serial_model.specs.declared.trace.Trace.{Trace}
use Rattle.world_io.proofs.TakenLemmas.{Said-append, TookPrefix-append, TookPrefix-longer, append_known-append}
use Rattle.world_io.specs.Counts.{Rose}
use Rattle.world_io.specs.Held.{told, IsHeld}
use Rattle.world_io.specs.Seen.{FilesSeen, SinkSeen}
use Rattle.world_io.specs.Taken.{TookPrefix}
use Rattle.world_io.specs.Writes.{CountsFileWrite}
use Rattle.world_io.specs.declared.files.WriteNo.{WriteNo}
use Rattle.world_io.specs.declared.files.WriteNo.TheVariants as no
use Rattle.world_io.specs.declared.sink.Failed.{Failed}
use Rattle.command_phases.specs.declared.outcome.Detail.TheVariants.{Nothing}
use Rattle.command_phases.specs.EndWritten.{EndWritten}
use Rattle.command_phases.specs.KeptAfter.{KeepsAfter}
use Rattle.command_phases.specs.LineWritten.{SaysLine}
use Rattle.command_phases.specs.Lines.{ended_line, memory_line}
use Rattle.command_phases.specs.Outcome.{IsEnded}
use Rattle.command_phases.specs.SaysOutcome.{SaysOutcome}
use Rattle.command_phases.specs.SaysReport.{SaysReport}
use Rattle.command_phases.specs.Traced.{KeepsOthers}
use Rattle.command_phases.specs.WrittenAfter.{WritesAfter}
use Rattle.command_phases.proofs.Statuses.{six_not_ended}

apart : {T E : Type 0} (r : Result T E) → IsOk r → IsErr r → ⊥
apart (Ok x) is e = absurd (cc)
apart (Err x) is e = absurd (cc)

-- ---- the trace, where the bytes before it were written

pub KeepsAfter-kept : (ran : Trace) (trace : Option (List ℕ)) (before after : FilesSeen) (written : Result Unit Failed) (answer : Result Unit WriteNo) → IsOk written
    → OnOk answer (IfSome trace (λ name. IsHeld (told after.held name) (trace_text ran)))
    → KeepsOthers trace before.held after.held before.write_faults after.write_faults
    → (IsErrOf answer no.Memory → after.held ≡ before.held)
    → CountsFileWrite answer before.write_faults after.write_faults → before.write_faults ≤ after.write_faults → after.read_faults ≡ before.read_faults
    → KeepsAfter written ran trace before after answer
KeepsAfter-kept ran trace before after written answer is holds others memory counts later reads = record {
  kept = on_ok answer holds counts;
  failed = λ e. inr (on_failed answer e counts);
  unwritten = λ e. absurd (apart written is e);
  memory = λ e. (memory e, on_memory answer e counts);
  others = others;
  reads = reads;
  later = later;
}
  where
    on_ok : (answer : Result Unit WriteNo) → OnOk answer (IfSome trace (λ name. IsHeld (told after.held name) (trace_text ran)))
        → CountsFileWrite answer before.write_faults after.write_faults
        → OnOk answer (IsOk written × IfSome trace (λ name. IsHeld (told after.held name) (trace_text ran)) × (after.write_faults ≡ before.write_faults))
    on_ok (Ok x) holds counts = (is, holds, counts)
    on_ok (Err x) holds counts = tt

    on_failed : (answer : Result Unit WriteNo) → IsErrOf answer no.Failed → CountsFileWrite answer before.write_faults after.write_faults → Rose before.write_faults after.write_faults
    on_failed answer e counts = subst (λ a. CountsFileWrite a before.write_faults after.write_faults) e counts

    on_memory : (answer : Result Unit WriteNo) → IsErrOf answer no.Memory → CountsFileWrite answer before.write_faults after.write_faults → after.write_faults ≡ before.write_faults
    on_memory answer e counts = subst (λ a. CountsFileWrite a before.write_faults after.write_faults) e counts

same_others : (trace : Option (List ℕ)) (files : FilesSeen) → KeepsOthers trace files.held files.held files.write_faults files.write_faults
same_others None files = (refl, refl)
same_others (Some name) files = record { tells = refl; others = λ other apart. refl }

pub KeepsAfter-unwritten : (ran : Trace) (trace : Option (List ℕ)) (files : FilesSeen) (written : Result Unit Failed) → IsErr written
    → KeepsAfter written ran trace files files (Err no.Failed)
KeepsAfter-unwritten ran trace files written is = record {
  kept = tt;
  failed = λ e. inl is;
  unwritten = λ e. (refl, refl, refl);
  memory = λ e. absurd (cc);
  others = same_others trace files;
  reads = refl;
  later = le_refl files.write_faults;
}

-- ---- the report, and the line of the end behind it

module _ (report : List ℕ) (end : End) (old mid new : SinkSeen) where
  pub SaysReport-of : (s : ℕ) → mid.taken ≡ append_known old.taken report → mid.faults ≡ old.faults → mid.faults ≤ new.faults
      → SaysOutcome s Nothing (Some end) mid new → IsEnded s → SaysReport report s (Some end) old new
  SaysReport-of s whole quiet later says ended = record {
    said = Said-append old mid new report _ (subst (λ n. old.faults ≤ n) (sym quiet) (le_refl old.faults)) later (λ calm. whole) says.said;
    said_at_most = TookPrefix-append old.taken mid.taken new.taken report _ whole says.said_at_most;
    end_said = λ written. says.end_said ended written ∙ ap (λ t. append_known t (ended_line (Some end))) whole ∙ append_known-append old.taken report (ended_line (Some end));
  }

  pub WritesAfter-of : (written : Result Unit Failed) (s : ℕ) → mid.faults ≡ old.faults → WritesAfter written mid new s → WritesAfter written old new s
  WritesAfter-of written s quiet after = record {
    unwritten = after.unwritten;
    fault = λ seven. elim (after.fault seven) [ inl e ↦ inl e | inr r ↦ inr (subst (λ n. Rose n new.faults) quiet r) ];
    unfailed = λ other. ((after.unfailed other).0, (after.unfailed other).1 ∙ quiet);
    later = subst (λ n. n ≤ new.faults) quiet after.later;
  }

-- where the report was not written
pub SaysReport-failed : (report : List ℕ) (end : End) (old new : SinkSeen) → TookPrefix old.taken new.taken report → Rose old.faults new.faults → SaysReport report 7 (Some end) old new
SaysReport-failed report end old new took rose = record {
  said = λ calm. absurd (calm rose);
  said_at_most = TookPrefix-longer old.taken new.taken report _ took;
  end_said = λ other. absurd (other refl);
}

pub WritesAfter-failed : (written : Result Unit Failed) (old new : SinkSeen) → Rose old.faults new.faults → old.faults ≤ new.faults → WritesAfter written old new 7
WritesAfter-failed written old new rose later = record {
  unwritten = λ e. refl;
  fault = λ seven. inr rose;
  unfailed = λ other. absurd (other refl);
  later = later;
}

-- ---- the trace, and then the report with its line

module _ (written : Result Unit Failed) (ran : Trace) (trace : Option (List ℕ)) (before after : FilesSeen) (old new : SinkSeen) where
  never_six : (s : ℕ) → IsEnded s → s ≡ 6 → ⊥
  never_six s ended six = six_not_ended (subst IsEnded six ended)

  -- the trace was kept
  pub EndWritten-kept : (answer : Result Unit WriteNo) (so_far : Result Unit Failed) (s : ℕ) → IsOk answer → IsOk so_far → KeepsAfter written ran trace before after answer
      → IsEnded s → (s ≢ 7 → status ran.end ≡ s) → WritesAfter so_far old new s → EndWritten written ran trace before after old new s
  EndWritten-kept (Ok x) so_far s is fine kept ended of_end says = record {
    status = inl ended;
    of_end = λ seven six. of_end seven;
    holds = λ ok e calm. kept.kept.1;
    others = kept.others;
    unwritten = λ e. absurd (let never = (kept.unwritten e).0 in cc);
    untouched = λ six. absurd (never_six s ended six);
    unfailed = λ seven six. (kept.kept.0, (says.unfailed seven).1, kept.kept.2);
    fault = λ seven. elim (says.fault seven) [ inl e ↦ absurd (apart so_far fine e) | inr r ↦ inr (inl r) ];
    reads = kept.reads;
    write_later = kept.later;
    err_later = says.later;
  }
  EndWritten-kept (Err x) so_far s is fine kept ended of_end says = absurd (cc)

  -- the bytes or the trace were not written
  pub EndWritten-failed : (answer : Result Unit WriteNo) (so_far : Result Unit Failed) (s : ℕ) → answer ≡ Err no.Failed → IsErr so_far → KeepsAfter written ran trace before after answer
      → IsEnded s → WritesAfter so_far old new s → EndWritten written ran trace before after old new s
  EndWritten-failed answer so_far s is fails kept ended says =
      let seven : s ≡ 7 = says.unwritten fails in
      record {
        status = inl ended;
        of_end = λ other six. absurd (other seven);
        holds = λ ok e calm. absurd (elim (kept.failed is) [ inl err ↦ apart written ok err | inr r ↦ calm seven r ]);
        others = kept.others;
        unwritten = λ e. (seven, (kept.unwritten e).1, (kept.unwritten e).2);
        untouched = λ six. absurd (never_six s ended six);
        unfailed = λ other six. absurd (other seven);
        fault = λ e. elim (kept.failed is) [ inl err ↦ inl err | inr r ↦ inr (inr r) ];
        reads = kept.reads;
        write_later = kept.later;
        err_later = says.later;
      }

  -- there was no memory for the text of the trace
  pub EndWritten-memory : (answer : Result Unit WriteNo) → answer ≡ Err no.Memory → KeepsAfter written ran trace before after answer → old.faults ≤ new.faults
      → EndWritten written ran trace before after old new 6
  EndWritten-memory answer is kept later = record {
    status = inr refl;
    of_end = λ seven six. absurd (six refl);
    holds = λ ok e calm. absurd (six_not_ended e);
    others = kept.others;
    unwritten = λ e. absurd (let never = sym is ∙ (kept.unwritten e).0 in cc);
    untouched = λ six. kept.memory is;
    unfailed = λ seven six. absurd (six refl);
    fault = λ seven. absurd (omega (arith, seven));
    reads = kept.reads;
    write_later = kept.later;
    err_later = later;
  }

-- what is said then
pub SaysOutcome-memory : (end : Option End) (old new : SinkSeen) → SaysLine memory_line old new → SaysOutcome 6 Nothing end old new
SaysOutcome-memory end old new line = record { said = line.said; said_at_most = line.said_at_most; end_said = λ ended written. absurd (six_not_ended ended) }
