-- From a replay to its outcome.
use Rattle.std.proofs.Common.{◌≡◌, ◌≤◌, ℕ, ◌+◌, List, length, take, sym, ◌∙◌, ap, subst, inl, inr, arith}
use Rattle.std.specs.Prelude.{◌⊎◌, Option, None, Some, IsSome, slice_get, Result}
use Rattle.std.specs.Io.KnownBytes.{append_known}
use Rattle.std.proofs.lemmas.Grind.{common_steps}
use Rattle.core_syntax.specs.Table.{Table}
use Rattle.serial_model.specs.Replay.{replay, IsOver}
use Rattle.serial_model.specs.declared.end.End.{End}
use Rattle.serial_model.specs.declared.entry.Entry.{Entry}
use Rattle.serial_model.specs.declared.trace.Trace.{Trace}
use Rattle.serial_machine.specs.Progress.{Progress, state_of}
use Rattle.world_io.specs.Seen.{SinkSeen}
use Rattle.world_io.specs.Taken.{CountsWrite}
use Rattle.world_io.specs.declared.sink.Failed.{Failed}
use Rattle.command_phases.specs.declared.outcome.Outcome.{Outcome}
use Rattle.command_phases.specs.declared.outcome.Detail.TheVariants as detail
use Rattle.serial_commands.specs.declared.replay.Replayed.TheVariants.{Agrees, Differs}
use Rattle.command_phases.specs.Outcome.{IsEnded, Finished}
use Rattle.serial_commands.specs.Replayed.{IsRefusedNext, IsFound, ReplaysTo}
use Rattle.serial_commands.specs.ReplayAnswers.{setup_of, Replays, Agreeing, Differing, ReplayOf}
use Rattle.command_phases.specs.Lines.{detail_line}
use Rattle.serial_commands.specs.ReplayWritten.{ReplayWritten}
use Rattle.command_phases.specs.SaysOutcome.{SaysOutcome}
use Rattle.command_phases.specs.WrittenAfter.{WritesAfter}
use Rattle.serial_commands.proofs.Finishes.{the_state, at_state, none_counted, rose}
use Rattle.command_phases.proofs.Statuses.{apart_from}

take_whole : (entries : List Entry) → take (length entries) entries ≡ entries
take_whole entries = grind (arith, common_steps)

pub not_eight : (s : ℕ) → IsEnded s ⊎ (s ≡ 6) → s ≡ 8 → ⊥
not_eight s h e = apart_from s 8 h e (λ x. omega (arith, x)) (λ x. omega (arith, x)) (λ x. omega (arith, x)) (λ x. omega (arith, x)) (λ x. omega (arith, x))

ended_of : (s : ℕ) → (s ≡ 0) ⊎ ((s ≡ 1) ⊎ (s ≡ 5)) → IsEnded s
ended_of s h = elim h [ inl a ↦ inl a | inr h ↦ elim h [ inl b ↦ inr (inl b) | inr c ↦ inr (inr (inl c)) ] ]

-- what was written of a replay, where its bytes were written, or failed to be, and then its line
pub ReplayWritten-of : (written : Result Unit Failed) (out out_after err err_after : SinkSeen) (outcome : Outcome)
    → CountsWrite written out.faults out_after.faults → out.faults ≤ out_after.faults
    → WritesAfter written err err_after outcome.status
    → SaysOutcome outcome.status outcome.detail outcome.end err err_after
    → (outcome.status ≡ 8 → err_after.taken ≡ append_known err.taken (detail_line outcome.detail))
    → ReplayWritten out out_after err err_after outcome
ReplayWritten-of written out out_after err err_after outcome counts out_later after says differs_said = record {
  not_written = λ seven. elim (after.fault seven) [ inl e ↦ inl (rose written out.faults out_after.faults counts e) | inr e ↦ inr e ];
  unfailed = λ seven six. (none_counted written out.faults out_after.faults counts (after.unfailed seven).0, (after.unfailed seven).1);
  says = says;
  differs_said = differs_said;
  out_later = out_later;
  err_later = after.later;
}

module _ (program : Table) (t : Trace) (p : Progress) (outcome : Outcome) (old new : SinkSeen) (same : p.setup ≡ setup_of program t)
    (finished : Finished p.setup old new outcome) (entries : outcome.history.items ≡ p.history) where
  is_finished : Finished (setup_of program t) old new outcome
  is_finished = subst (λ setup. Finished setup old new outcome) same finished

  pub ReplayOf-agrees : IsSome (state_of p) → ReplaysTo p.setup t p.history Agrees → IsEnded outcome.status ⊎ (outcome.status ≡ 6) → (IsEnded outcome.status → outcome.end ≡ Some t.end)
      → outcome.detail ≡ detail.Nothing → ReplayOf program t old new outcome
  ReplayOf-agrees is agrees statuses end detail =
      let there = the_state (state_of p) is in
      let replays : Replays program t = record {
        state = there.0;
        each_is_enabled = ap (λ h. replay (setup_of program t) h) (sym agrees.0) ∙ ap (λ setup. replay setup p.history) (sym same) ∙ there.1;
        end_is_stated = subst (λ setup. IsOver setup there.0 t.end) same (at_state (state_of p) there.0 (λ s. IsOver p.setup s t.end) there.1 agrees.1);
      } in
      let whole : outcome.history.items ≡ t.history.items = entries ∙ agrees.0 in
      let agreeing : (IsEnded outcome.status → Agreeing program t outcome) = λ e. record { whole = whole; end = end e; replays = replays; detail = detail } in
      record {
        statuses = elim statuses [ inl e ↦ inl (inl e) | inr m ↦ inr m ];
        first_entries = whole ∙ sym (take_whole t.history.items) ∙ ap (λ h. take (length h) t.history.items) (sym whole);
        finished = is_finished;
        agrees = λ s. agreeing (ended_of outcome.status s);
        differs = λ e. absurd (not_eight outcome.status statuses e);
        agrees_or_differs = λ e. inl (agreeing (inr (inr (inr e))));
        no_detail = λ m. detail;
      }

  pub ReplayOf-differs : (found : Option End) → IsSome (state_of p) → p.history ≡ take (length p.history) t.history.items → ReplaysTo p.setup t p.history (Differs found)
      → (outcome.status ≡ 7) ⊎ (outcome.status ≡ 8) → outcome.end ≡ None → outcome.detail ≡ detail.Differs (3 + length p.history) t.end found
      → ReplayOf program t old new outcome
  ReplayOf-differs found is first differs statuses none is_detail =
      let there = the_state (state_of p) is in
      let here = at_state (state_of p) there.0 (λ s. IsRefusedNext p.setup s t (slice_get t.history.items (length p.history)) × IsFound p.setup s found) there.1 differs in
      let differing : Differing program t outcome = record {
        state = there.0;
        found = found;
        replayed = ap (λ h. replay (setup_of program t) h) entries ∙ ap (λ setup. replay setup p.history) (sym same) ∙ there.1;
        refused = subst (λ setup. IsRefusedNext setup there.0 t (slice_get t.history.items (length outcome.history.items))) same
            (subst (λ h. IsRefusedNext p.setup there.0 t (slice_get t.history.items (length h))) (sym entries) here.0);
        detail = is_detail ∙ ap (λ h. detail.Differs (3 + length h) t.end found) (sym entries);
        found_is_the_end = subst (λ setup. IsFound setup there.0 found) same here.1;
        no_end = none;
      } in
      record {
        statuses = elim statuses [ inl e ↦ inl (inl (inr (inr (inr e)))) | inr e ↦ inl (inr e) ];
        first_entries = entries ∙ first ∙ ap (λ h. take (length h) t.history.items) (sym entries);
        finished = is_finished;
        agrees = λ s. absurd (never outcome.status statuses s);
        differs = λ e. differing;
        agrees_or_differs = λ e. inr differing;
        no_detail = λ m. absurd (elim statuses [ inl e ↦ omega (arith, e, m) | inr e ↦ omega (arith, e, m) ]);
      }
    where
      never : (s : ℕ) → (s ≡ 7) ⊎ (s ≡ 8) → (s ≡ 0) ⊎ ((s ≡ 1) ⊎ (s ≡ 5)) → ⊥
      never s h e = elim h [
        | inl x ↦ elim e [ inl y ↦ omega (arith, x, y) | inr e ↦ elim e [ inl y ↦ omega (arith, x, y) | inr y ↦ omega (arith, x, y) ] ]
        | inr x ↦ elim e [ inl y ↦ omega (arith, x, y) | inr e ↦ elim e [ inl y ↦ omega (arith, x, y) | inr y ↦ omega (arith, x, y) ] ]
      ]

  pub ReplayOf-stopped : p.history ≡ take (length p.history) t.history.items → outcome.status ≡ 6 → outcome.detail ≡ detail.Nothing → ReplayOf program t old new outcome
  ReplayOf-stopped first six detail = record {
    statuses = inr six;
    first_entries = entries ∙ first ∙ ap (λ h. take (length h) t.history.items) (sym entries);
    finished = is_finished;
    agrees = λ s. absurd (elim s [ inl y ↦ omega (arith, six, y) | inr e ↦ elim e [ inl y ↦ omega (arith, six, y) | inr y ↦ omega (arith, six, y) ] ]);
    differs = λ e. absurd (omega (arith, six, e));
    agrees_or_differs = λ e. absurd (omega (arith, six, e));
    no_detail = λ m. detail;
  }
