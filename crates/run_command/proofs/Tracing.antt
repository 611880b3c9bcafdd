-- The trace that a run keeps.
use Rattle.std.proofs.Common.{◌≡◌, ◌≢◌, ◌∙◌, ℕ, List, refl, ap, subst, inl, inr, arith}
use Rattle.std.specs.Prelude.{Bool, true, false, ◌==◌, if◌then◌else◌, Option, None, Some, IfSome, Result, Ok, Err, IsOk, IsErr, is_some}
use Rattle.serial_model.specs.Limits.{Budget}
use Rattle.serial_model.specs.Trace.{trace_text}
use Rattle.serial_model.specs.declared.end.End.{End}
use Rattle.world_io.specs.Counts.{Rose}
use Rattle.world_io.specs.Held.{told, IsHeld}
use Rattle.world_io.specs.Taken.{CountsWrite}
use Rattle.world_io.specs.Seen.{FilesSeen}
use Rattle.world_io.specs.declared.sink.Failed.{Failed}
use Rattle.command_phases.specs.declared.outcome.Outcome.{Outcome}
use Rattle.command_phases.specs.Outcome.{IsEnded, end_unless_memory}
use Rattle.command_phases.specs.Seen.{Seen, IsUntouched, seen}
use Rattle.command_phases.specs.Traced.{IsKept, KeepsOthers, KeepsTrace}

-- a run whose trace is kept is at its end
kept_ends : (s : ℕ) (before after : Seen) → IsKept s before after → IsEnded s
kept_ends s before after kept = elim kept [
  | inl e ↦ inl e
  | inr k ↦ elim k [ inl e ↦ inr (inl e) | inr k ↦ elim k [ inl e ↦ inr (inr (inl e)) | inr h ↦ inr (inr (inr h.0)) ] ]
]

-- and its bytes were written
kept_wrote : (written : Result Unit Failed) (s : ℕ) (before after : Seen) → CountsWrite written before.out.faults after.out.faults → (IsErr written → s ≡ 7) → IsKept s before after → IsOk written
kept_wrote (Ok x) s before after counts fails kept = refl
kept_wrote (Err failed) s before after counts fails kept =
    let seven : s ≡ 7 = fails refl in
    elim kept [
      | inl e ↦ absurd (omega (arith, e, seven))
      | inr k ↦ elim k [ inl e ↦ absurd (omega (arith, e, seven)) | inr k ↦ elim k [ inl e ↦ absurd (omega (arith, e, seven)) | inr h ↦ absurd (h.1 counts) ] ]
    ]

kept_calm : (s : ℕ) (before after : Seen) → IsKept s before after → s ≡ 7 → Rose before.files.write_faults after.files.write_faults → ⊥
kept_calm s before after kept seven = elim kept [
  | inl e ↦ absurd (omega (arith, e, seven))
  | inr k ↦ elim k [ inl e ↦ absurd (omega (arith, e, seven)) | inr k ↦ elim k [ inl e ↦ absurd (omega (arith, e, seven)) | inr h ↦ h.2 ] ]
]

wrote : (written : Result Unit Failed) (before after : Seen) → CountsWrite written before.out.faults after.out.faults → after.out.faults ≢ before.out.faults → IsErr written
wrote (Ok x) before after counts apart = absurd (apart counts)
wrote (Err failed) before after counts apart = refl

of_end : (b : Bool) (end : End) (P : End → Type 0) → P end → IfSome (if b then None else Some end) P
of_end true end P h = tt
of_end false end P h = h

-- the trace of a run whose bytes were written, or failed to be
pub KeepsTrace-of : (limits : Budget) (trace : Option (List ℕ)) (before after : Seen) (outcome : Outcome) (end : End) (written : Result Unit Failed)
    → outcome.end ≡ end_unless_memory outcome.status end → CountsWrite written before.out.faults after.out.faults
    → (IsErr written → outcome.status ≡ 7)
    → (IsOk written → IsEnded outcome.status → (outcome.status ≡ 7 → Rose before.files.write_faults after.files.write_faults → ⊥) → IfSome trace (λ name. IsHeld (told after.files.held name) (trace_text (record { limits = limits; history = outcome.history; end = end }))))
    → KeepsOthers trace before.files.held after.files.held before.files.write_faults after.files.write_faults
    → (IsErr written → IsUntouched before after)
    → (outcome.status ≡ 6 → IsUntouched before after)
    → KeepsTrace limits trace before after outcome
KeepsTrace-of limits trace before after outcome end written ends counts fails holds others unwritten unkept = record {
  trace_holds_the_history = on trace (λ kept. holds (kept_wrote written outcome.status before after counts fails kept) (kept_ends outcome.status before after kept) (kept_calm outcome.status before after kept));
  no_other_name = others;
  none_after_a_fault = λ apart. unwritten (wrote written before after counts apart);
  none_without_memory = unkept;
}
  where
    on : (trace : Option (List ℕ))
        → (IsKept outcome.status before after → IfSome trace (λ name. IsHeld (told after.files.held name) (trace_text (record { limits = limits; history = outcome.history; end = end }))))
        → IfSome trace (λ name. IsKept outcome.status before after → IfSome outcome.end (λ end. IsHeld (told after.files.held name) (trace_text (record { limits = limits; history = outcome.history; end = end }))))
    on None h = tt
    on (Some name) h = λ kept. rw ends (of_end (outcome.status == 6) end (λ end. IsHeld (told after.files.held name) (trace_text (record { limits = limits; history = outcome.history; end = end }))) (h kept))

same_but : (trace : Option (List ℕ)) (before after : Seen) → IsUntouched before after → KeepsOthers trace before.files.held after.files.held before.files.write_faults after.files.write_faults
same_but None before after same = (same.held, same.faults)
same_but (Some name) before after same = record { tells = ap (λ h. is_some h) same.held; others = λ other apart. ap (λ h. told h other) same.held }

-- no trace is kept of a run without an end, where no name changed
pub KeepsTrace-none : (limits : Budget) (trace : Option (List ℕ)) (before after : Seen) (outcome : Outcome) → outcome.end ≡ None → IsUntouched before after → KeepsTrace limits trace before after outcome
KeepsTrace-none limits trace before after outcome none same = record {
  trace_holds_the_history = on trace;
  no_other_name = same_but trace before after same;
  none_after_a_fault = λ apart. same;
  none_without_memory = λ six. same;
}
  where
    on : (trace : Option (List ℕ)) → IfSome trace (λ name. IsKept outcome.status before after → IfSome outcome.end (λ end. IsHeld (told after.files.held name) (trace_text (record { limits = limits; history = outcome.history; end = end }))))
    on None = tt
    on (Some name) = λ kept. rw none tt

-- what was read before the run changes nothing of it
pub KeepsTrace-read : (limits : Budget) (trace : Option (List ℕ)) (before after : Seen) (mid : FilesSeen) (outcome : Outcome) → mid.held ≡ before.files.held → mid.write_faults ≡ before.files.write_faults
    → KeepsTrace limits trace (seen mid before.out before.err) after outcome → KeepsTrace limits trace before after outcome
KeepsTrace-read limits trace before after mid outcome same none k =
    let Holds : ℕ → Type 0 = λ writes. IfSome trace (λ name. IsKept outcome.status (seen (record mid { write_faults = writes }) before.out before.err) after → IfSome outcome.end (λ end.
    IsHeld (told after.files.held name) (trace_text (record { limits = limits; history = outcome.history; end = end })))) in
    let untouched : (IsUntouched (seen mid before.out before.err) after → IsUntouched before after) =
    λ u. record { held = u.held ∙ same; faults = u.faults ∙ none } in
    record {
      trace_holds_the_history = subst Holds none k.trace_holds_the_history;
      no_other_name = subst (λ writes. KeepsOthers trace before.files.held after.files.held writes after.files.write_faults) none
          (subst (λ held. KeepsOthers trace held after.files.held mid.write_faults after.files.write_faults) same k.no_other_name);
      none_after_a_fault = λ apart. untouched (k.none_after_a_fault apart);
      none_without_memory = λ six. untouched (k.none_without_memory six);
    }
