-- From a run to its outcome.
use Rattle.std.proofs.Common.{◌≡◌, ◌≢◌, ℕ, zero, suc, inl, inr, ◌∷◌, List, [], take, refl, sym, ◌∙◌, ap, subst, arith}
use Rattle.std.specs.Prelude.{Bool, true, false, ◌==◌, if◌then◌else◌, Option, None, Some, IsSome, IfSome, unwrap_or, Result, Ok, Err, IsOk, IsErr, OnOk}
use Rattle.std.specs.Io.KnownBytes.{append_known}
use Rattle.world_io.specs.Counts.{Rose}
use Rattle.world_io.specs.Seen.{SinkSeen}
use Rattle.world_io.specs.Taken.{CountsWrite, TookPrefix}
use Rattle.world_io.specs.declared.sink.Failed.{Failed}
use Rattle.world_io.proofs.TakenLemmas.{TookPrefix-none, append_known-nil}
use Rattle.serial_model.specs.declared.end.End.{End}
use Rattle.serial_model.specs.State.{Setup, State, opening}
use Rattle.serial_model.specs.Replay.{replay, replay_from, IsOver, status}
use Rattle.serial_machine.specs.Progress.{Progress, state_of}
use Rattle.command_phases.specs.declared.outcome.Outcome.{Outcome}
use Rattle.command_phases.specs.Outcome.{IsEnded, Finished, end_unless_memory}
use Rattle.command_phases.specs.Written.{IsWritten}
use Rattle.serial_commands.proofs.UnitsMade.{all_units_made}

-- the state that is there
pub the_state : (o : Option State) → IsSome o → (s : State) × (o ≡ Some s)
the_state None is = absurd (cc)
the_state (Some s) is = (s, refl)

pub at_state : (o : Option State) (s : State) (P : State → Type 0) → o ≡ Some s → IfSome o P → P s
at_state o s P e h = subst (λ x. IfSome x P) e h

-- an empty history prints nothing
no_bytes : (setup : Setup) (state : State) → replay setup [] ≡ Some state → state.bytes ≡ []
unfolding replay_from
no_bytes setup state e = ap (λ s. (unwrap_or s (opening setup)).bytes) (sym e)

take_nil : (n : ℕ) → take {A = ℕ} n [] ≡ []
take_nil zero = refl
take_nil (suc n) = refl

-- no bytes have one prefix
no_prefix : (old new : Option (List ℕ)) (text : List ℕ) → text ≡ [] → TookPrefix old new text → new ≡ old
no_prefix old new [] e took = took.2 ∙ ap (append_known old) (take_nil took.0) ∙ append_known-nil old
no_prefix old new (b ∷ text) e took = absurd (cc)

-- a run, as far as it came, with what was written of its bytes
pub Finished-of : (p : Progress) (outcome : Outcome) (output : List ℕ) (old new : SinkSeen)
    → outcome.history.items ≡ p.history → IsSome (state_of p) → IfSome (state_of p) (λ s. output ≡ s.bytes)
    → IfSome (state_of p) (λ s. IfSome outcome.end (IsOver p.setup s))
    → TookPrefix old.taken new.taken output → (IsWritten outcome.status old new → new.taken ≡ append_known old.taken output)
    → (outcome.status ≢ 7 → IfSome outcome.end (λ e. status e ≡ outcome.status))
    → Finished p.setup old new outcome
Finished-of p outcome output old new entries is bytes over took whole ends =
    let there = the_state (state_of p) is in
    let same : output ≡ there.0.bytes = at_state (state_of p) there.0 (λ s. output ≡ s.bytes) there.1 bytes in
    let replays : replay p.setup outcome.history.items ≡ Some there.0 = ap (replay p.setup) entries ∙ there.1 in
    record {
      state = there.0;
      history_replays = replays;
      end_is_the_replays = at_state (state_of p) there.0 (λ s. IfSome outcome.end (IsOver p.setup s)) there.1 over;
      bytes_are_the_replays = subst (TookPrefix old.taken new.taken) same took;
      none_without_entries = λ e. no_prefix old.taken new.taken output (same ∙ no_bytes p.setup there.0 (sym (ap (replay p.setup) e) ∙ replays)) took;
      all_when_written = λ w. whole w ∙ ap (append_known old.taken) same;
      status_is_the_ends = ends;
      units_are_made = λ e. all_units_made p.setup outcome.history.items there.0 replays
          (subst (λ end. IfSome end (IsOver p.setup there.0)) e (at_state (state_of p) there.0 (λ s. IfSome outcome.end (IsOver p.setup s)) there.1 over));
    }

-- nothing is written for want of memory
pub not_written_six : (s : ℕ) (old new : SinkSeen) → s ≡ 6 → IsWritten s old new → ⊥
not_written_six s old new six w = elim w [
  | inl e ↦ absurd (omega (arith, e, six))
  | inr w ↦ elim w [
    | inl e ↦ absurd (omega (arith, e, six))
    | inr w ↦ elim w [ inl e ↦ absurd (omega (arith, e, six)) | inr w ↦ elim w [ inl e ↦ absurd (omega (arith, e, six)) | inr p ↦ absurd (omega (arith, p.0, six)) ] ]
  ]
]

pub no_end : (o : Option State) (setup : Setup) (end : Option End) → end ≡ None → IfSome o (λ s. IfSome end (IsOver setup s))
no_end None setup end e = tt
no_end (Some s) setup None e = tt
no_end (Some s) setup (Some end) e = absurd (cc)

no_status : (end : Option End) (s : ℕ) → end ≡ None → IfSome end (λ e. status e ≡ s)
no_status None s e = tt
no_status (Some end) s e = absurd (cc)

-- a run that stopped for want of memory, and wrote some of its bytes before
pub Finished-cut : (p : Progress) (outcome : Outcome) (output : List ℕ) (old new : SinkSeen) → outcome.history.items ≡ p.history → IsSome (state_of p)
    → IfSome (state_of p) (λ s. output ≡ s.bytes) → outcome.status ≡ 6 → outcome.end ≡ None → TookPrefix old.taken new.taken output → Finished p.setup old new outcome
Finished-cut p outcome output old new entries is bytes six none took =
    Finished-of p outcome output old new entries is bytes (no_end (state_of p) p.setup outcome.end none) took
    (λ w. absurd (not_written_six outcome.status old new six w)) (λ e. no_status outcome.end outcome.status none)

-- and one that wrote none
pub Finished-stopped : (p : Progress) (outcome : Outcome) (old new : SinkSeen) → outcome.history.items ≡ p.history → IsSome (state_of p)
    → outcome.status ≡ 6 → outcome.end ≡ None → new.taken ≡ old.taken → Finished p.setup old new outcome
Finished-stopped p outcome old new entries is six none same =
    let there = the_state (state_of p) is in
    Finished-cut p outcome there.0.bytes old new entries is (bytes (state_of p) there.0 there.1) six none (TookPrefix-none old.taken new.taken there.0.bytes same)
  where
    bytes : (o : Option State) (s : State) → o ≡ Some s → IfSome o (λ t. s.bytes ≡ t.bytes)
    bytes None s e = tt
    bytes (Some t) s e = let same : t ≡ s = cc in ap (λ x. x.bytes) (sym same)

-- the run that has not begun
unfolding_opening : (setup : Setup) → IsSome (replay setup [])
unfolding replay_from
unfolding_opening setup = refl

pub Finished-unbegun : (setup : Setup) (outcome : Outcome) (old new : SinkSeen) → outcome.history.items ≡ []
    → outcome.status ≡ 6 → outcome.end ≡ None → new.taken ≡ old.taken → Finished setup old new outcome
Finished-unbegun setup outcome old new entries six none same =
    Finished-stopped (record { setup = setup; history = [] }) outcome old new entries (unfolding_opening setup) six none same

of_unless : (b : Bool) (end : End) (P : End → Type 0) → P end → IfSome (if b then None else Some end) P
of_unless true end P h = tt
of_unless false end P h = h

-- the end of a run is left out for want of memory
pub over_unless : (p : Progress) (s : ℕ) (end : End) (found : Option End) → found ≡ end_unless_memory s end → IfSome (state_of p) (λ st. IsOver p.setup st end)
    → IfSome (state_of p) (λ st. IfSome found (IsOver p.setup st))
over_unless p s end found e over = on (state_of p) over
  where
    on : (o : Option State) → IfSome o (λ st. IsOver p.setup st end) → IfSome o (λ st. IfSome found (IsOver p.setup st))
    on None h = tt
    on (Some st) h = rw e (of_unless (s == 6) end (IsOver p.setup st) h)

pub status_unless : (s t : ℕ) (end : End) (found : Option End) → found ≡ end_unless_memory s end → t ≡ s → (s ≢ 7 → s ≢ 6 → status end ≡ s) → t ≢ 7 → IfSome found (λ e. status e ≡ t)
status_unless s t end found e same ends not_seven = rw (e, same) (on (s == 6) refl)
  where
    on : (b : Bool) → b ≡ (s == 6) → IfSome (if b then None else Some end) (λ e. status e ≡ s)
    on true is = tt
    on false is = ends (λ seven. not_seven (same ∙ seven)) (λ six. absurd (let x : false ≡ true = is ∙ ap (λ n. n == 6) six in cc))

-- and an outcome at its end has one
pub some_unless : (s : ℕ) (end : End) (found : Option End) → found ≡ end_unless_memory s end → IsEnded s → IsSome found
some_unless s end found e h = rw e (elim h [ inl a ↦ rw a refl | inr h ↦ elim h [ inl b ↦ rw b refl | inr h ↦ elim h [ inl c ↦ rw c refl | inr d ↦ rw d refl ] ] ])

-- the bytes of a run that are written in full were taken whole
pub wrote_whole : (written : Result Unit Failed) (s : ℕ) (old new : SinkSeen) (P : Type 0) → CountsWrite written old.faults new.faults → (IsErr written → s ≡ 7) → OnOk written P
    → IsWritten s old new → P
wrote_whole (Ok x) s old new P counts fails whole w = whole
wrote_whole (Err failed) s old new P counts fails whole w =
    let seven : s ≡ 7 = fails refl in
    absurd (elim w [
      | inl e ↦ omega (arith, e, seven)
      | inr w ↦ elim w [
        | inl e ↦ omega (arith, e, seven)
        | inr w ↦ elim w [ inl e ↦ omega (arith, e, seven) | inr w ↦ elim w [ inl e ↦ omega (arith, e, seven) | inr p ↦ p.1 counts ] ]
      ]
    ])

-- bytes that were written counted nothing
pub none_counted : (written : Result Unit Failed) (before now : ℕ) → CountsWrite written before now → IsOk written → now ≡ before
none_counted (Ok x) before now counts is = counts
none_counted (Err failed) before now counts is = absurd (cc)

-- bytes that were not written were counted
pub rose : (written : Result Unit Failed) (before now : ℕ) → CountsWrite written before now → IsErr written → Rose before now
rose (Ok x) before now counts is = absurd (cc)
rose (Err failed) before now counts is = counts
