-- From the files of a replay to what is owed to it.
use Rattle.std.proofs.Common.{◌≡◌, ◌≢◌, ℕ, List, [], sym, ◌∙◌, ap, subst, inl, inr, arith}
use Rattle.std.specs.Prelude.{◌⊎◌, Option, Some, IfSome}
use Rattle.core_syntax.specs.Table.{Table}
use Rattle.serial_model.specs.Replay.{replay, IsOver, status}
use Rattle.serial_model.specs.Trace.{IsTextOfTrace, trace_refusal}
use Rattle.serial_model.specs.declared.end.End.{End}
use Rattle.serial_model.specs.declared.trace.Trace.{Trace}
use Rattle.serial_model.specs.declared.trace.LineKind.{LineKind}
use Rattle.trace_text.specs.Same.{IsSameTrace}
use Rattle.trace_text.proofs.Unique.{one_trace_of, not_refused}
use Rattle.world_io.specs.Held.{told}
use Rattle.command_phases.specs.declared.outcome.Outcome.{Outcome}
use Rattle.command_phases.specs.Program.{IsProgramOf}
use Rattle.command_phases.specs.Load.{IsLoaded}
use Rattle.command_phases.specs.LoadPair.{IsHeldAs}
use Rattle.command_phases.specs.Outcome.{IsEnded, IsStatusOfEnd}
use Rattle.serial_commands.specs.ReplayAnswers.{setup_of, IsReplayed, IsReplay, Replays, ReplayOf, ReplayAnswers}
use Rattle.serial_commands.specs.ReplayWritten.{ReplayWritten}
use Rattle.command_phases.specs.Seen.{Seen, IsCalm, IsGiven, IsUntouched, NoWriteFailed}
use Rattle.command_phases.proofs.Statuses.{three_not_ended, four_not_ended, must_tell, no_failure}
use Rattle.command_phases.proofs.Loading.{held_bytes, found_program}
use Rattle.command_phases.proofs.PairErrors.{reads_pair}
use Rattle.serial_commands.proofs.Stuck.{differs_never}

-- the trace that is held is the one that was read
found_trace : (found : Option (Option (List ℕ))) (text : List ℕ) (t stated : Trace) → found ≡ Some (Some text) → IsHeldAs (IsTextOfTrace t) found → IsTextOfTrace stated text → IsSameTrace stated t
found_trace found text t stated is h s =
    let same = held_bytes found text h.bytes is h.read in
    one_trace_of stated t s.is_trace h.text.is_trace (s.spelled ∙ same ∙ sym h.text.spelled)

found_trace_refused : (found : Option (Option (List ℕ))) (text : List ℕ) (t : Trace) (kind : LineKind) (line : ℕ) → found ≡ Some (Some text) → IsHeldAs (IsTextOfTrace t) found → trace_refusal text kind line → ⊥
found_trace_refused found text t kind line is h r =
    let same = held_bytes found text h.bytes is h.read in
    not_refused h.bytes t kind line h.text (subst (λ b. trace_refusal b kind line) same r)

-- what replays depends on what the text of a trace tells
same_replays : (program other : Table) (t u : Trace) → program ≡ other → IsSameTrace t u → Replays other t → Replays program u
same_replays program other t u table same r = record {
  state = r.state;
  each_is_enabled = ap (λ p. replay (record { program = p; limits = u.limits }) u.history.items) table
      ∙ ap (λ l. replay (record { program = other; limits = l }) u.history.items) (sym same.limits) ∙ ap (replay (setup_of other t)) (sym same.entries) ∙ r.each_is_enabled;
  end_is_stated = subst (λ p. IsOver (record { program = p; limits = u.limits }) r.state u.end) (sym table)
      (subst (λ l. IsOver (record { program = other; limits = l }) r.state u.end) same.limits (subst (IsOver (setup_of other t) r.state) same.end r.end_is_stated));
}

turn : (t u : Trace) → IsSameTrace t u → IsSameTrace u t
turn t u same = record { limits = sym same.limits; entries = sym same.entries; end = sym same.end }

-- the statuses of a replay that exclude others
not_three : (s : ℕ) → IsReplayed s ⊎ (s ≡ 6) → s ≡ 3 → ⊥
not_three s h e = elim h [
  | inl r ↦ elim r [ inl x ↦ three_not_ended (subst IsEnded e x) | inr x ↦ omega (arith, x, e) ]
  | inr x ↦ omega (arith, x, e)
]

not_four : (s : ℕ) → IsReplayed s ⊎ (s ≡ 6) → s ≡ 4 → ⊥
not_four s h e = elim h [
  | inl r ↦ elim r [ inl x ↦ four_not_ended (subst IsEnded e x) | inr x ↦ omega (arith, x, e) ]
  | inr x ↦ omega (arith, x, e)
]

-- an end that was come to, unless something was not written
written_end : (s : ℕ) → IsEnded s → (s ≡ 7 → ⊥) → (s ≡ 0) ⊎ ((s ≡ 1) ⊎ (s ≡ 5))
written_end s h calm = elim h [ inl a ↦ inl a | inr h ↦ elim h [ inl b ↦ inr (inl b) | inr h ↦ elim h [ inl c ↦ inr (inr c) | inr d ↦ absurd (calm d) ] ] ]

status_of_end : (outcome : Outcome) (end : End) → outcome.end ≡ Some end → IfSome outcome.end (λ e. status e ≡ outcome.status) → IsStatusOfEnd outcome
status_of_end outcome end is h = rw is (subst (λ e. IfSome e (λ x. status x ≡ outcome.status)) is h)

-- where the replay was made
pub replay_loaded : (file trace : List ℕ) (before after : Seen) (outcome : Outcome) (program : Table) (t : Trace) → IsLoaded (told before.files.held file) program → IsHeldAs (IsTextOfTrace t) (told before.files.held trace)
    → after.files.read_faults ≡ before.files.read_faults
    → ReplayOf program t before.out after.out outcome
    → ReplayWritten before.out after.out before.err after.err outcome
    → IsUntouched before after
    → ReplayAnswers file trace before after outcome
replay_loaded file trace before after outcome program t loaded traced reads r written files = record {
  statuses = elim r.statuses [ inl e ↦ inl e | inr m ↦ inr (inr m) ];
  replayed = λ e. is_replay;
  unless_memory = λ m. inr is_replay;
  complete = λ bytes text other stated given_file source given_trace is_text calm replays. elim r.statuses [
    | inl e ↦ elim e [
      | inl ended ↦
          let calm_end = written_end outcome.status ended (silent calm) in
          inl (status_of_end outcome t.end (r.agrees calm_end).end (r.finished.status_is_the_ends (silent calm)))
      | inr eight ↦ absurd (differs_never program t outcome r.first_entries (r.differs eight) (here bytes text other stated given_file source given_trace is_text replays))
    ]
    | inr m ↦ inr m
  ];
  must_differ = λ bytes text other stated given_file source given_trace is_text calm never. elim r.statuses [
    | inl e ↦ elim e [
      | inl ended ↦ absurd (never (there bytes text other stated given_file source given_trace is_text (r.agrees (written_end outcome.status ended (silent calm))).replays))
      | inr eight ↦ inl eight
    ]
    | inr m ↦ inr m
  ];
  reads = reads_pair file trace before after outcome program (IsTextOfTrace t) loaded traced reads (λ failed. elim r.statuses [
    | inl e ↦ elim e [
      | inl ended ↦ must_tell before after outcome.status (inl ended) none failed
      | inr eight ↦ absurd (no_failure (none (λ seven. omega (arith, eight, seven)) (λ six. omega (arith, eight, six))) failed)
    ]
    | inr six ↦ inr (inl six)
  ]);
  must_refuse_trace = λ bytes text other kind line given_file source given_trace refusal calm. absurd (found_trace_refused (told before.files.held trace) text t kind line given_trace traced refusal);
  refused = λ four. absurd (not_four outcome.status r.statuses four);
  not_written = written.not_written;
  files = files;
  idle = λ w. absurd (elim w [ inl three ↦ not_three outcome.status r.statuses three | inr four ↦ not_four outcome.status r.statuses four ]);
  no_detail = λ s. elim s [ inl three ↦ absurd (not_three outcome.status r.statuses three) | inr six ↦ r.no_detail six ];
  says = record { unread = []; not_read = λ three. absurd (not_three outcome.status r.statuses three); said = written.says.said; said_at_most = written.says.said_at_most; end_said = written.says.end_said };
  differs_said = written.differs_said;
}
  where
    none : outcome.status ≢ 7 → outcome.status ≢ 6 → NoWriteFailed before after
    none seven six = let same = written.unfailed seven six in record { out = same.0; err = same.1; files = files.faults }

    is_replay : IsReplay file trace before after outcome
    is_replay = record {
      bytes = loaded.bytes;
      text = traced.bytes;
      program = program;
      stated = t;
      read = loaded.read;
      source = loaded.source;
      read_trace = traced.read;
      is_text = traced.text;
      replay = r;
    }

    silent : IsCalm before after → outcome.status ≡ 7 → ⊥
    silent calm seven = elim (written.not_written seven) [ inl o ↦ calm.out o | inr e ↦ calm.err e ]

    here : (bytes text : List ℕ) (other : Table) (stated : Trace) → IsGiven file bytes before → IsProgramOf bytes other → IsGiven trace text before → IsTextOfTrace stated text → Replays other stated → Replays program t
    here bytes text other stated given_file source given_trace is_text replays =
        same_replays program other stated t (found_program file before.files after.files bytes given_file program other loaded source)
        (found_trace (told before.files.held trace) text t stated given_trace traced is_text) replays

    there : (bytes text : List ℕ) (other : Table) (stated : Trace) → IsGiven file bytes before → IsProgramOf bytes other → IsGiven trace text before → IsTextOfTrace stated text → Replays program t → Replays other stated
    there bytes text other stated given_file source given_trace is_text replays =
        same_replays other program t stated (sym (found_program file before.files after.files bytes given_file program other loaded source))
        (turn stated t (found_trace (told before.files.held trace) text t stated given_trace traced is_text)) replays
