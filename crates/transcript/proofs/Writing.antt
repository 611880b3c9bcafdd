-- What was written stays the first bytes of what was seen.
use Rattle.std.proofs.Common.{◌≡◌, ◌∙◌, ◌+◌, ℕ, List, length, length-append, take, take_all, le_refl, sym, ap, subst, arith}
use Rattle.std.proofs.lemmas.List.{length-drop, take-append-le}
use Rattle.std.specs.Io.KnownBytes.{append_known}
use Rattle.std.specs.Prelude.{Option, Some, Result, Ok, Err, OnOk}
use mathlib.Core.List.{IsPrefix}
use Rattle.core_syntax.specs.Table.{Table}
use Rattle.interleave_core.specs.Grown.{setup_of}
use Rattle.serial_model.proofs.runs.GrownBytes.{bytes_grow}
use Rattle.serial_model.specs.declared.entry.Entry.{Entry}
use Rattle.serial_model.specs.Limits.{Budget}
use Rattle.serial_model.specs.Replay.{replay}
use Rattle.serial_model.specs.State.{State}
use Rattle.transcript.specs.Written.{HasWritten, HasWrittenAll, IsBehind, IsPrinted, IsTaken, IsTakenWhole}
use Rattle.world_io.proofs.TakenLemmas.{taken-more}
use Rattle.world_lock.proofs.Begun.{prefix_self, prefix_trans}

-- what holds where a call succeeded
pub where-ok : {T E : Type 0} (r : Result T E) (P Q : Type 0) → (P → Q) → OnOk r P → OnOk r Q
where-ok (Ok x) P Q f is = f is
where-ok (Err e) P Q f is = is

module _ (setup : Table × Budget) (start old new : Option (List ℕ)) (seen more : List Entry) (going : IsPrefix seen more) (written : ℕ) where
  pub longer-written : HasWritten setup start old written seen → HasWritten setup start old written more
  longer-written h = record {
    used = h.used;
    begins = prefix_trans h.used seen more h.begins going;
    state = h.state;
    replays = h.replays;
    within = h.within;
    taken_is = h.taken_is;
  }

  module _ (bytes : List ℕ) (total : ℕ) (all : IsPrinted setup more total) (behind : IsBehind setup more written bytes) (h : HasWritten setup start old written seen) where
    abbrev s : State
    s = behind.state

    begins : IsPrefix h.used more
    begins = prefix_trans h.used seen more h.begins going

    grows : IsPrefix h.state.bytes s.bytes
    grows = bytes_grow (setup_of setup) h.used begins.0 h.state s h.replays (ap (replay (setup_of setup)) begins.1 ∙ behind.replays)

    longer : length h.state.bytes + length grows.0 ≡ length s.bytes
    longer = sym (length-append h.state.bytes grows.0) ∙ ap length grows.1

    same : take written h.state.bytes ≡ take written s.bytes
    same = sym (take-append-le written h.state.bytes grows.0 h.within) ∙ ap (take written) grows.1

    total-is : total ≡ length s.bytes
    total-is = let both : Some all.state ≡ Some s = sym all.replays ∙ behind.replays in let is : all.state ≡ s = cc in all.total_is ∙ ap (λ (k : State). length k.bytes) is

    rest-is : length bytes + written ≡ length s.bytes
    rest-is = let short = ap length behind.rest_is ∙ length-drop written s.bytes in omega (arith, short, longer, h.within)

    taken : old ≡ append_known start (take written s.bytes)
    taken = h.taken_is ∙ ap (append_known start) same

    pub more-written : (after : ℕ) → IsTaken bytes total old new after → HasWritten setup start new after more
    more-written after is =
        let count : after ≡ written + is.count = omega (arith, is.counted, rest-is, total-is) in
        subst (λ n. HasWritten setup start new n more) (sym count) (record {
          used = more;
          begins = prefix_self more;
          state = s;
          replays = behind.replays;
          within = omega (arith, is.within, rest-is);
          taken_is = taken-more start old new written is.count s.bytes bytes behind.rest_is taken is.taken;
        })

    pub all-written : (after : ℕ) → IsTakenWhole bytes total old new after → HasWrittenAll setup start new after more
    all-written after is = record {
      state = s;
      replays = behind.replays;
      written_is = is.counted ∙ total-is;
      taken_is =
          taken-more start old new written (length bytes) s.bytes bytes behind.rest_is taken (is.taken ∙ ap (append_known old) (sym (take_all (length bytes) bytes (le_refl (length bytes)))))
          ∙ ap (append_known start) (take_all (written + length bytes) s.bytes (omega (arith, rest-is)));
    }
