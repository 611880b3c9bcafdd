-- What was written of what a seat has seen, as bytes and as a beginning of them.
use Rattle.std.proofs.Common.{◌≡◌, ◌∙◌, ◌+◌, ◌≤◌, ℕ, List, length, length-append, take, sym, ap, subst, arith}
use Rattle.std.proofs.lemmas.List.{take-append-le}
use Rattle.std.specs.Io.KnownBytes.{append_known}
use Rattle.std.specs.Option.{option_and_then}
use Rattle.std.specs.Prelude.{Option, None, Some, IfSome, IsSome}
use mathlib.Core.List.{IsPrefix}
use Rattle.core_syntax.specs.Table.{Table}
use Rattle.interleave_core.specs.Grown.{setup_of, setup_seen}
use Rattle.serial_model.proofs.runs.GrownBytes.{bytes_grow}
use Rattle.serial_model.specs.declared.entry.Entry.{Entry}
use Rattle.serial_model.specs.Limits.{Budget}
use Rattle.serial_model.specs.Replay.{replay}
use Rattle.serial_model.specs.State.{State}
use Rattle.shared_run.specs.SeenBytes.{bytes_of, bytes_seen, state_seen}
use Rattle.shared_world.specs.Shared.{Shared}
use Rattle.shared_world.specs.Stands.{Stands}
use Rattle.transcript.specs.Written.{HasWritten}
use Rattle.world_lock.proofs.Begun.{prefix_self, prefix_trans}
use Rattle.world_lock.specs.Known.{SeatKnown}

-- what a seat of a lock has seen, under that lock's setup
pub seen_under : (setup : Table × Budget) (seat : SeatKnown (Table × Budget) Entry) → seat.setup ≡ Some setup → state_seen seat ≡ replay (setup_of setup) seat.seen
seen_under setup seat is = ap (option_and_then (λ s. replay (setup_of s) seat.seen)) is

-- the setup of a seat that has seen a state is the one that it is known to have
known_by : (setup : Table × Budget) (seen : List Entry) (found : Option (Table × Budget)) → IsSome (option_and_then (λ s. replay (setup_of s) seen) found) → IfSome found (λ s. setup ≡ s) → found ≡ Some setup
known_by setup seen None there is = absurd (cc)
known_by setup seen (Some s) there is = ap Some (sym is)

pub known_setup : (setup : Table × Budget) (seat : SeatKnown (Table × Budget) Entry) → IsSome (state_seen seat) → IfSome seat.setup (λ s. setup ≡ s) → seat.setup ≡ Some setup
known_setup setup seat there is = known_by setup seat.seen seat.setup there is

module _ (setup : Table × Budget) (start taken : Option (List ℕ)) (written : ℕ) where
  written_by : (seen : List Entry) (o : Option State) → replay (setup_of setup) seen ≡ o → IsSome o → written ≤ length (bytes_of o) → taken ≡ append_known start (take written (bytes_of o))
      → HasWritten setup start taken written seen
  written_by seen None is there within front = absurd (cc)
  written_by seen (Some state) is there within front = record { used = seen; begins = prefix_self seen; state = state; replays = is; within = within; taken_is = front }

  -- the first bytes of what the seat has seen were written
  pub has_written : (seat : SeatKnown (Table × Budget) Entry) → seat.setup ≡ Some setup → IsSome (state_seen seat) → written ≤ length (bytes_seen seat)
      → taken ≡ append_known start (take written (bytes_seen seat)) → HasWritten setup start taken written seat.seen
  has_written seat of there within front = written_by seat.seen (state_seen seat) (sym (seen_under setup seat of)) there within front

  module _ (seen : List Entry) (h : HasWritten setup start taken written seen) where
    -- and of what goes on from there
    module _ (state : State) (more : List Entry) (begins : IsPrefix seen more) (replays : replay (setup_of setup) more ≡ Some state) where
      begun : IsPrefix h.used more
      begun = prefix_trans h.used seen more h.begins begins

      grows : IsPrefix h.state.bytes state.bytes
      grows = bytes_grow (setup_of setup) h.used begun.0 h.state state h.replays (ap (replay (setup_of setup)) begun.1 ∙ replays)

      longer : length h.state.bytes + length grows.0 ≡ length state.bytes
      longer = sym (length-append h.state.bytes grows.0) ∙ ap length grows.1

      pub within : written ≤ length state.bytes
      within = omega (arith, h.within, longer)

      pub front : taken ≡ append_known start (take written state.bytes)
      front = h.taken_is ∙ ap (append_known start) (sym (take-append-le written h.state.bytes grows.0 h.within) ∙ ap (take written) grows.1)

    facts_by : (o : Option State) → replay (setup_of setup) seen ≡ o → IsSome o → (written ≤ length (bytes_of o)) × (taken ≡ append_known start (take written (bytes_of o)))
    facts_by None is there = absurd (cc)
    facts_by (Some state) is there = (within state seen (prefix_self seen) is, front state seen (prefix_self seen) is)

    -- what was written, of a seat that has seen this
    pub seen_written : (seat : SeatKnown (Table × Budget) Entry) → seat.setup ≡ Some setup → seat.seen ≡ seen → IsSome (replay (setup_of setup) seen)
        → IsSome (state_seen seat) × (written ≤ length (bytes_seen seat)) × (taken ≡ append_known start (take written (bytes_seen seat)))
    seen_written seat of same there =
        let is : state_seen seat ≡ replay (setup_of setup) seen = seen_under setup seat of ∙ ap (replay (setup_of setup)) same in
        let here : IsSome (state_seen seat) = subst (λ o. IsSome o) (sym is) there in
        let both = facts_by (state_seen seat) (sym is) here in
        (here, both.0, both.1)

    -- and of a world that goes on from there
    module _ (w : Shared) (stands : Stands w) (same : setup_seen w ≡ setup) (begins : IsPrefix seen w.history) where
      replayed : replay (setup_of setup) w.history ≡ Some stands.is_world.state
      replayed = ap (λ s. replay (setup_of s) w.history) (sym same) ∙ ap (replay w.setup) (sym stands.seen.history) ∙ stands.is_world.replays

      printed : w.bytes ≡ stands.is_world.state.bytes
      printed = sym stands.seen.bytes ∙ stands.is_world.stands.bytes

      pub world_within : written ≤ length w.bytes
      world_within = subst (λ b. written ≤ length b) (sym printed) (within stands.is_world.state w.history begins replayed)

      pub world_front : taken ≡ append_known start (take written w.bytes)
      world_front = front stands.is_world.state w.history begins replayed ∙ ap (λ b. append_known start (take written b)) (sym printed)
