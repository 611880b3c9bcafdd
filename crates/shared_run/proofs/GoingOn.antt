-- A world that goes on, and what is written of its bytes.
use Rattle.std.proofs.Common.{◌≡◌, ◌∙◌, ◌+◌, ◌≤◌, ℕ, List, ◌++◌, length, length-append, take, take_all, drop, le_refl, refl, sym, ap, arith}
use Rattle.std.proofs.lemmas.List.{length-drop, take-append-le}
use Rattle.std.specs.Io.KnownBytes.{append_known}
use Rattle.std.specs.Prelude.{Option, None, Some, IfSome, Result, Ok, Err, OnOk}
use mathlib.Core.List.{IsPrefix}
use Rattle.serial_model.proofs.runs.GrownBytes.{bytes_grow}
use Rattle.serial_model.specs.Replay.{replay}
use Rattle.shared_world.specs.Later.{IsLater}
use Rattle.shared_world.specs.Shared.{Shared}
use Rattle.shared_world.specs.Stands.{Stands}
use Rattle.world_io.proofs.TakenLemmas.{taken-more}
use Rattle.world_io.specs.Taken.{TookPrefix}
use Rattle.world_io.specs.declared.sink.Failed.{Failed}

world_replays : (s : Shared) (st : Stands s) → replay s.setup s.history ≡ Some st.is_world.state
world_replays s st = ap (replay s.setup) (sym st.seen.history) ∙ st.is_world.replays

world_prints : (s : Shared) (st : Stands s) → st.is_world.state.bytes ≡ s.bytes
world_prints s st = sym st.is_world.stands.bytes ∙ st.seen.bytes

-- the bytes of a later world go on from those of the old one
pub bytes_go_on : (old new : Shared) → Stands old → Stands new → IsLater old new → IsPrefix old.bytes new.bytes
bytes_go_on old new was now later =
    let replays : replay old.setup (old.history ++ later.more) ≡ Some now.is_world.state =
    ap (λ s. replay s (old.history ++ later.more)) (sym later.setup) ∙ ap (replay new.setup) (sym later.history) ∙ world_replays new now in
    let grows = bytes_grow old.setup old.history later.more was.is_world.state now.is_world.state (world_replays old was) replays in
    (grows.0, ap (λ b. b ++ grows.0) (sym (world_prints old was)) ∙ grows.1 ∙ world_prints new now)

-- The first bytes were written, and then some of the rest of all bytes, which go on from those of before.
module _ (start mid new : Option (List ℕ)) (count : ℕ) (before all : List ℕ) (within : count ≤ length before) (front : mid ≡ append_known start (take count before)) (goes_on : IsPrefix before all) where
  same_front : mid ≡ append_known start (take count all)
  same_front = front ∙ ap (append_known start) (sym (take-append-le count before goes_on.0 within) ∙ ap (take count) goes_on.1)

  longer : length before + length goes_on.0 ≡ length all
  longer = sym (length-append before goes_on.0) ∙ ap length goes_on.1

  rest_is : length (drop count all) + count ≡ length all
  rest_is = let short = length-drop count all in omega (arith, short, longer, within)

  pub took_more : TookPrefix mid new (drop count all) → TookPrefix start new all
  took_more took = (
    count + took.0,
    omega (arith, took.1, rest_is),
    taken-more start mid new count took.0 all (drop count all) refl same_front took.2,
  )

  took_rest : new ≡ append_known mid (drop count all) → new ≡ append_known start all
  took_rest whole =
      taken-more start mid new count (length (drop count all)) all (drop count all) refl same_front
      (whole ∙ ap (append_known mid) (sym (take_all (length (drop count all)) (drop count all) (le_refl (length (drop count all))))))
      ∙ ap (append_known start) (take_all (count + length (drop count all)) all (omega (arith, rest_is)))

  pub took_all : {T : Type 0} (written : T → Result Unit Failed) (found : Option T) → IfSome found (λ t. OnOk (written t) (new ≡ append_known mid (drop count all)))
      → IfSome found (λ t. OnOk (written t) (new ≡ append_known start all))
  took_all written None whole = tt
  took_all written (Some t) whole = on (written t) whole
    where
      on : (r : Result Unit Failed) → OnOk r (new ≡ append_known mid (drop count all)) → OnOk r (new ≡ append_known start all)
      on (Ok x) h = took_rest h
      on (Err e) h = h
