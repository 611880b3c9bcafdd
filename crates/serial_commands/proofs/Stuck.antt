-- Replays that stop before the end of a trace.
use Rattle.std.proofs.Common.{◌≡◌, ℕ, zero, suc, List, [], ◌∷◌, length, take, refl, sym, ◌∙◌, ap, subst}
use Rattle.std.specs.Prelude.{Option, None, Some, slice_get}
use Rattle.std.specs.Option.{option_and_then}
use Rattle.std.proofs.lemmas.Option.{none-some, same_Some}
use Rattle.core_syntax.specs.Table.{Table}
use Rattle.serial_model.specs.State.{Setup, State, opening}
use Rattle.serial_model.specs.Step.{step}
use Rattle.serial_model.specs.Replay.{replay, replay_from, IsOver}
use Rattle.serial_model.specs.declared.entry.Entry.{Entry}
use Rattle.serial_model.specs.declared.trace.Trace.{Trace}
use Rattle.command_phases.specs.declared.outcome.Outcome.{Outcome}
use Rattle.serial_commands.specs.Replayed.{IsRefusedNext}
use Rattle.serial_commands.specs.ReplayAnswers.{setup_of, Replays, Differing}

-- an entry that is not enabled after those before it leaves no replay
stuck : (setup : Setup) (from : State) (entries : List Entry) (n : ℕ) (s : State) (entry : Entry) → replay_from setup from (take n entries) ≡ Some s → slice_get entries n ≡ Some entry
    → step setup s entry ≡ None → replay_from setup from entries ≡ None
unfolding replay_from
stuck setup from [] n s entry r e none = absurd (none-some entry e)
stuck setup from (x ∷ xs) zero s entry r e none =
    let at : from ≡ s = same_Some from s r in
    let is : x ≡ entry = same_Some x entry e in
    ap (option_and_then (λ t. replay_from setup t xs)) (subst (λ f. step setup f x ≡ None) (sym at) (subst (λ y. step setup s y ≡ None) (sym is) none))
stuck setup from (x ∷ xs) (suc n) s entry r e none = on (step setup from x) r (λ t h. stuck setup t xs n s entry h e none)
  where
    on : (next : Option State) → option_and_then (λ t. replay_from setup t (take n xs)) next ≡ Some s → ((t : State) → replay_from setup t (take n xs) ≡ Some s → replay_from setup t xs ≡ None)
        → option_and_then (λ t. replay_from setup t xs) next ≡ None
    on None h rest = refl
    on (Some t) h rest = rest t h

-- where no entry is left, all are taken
all_taken : (entries : List Entry) (n : ℕ) → slice_get entries n ≡ None → take n entries ≡ entries
all_taken [] zero e = refl
all_taken [] (suc n) e = refl
all_taken (x ∷ xs) zero e = absurd (none-some x (sym e))
all_taken (x ∷ xs) (suc n) e = ap (λ l. x ∷ l) (all_taken xs n e)

-- a trace that differs doesn't replay
pub differs_never : (program : Table) (t : Trace) (outcome : Outcome) → outcome.history.items ≡ take (length outcome.history.items) t.history.items
    → Differing program t outcome → Replays program t → ⊥
differs_never program t outcome first d r = on (slice_get t.history.items (length outcome.history.items)) refl d.refused
  where
    so_far : replay (setup_of program t) (take (length outcome.history.items) t.history.items) ≡ Some d.state
    so_far = ap (replay (setup_of program t)) (sym first) ∙ d.replayed

    on : (next : Option Entry) → slice_get t.history.items (length outcome.history.items) ≡ next → IsRefusedNext (setup_of program t) d.state t next → ⊥
    on None e other =
        let same : Some d.state ≡ Some r.state =
        sym so_far ∙ ap (replay (setup_of program t)) (all_taken t.history.items (length outcome.history.items) e) ∙ r.each_is_enabled in
        other (subst (λ s. IsOver (setup_of program t) s t.end) (sym (same_Some d.state r.state same)) r.end_is_stated)
    on (Some entry) e none =
        none-some r.state (sym (stuck (setup_of program t) (opening (setup_of program t)) t.history.items (length outcome.history.items) d.state entry so_far e none) ∙ r.each_is_enabled)
