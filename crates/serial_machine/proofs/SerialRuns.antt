-- A run by one thread stands where its entries replay to.
use Rattle.std.proofs.Common.{◌≡◌, ◌∙◌, ◌↔◌, ℕ, suc, Bool, true, false, not, List, [], ◌∷◌, ◌++◌, refl, sym, ap, subst, Option, Some, None}
use Rattle.std.specs.Prelude.{is_some, T, IfSome, Result, Ok, Err, OnErr}
use Rattle.core_syntax.specs.Table.{Table}
use Rattle.serial_model.specs.Limits.{Budget}
use Rattle.std.specs.Option.{IsSome}
use Rattle.core_syntax.specs.WellFormed.{IsWellFormed}
use Rattle.serial_model.specs.declared.end.End.{End}
use Rattle.serial_model.specs.declared.end.End.TheVariants.{Done}
use Rattle.serial_model.specs.declared.entry.Entry.{Entry}
use Rattle.serial_model.specs.First.{first_of}
use Rattle.serial_model.specs.Replay.{replay, replay_from, IsOver, set, still}
use Rattle.value_core.specs.declared.value.Value.{Value}
use Rattle.core_syntax.specs.declared.node_id.NodeId.{NodeId}
use Rattle.value_core.specs.Named.{Name}
use Rattle.serial_model.specs.State.{Setup, State, opening, main_name, new_unit}
use Rattle.serial_model.specs.Step.{step, with_unit}
use Rattle.serial_model.proofs.runs.Firsts.{none_is_over}
use Rattle.serial_model.proofs.runs.Replays.{replay_from-step}
use Rattle.serial_model.proofs.tasks.TaskKeeps.{transactions-keep}
use Rattle.serial_machine.specs.declared.now.Now.{Now}
use Rattle.serial_machine.specs.Now.{state_after, IsNow, IsStepped}
use Rattle.serial_units.specs.Units.{AreUnits, units_of}
use Rattle.serial_machine.specs.Standing.{IsAdvanced, Stands, end_seen, if_still, if_going}
use Rattle.serial_machine.proofs.Standing.{not_ended, not_over, over_is_still}

-- ---- the end
pub seen_done : (s : State) → s.end ≡ None → true ≡ not (is_some (first_of s)) → Some Done ≡ end_seen s
seen_done s going over = on (first_of s) over ∙ sym (ap (λ e. if_going e (if_still (first_of s))) going)
  where
    on : (first : Option Entry) → true ≡ not (is_some first) → Some Done ≡ if_still first
    on None is = refl
    on (Some entry) is = absurd (subst T is tt)

pub seen_going : (s : State) → s.end ≡ None → false ≡ not (is_some (first_of s)) → None ≡ end_seen s
seen_going s going over = on (first_of s) over ∙ sym (ap (λ e. if_going e (if_still (first_of s))) going)
  where
    on : (first : Option Entry) → false ≡ not (is_some first) → None ≡ if_still first
    on None is = absurd (subst T (sym is) tt)
    on (Some entry) is = refl

pub going_first : (s : State) → false ≡ not (is_some (first_of s)) → IsSome (first_of s)
going_first s is = on (first_of s) is
  where
    on : (first : Option Entry) → false ≡ not (is_some first) → IsSome first
    on None is = absurd (subst T (sym is) tt)
    on (Some entry) is = refl

pub over_first : (s : State) → true ≡ not (is_some (first_of s)) → first_of s ≡ None
over_first s is = on (first_of s) is
  where
    on : (first : Option Entry) → true ≡ not (is_some first) → first ≡ None
    on None is = refl
    on (Some entry) is = absurd (subst T is tt)

some_same : {X : Type 0} (x y : X) → Some x ≡ Some y → x ≡ y
some_same x y e = cc

-- the end that is seen is the one with which the state is over
pub seen_is_over : (setup : Setup) → IsWellFormed setup.program → (entries : List Entry) (s : State) → replay setup entries ≡ Some s → (end : End) → IsOver setup s end ↔ (end_seen s ≡ Some end)
seen_is_over setup formed entries s replays end = (to, from s.end (first_of s) refl refl)
  where
    to_still : (first : Option Entry) → first_of s ≡ first → ((entry : Entry) → step setup s entry ≡ None) → if_still first ≡ Some Done
    to_still None is all = refl
    to_still (Some entry) is all = absurd (not_over transactions-keep setup formed entries s entry replays is Done (still (not_ended s (subst IsSome (sym is) refl)) all))

    to_any : (e : End) → IsOver setup s e → end_seen s ≡ Some e
    to_any e (set is) = ap (λ e. if_going e (if_still (first_of s))) is
    to_any e (still going all) = ap (λ e. if_going e (if_still (first_of s))) going ∙ to_still (first_of s) refl all

    to : IsOver setup s end → end_seen s ≡ Some end
    to over = to_any end over

    from : (e : Option End) (first : Option Entry) → s.end ≡ e → first_of s ≡ first → end_seen s ≡ Some end → IsOver setup s end
    from (Some e) first ended is seen = subst (IsOver setup s) (some_same e end (sym (ap (λ o. if_going o (if_still (first_of s))) ended) ∙ seen)) (set ended)
    from None None going is seen =
        subst (IsOver setup s) (some_same Done end (sym (ap (λ o. if_going o (if_still (first_of s))) going ∙ ap if_still is) ∙ seen)) (none_is_over setup s going is)
    from None (Some entry) going is seen = absurd (no_end (sym (ap (λ o. if_going o (if_still (first_of s))) going ∙ ap if_still is) ∙ seen))
      where
        no_end : None ≡ Some end → ⊥
        no_end is = cc

pub seen_none : (s : State) → (end_seen s ≡ None) ↔ IsSome (first_of s)
seen_none s = (to s.end (first_of s) refl refl, from)
  where
    to : (e : Option End) (first : Option Entry) → s.end ≡ e → first_of s ≡ first → end_seen s ≡ None → IsSome (first_of s)
    to (Some e) first ended is seen = let same : Some e ≡ None = sym (ap (λ o. if_going o (if_still (first_of s))) ended) ∙ seen in cc
    to None None going is seen = let same : Some Done ≡ None = sym (ap (λ o. if_going o (if_still (first_of s))) going ∙ ap if_still is) ∙ seen in cc
    to None (Some entry) going is seen = subst IsSome (sym is) refl

    still_none : (first : Option Entry) → IsSome first → if_still first ≡ None
    still_none None some = cc
    still_none (Some entry) some = refl

    from : IsSome (first_of s) → end_seen s ≡ None
    from some = ap (λ o. if_going o (if_still (first_of s))) (not_ended s some) ∙ still_none (first_of s) some

-- a state that is over is not one with an entry left
pub not_over_any : (setup : Setup) → IsWellFormed setup.program → (entries : List Entry) (s : State) → replay setup entries ≡ Some s → IsSome (first_of s) → (end : End) → IsOver setup s end ↔ (None ≡ Some end)
not_over_any setup formed entries s replays some end = ((λ over. sym ((seen_none s).1 some) ∙ (seen_is_over setup formed entries s replays end).0 over), λ none. cc)

pub if_some : {X : Type 0} (o : Option X) (P : X → Type 0) (x : X) → o ≡ Some x → P x → IfSome o P
if_some o P x is p = subst (λ o. IfSome o P) (sym is) p

pub is_some_of : {X : Type 0} (o : Option X) (x : X) → o ≡ Some x → IsSome o
is_some_of o x is = subst IsSome (sym is) refl

-- ---- entries
-- an entry that is enabled goes on from where the run stands
pub stands_on : (setup : Setup) (entries after : List Entry) (output bytes : List ℕ) (ending : End) (now next : Now) (s : State) (entry : Entry) → IsWellFormed setup.program → replay setup entries ≡ Some s → ending ≡ Done
    → IsAdvanced setup s entry entries after output bytes next (step setup s entry) true → Stands setup after bytes ending (Some next)
stands_on setup entries after output bytes ending now next s entry formed replays done_is advanced = on (step setup s entry) refl advanced
  where
    on : (o : Option State) → step setup s entry ≡ o → IsAdvanced setup s entry entries after output bytes next o true → Stands setup after bytes ending (Some next)
    on None is advanced = absurd advanced
    on (Some t) is advanced = record {
      formed = formed;
      state = t;
      replays = ap (replay setup) advanced.0 ∙ replay_from-step setup (opening setup) s t entries entry replays is;
      bytes = advanced.1;
      done_is = done_is;
      at = (advanced.2, advanced.3);
    }

pub stands_still : (setup : Setup) (entries after : List Entry) (output bytes : List ℕ) (ending : End) (next : Now) (s : State) (entry : Entry) → IsWellFormed setup.program → replay setup entries ≡ Some s → s.bytes ≡ output → ending ≡ Done
    → IsAdvanced setup s entry entries after output bytes next (step setup s entry) false → Stands setup after bytes ending (Some next) × (step setup s entry ≡ None)
stands_still setup entries after output bytes ending next s entry formed replays printed done_is advanced = on (step setup s entry) refl advanced
  where
    on : (o : Option State) → step setup s entry ≡ o → IsAdvanced setup s entry entries after output bytes next o false → Stands setup after bytes ending (Some next) × (step setup s entry ≡ None)
    on None is advanced = (
      record {
        formed = formed;
        state = s;
        replays = ap (replay setup) advanced.0 ∙ replays;
        bytes = printed ∙ sym advanced.1;
        done_is = done_is;
        at = (advanced.2, advanced.3);
      },
      is,
    )
    on (Some t) is advanced = absurd advanced

-- the entry is ending, and its bytes are handed out
pub advanced_on : (setup : Setup) (s : State) (entry : Entry) (entries after : List Entry) (output bytes : List ℕ) (ran next : Now) → IsStepped setup output ran s (step setup s entry) true
    → after ≡ entries ++ entry ∷ [] → bytes ≡ output ++ ran.text.items → next.text.items ≡ [] → ((t : State) → IsNow setup output ran t → IsNow setup (output ++ ran.text.items) next t)
    → IsAdvanced setup s entry entries after output bytes next (step setup s entry) true
advanced_on setup s entry entries after output bytes ran next stepped pushed handed empty moved = on (step setup s entry) stepped
  where
    on : (o : Option State) → IsStepped setup output ran s o true → IsAdvanced setup s entry entries after output bytes next o true
    on None stepped = absurd stepped
    on (Some t) stepped = (pushed, sym (ap (λ (s : State). s.bytes) stepped.is) ∙ sym handed, subst (λ b. IsNow setup b next t) (sym handed) (moved t stepped), empty)

append-none : (xs ys : List ℕ) → xs ++ ys ≡ xs → ys ≡ []
append-none [] ys is = is
append-none (x ∷ xs) ys is = append-none xs ys (tail_same is)
  where
    tail_same : x ∷ (xs ++ ys) ≡ x ∷ xs → xs ++ ys ≡ xs
    tail_same is = cc

-- nothing is ending
pub advanced_still : (setup : Setup) (s : State) (entry : Entry) (entries after : List Entry) (output bytes : List ℕ) (next : Now) → IsStepped setup output next s (step setup s entry) false
    → after ≡ entries → bytes ≡ output → s.bytes ≡ output → IsAdvanced setup s entry entries after output bytes next (step setup s entry) false
advanced_still setup s entry entries after output bytes next stepped same_entries same_bytes printed = on (step setup s entry) stepped
  where
    on : (o : Option State) → IsStepped setup output next s o false → IsAdvanced setup s entry entries after output bytes next o false
    on None stepped = (
      same_entries,
      same_bytes,
      subst (λ b. IsNow setup b next s) (sym same_bytes) stepped,
      append-none output next.text.items (ap (λ (s : State). s.bytes) stepped.is ∙ printed),
    )
    on (Some t) stepped = absurd stepped

-- the run is over, so nothing is enabled
pub advanced_over : (setup : Setup) (s : State) (entry : Entry) (entries : List Entry) (output : List ℕ) (now : Now) → first_of s ≡ None → IsNow setup output now s → now.text.items ≡ []
    → IsAdvanced setup s entry entries entries output output now (step setup s entry) false
advanced_over setup s entry entries output now none at empty =
    subst (λ o. IsAdvanced setup s entry entries entries output output now o false) (sym (over_is_still setup s entry none)) (refl, refl, at, empty)

-- the state of a run is that of where it stands
pub first_at : (setup : Setup) (before : List ℕ) (now : Now) (s : State) → IsNow setup before now s → first_of (state_after before now) ≡ first_of s
first_at setup before now s at = ap first_of at.is

pub opening_replays : (setup : Setup) → replay setup [] ≡ Some (opening setup)
unfolding replay_from
opening_replays setup = refl

-- what is seen of the end
pub seen_over : (setup : Setup) → IsWellFormed setup.program → (entries : List Entry) (s : State) → replay setup entries ≡ Some s → (seen : Option End) → seen ≡ end_seen s → (end : End)
    → IsOver setup s end ↔ (seen ≡ Some end)
seen_over setup formed entries s replays seen is end =
    let both = seen_is_over setup formed entries s replays end in
    ((λ over. is ∙ both.0 over), (λ same. both.1 (sym is ∙ same)))

pub seen_first : (s : State) (seen : Option End) → seen ≡ end_seen s → (seen ≡ None) ↔ IsSome (first_of s)
seen_first s seen is =
    let both = seen_none s in
    ((λ none. both.0 (sym is ∙ none)), (λ some. is ∙ both.1 some))

-- a run begins at the opening
pub opens : (setup : Setup) (old new : Now) (name : Name) (body : NodeId) (values : List Value) → old.refs.entries ≡ [] → old.units ≡ [] → old.actors.entries ≡ [] → old.queues ≡ [] → old.text.items ≡ []
    → old.made ≡ 0 → old.end ≡ None → name ≡ main_name → body ≡ setup.program.main → values ≡ []
    → ((before : List ℕ) (s : State) → IsNow setup before old s → IsNow setup before new (with_unit (record s { made = suc s.made }) name (new_unit None body values)))
    → IsNow setup [] new (opening setup)
opens setup old new name body values refs units actors queues text made none is_main is_body no_values comes =
    subst (λ n. IsNow setup [] new (begun n setup.program.main [])) is_main
    (subst (λ b. IsNow setup [] new (begun name b [])) is_body
    (subst (λ vs. IsNow setup [] new (begun name body vs)) no_values (comes [] start (record { is = at; units = subst (AreUnits setup) (sym units) no_units }))))
  where
    start : State
    start = record { refs = []; units = []; actors = []; queues = []; bytes = []; made = 0; end = None }

    begun : Name → NodeId → List Value → State
    begun n b vs = with_unit (record start { made = 1 }) n (new_unit None b vs)

    at : state_after [] old ≡ start
    at = λ i. record { refs = refs i; units = units_of (units i); actors = actors i; queues = queues i; bytes = text i; made = made i; end = none i }

    no_units : AreUnits setup []
    no_units = λ name unit is. cc

-- no bytes were printed at the opening
pub opens_empty : (setup : Setup) (now : Now) → IsNow setup [] now (opening setup) → now.text.items ≡ []
opens_empty setup now at = ap (λ (s : State). s.bytes) at.is

pub opens_there : (setup : Setup) (now : Now) (history : List Entry) (output : List ℕ) → IsWellFormed setup.program → IsNow setup [] now (opening setup) → now.text.items ≡ [] → history ≡ [] → output ≡ []
    → Stands setup history output Done (Some now)
opens_there setup now history output formed at empty no_entries no_bytes = record {
  formed = formed;
  state = opening setup;
  replays = ap (replay setup) no_entries ∙ opening_replays setup;
  bytes = sym no_bytes;
  done_is = refl;
  at = (subst (λ b. IsNow setup b now (opening setup)) (sym no_bytes) at, empty);
}

-- ---- steps
pub on_err_of : {A E : Type 0} (r : Result A E) (P : Type 0) → P → OnErr r P
on_err_of (Ok v) P p = tt
on_err_of (Err e) P p = p

module _ (program0 program : Table) (limits : Budget) (same : program0 ≡ program) where
  abbrev setup : Setup
  setup = record { program = program; limits = limits }

  -- the run's units are those of the program that is read
  pub units_read : (history : List Entry) (output : List ℕ) (ending : End) (now : Now) → Stands (record { program = program; limits = limits }) history output ending (Some now)
      → AreUnits (record { program = program0; limits = limits }) now.units
  units_read history output ending now stands = subst (λ p. AreUnits (record { program = p; limits = limits }) now.units) (sym same) stands.at.0.units

  pub form_read : IsWellFormed program → IsWellFormed program0
  form_read formed = subst IsWellFormed (sym same) formed

  -- an entry that was ending
  pub step_done : (history after : List Entry) (output bytes : List ℕ) (ending : End) (now next : Now) (entry : Entry) (b : Bool) → b ≡ true → Stands (record { program = program; limits = limits }) history output ending (Some now)
      → ((s : State) → IsNow (record { program = program0; limits = limits }) output now s → now.text.items ≡ [] → s.bytes ≡ output
      → IsAdvanced (record { program = program0; limits = limits }) s entry history after output bytes next (step (record { program = program0; limits = limits }) s entry) b)
      → Stands (record { program = program; limits = limits }) after bytes ending (Some next) × (after ≡ history ++ entry ∷ [])
  step_done history after output bytes ending now next entry b is stands advanced =
      let it : IsAdvanced setup stands.state entry history after output bytes next (step setup stands.state entry) true =
      subst (λ b. IsAdvanced setup stands.state entry history after output bytes next (step setup stands.state entry) b) is
      (subst (λ p. IsAdvanced (record { program = p; limits = limits }) stands.state entry history after output bytes next (step (record { program = p; limits = limits }) stands.state entry) b) same
      (advanced stands.state (subst (λ p. IsNow (record { program = p; limits = limits }) output now stands.state) (sym same) stands.at.0) stands.at.1 stands.bytes)) in
      (stands_on setup history after output bytes ending now next stands.state entry stands.formed stands.replays stands.done_is it, pushed (step setup stands.state entry) it)
    where
      pushed : (o : Option State) → IsAdvanced setup stands.state entry history after output bytes next o true → after ≡ history ++ entry ∷ []
      pushed None it = absurd it
      pushed (Some t) it = it.0

  -- an entry that was not enabled
  pub step_refused : (history after : List Entry) (output bytes : List ℕ) (ending : End) (now next : Now) (entry : Entry) (b : Bool) → b ≡ false → Stands (record { program = program; limits = limits }) history output ending (Some now)
      → ((s : State) → IsNow (record { program = program0; limits = limits }) output now s → now.text.items ≡ [] → s.bytes ≡ output
      → IsAdvanced (record { program = program0; limits = limits }) s entry history after output bytes next (step (record { program = program0; limits = limits }) s entry) b)
      → Stands (record { program = program; limits = limits }) after bytes ending (Some next) × (after ≡ history)
      × IfSome (replay (record { program = program; limits = limits }) history) (λ s. step (record { program = program; limits = limits }) s entry ≡ None)
  step_refused history after output bytes ending now next entry b is stands advanced =
      let it : IsAdvanced setup stands.state entry history after output bytes next (step setup stands.state entry) false =
      subst (λ b. IsAdvanced setup stands.state entry history after output bytes next (step setup stands.state entry) b) is
      (subst (λ p. IsAdvanced (record { program = p; limits = limits }) stands.state entry history after output bytes next (step (record { program = p; limits = limits }) stands.state entry) b) same
      (advanced stands.state (subst (λ p. IsNow (record { program = p; limits = limits }) output now stands.state) (sym same) stands.at.0) stands.at.1 stands.bytes)) in
      let still = stands_still setup history after output bytes ending next stands.state entry stands.formed stands.replays stands.bytes stands.done_is it in
      (still.0, kept (step setup stands.state entry) it, if_some (replay setup history) (λ s. step setup s entry ≡ None) stands.state stands.replays still.1)
    where
      kept : (o : Option State) → IsAdvanced setup stands.state entry history after output bytes next o false → after ≡ history
      kept None it = it.0
      kept (Some t) it = absurd it

-- no memory: the run is nowhere
pub step_failed : (setup : Setup) (history after : List Entry) (output bytes : List ℕ) (ending : End) (now : Now) → Stands setup history output ending (Some now)
    → ((before : List ℕ) → IsSome (first_of (state_after before now))) → after ≡ history → bytes ≡ output → Stands setup after bytes ending None
step_failed setup history after output bytes ending now stands going same_entries same_bytes = record {
  formed = stands.formed;
  state = stands.state;
  replays = ap (replay setup) same_entries ∙ stands.replays;
  bytes = stands.bytes ∙ sym same_bytes;
  done_is = stands.done_is;
  at = subst (λ (s : State). IsSome (first_of s)) stands.at.0.is (going output);
}

pub stands_replays : (setup : Setup) (history : List Entry) (output : List ℕ) (ending : End) (place : Option Now) → Stands setup history output ending place → IsSome (replay setup history)
stands_replays setup history output ending place stands = is_some_of (replay setup history) stands.state stands.replays
