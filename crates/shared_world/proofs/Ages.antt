-- What an answer does to the attempts, and how often those of a unit are undone.
use Rattle.std.proofs.Common.{◌≡◌, ◌∙◌, ℕ, ◌+◌, ◌<◌, ◌≤◌, suc, true, false, Bool, cond, List, length, length-append, le_refl, refl, sym, ap, subst, arith, ◌⊎◌, inl, inr}
use Rattle.std.specs.Option.{option_and_then}
use Rattle.std.specs.Prelude.{Option, None, Some, ◌==◌}
use Rattle.eval_step.specs.Evaluation.{Evaluation}
use Rattle.ref_store.specs.declared.version.Version.{Version}
use Rattle.ref_store.specs.Store.{versions_of, IsAbove}
use Rattle.ref_store.specs.Version.{newest}
use Rattle.serial_model.specs.declared.entry.Entry.{Entry}
use Rattle.serial_model.specs.declared.halt.Halt.{Halt}
use Rattle.serial_model.specs.declared.halt.Halt.TheVariants as halt
use Rattle.serial_model.specs.declared.request.Request.TheVariants as request
use Rattle.serial_model.specs.Step.{next_of}
use Rattle.shared_world.proofs.Kept.{gave-keeps}
use Rattle.shared_world.proofs.Later.{gave-later}
use Rattle.shared_world.proofs.LeadsDo as led
use Rattle.shared_world.proofs.LeadsDo.{IsLed, lead-led, tentative-led}
use Rattle.shared_world.proofs.Live.{going}
use Rattle.shared_world.proofs.Versions.{all-newest, newest-above}
use Rattle.shared_world.proofs.Posting.{IsPosting, posting-rest, posting-unit, step-posting}
use Rattle.shared_world.proofs.Sending.{posted-by}
use Rattle.shared_world.proofs.Undoes.{undoes-ages, unit-without}
use Rattle.shared_world.specs.Counts as counts
use Rattle.shared_world.specs.Counts.{IsLateFor, Rests, Runs, age_of, began_on, undone_among, undone_by}
use Rattle.shared_world.specs.declared.given.Given.{Given}
use Rattle.shared_world.specs.declared.given.Given.TheVariants as given
use Rattle.shared_world.specs.Gave as gave
use Rattle.shared_world.specs.Gave.{Gave, GaveTask, GaveUnit}
use Rattle.shared_world.specs.Later.{IsLater}
use Rattle.shared_world.specs.Opening.{IsOpening}
use Rattle.shared_world.specs.Returned.{Returned, halt_of}
use Rattle.shared_world.specs.rows.Attempts.{IsWithout}
use Rattle.shared_world.specs.rows.Pieces.{EndsBy, Settles}
use Rattle.shared_world.specs.rows.Sending.{sends_in}
use Rattle.shared_world.specs.rows.Tasks as row
use Rattle.shared_world.specs.rows.Tasks.{AfterStep, EndGives, Missing, RootGives, StepGives, TaskGives, WaitsForTurn, outer_of}
use Rattle.shared_world.specs.rows.Turns.{TakesIfAllowed}
use Rattle.shared_world.specs.rows.Undoing.{Aborts, root_gone}
use Rattle.shared_world.specs.Laws.{IsTried}
use Rattle.shared_world.specs.rows.Units.{Becomes, Derefs, Finishes, ForksIfAllowed, Joins, Selves, Tries, UnitGives}
use Rattle.shared_world.specs.Seen.{done_by_root}
use Rattle.shared_world.specs.Shared.{Shared, actor_of, finished_at, is_going, ref_now, unit_state}
use Rattle.shared_world.specs.Stands.{Stands}
use Rattle.task_fork_join.proofs.Missing.{missing-none}
use Rattle.task_fork_join.specs.Attempt as attempt
use Rattle.task_fork_join.specs.Attempt.{Attempt, end_at, machine_of}
use Rattle.task_fork_join.specs.declared.stepped.Stepped.{Stepped}
use Rattle.task_fork_join.specs.declared.stepped.Stepped.TheVariants as stepped_as
use Rattle.task_fork_join.specs.declared.task.Task.{Task}
use Rattle.task_fork_join.specs.declared.task_end.TaskEnd.{TaskEnd}
use Rattle.task_fork_join.specs.declared.task_end.TaskEnd.TheVariants as end
use Rattle.task_fork_join.specs.Step.{IsStep}
use Rattle.txn_snapshot.specs.SnapshotAnswer.{snapshot_of}
use Rattle.unit_table.specs.Board.{unit_at}
use Rattle.unit_table.specs.declared.unit.Unit.{Unit}
use Rattle.value_core.proofs.NamedLaws.{named-here, named-with_named, same_name-equal, same_name-itself}
use Rattle.value_core.specs.declared.value.Value.{Value}
use Rattle.value_core.specs.Named.{Name, named, same_name, with_named}

-- no attempt is undone by the answer
abbrev Undoes-none : Given → Type 0
Undoes-none found = (u : Name) → undone_by u found ≡ 0

-- an attempt stays, or is gone
abbrev IsLeftOr : Option Attempt → Option Attempt → Type 0
IsLeftOr old new = (new ≡ old) ⊎ (new ≡ None)

-- the attempts stay; or one begins; or one that is settled goes; or one is undone, for a version above its snapshot
data Turnover (old : Shared) (found : Given) (new : Shared) : Type 0 where
  same : Undoes-none found → new.attempts ≡ old.attempts → Turnover old found new
  begun : Undoes-none found → (v : Name) (tree : Attempt) → named v old.attempts ≡ None → new.attempts ≡ with_named old.attempts v tree → tree.snapshot ≡ length old.history → Turnover old found new
  gone : Undoes-none found → (v : Name) (tree : Attempt) → named v old.attempts ≡ Some tree → tree.snapshot ≤ length old.history → IsWithout v old.attempts new.attempts → Turnover old found new
  undone : (v ref : Name) (version : ℕ) → found ≡ given.Aborted v ref version → IsLateFor old v version → named v new.attempts ≡ None → ((u : Name) → IsLeftOr (named u old.attempts) (named u new.attempts)) → ((u : Name) → age_of old u ≤ age_of new u) → Turnover old found new

-- ---- answers that undo nothing
none-by : (found other : Given) → found ≡ other → Undoes-none other → Undoes-none found
none-by found other is none u = ap (undone_by u) is ∙ none u

-- ---- the rows of a unit
settles-turn : (old base : Shared) (u : Name) (x : Unit) (after : _) (found : Given) (new : Shared) → base.attempts ≡ old.attempts → Settles base u x after found new → Turnover old found new
settles-turn old base u x after found new attempts r = same (none-by found _ r.found_is (λ w. refl)) (ap (λ (s : Shared). s.attempts) r.others ∙ attempts)

ends-turn : (old : Shared) (entry : Entry) (e : _) (found : Given) (new : Shared) → EndsBy old entry e found new → Turnover old found new
ends-turn old entry e found new r = same (none-by found _ r.found_is (λ w. refl)) (ap (λ (s : Shared). s.attempts) r.others)

module _ (old : Shared) (u : Name) (x : Unit) (found : Given) (new : Shared) where
  derefs-turn : (value : Option Value) → Derefs old u x value found new → Turnover old found new
  derefs-turn None r = absurd r
  derefs-turn (Some v) r = settles-turn old old u x _ found new refl r

  forks-turn : (body : _) (values : _) (full : Bool) → ForksIfAllowed old u x body values full found new → Turnover old found new
  forks-turn body values true r = ends-turn old _ _ found new r
  forks-turn body values false r = settles-turn old _ u x _ found new refl r.settles

  joins-turn : (future : Name) (value : Option Value) → Joins old u x future value found new → Turnover old found new
  joins-turn future None r = same (none-by found _ r.found_is (λ w. refl)) (ap (λ (s : Shared). s.attempts) r.others)
  joins-turn future (Some v) r = settles-turn old old u x _ found new refl r

  tries-turn : (body : _) (values : _) (at : _) (attempt : Option Attempt) → named u old.attempts ≡ attempt → Tries old u x body values at attempt found new → Turnover old found new
  tries-turn body values at None none r = begun (none-by found _ r.found_is (λ w. refl)) u r.tree none r.attempts r.fresh.new.snapshot_is
  tries-turn body values at (Some tree) some r = absurd r

  becomes-turn : (behaviour : _) (state : _) (at : _) (actor : Option Name) → Becomes old u x behaviour state at actor found new → Turnover old found new
  becomes-turn behaviour state at None r = ends-turn old _ _ found new r
  becomes-turn behaviour state at (Some actor) r = settles-turn old old u x _ found new refl r

  selves-turn : (at : _) (actor : Option Name) → Selves old u x at actor found new → Turnover old found new
  selves-turn at None r = ends-turn old _ _ found new r
  selves-turn at (Some actor) r = settles-turn old old u x _ found new refl r

  finishes-turn : (v : _) (actor : Option Name) → Finishes old u x v actor found new → Turnover old found new
  finishes-turn v None r = settles-turn old old u x _ found new refl r
  finishes-turn v (Some actor) r = settles-turn old _ u x _ found new refl r.settles

  unit-turn : (h : Halt) → UnitGives old u x h found new → Turnover old found new
  unit-turn (halt.Ask (request.Print text) at) r = settles-turn old _ u x _ found new refl r
  unit-turn (halt.Ask (request.NewRef v) at) r = settles-turn old _ u x _ found new refl r.settles
  unit-turn (halt.Ask (request.Deref ref) at) r = derefs-turn (ref_now old.versions ref) r
  unit-turn (halt.Ask (request.RefSet ref v) at) r = ends-turn old _ _ found new r
  unit-turn (halt.Ask (request.Fork body values) at) r = forks-turn body values (old.made == old.setup.limits.units) r
  unit-turn (halt.Ask (request.Join future) at) r = joins-turn future (finished_at old.board future) r
  unit-turn (halt.Ask (request.Dosync body values) at) r = tries-turn body values at (named u old.attempts) refl r
  unit-turn (halt.Ask (request.Spawn n args) at) r = settles-turn old _ u x _ found new refl r.settles
  unit-turn (halt.Ask (request.Send a args) at) r = settles-turn old _ u x _ found new refl r.settles
  unit-turn (halt.Ask (request.Become n args) at) r = becomes-turn n args at (actor_of x.kind) r
  unit-turn (halt.Ask request.SelfActor at) r = selves-turn at (actor_of x.kind) r
  unit-turn (halt.Value v) r = finishes-turn v (actor_of x.kind) r
  unit-turn (halt.Fault code at) r = ends-turn old _ _ found new r
  unit-turn halt.Spent r = ends-turn old _ _ found new r

-- ---- the rows of a task
-- the newest version of a ref is of an entry
newest-within : (s : Shared) → IsAbove (suc (length s.history)) s.versions → (ref : Name) (version : Version) → newest (versions_of s.versions ref) ≡ Some version → version.number ≤ length s.history
newest-within s numbers ref version is = let below = all-newest (λ v. v.number < suc (length s.history)) (versions_of s.versions ref) version (numbers ref) is in omega (arith, below)

module _ (base : Shared) (u : Name) (x : Unit) (tree : Attempt) (tried : IsTried base u x tree) (found : Given) (new : Shared) where
  abbrev there : named u base.attempts ≡ Some tree
  there = tried.attempt

  abbrev numbers : IsAbove (suc (length base.history)) base.versions
  numbers = tried.stands.numbers

  began : tree.snapshot ≤ length base.history
  began = let way = tried.stands.attempts tried.going u tree there in way.within

  aborts-turn : (ref : Name) (version : ℕ) → tree.snapshot < version → version ≤ length base.history → Aborts base u x tree ref version found new → Turnover base found new
  aborts-turn ref version above within r = undone u ref version r.found_is (record { tree = tree; attempt = there; above = above; within = within })
      (unit-without base new u x tree tried r.undoes) (λ v. left-or (root_gone r.undoes.gone (named v base.attempts)) (named v base.attempts) (named v new.attempts) (r.undoes.attempts v)) (undoes-ages base new u x tree tried r.undoes)
    where
      left-or : (c : Bool) (was now : Option Attempt) → now ≡ cond c None was → IsLeftOr was now
      left-or true was now is = inr is
      left-or false was now is = inl is

  end-turn : (e : TaskEnd) → EndGives base u x tree e found new → Turnover base found new
  end-turn (end.Value v) r = gone (none-by found _ r.found_is (λ w. refl)) u tree there began r.goes.attempts
  end-turn (end.Fault code at) r = ends-turn base _ _ found new r
  end-turn end.Spent r = ends-turn base _ _ found new r

  waits-turn : (task : Name) → WaitsForTurn base u task found new → Turnover base found new
  waits-turn task r = same (none-by found _ r.found_is (λ w. refl)) (ap (λ (s : Shared). s.attempts) r.marked.others)

  root-turn : (task : Name) (e : TaskEnd) → RootGives base u x task tree e found new → Turnover base found new
  root-turn task e (row.valid level all r) = end-turn e r
  root-turn task e (row.conflicts level r) =
      let changed = r.first.changed in
      let above = changed.above in
      let number = changed.number_is in
      let within = newest-within base numbers r.first.read changed.version changed.newest in
      aborts-turn r.ref r.conflict.version above (omega (arith, number, within)) r.aborts
  root-turn task e (row.waits r) = waits-turn task r

  missing-turn : (task ref : Name) (version : Option Version) → newest (versions_of base.versions ref) ≡ version → snapshot_of base.versions tree.snapshot ref ≡ None → Missing base u x task tree ref version found new → Turnover base found new
  missing-turn task ref None is none r = waits-turn task r
  missing-turn task ref (Some version) is none r = aborts-turn ref version.number (newest-above tree.snapshot (versions_of base.versions ref) version none is) (newest-within base numbers ref version is) r

  step-turn : (task : Name) (went : Stepped) → ((ref : Name) → went ≡ stepped_as.NotInSnapshot ref → snapshot_of base.versions tree.snapshot ref ≡ None) → StepGives base u x task tree went found new → Turnover base found new
  step-turn task stepped_as.Now missing r = same (none-by found _ r.0 (λ w. refl)) (ap (λ (s : Shared). s.attempts) r.1.others)
  step-turn task (stepped_as.Forked child) missing r = same (none-by found _ r.0 (λ w. refl)) (ap (λ (s : Shared). s.attempts) r.1.steps.others)
  step-turn task (stepped_as.WaitJoin future) missing r = same (none-by found _ r.0 (λ w. refl)) (ap (λ (s : Shared). s.attempts) r.1.others)
  step-turn task (stepped_as.NotInSnapshot ref) missing r = missing-turn task ref (newest (versions_of base.versions ref)) refl (missing ref refl) r
  step-turn task stepped_as.Finished missing r = same (none-by found _ r.0 (λ w. refl)) (ap (λ (s : Shared). s.attempts) r.1.others)

  after-turn : (task : Name) (went : Stepped) → ((ref : Name) → went ≡ stepped_as.NotInSnapshot ref → snapshot_of base.versions tree.snapshot ref ≡ None) → (ended : Option TaskEnd) → AfterStep base u x task tree went ended found new → Turnover base found new
  after-turn task went missing None r = step-turn task went missing r
  after-turn task went missing (Some e) r = root-turn task e r

-- ---- what comes of that for a unit's attempt
-- the counts, and that a version is late
pub record Ages (old : Shared) (found : Given) (new : Shared) : Type 0 where
  pub counts : (u : Name) → undone_by u found + age_of old u ≤ age_of new u
  pub bounds : ((u : Name) → age_of old u ≤ length old.history) → (u : Name) → age_of new u ≤ length new.history
  pub late : (u ref : Name) (version : ℕ) → found ≡ given.Aborted u ref version → IsLateFor old u version

-- an answer that undoes nothing says of no attempt that it is undone
none-late : (u ref : Name) (version : ℕ) (found : Given) → Undoes-none found → found ≡ given.Aborted u ref version → {X : Type 0} → X
none-late u ref version found none so = absurd (let e : 1 ≡ 0 = sym (ap (λ b. cond b 1 0) (same_name-itself u)) ∙ sym (ap (undone_by u) so) ∙ none u in omega (arith, e))

longer : (old new : Shared) → IsLater old new → length old.history ≤ length new.history
longer old new later = let long = ap length later.history ∙ length-append old.history later.more in omega (arith, long)

module _ (old new : Shared) (found : Given) (grows : length old.history ≤ length new.history) where
  -- the attempt of a unit that stays
  stays : (u : Name) → undone_by u found ≡ 0 → named u new.attempts ≡ named u old.attempts → undone_by u found + age_of old u ≤ age_of new u
  stays u none is = subst (λ (o : Option Attempt). undone_by u found + age_of old u ≤ began_on (length new.history) o) (sym is) (on (named u old.attempts))
    where
      on : (o : Option Attempt) → undone_by u found + began_on (length old.history) o ≤ began_on (length new.history) o
      on None = omega (arith, none, grows)
      on (Some tree) = omega (arith, none)

  stays-bound : (u : Name) → named u new.attempts ≡ named u old.attempts → age_of old u ≤ length old.history → age_of new u ≤ length new.history
  stays-bound u is bound = subst (λ (o : Option Attempt). began_on (length new.history) o ≤ length new.history) (sym is) (on (named u old.attempts) bound)
    where
      on : (o : Option Attempt) → began_on (length old.history) o ≤ length old.history → began_on (length new.history) o ≤ length new.history
      on None low = le_refl (length new.history)
      on (Some tree) low = omega (arith, low, grows)

  -- the attempt of a unit is gone
  goes : (v : Name) → IsWithout v old.attempts new.attempts → (count : ℕ) → count + age_of old v ≤ length old.history → (u : Name) → same_name u v ≡ true → count + age_of old u ≤ age_of new u
  goes v without count low u is =
      let here : named u new.attempts ≡ None = without u ∙ ap (λ b. cond b None (named u old.attempts)) is in
      subst (λ (o : Option Attempt). count + age_of old u ≤ began_on (length new.history) o) (sym here)
      (subst (λ n. count + age_of old n ≤ length new.history) (sym (same_name-equal u v is)) (omega (arith, low, grows)))

  without-bound : (v : Name) → IsWithout v old.attempts new.attempts → ((u : Name) → age_of old u ≤ length old.history) → (u : Name) → age_of new u ≤ length new.history
  without-bound v without bound u = on (same_name u v) refl
    where
      on : (c : Bool) → same_name u v ≡ c → age_of new u ≤ length new.history
      on true e = subst (λ (o : Option Attempt). began_on (length new.history) o ≤ length new.history) (sym (without u ∙ ap (λ b. cond b None (named u old.attempts)) e)) (le_refl (length new.history))
      on false e = stays-bound u (without u ∙ ap (λ b. cond b None (named u old.attempts)) e) (bound u)

  ages : Turnover old found new → Ages old found new
  ages (same none is) = record {
    counts = λ u. stays u (none u) (ap (named u) is);
    bounds = λ bound u. stays-bound u (ap (named u) is) (bound u);
    late = λ u ref version so. none-late u ref version found none so;
  }
  ages (begun none v tree vacant is snapshot) = record {
    counts = λ u. at u (same_name u v) refl;
    bounds = λ bound u. bounded u (bound u) (same_name u v) refl;
    late = λ u ref version so. none-late u ref version found none so;
  }
    where
      found-at : (u : Name) (c : Bool) → same_name u v ≡ c → named u new.attempts ≡ cond c (Some tree) (named u old.attempts)
      found-at u c e = ap (named u) is ∙ named-with_named u v tree old.attempts ∙ ap (λ b. cond b (Some tree) (named u old.attempts)) e

      at : (u : Name) (c : Bool) → same_name u v ≡ c → undone_by u found + age_of old u ≤ age_of new u
      at u true e =
          let before : age_of old u ≡ length old.history = ap (age_of old) (same_name-equal u v e) ∙ ap (began_on (length old.history)) vacant in
          let after : age_of new u ≡ tree.snapshot = ap (began_on (length new.history)) (found-at u true e) in
          let nothing = none u in omega (arith, before, after, snapshot, nothing)
      at u false e = stays u (none u) (found-at u false e)

      bounded : (u : Name) → age_of old u ≤ length old.history → (c : Bool) → same_name u v ≡ c → age_of new u ≤ length new.history
      bounded u low true e = let after : age_of new u ≡ tree.snapshot = ap (began_on (length new.history)) (found-at u true e) in omega (arith, after, snapshot, grows)
      bounded u low false e = stays-bound u (found-at u false e) low
  ages (gone none v tree there_was low_was without) = record {
    counts = λ u. at u (same_name u v) refl;
    bounds = λ bound u. without-bound v without bound u;
    late = λ u ref version so. none-late u ref version found none so;
  }
    where
      at : (u : Name) (c : Bool) → same_name u v ≡ c → undone_by u found + age_of old u ≤ age_of new u
      at u true e =
          let age : age_of old v ≡ tree.snapshot = ap (began_on (length old.history)) there_was in
          let low = goes v without 0 (omega (arith, age, low_was)) u e in
          let nothing = none u in omega (arith, low, nothing)
      at u false e = stays u (none u) (without u ∙ ap (λ b. cond b None (named u old.attempts)) e)
  ages (undone v ref version is late none left grown) = record {
    counts = λ u. at u (same_name u v) refl;
    bounds = λ bound u. bounded u (bound u) (left u);
    late = λ u other number so.
        let both : given.Aborted v ref version ≡ given.Aborted u other number = sym is ∙ so in
        let unit : v ≡ u = cc in
        let same : version ≡ number = cc in
        subst (λ n. IsLateFor old n number) unit (subst (λ k. IsLateFor old v k) same late);
  }
    where
      counted : (u : Name) (c : Bool) → same_name u v ≡ c → undone_by u found ≡ cond c 1 0
      counted u c e = ap (undone_by u) is ∙ ap (λ b. cond b 1 0) e

      at : (u : Name) (c : Bool) → same_name u v ≡ c → undone_by u found + age_of old u ≤ age_of new u
      at u true e =
          let is_v = same_name-equal u v e in
          let age : age_of old u ≡ late.tree.snapshot = ap (age_of old) is_v ∙ ap (began_on (length old.history)) late.attempt in
          let now : age_of new u ≡ length new.history = ap (age_of new) is_v ∙ ap (began_on (length new.history)) none in
          let above = late.above in
          let within = late.within in
          let one = counted u true e in omega (arith, age, now, above, within, grows, one)
      at u false e = let no = counted u false e in let low = grown u in omega (arith, no, low)

      bounded : (u : Name) → age_of old u ≤ length old.history → IsLeftOr (named u old.attempts) (named u new.attempts) → age_of new u ≤ length new.history
      bounded u low (inl stay) = stays-bound u stay low
      bounded u low (inr left_none) = subst (λ (o : Option Attempt). began_on (length new.history) o ≤ length new.history) (sym left_none) (le_refl (length new.history))

-- ---- a task that takes a step first
-- the attempt has moved on, and began where it did
module _ (old : Shared) (v : Name) (tree after : Attempt) (there : named v old.attempts ≡ Some tree) (same : after.snapshot ≡ tree.snapshot) where
  abbrev moved : Shared
  moved = record old { attempts = with_named old.attempts v after }

  pub same-age : (u : Name) → age_of moved u ≡ age_of old u
  same-age u = ap (began_on (length old.history)) (named-with_named u v after old.attempts) ∙ on (same_name u v) refl
    where
      on : (c : Bool) → same_name u v ≡ c → began_on (length old.history) (cond c (Some after) (named u old.attempts)) ≡ age_of old u
      on true e = same ∙ sym (ap (age_of old) (same_name-equal u v e) ∙ ap (began_on (length old.history)) there)
      on false e = refl

  same-late : (u : Name) (version : ℕ) → IsLateFor moved u version → IsLateFor old u version
  same-late u version late = on (same_name u v) refl
    where
      at : (c : Bool) → same_name u v ≡ c → cond c (Some after) (named u old.attempts) ≡ Some late.tree
      at c e = sym (ap (λ b. cond b (Some after) (named u old.attempts)) e) ∙ sym (named-with_named u v after old.attempts) ∙ late.attempt

      on : (c : Bool) → same_name u v ≡ c → IsLateFor old u version
      on true e =
          let is : after ≡ late.tree = let same_tree = at true e in cc in
          let began : late.tree.snapshot ≡ tree.snapshot = ap (λ (t : Attempt). t.snapshot) (sym is) ∙ same in
          let above = late.above in
          record { tree = tree; attempt = ap (λ n. named n old.attempts) (same_name-equal u v e) ∙ there; above = omega (arith, began, above); within = late.within }
      on false e = record { tree = late.tree; attempt = at false e; above = late.above; within = late.within }

  moved-ages : (found : Given) (new : Shared) → Ages moved found new → Ages old found new
  moved-ages found new a = record {
    counts = λ u. subst (λ n. undone_by u found + n ≤ age_of new u) (same-age u) (a.counts u);
    bounds = λ bound. a.bounds (λ u. subst (λ n. n ≤ length old.history) (sym (same-age u)) (bound u));
    late = λ u ref version so. same-late u version (a.late u ref version so);
  }

module _ (old : Shared) (st : Stands old) (on_going : old.end ≡ None) (u : Name) (x : Unit) (unit_there : unit_at old.board u ≡ Some x) (task : Name) (tree : Attempt) (there : named u old.attempts ≡ Some tree) (found : Given) (new : Shared)
    (grows : length old.history ≤ length new.history) where
  task-ages : (ended : Option TaskEnd) (machine : Option Evaluation) → machine_of tree task ≡ machine → TaskGives old u x task tree ended machine found new → Ages old found new
  task-ages None (Some machine) is r =
      let a = ages base new found grows (after-turn base u x r.by.after tried found new task r.by.went (missing (named task tree.tasks) refl) (end_at r.by.after) comes) in
      moved-ages old u tree r.by.after there r.by.step.stays.snapshot found new (record {
        counts = a.counts;
        bounds = a.bounds;
        late = λ v ref version so. let late = a.late v ref version so in record { tree = late.tree; attempt = late.attempt; above = late.above; within = late.within };
      })
    where
      base : Shared
      base = record old { attempts = with_named old.attempts u r.by.after; mails = r.mid.mails; board = r.mid.board }

      p : IsPosting old r.mid
      p = step-posting (end_at r.by.after) (named u old.aheads) old u tree.root (sends_in (done_by_root tree)) (sends_in r.by.more) r.mid r.posts

      comes : AfterStep base u x task r.by.after r.by.went (end_at r.by.after) found new
      comes = subst (λ (k : Shared). AfterStep (record k { attempts = with_named k.attempts u r.by.after }) u x task r.by.after r.by.went (end_at r.by.after) found new) (posting-rest old r.mid p) r.comes

      tried : IsTried base u x r.by.after
      tried = record {
        stands = subst (λ (k : Shared). Stands (record k { attempts = with_named k.attempts u r.by.after })) (posting-rest old r.mid p) (posted-by old st (ap is_going on_going) u task tree there machine is r.by (end_at r.by.after) (named u old.aheads) r.mid r.posts);
        going = ap is_going on_going;
        there = posting-unit old r.mid p u ∙ unit_there;
        attempt = named-here u r.by.after old.attempts;
      }

      missing : (kept : Option Task) → named task tree.tasks ≡ kept → (ref : Name) → r.by.went ≡ stepped_as.NotInSnapshot ref → snapshot_of old.versions r.by.after.snapshot ref ≡ None
      missing None none ref so = let no : None ≡ Some machine = sym (ap (option_and_then attempt.going) none) ∙ is in cc
      missing (Some kept) some ref so =
          ap (λ n. snapshot_of old.versions n ref) r.by.step.stays.snapshot
          ∙ missing-none (snapshot_of old.versions tree.snapshot) task r.by.moved (outer_of old.board (halt_of old.setup.program machine)) ref tree r.by.after kept some (halt_of old.setup.program machine)
          (subst (λ w. IsStep (snapshot_of old.versions tree.snapshot) task r.by.moved (outer_of old.board (halt_of old.setup.program machine)) (halt_of old.setup.program machine) tree r.by.after w) so r.by.step)
  task-ages None None is r = absurd r
  task-ages (Some ended) machine is r = ages old new found grows (root-turn old u x tree (record { stands = st; going = ap is_going on_going; there = unit_there; attempt = there }) found new task ended r)

takes-turn : (old : Shared) (a : Name) (actor : _) (m : _) (rest : _) (behaviour : _) (full : Bool) (found : Given) (new : Shared) → TakesIfAllowed old a actor m rest behaviour full found new → Turnover old found new
takes-turn old a actor m rest behaviour true found new r = ends-turn old _ _ found new r
takes-turn old a actor m rest behaviour false found new r = same (none-by found _ r.found_is (λ w. refl)) (ap (λ (s : Shared). s.attempts) r.others)

-- what a turn comes to that runs ahead, and where one is begun
led-turn : (old : Shared) (found : Given) (new : Shared) → IsLed old found new → Turnover old found new
led-turn old found new (led.settled entry is setup history attempts) = same (none-by found _ is (λ w. refl)) attempts
led-turn old found new (led.stays other is none not_undone setup history attempts) = same (none-by found other is not_undone) attempts
led-turn old found new (led.begun u x m body values at none r) = begun (none-by found _ r.found_is (λ w. refl)) u r.tree none r.attempts r.fresh.new.snapshot_is

pub gave-ages : (old new : Shared) (r : Returned) (found : Given) → Stands old → Gave old r found new → Ages old found new
gave-ages old new r found st g = on g (longer old new (gave-later old new r found g))
  where
    on : Gave old r found new → length old.history ≤ length new.history → Ages old found new
    on (gave.stale none is unclaimed) grows = ages old new found grows (same (none-by found _ is (λ w. refl)) (ap (λ (s : Shared). s.attempts) unclaimed.rest))
    on (gave.unit name live g) grows = ages old new found grows (unit-turn old name g.unit found new (next_of old.setup (unit_state g.unit)) g.gives)
    on (gave.task name live g) grows = task-ages old st (going old r name live) g.owner g.unit g.unit_there name g.tree g.attempt found new grows (end_at g.tree) (machine_of g.tree name) refl g.gives
    on (gave.lead name live g) grows = ages old new found grows (led-turn old found new (lead-led old name r.work found new g))
    on (gave.tentative name live g) grows = ages old new found grows (led-turn old found new (tentative-led old name found new g))
    on (gave.actor name live g) grows = ages old new found grows (takes-turn old name g.actor.state g.first g.rest g.can.behaviour (old.made == old.setup.limits.units) found new g.gives)

-- ---- a run
pub record AreCounted (first : Shared) (answers : List Given) (last : Shared) : Type 0 where
  pub stands : Stands last
  pub counts : (u : Name) → undone_among u answers + age_of first u ≤ age_of last u
  pub bounds : ((u : Name) → age_of first u ≤ length first.history) → (u : Name) → age_of last u ≤ length last.history

pub runs-counted : (first last : Shared) (answers : List Given) → Stands first → Runs first answers last → AreCounted first answers last
runs-counted first last answers st counts.begins = record { stands = st; counts = λ u. omega arith; bounds = λ bound. bound }
runs-counted first last answers st (counts.gives before mid _ result found run g) =
    let so = runs-counted first mid before st run in
    let a = gave-ages mid last result found so.stands g in
    record {
      stands = gave-keeps mid last result found so.stands g;
      counts = λ u. let low = so.counts u in let high = a.counts u in omega (arith, low, high);
      bounds = λ bound. a.bounds (so.bounds bound);
    }
runs-counted first last answers st (counts.rests before mid _ run rests) =
    let so = runs-counted first mid before st run in
    record {
      stands = rests.stands;
      counts = λ u. let low = so.counts u in let is = rests.ages u in omega (arith, low, is);
      bounds = λ bound u. let low = so.bounds bound u in let is = rests.ages u in let long = ap length rests.history in omega (arith, low, is, long);
    }

-- main alone has no attempt, and nothing is in its history
opening-ages : (setup : _) (s : Shared) → IsOpening setup s → (u : Name) → age_of s u ≡ 0
opening-ages setup s is u = ap (λ (k : Shared). age_of k u) is.rest

pub few-undone : (setup : _) (first last : Shared) (answers : List Given) → Stands first → IsOpening setup first → Runs first answers last → (u : Name) → undone_among u answers ≤ length last.history
few-undone setup first last answers st opens run u =
    let so = runs-counted first last answers st run in
    let count = so.counts u in
    let bound = so.bounds (λ w. let none = opening-ages setup first opens w in omega (arith, none)) u in
    omega (arith, count, bound)
