-- The tasks of a tree, as one of them takes a step.
use Rattle.std.proofs.Common.{◌≡◌, ◌∙◌, ◌⊎◌, inl, inr, ℕ, zero, suc, ◌+◌, ◌<◌, ◌≤◌, Bool, true, false, cond, List, [], ◌∷◌, ◌++◌, append_assoc, length, length-append, refl, sym, ap, subst, Option, Some, None, arith}
use Rattle.std.specs.Prelude.{◌||◌, is_some}
use Rattle.value_core.specs.Place.{Spot}
use Rattle.value_core.specs.declared.value.Value.{Value as Datum}
use Rattle.value_core.specs.declared.value.Value.TheVariants as value
use Rattle.core_syntax.specs.declared.node_id.NodeId.{NodeId}
use Rattle.serial_model.specs.declared.answer.Answer.{Answer}
use Rattle.serial_model.specs.declared.answer.Answer.TheVariants as answer
use Rattle.serial_model.specs.declared.halt.Halt.{Halt}
use Rattle.serial_model.specs.declared.halt.Halt.TheVariants as halt
use Rattle.serial_model.specs.declared.request.Request.{Request}
use Rattle.serial_model.specs.declared.request.Request.TheVariants as request
use Rattle.serial_model.specs.Eval.{next}
use Rattle.serial_model.specs.Log.{Log, new_log, with_made}
use Rattle.value_core.specs.Named.{Name, Named, named, made_by, is_among, over, same_name, with_named}
use Rattle.serial_model.specs.Task.{Around, Call, Here, Known, Nothing, And, Outcome, Result, forks, task, root_task}
use Rattle.serial_model.specs.Task.{with_child as joined_child}
use Rattle.serial_model.proofs.Early.{Branch, branch, not-below-itself}
use Rattle.serial_model.proofs.Early as early
use Rattle.value_core.proofs.NamedLaws.{Each, each-put, found_apart, found_first, named-first, named-with_named, same_name-equal, same_name-itself, same_or_not}
use Rattle.serial_model.specs.Standing.{Stage, Going, Closing, Comes, Ended, TreeTask, Tasks, Turning, IsAt, IsFormed, AreFormed, EachTask, Matches, Start, StandFor, Agrees, Runs, is_there, here_of, result, call_below}
use Rattle.serial_model.proofs.standing.KnownTasks.{matches_one, matches_same, matches_still}
use Rattle.serial_model.proofs.standing.Turns.{task_is_turns}
use Rattle.serial_model.proofs.standing.Requests.{task_at, moved_to}

-- ---- what is there
pub there-put : (q k : Name) (t : TreeTask) (tasks : Tasks) → is_there (with_named tasks k t) q ≡ (same_name q k || is_there tasks q)
there-put q k t tasks = ap is_some (named-with_named q k t tasks) ∙ on (same_name q k)
  where
    on : (b : Bool) → is_some (cond b (Some t) (named q tasks)) ≡ (b || is_there tasks q)
    on true = refl
    on false = refl

pub there-found : (k : Name) (t : TreeTask) (tasks : Tasks) → named k tasks ≡ Some t → is_there tasks k ≡ true
there-found k t tasks is = ap is_some is

pub there-replace : (k : Name) (t : TreeTask) (tasks : Tasks) → is_there tasks k ≡ true → (q : Name) → is_there (with_named tasks k t) q ≡ is_there tasks q
there-replace k t tasks there q = there-put q k t tasks ∙ on (same_name q k) refl
  where
    on : (b : Bool) → same_name q k ≡ b → (b || is_there tasks q) ≡ is_there tasks q
    on true same = sym (ap (is_there tasks) (same_name-equal q k same) ∙ there)
    on false same = refl

pub formed-by : (there others : Name → Bool) → ((q : Name) → others q ≡ there q) → (name : Name) (t : TreeTask) → IsFormed there name t → IsFormed others name t
formed-by there others same name t is = record {
  named_so = is.named_so;
  knows_there = λ future among. same future ∙ is.knows_there future among;
  unmade = λ k rest later. same (name ++ k ∷ rest) ∙ is.unmade k rest later;
}

-- a task keeps its name and what it has made, and knows tasks of the tree
pub record Keeps (tasks : Tasks) (old new : TreeTask) : Type 0 where
  pub named_so : new.log.name ≡ old.log.name
  pub made : old.log.made ≤ new.log.made
  pub knows_there : (future : Name) → is_among future new.knows ≡ true → is_there tasks future ≡ true

pub formed-change : (tasks : Tasks) (name : Name) (old new : TreeTask) → AreFormed tasks → named name tasks ≡ Some old → Keeps tasks old new → AreFormed (with_named tasks name new)
formed-change tasks name old new formed is keeps =
    let there = there-replace name new tasks (there-found name old tasks is) in
    each-put (IsFormed (is_there (with_named tasks name new))) name new tasks
    (λ q t at. formed-by (is_there tasks) (is_there (with_named tasks name new)) there q t (formed q t at))
    (formed-by (is_there tasks) (is_there (with_named tasks name new)) there name new (
    let was = formed name old is in
    record {
      named_so = keeps.named_so ∙ was.named_so;
      knows_there = keeps.knows_there;
      unmade = λ k rest later. was.unmade k rest (let made = keeps.made in omega arith);
    }))

-- all names that were read before are read
abbrev pub ReadsOf : List Name → List Name → Type 0
ReadsOf reads more = (ref : Name) → is_among ref reads ≡ true → is_among ref more ≡ true

pub agrees-less : (start : Start) (base : Name → Option Datum) (reads more : List Name) (finished : Name → Option Datum) (around : Around) → ReadsOf reads more
    → Agrees start base more finished around → Agrees start base reads finished around
agrees-less start base reads more finished around all is = record {
  program = is.program;
  fuel = is.fuel;
  actor = is.actor;
  store = λ ref among. is.store ref (all ref among);
  finished_so = is.finished_so;
}

-- A step of one task, that forks none: where the task stands whatever the results of all calls are, the tasks run the same transaction.
pub changed : (start : Start) (base : Name → Option Datum) (finished : Name → Option Datum) (tasks : Tasks) (reads more : List Name) (name : Name) (old new : TreeTask)
    → Runs start base finished tasks reads → named name tasks ≡ Some old → ReadsOf reads more → Keeps tasks old new
    → ((around : Around) → Agrees start base more finished around → (results : Name → Result) → EachTask (IsAt around results) tasks → IsAt around results name old → IsAt around results name new)
    → Runs start base finished (with_named tasks name new) more
changed start base finished tasks reads more name old new run is all keeps step = record {
  formed = formed-change tasks name old new run.formed is keeps;
  rooted = there-replace name new tasks (there-found name old tasks is) start.name ∙ run.rooted;
  stand = λ around agrees.
      let stand = run.stand around (agrees-less start base reads more finished around all agrees) in
      record {
        results = stand.results;
        at = each-put (IsAt around stand.results) name new tasks stand.at (step around agrees stand.results stand.at (stand.at name old is));
        root = stand.root;
      };
}

-- ---- a fork
pub at-still : (around : Around) (results others : Name → Result) (name : Name) (t : TreeTask) → ((g : Name) → is_among g t.knows ≡ true → others g ≡ results g) → others name ≡ results name
    → IsAt around results name t → IsAt around others name t
at-still around results others name t same here is = record {
  known = is.known;
  matches = matches_still results others t.knows is.known same is.matches;
  comes = subst (Comes around t.levels t.view t.log is.known t.stage) (sym here) is.comes;
}

-- what a task has yet to make is none of what is there
module _ (tasks : Tasks) (formed : AreFormed tasks) (name : Name) (t : TreeTask) (is : named name tasks ≡ Some t) where
  abbrev made_next : Name
  made_next = name ++ t.log.made ∷ []

  not_there : (rest : List ℕ) → is_there tasks (name ++ t.log.made ∷ rest) ≡ false
  not_there rest = (formed name t is).unmade t.log.made rest (omega arith)

  apart_there : (q : Name) → is_there tasks q ≡ true → same_name q made_next ≡ false
  apart_there q there = on (same_name q made_next) refl
    where
      on : (b : Bool) → same_name q made_next ≡ b → same_name q made_next ≡ false
      on true same = let none = not_there [] in let also = ap (is_there tasks) (same_name-equal q made_next same) in absurd (cc)
      on false same = same

  apart_of : (q : Name) → ¬ (q ≡ made_next) → same_name q made_next ≡ false
  apart_of q apart = on (same_name q made_next) refl
    where
      on : (b : Bool) → same_name q made_next ≡ b → same_name q made_next ≡ false
      on true same = absurd (apart (same_name-equal q made_next same))
      on false same = same

  -- what another task has yet to make is not this
  other_makes : (q : Name) (s : TreeTask) → named q tasks ≡ Some s → (k : ℕ) (rest : List ℕ) → s.log.made ≤ k → ¬ (q ≡ name) → ¬ (q ++ k ∷ rest ≡ made_next)
  other_makes q s at k rest later other same = on (branch q k rest name t.log.made [] same)
    where
      on : ¬ Branch q k name t.log.made
      on (early.Here here number) = other here
      on (early.Under r below) = let one = there-found q s tasks at in let none = not_there r in let also = ap (is_there tasks) below in absurd (cc)
      on (early.Above r below) = let one = there-found name t tasks is in let none = (formed q s at).unmade k r later in let also = ap (is_there tasks) below in absurd (cc)

  -- what it has yet to make after that is not this
  later_makes : (k : ℕ) (rest : List ℕ) → t.log.made + 1 ≤ k → ¬ (name ++ k ∷ rest ≡ made_next)
  later_makes k rest later same = on (branch name k rest name t.log.made [] same)
    where
      on : ¬ Branch name k name t.log.made
      on (early.Here here number) = absurd (let e = number in omega arith)
      on (early.Under r below) = not-below-itself name t.log.made r below
      on (early.Above r below) = not-below-itself name k r below

  -- ---- the fork of a child
  module _ (levels : ℕ) (view : Named Datum) (knows : List Name) (log : Log) (body : NodeId) (values : List Datum) (answers : List Answer)
      (is_so : t ≡ task_at (suc levels) view knows log (Going body values answers)) (child_body : NodeId) (child_values : List Datum) (more : List Name)
      (all : (g : Name) → is_among g more ≡ (same_name made_next g || is_among g knows)) (child_knows : List Name) (as_much : (g : Name) → is_among g child_knows ≡ is_among g knows) where
    abbrev child : TreeTask
    child = task_at levels (over log.writes view) child_knows (new_log made_next) (Going child_body child_values [])

    abbrev parent : TreeTask
    parent = task_at (suc levels) view more (with_made log) (Going body values (answers ++ answer.Value (value.Future made_next) ∷ []))

    abbrev with_child : Tasks
    with_child = with_named tasks made_next child

    abbrev forked : Tasks
    forked = with_named with_child name parent

    forked_there : (q : Name) → is_there forked q ≡ (same_name q made_next || is_there tasks q)
    forked_there q = there-replace name parent with_child (there-put name made_next child tasks ∙ ap (λ b. same_name name made_next || b) (there-found name t tasks is) ∙ truly (same_name name made_next)) q
        ∙ there-put q made_next child tasks
      where
        truly : (b : Bool) → (b || true) ≡ true
        truly true = refl
        truly false = refl

    still_there : (q : Name) → is_there tasks q ≡ true → is_there forked q ≡ true
    still_there q there = forked_there q ∙ ap (λ b. same_name q made_next || b) there ∙ truly (same_name q made_next)
      where
        truly : (b : Bool) → (b || true) ≡ true
        truly true = refl
        truly false = refl

    still_not : (q : Name) → ¬ (q ≡ made_next) → is_there tasks q ≡ false → is_there forked q ≡ false
    still_not q apart none = forked_there q ∙ ap (λ b. b || is_there tasks q) (apart_of q apart) ∙ none

    knew : (g : Name) → is_among g knows ≡ true → is_there tasks g ≡ true
    knew g among = subst (λ (s : TreeTask). (f : Name) → is_among f s.knows ≡ true → is_there tasks f ≡ true) is_so (formed name t is).knows_there g among

    made_is : t.log.made ≡ log.made
    made_is = ap (λ (s : TreeTask). s.log.made) is_so

    name_is : log.name ≡ name
    name_is = sym (ap (λ (s : TreeTask). s.log.name) is_so) ∙ (formed name t is).named_so

    parent_formed : IsFormed (is_there forked) name parent
    parent_formed = record {
      named_so = name_is;
      knows_there = knows_one;
      unmade = λ k rest later. let e = made_is in still_not (name ++ k ∷ rest) (later_makes k rest (omega arith)) ((formed name t is).unmade k rest (omega arith));
    }
      where
        knows_one : (g : Name) → is_among g more ≡ true → is_there forked g ≡ true
        knows_one g among = on (same_name made_next g) refl (sym (all g) ∙ among)
          where
            on : (b : Bool) → same_name made_next g ≡ b → (b || is_among g knows) ≡ true → is_there forked g ≡ true
            on true same known =
                forked_there g ∙ ap (λ b. b || is_there tasks g) (ap (λ n. same_name n made_next) (sym (same_name-equal made_next g same)) ∙ same_name-itself made_next)
            on false same known = still_there g (knew g known)

    child_formed : IsFormed (is_there forked) made_next child
    child_formed = record {
      named_so = refl;
      knows_there = λ g among. still_there g (knew g (sym (as_much g) ∙ among));
      unmade = λ k rest later.
          still_not (made_next ++ k ∷ rest) (λ same. not-below-itself made_next k rest (sym same)) (ap (is_there tasks) (append_assoc name (t.log.made ∷ []) (k ∷ rest)) ∙ not_there (k ∷ rest));
    }

    forked-formed : AreFormed forked
    forked-formed q s at = on (found_apart q name parent s with_child at)
      where
        old : ¬ (q ≡ name) → ((q ≡ made_next) × (s ≡ child)) ⊎ (named q tasks ≡ Some s) → IsFormed (is_there forked) q s
        old other (inl new) = subst (λ n. IsFormed (is_there forked) n s) (sym new.0) (subst (IsFormed (is_there forked) made_next) (sym new.1) child_formed)
        old other (inr there) = let was = formed q s there in record {
          named_so = was.named_so;
          knows_there = λ g among. still_there g (was.knows_there g among);
          unmade = λ k rest later. still_not (q ++ k ∷ rest) (other_makes q s there k rest later other) (was.unmade k rest later);
        }

        found_old : named q with_child ≡ Some s → ((q ≡ made_next) × (s ≡ child)) ⊎ (named q tasks ≡ Some s)
        found_old found = left (found_apart q made_next child s tasks found)
          where
            left : ((q ≡ made_next) × (s ≡ child)) ⊎ (¬ (q ≡ made_next) × (named q tasks ≡ Some s)) → ((q ≡ made_next) × (s ≡ child)) ⊎ (named q tasks ≡ Some s)
            left (inl new) = inl new
            left (inr there) = inr there.1

        on : ((q ≡ name) × (s ≡ parent)) ⊎ (¬ (q ≡ name) × (named q with_child ≡ Some s)) → IsFormed (is_there forked) q s
        on (inl here) = subst (λ n. IsFormed (is_there forked) n s) (sym here.0) (subst (IsFormed (is_there forked) name) (sym here.1) parent_formed)
        on (inr there) = old there.0 (found_old there.1)

    module _ (around : Around) (results : Name → Result) (each : EachTask (IsAt around results) tasks) (at : Spot)
        (asking : next around.program body values true answers around.fuel ≡ halt.Ask (request.Fork child_body child_values) at) where
      was_at : IsAt around results name (task_at (suc levels) view knows log (Going body values answers))
      was_at = subst (IsAt around results name) is_so (each name t is)

      -- the child's own call
      abbrev its_result : Result
      its_result = task around levels made_next child_body child_values (over log.writes view) was_at.known

      abbrev with_its : Name → Result
      with_its q = cond (same_name q made_next) its_result (results q)

      same_there : (q : Name) → is_there tasks q ≡ true → with_its q ≡ results q
      same_there q there = ap (λ b. cond b its_result (results q)) (apart_there q there)

      of_child : with_its made_next ≡ its_result
      of_child = ap (λ b. cond b its_result (results made_next)) (same_name-itself made_next)

      child_at : IsAt around with_its made_next child
      child_at = record {
        known = was_at.known;
        matches = matches_same with_its knows child_knows was_at.known as_much (matches_still results with_its knows was_at.known (λ g among. same_there g (knew g among)) was_at.matches);
        comes = record {
          left = around.fuel;
          within = omega arith;
          rest = sym (task_is_turns around levels made_next child_body child_values (over log.writes view) was_at.known) ∙ sym of_child;
        };
      }

      parent_at : IsAt around with_its name parent
      unfolding was_at at-still
      parent_at =
          let still : IsAt around with_its name (task_at (suc levels) view knows log (Going body values answers)) =
          at-still around results with_its name (task_at (suc levels) view knows log (Going body values answers)) (λ g among. same_there g (knew g among)) (same_there name (there-found name t tasks is)) was_at in
          moved_to around with_its name (suc levels) view knows log body values answers still (request.Fork child_body child_values) at more (with_made log) (answer.Value (value.Future made_next)) asking
          (And made_next its_result.outcome its_result.log its_result.known was_at.known)
          (matches_one with_its knows more was_at.known made_next its_result all of_child still.matches)
          (ap (λ n. joined_child (here_of answers log was_at.known) n (task around levels n child_body child_values (over log.writes view) was_at.known)) (sym next_is))
        where
          next_is : made_next ≡ made_by log.name log.made
          next_is = ap (λ n. n ++ t.log.made ∷ []) (sym name_is) ∙ ap (λ k. log.name ++ k ∷ []) made_is

      forked-at : EachTask (IsAt around with_its) forked
      forked-at = each-put (IsAt around with_its) name parent with_child
          (each-put (IsAt around with_its) made_next child tasks
          (λ q s there. at-still around results with_its q s (λ g among. same_there g ((formed q s there).knows_there g among)) (same_there q (there-found q s tasks there)) (each q s there)) child_at)
          parent_at

    -- a fork keeps that the tasks run their transaction
    pub forks-run : (start : Start) (base : Name → Option Datum) (finished : Name → Option Datum) (reads : List Name) (at : Spot) → Runs start base finished tasks reads
        → next start.program body values true answers start.fuel ≡ halt.Ask (request.Fork child_body child_values) at
        → Runs start base finished forked reads
    forks-run start base finished reads at run asking = record {
      formed = forked-formed;
      rooted = still_there start.name run.rooted;
      stand = λ around agrees.
          let stand = run.stand around agrees in
          let so : next around.program body values true answers around.fuel ≡ halt.Ask (request.Fork child_body child_values) at =
          ap (λ p. next p body values true answers around.fuel) agrees.program ∙ ap (λ f. next start.program body values true answers f) agrees.fuel ∙ asking in
          record {
            results = with_its around stand.results stand.at at so;
            at = forked-at around stand.results stand.at at so;
            root = same_there around stand.results stand.at at so start.name run.rooted ∙ stand.root;
          };
    }

-- ---- the beginning
abbrev pub root_of : Start → TreeTask
root_of start = task_at 16 [] [] (new_log start.name) (Going start.body start.values [])

-- ---- the end
-- where the root ended, so does the transaction with whatever agrees on what was read
pub ended-so : (start : Start) (base : Name → Option Datum) (finished : Name → Option Datum) (tasks : Tasks) (reads : List Name) (levels : ℕ) (view : Named Datum) (knows : List Name) (log : Log) (outcome : Outcome)
    → Runs start base finished tasks reads → named start.name tasks ≡ Some (task_at levels view knows log (Ended outcome))
    → (around : Around) → Agrees start base reads finished around
    → ((root_task around start.name start.body start.values).outcome ≡ outcome) × ((root_task around start.name start.body start.values).log ≡ log)
ended-so start base finished tasks reads levels view knows log outcome run is around agrees =
    let stand = run.stand around agrees in
    let at = stand.at start.name (task_at levels view knows log (Ended outcome)) is in
    let whole : result outcome log at.known ≡ root_task around start.name start.body start.values = at.comes ∙ stand.root in
    (sym (ap (λ r. r.outcome) whole), sym (ap (λ r. r.log) whole))

pub begun-run : (start : Start) (base : Name → Option Datum) (finished : Name → Option Datum) → Runs start base finished ((start.name, root_of start) ∷ []) []
begun-run start base finished = record {
  formed = formed;
  rooted = ap is_some (named-first (start.name, root_of start) []);
  stand = λ around agrees. record {
    results = λ q. root_task around start.name start.body start.values;
    at = λ q s at. on q s (only q s at) (stands around agrees);
    root = refl;
  };
}
  where
    only : (q : Name) (s : TreeTask) → named q ((start.name, root_of start) ∷ []) ≡ Some s → (q ≡ start.name) × (s ≡ root_of start)
    only q s at = left (found_first q s (start.name, root_of start) [] at)
      where
        left : ((q ≡ start.name) × (s ≡ root_of start)) ⊎ (None ≡ Some s) → (q ≡ start.name) × (s ≡ root_of start)
        left (inl is) = is
        left (inr none) = absurd (cc)

    alone : (k : ℕ) (rest : List ℕ) → is_there ((start.name, root_of start) ∷ []) (start.name ++ k ∷ rest) ≡ false
    alone k rest = on (named (start.name ++ k ∷ rest) ((start.name, root_of start) ∷ [])) refl
      where
        on : (o : Option TreeTask) → named (start.name ++ k ∷ rest) ((start.name, root_of start) ∷ []) ≡ o → is_some o ≡ false
        on None is = refl
        on (Some s) is = absurd (not-below-itself start.name k rest (sym (only (start.name ++ k ∷ rest) s is).0))

    root_formed : IsFormed (is_there ((start.name, root_of start) ∷ [])) start.name (root_of start)
    root_formed = record { named_so = refl; knows_there = λ g none. absurd (cc); unmade = λ k rest later. alone k rest }

    formed : AreFormed ((start.name, root_of start) ∷ [])
    formed q s at =
        let is = only q s at in
        subst (λ n. IsFormed (is_there ((start.name, root_of start) ∷ [])) n s) (sym is.0) (subst (IsFormed (is_there ((start.name, root_of start) ∷ [])) start.name) (sym is.1) root_formed)

    stands : (around : Around) → Agrees start base [] finished around → IsAt around (λ q. root_task around start.name start.body start.values) start.name (root_of start)
    stands around agrees = record {
      known = Nothing;
      matches = λ g. refl;
      comes = record { left = around.fuel; within = omega arith; rest = sym (task_is_turns around 16 start.name start.body start.values [] Nothing) };
    }

    on : {around : Around} (q : Name) (s : TreeTask) → (q ≡ start.name) × (s ≡ root_of start) → IsAt around (λ q. root_task around start.name start.body start.values) start.name (root_of start)
        → IsAt around (λ q. root_task around start.name start.body start.values) q s
    on {around} q s is at = subst (λ n. IsAt around (λ q. root_task around start.name start.body start.values) n s) (sym is.0)
        (subst (IsAt around (λ q. root_task around start.name start.body start.values) start.name) (sym is.1) at)
