-- What the tasks of an attempt know of one another.
use Rattle.std.proofs.Common.{◌≡◌, ◌∙◌, ℕ, zero, suc, Bool, true, false, cond, refl, sym, ap, subst, Option, Some, None, ◌⊎◌, inl, inr}
use Rattle.std.specs.Prelude.{◌+◌, ◌-◌, ◌||◌}
use Rattle.std.specs.Option.{IsSome}
use Rattle.task_fork_join.specs.Attempt.{AreKin, IsKin, IsOfTasks}
use Rattle.task_fork_join.specs.Closing.{AllWent, Goes, IsWent, StopsAt, WentAt, WentBy}
use Rattle.task_fork_join.specs.declared.closing.Went.{Went}
use Rattle.task_fork_join.specs.declared.closing.Went.TheVariants as went
use Rattle.task_fork_join.specs.declared.forking.Forked.{Forked}
use Rattle.task_fork_join.specs.declared.task.Parts.{Parts}
use Rattle.task_fork_join.specs.declared.task.Stage.{Stage as KeptStage}
use Rattle.task_fork_join.specs.declared.task.Stage.TheVariants as kept
use Rattle.task_fork_join.specs.declared.task.Task.{Task}
use Rattle.task_fork_join.specs.declared.task_end.TaskEnd.TheVariants as end
use Rattle.task_fork_join.specs.Joining.{known_in, IsMerged}
use Rattle.task_fork_join.specs.Knowledge.{Covers, HasLearned, IsTaught, Knowledge, is_known}
use Rattle.txn_snapshot.specs.SnapshotTask.{SnapshotTask}
use Rattle.value_core.specs.Named.{Name, Named, is_among, made_by, named, same_name, with_named}
use Rattle.value_core.proofs.NamedLaws.{found_apart, named-other, same_name-equal, some-here, still_named}

-- ---- either of two
pub first_so : (a b : Bool) → a ≡ true → (a || b) ≡ true
first_so true b is = refl
first_so false b is = absurd (cc)

pub second_so : (a b : Bool) → b ≡ true → (a || b) ≡ true
second_so true b is = refl
second_so false b is = is

-- where each of two leads to the same
by_either : {P : Type 0} (a b : Bool) → (a || b) ≡ true → (a ≡ true → P) → (b ≡ true → P) → P
by_either true b is one other = one refl
by_either false b is one other = other is

-- the same where each leads to the other
both_ways : (a b : Bool) → (a ≡ true → b ≡ true) → (b ≡ true → a ≡ true) → a ≡ b
both_ways true true to from = refl
both_ways true false to from = sym (to refl)
both_ways false true to from = from refl
both_ways false false to from = refl

-- ---- what is known
-- the names that a task was taught are those of both
pub taught_both : (old new other : Knowledge) → Covers old other → IsTaught other old new → (g : Name) → is_known new g ≡ (is_known old g || is_known other g)
taught_both old new other covers taught g = taught.keys g ∙ both_ways (is_known old g || is_among g other.since) (is_known old g || is_known other g)
    (λ is. by_either (is_known old g) (is_among g other.since) is (λ one. first_so (is_known old g) (is_known other g) one) (λ late. second_so (is_known old g) (is_known other g) (taught.among g late)))
    (λ is. by_either (is_known old g) (is_known other g) is (λ one. first_so (is_known old g) (is_among g other.since) one) (λ there. covers g there))

-- more is known, and all that is came to be known since
pub record Grown (old new : Knowledge) : Type 0 where
  pub keys : (g : Name) → is_known old g ≡ true → is_known new g ≡ true
  pub since : (g : Name) → is_among g old.since ≡ true → is_among g new.since ≡ true
  pub apart : (g : Name) → is_known new g ≡ true → (is_known old g || is_among g new.since) ≡ true

grown_itself : (k : Knowledge) → Grown k k
grown_itself k = record { keys = λ g is. is; since = λ g is. is; apart = λ g is. first_so (is_known k g) (is_among g k.since) is }

grown_on : (a b c : Knowledge) → Grown a b → Grown b c → Grown a c
grown_on a b c one other = record {
  keys = λ g is. other.keys g (one.keys g is);
  since = λ g is. other.since g (one.since g is);
  apart = λ g is. by_either (is_known b g) (is_among g c.since) (other.apart g is)
      (λ there. by_either (is_known a g) (is_among g b.since) (one.apart g there)
      (λ first. first_so (is_known a g) (is_among g c.since) first)
      (λ late. second_so (is_known a g) (is_among g c.since) (other.since g late)))
      (λ late. second_so (is_known a g) (is_among g c.since) late);
}

learned_grown : (future : Name) (old new : Knowledge) → HasLearned future old new → Grown old new
learned_grown future old new learned = record {
  keys = λ g is. learned.keys g ∙ first_so (is_known old g) (same_name g future) is;
  since = λ g is. learned.since g ∙ first_so (is_among g old.since) (same_name g future) is;
  apart = λ g is. by_either (is_known old g) (same_name g future) (sym (learned.keys g) ∙ is)
      (λ first. first_so (is_known old g) (is_among g new.since) first)
      (λ late. second_so (is_known old g) (is_among g new.since) (learned.since g ∙ second_so (is_among g old.since) (same_name g future) late));
}

-- ---- what covers what
covers_itself : (k : Knowledge) → Covers k k
covers_itself k g is = first_so (is_known k g) (is_among g k.since) is

-- where more is known
covers_more : (k more other : Knowledge) → ((g : Name) → is_known k g ≡ true → is_known more g ≡ true) → Covers k other → Covers more other
covers_more k more other keys covers g is = by_either (is_known k g) (is_among g other.since) (covers g is)
    (λ first. first_so (is_known more g) (is_among g other.since) (keys g first)) (λ late. second_so (is_known more g) (is_among g other.since) late)

-- where the other one comes to know more
covers_grown : (k other new : Knowledge) → Covers k other → Grown other new → Covers k new
covers_grown k other new covers grown g is = by_either (is_known other g) (is_among g new.since) (grown.apart g is)
    (λ there. by_either (is_known k g) (is_among g other.since) (covers g there)
    (λ first. first_so (is_known k g) (is_among g new.since) first) (λ late. second_so (is_known k g) (is_among g new.since) (grown.since g late)))
    (λ late. second_so (is_known k g) (is_among g new.since) late)

-- ---- among the tasks
-- a task that is known covers what is known but for what it came to know itself
pub known_covers : (tasks : Named Task) (k : Knowledge) (future : Name) (c : Task) → IsKin tasks k → known_in tasks k future ≡ Some c → Covers k c.knows
known_covers tasks k future c kin found = on (is_known k future) refl found
  where
    on : (b : Bool) → is_known k future ≡ b → cond b (named future tasks) None ≡ Some c → Covers k c.knows
    on true known found = kin future c known found
    on false known found = absurd (cc)

-- that came to be known there, which is of the tasks
pub record GrowsTo (tasks : Named Task) (old new : Knowledge) : Type 0 where
  pub grown : Grown old new
  pub kin : IsKin tasks new
  pub there : IsOfTasks tasks new

pub grows_itself : (tasks : Named Task) (k : Knowledge) → IsKin tasks k → IsOfTasks tasks k → GrowsTo tasks k k
grows_itself tasks k kin there = record { grown = grown_itself k; kin = kin; there = there }

-- a task that is there knows what is of the tasks
pub grows_there : (tasks : Named Task) (name : Name) (t : Task) → AreKin tasks → named name tasks ≡ Some t → GrowsTo tasks t.knows t.knows
grows_there tasks name t are is = grows_itself tasks t.knows (are.kin name t is) (are.there name t is)

module _ (tasks : Named Task) (are : AreKin tasks) where
  -- a task that is known is merged
  merge_grows : (future m : Name) (c : Task) (log : SnapshotTask) (old k : Knowledge) (parts : Parts) → GrowsTo tasks old k → is_known k m ≡ true → named m tasks ≡ Some c
      → IsMerged future c log k parts → GrowsTo tasks old parts.knows
  merge_grows future m c log old k parts grows known is merged = record {
    grown = grown_on old k parts.knows grows.grown (record {
      keys = λ g there. merged.both g ∙ first_so (is_known k g) (is_known c.knows g) there;
      since = λ g late. merged.since g ∙ first_so (is_among g k.since) (is_among g c.knows.since) late;
      apart = λ g there. by_either (is_known k g) (is_known c.knows g) (sym (merged.both g) ∙ there)
          (λ first. first_so (is_known k g) (is_among g parts.knows.since) first)
          (λ other. by_either (is_known k g) (is_among g c.knows.since) (grows.kin m c known is g other)
          (λ first. first_so (is_known k g) (is_among g parts.knows.since) first)
          (λ late. second_so (is_known k g) (is_among g parts.knows.since) (merged.since g ∙ second_so (is_among g k.since) (is_among g c.knows.since) late)));
    });
    kin = λ n d there named_so. by_either (is_known k n) (is_known c.knows n) (sym (merged.both n) ∙ there)
        (λ first. covers_more k parts.knows d.knows (λ g so. merged.both g ∙ first_so (is_known k g) (is_known c.knows g) so) (grows.kin n d first named_so))
        (λ other. covers_more c.knows parts.knows d.knows (λ g so. merged.both g ∙ second_so (is_known k g) (is_known c.knows g) so) (are.kin m c is n d other named_so));
    there = λ g there. by_either (is_known k g) (is_known c.knows g) (sym (merged.both g) ∙ there) (λ first. grows.there g first) (λ other. are.there m c is g other);
  }

  -- the known task of a future is merged
  pub joined_grows : (future : Name) (c : Task) (log : SnapshotTask) (old k : Knowledge) (parts : Parts) → GrowsTo tasks old k → known_in tasks k future ≡ Some c → IsMerged future c log k parts
      → GrowsTo tasks old parts.knows
  joined_grows future c log old k parts grows found merged = on (is_known k future) refl found
    where
      on : (b : Bool) → is_known k future ≡ b → cond b (named future tasks) None ≡ Some c → GrowsTo tasks old parts.knows
      on true known found = merge_grows future future c log old k parts grows known found merged
      on false known found = absurd (cc)

  -- ---- the joins at a value
  same_parts : (old : Knowledge) (one other : Parts) → other ≡ one → GrowsTo tasks old one.knows → GrowsTo tasks old other.knows
  same_parts old one other is grows = subst (λ (p : Parts). GrowsTo tasks old p.knows) (sym is) grows

  went_grows : (old : Knowledge) (k : ℕ) (mid new : Parts) (found : Went) → GrowsTo tasks old mid.knows → IsWent tasks k mid new found → GrowsTo tasks old new.knows
  went_grows old k mid new found grows it = on (is_among (made_by mid.log.log.name k) mid.log.log.joined) (known_in tasks mid.knows (made_by mid.log.log.name k)) refl it
    where
      at : (c : Task) → known_in tasks mid.knows (made_by mid.log.log.name k) ≡ Some c → (stage : KeptStage) → WentAt stage (made_by mid.log.log.name k) k c mid new found → GrowsTo tasks old new.knows
      at c is (kept.Going machine) so = same_parts old mid new so.0 grows
      at c is (kept.Closing closing) so = same_parts old mid new so.0 grows
      at c is (kept.Ended (end.Value v)) so = joined_grows (made_by mid.log.log.name k) c mid.log old mid.knows new grows is so.0
      at c is (kept.Ended (end.Fault code place)) so = same_parts old mid new so.0 grows
      at c is (kept.Ended end.Spent) so = same_parts old mid new so.0 grows

      on : (joined : Bool) (child : Option Task) → known_in tasks mid.knows (made_by mid.log.log.name k) ≡ child → WentBy (cond joined None child) (made_by mid.log.log.name k) k mid new found → GrowsTo tasks old new.knows
      on true child is so = same_parts old mid new so.0 grows
      on false None is so = same_parts old mid new so.0 grows
      on false (Some c) is so = at c is c.stage so

  pub goes_grow : (old : Knowledge) (from : ℕ) (first : Parts) (count : ℕ) (new : Parts) → GrowsTo tasks old first.knows → Goes tasks from first count new → GrowsTo tasks old new.knows
  goes_grow old from first zero new grows is = same_parts old first new is grows
  goes_grow old from first (suc count) new grows goes = went_grows old (from + count) goes.0 new went.On (goes_grow old from first count goes.0 grows goes.1.0) goes.1.1

  stops_grow : (old : Knowledge) (from : ℕ) (first new : Parts) (found : Went) → GrowsTo tasks old first.knows → StopsAt tasks from first new found → GrowsTo tasks old new.knows
  stops_grow old from first new found grows stops = went_grows old (from + stops.count) stops.mid new found (goes_grow old from first stops.count stops.mid grows stops.goes) stops.last

  pub all_grow : (old : Knowledge) (from : ℕ) (first new : Parts) (found : Went) → GrowsTo tasks old first.knows → AllWent tasks from first new found → GrowsTo tasks old new.knows
  all_grow old from first new went.On grows goes = goes_grow old from first (first.log.log.made - from) new grows goes
  all_grow old from first new (went.Waits future next) grows stops = stops_grow old from first new (went.Waits future next) grows stops
  all_grow old from first new (went.Ended e) grows stops = stops_grow old from first new (went.Ended e) grows stops

  -- ---- a task takes the place of one that is there
  pub put_kin : (name : Name) (t new : Task) → named name tasks ≡ Some t → GrowsTo tasks t.knows new.knows → AreKin (with_named tasks name new)
  put_kin name t new is grows = record {
    there = λ n s at g known. still_named g name new tasks (on_there n s (found_apart n name new s tasks at) g known);
    kin = λ n s at m c known found. on_kin n s (found_apart n name new s tasks at) m c known (found_apart m name new c tasks found);
  }
    where
      on_there : (n : Name) (s : Task) → ((n ≡ name) × (s ≡ new)) ⊎ (¬ (n ≡ name) × (named n tasks ≡ Some s)) → IsOfTasks tasks s.knows
      on_there n s (inl same) = subst (λ (x : Task). IsOfTasks tasks x.knows) (sym same.1) grows.there
      on_there n s (inr old) = are.there n s old.1

      on_kin : (n : Name) (s : Task) → ((n ≡ name) × (s ≡ new)) ⊎ (¬ (n ≡ name) × (named n tasks ≡ Some s)) → (m : Name) (c : Task) → is_known s.knows m ≡ true
          → ((m ≡ name) × (c ≡ new)) ⊎ (¬ (m ≡ name) × (named m tasks ≡ Some c)) → Covers s.knows c.knows
      on_kin n s (inl one) m c known (inl other) = subst (λ (x : Task). Covers x.knows c.knows) (sym one.1) (subst (λ (x : Task). Covers new.knows x.knows) (sym other.1) (covers_itself new.knows))
      on_kin n s (inl one) m c known (inr other) =
          subst (λ (x : Task). Covers x.knows c.knows) (sym one.1) (grows.kin m c (subst (λ (x : Task). is_known x.knows m ≡ true) one.1 known) other.1)
      on_kin n s (inr one) m c known (inl other) = subst (λ (x : Task). Covers s.knows x.knows) (sym other.1)
          (covers_grown s.knows t.knows new.knows (are.kin n s one.1 name t (subst (λ q. is_known s.knows q ≡ true) other.0 known) is) grows.grown)
      on_kin n s (inr one) m c known (inr other) = are.kin n s one.1 m c known other.1

  -- ---- a child is put whose name was not taken
  module _ (name future : Name) (t child : Task) (is : named name tasks ≡ Some t) (fresh : named future tasks ≡ None) (child_knows : (g : Name) → is_known child.knows g ≡ is_known t.knows g) where
    lost : {P : Type 0} → IsSome (named future tasks) → P
    lost some = absurd (let never = subst (λ (o : Option Task). IsSome o) fresh some in cc)

    child_there : IsOfTasks tasks child.knows
    child_there g known = are.there name t is g (sym (child_knows g) ∙ known)

    pub put_child_kin : AreKin (with_named tasks future child)
    put_child_kin = record {
      there = λ n s at g known. still_named g future child tasks (on_there n s (found_apart n future child s tasks at) g known);
      kin = λ n s at m c known found. on_kin n s (found_apart n future child s tasks at) m c known (found_apart m future child c tasks found);
    }
      where
        on_there : (n : Name) (s : Task) → ((n ≡ future) × (s ≡ child)) ⊎ (¬ (n ≡ future) × (named n tasks ≡ Some s)) → IsOfTasks tasks s.knows
        on_there n s (inl same) = subst (λ (x : Task). IsOfTasks tasks x.knows) (sym same.1) child_there
        on_there n s (inr old) = are.there n s old.1

        on_kin : (n : Name) (s : Task) → ((n ≡ future) × (s ≡ child)) ⊎ (¬ (n ≡ future) × (named n tasks ≡ Some s)) → (m : Name) (c : Task) → is_known s.knows m ≡ true
            → ((m ≡ future) × (c ≡ child)) ⊎ (¬ (m ≡ future) × (named m tasks ≡ Some c)) → Covers s.knows c.knows
        on_kin n s (inl one) m c known (inl other) =
            subst (λ (x : Task). Covers x.knows c.knows) (sym one.1) (subst (λ (x : Task). Covers child.knows x.knows) (sym other.1) (covers_itself child.knows))
        on_kin n s (inl one) m c known (inr other) = subst (λ (x : Task). Covers x.knows c.knows) (sym one.1)
            (covers_more t.knows child.knows c.knows (λ g so. child_knows g ∙ so)
            (are.kin name t is m c (sym (child_knows m) ∙ subst (λ (x : Task). is_known x.knows m ≡ true) one.1 known) other.1))
        on_kin n s (inr one) m c known (inl other) = lost (are.there n s one.1 future (subst (λ q. is_known s.knows q ≡ true) other.0 known))
        on_kin n s (inr one) m c known (inr other) = are.kin n s one.1 m c known other.1

    apart_so : ¬ (name ≡ future)
    apart_so same = absurd (let never = sym is ∙ ap (λ n. named n tasks) same ∙ fresh in cc)

    -- the task is still there, which then knows the child
    pub parent_is : named name (with_named tasks future child) ≡ Some t
    parent_is = named-other name future child tasks apart_so ∙ is

    pub parent_grows : (parent : Knowledge) → HasLearned future t.knows parent → GrowsTo (with_named tasks future child) t.knows parent
    parent_grows parent learned = record {
      grown = learned_grown future t.knows parent learned;
      kin = λ m c known found. by_either (is_known t.knows m) (same_name m future) (sym (learned.keys m) ∙ known)
          (λ first. on_kin m c first (found_apart m future child c tasks found))
          (λ same. on_same m c (same_name-equal m future same) (found_apart m future child c tasks found));
      there = λ g known. by_either (is_known t.knows g) (same_name g future) (sym (learned.keys g) ∙ known)
          (λ first. still_named g future child tasks (are.there name t is g first))
          (λ same. subst (λ n. IsSome (named n (with_named tasks future child))) (sym (same_name-equal g future same)) child_put);
    }
      where
        child_put : IsSome (named future (with_named tasks future child))
        child_put = some-here future child tasks

        more : (g : Name) → is_known t.knows g ≡ true → is_known parent g ≡ true
        more g so = learned.keys g ∙ first_so (is_known t.knows g) (same_name g future) so

        covers_child : Covers parent child.knows
        covers_child g so = first_so (is_known parent g) (is_among g child.knows.since) (more g (sym (child_knows g) ∙ so))

        on_kin : (m : Name) (c : Task) → is_known t.knows m ≡ true → ((m ≡ future) × (c ≡ child)) ⊎ (¬ (m ≡ future) × (named m tasks ≡ Some c)) → Covers parent c.knows
        on_kin m c first (inl same) = subst (λ (x : Task). Covers parent x.knows) (sym same.1) covers_child
        on_kin m c first (inr old) = covers_more t.knows parent c.knows more (are.kin name t is m c first old.1)

        on_same : (m : Name) (c : Task) → m ≡ future → ((m ≡ future) × (c ≡ child)) ⊎ (¬ (m ≡ future) × (named m tasks ≡ Some c)) → Covers parent c.knows
        on_same m c same (inl one) = subst (λ (x : Task). Covers parent x.knows) (sym one.1) covers_child
        on_same m c same (inr old) = absurd (old.0 same)
