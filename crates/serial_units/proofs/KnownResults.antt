-- The results that a task knows, as they are kept.
use Rattle.std.proofs.Common.{◌≡◌, ◌∙◌, Bool, true, false, List, cond, refl, sym, ap, subst, Option, Some, None}
use Rattle.std.specs.Prelude.{◌||◌, is_some, T, if◌then◌else◌}
use Rattle.serial_model.specs.Log.{Log, merged}
use Rattle.value_core.specs.Named.{Name, Named, named, is_among, same_name}
use Rattle.serial_model.specs.Task.{Here, Known, Nothing, And, Outcome, Result, result_of, with_known, after_join}
use Rattle.serial_units.specs.declared.task.Done.{Done}
use Rattle.serial_units.specs.declared.task.Task.{Task}
use Rattle.serial_units.specs.declared.task.TaskEnd.{TaskEnd}
use Rattle.serial_units.specs.declared.task.TaskEnd.TheVariants as end
use Rattle.serial_units.specs.declared.tasks.Met.{Met}
use Rattle.serial_units.specs.declared.tasks.Met.TheVariants as met
use Rattle.value_core.specs.NameSet.{has_name}
use Rattle.serial_units.specs.Task.{outcome_of}
use Rattle.serial_units.specs.Tasks.{knows, knows_below, IsKept, AreKept, Knows, IsAt, IsMet, IsMetAs, IsMerged, IsTakenIn, IsJoined, IsJoinedAs, Extends}

some_same : {X : Type 0} (x y : X) → Some x ≡ Some y → x ≡ y
some_same x y e = cc

-- a result that is known is kept, and so is what it knows
pub record Found (results : Named Done) (around : Name → Bool) (future : Name) (child : Result) : Type 0 where
  kept : IsKept results around future child.outcome child.log child.known
  inner : AreKept results (knows child.known) child.known

pub found : (results : Named Done) (around : Name → Bool) (future : Name) (known : Known) (child : Result) → AreKept results around known
    → ((a b : Name) → same_name a b ≡ true → a ≡ b) → result_of future known ≡ Some child → Found results around future child
found results around future Nothing child kept same is = absurd (subst (λ o. T (is_some o)) (sym is) tt)
found results around future (And name outcome log inner others) child kept same is = on (same_name name future) refl is (λ e. found results around future others child kept.2 same e)
  where
    on : (b : Bool) → same_name name future ≡ b → cond b (Some (record { outcome = outcome; log = log; known = inner })) (result_of future others) ≡ Some child
        → (result_of future others ≡ Some child → Found results around future child) → Found results around future child
    on true e is rest =
        subst (Found results around future) (some_same (record { outcome = outcome; log = log; known = inner }) child is)
        (subst (λ n. Found results around n (record { outcome = outcome; log = log; known = inner })) (same name future e) (record { kept = kept.0; inner = kept.1 }))
    on false e is rest = rest is

-- more may be known round a result
pub kept_wider : (results : Named Done) (around wider : Name → Bool) (known : Known) → ((g : Name) → around g ≡ true → wider g ≡ true)
    → AreKept results around known → AreKept results wider known
kept_wider results around wider Nothing more kept = kept
kept_wider results around wider (And name outcome log inner others) more kept = (
  record {
    done = kept.0.done;
    there = kept.0.there;
    outcome_is = kept.0.outcome_is;
    log_is = kept.0.log_is;
    learned = kept.0.learned;
    near = λ g is. either (has_name kept.0.done.task.known g) (around g) (wider g) (more g) (kept.0.near g is);
  },
  kept.1,
  kept_wider results around wider others more kept.2,
)
  where
    either : (a b c : Bool) → (b ≡ true → c ≡ true) → (a || b) ≡ true → (a || c) ≡ true
    either true b c to is = refl
    either false b c to is = to is

-- more results may be kept
pub kept_longer : (old new : Named Done) (around : Name → Bool) (known : Known) → Extends old new → AreKept old around known → AreKept new around known
kept_longer old new around Nothing more kept = kept
kept_longer old new around (And name outcome log inner others) more kept = (
  record {
    done = kept.0.done;
    there = more name kept.0.done kept.0.there;
    outcome_is = kept.0.outcome_is;
    log_is = kept.0.log_is;
    learned = kept.0.learned;
    near = kept.0.near;
  },
  kept_longer old new (knows inner) inner more kept.1,
  kept_longer old new around others more kept.2,
)

pub kept_both : (results : Named Done) (around : Name → Bool) (known others : Known) → AreKept results around known → AreKept results around others → AreKept results around (with_known known others)
kept_both results around Nothing others kept rest = rest
kept_both results around (And name outcome log inner more) others kept rest = (kept.0, kept.1, kept_both results around more others kept.2 rest)

pub knows_both : (known others : Known) (g : Name) → knows (with_known known others) g ≡ (knows known g || knows others g)
knows_both Nothing others g = refl
knows_both (And name outcome log inner more) others g = on (same_name name g) (knows_both more others g)
  where
    on : (b : Bool) → knows (with_known more others) g ≡ (knows more g || knows others g)
        → is_some (cond b (Some (record { outcome = outcome; log = log; known = inner })) (result_of g (with_known more others)))
        ≡ (is_some (cond b (Some (record { outcome = outcome; log = log; known = inner })) (result_of g more)) || knows others g)
    on true rest = refl
    on false rest = rest

-- what is learned by a join is what was to be learned
learned_all : (a o b d : Bool) → (d ≡ true → a ≡ true) → (a ≡ true → (d || (o || b)) ≡ true) → ((o || b) || a) ≡ ((o || d) || b)
learned_all a true b d from to = refl
learned_all true false b true from to = above b
  where
    above : (b : Bool) → (b || true) ≡ true
    above true = refl
    above false = refl
learned_all true false true false from to = refl
learned_all true false false false from to = sym (to refl)
learned_all false false b true from to = absurd (subst T (sym (from refl)) tt)
learned_all false false true false from to = refl
learned_all false false false false from to = refl

left_of : (a b : Bool) → a ≡ true → (a || b) ≡ true
left_of true b is = refl
left_of false b is = absurd (subst T (sym is) tt)

right_of : (a b : Bool) → b ≡ true → (a || b) ≡ true
right_of true b is = refl
right_of false b is = is

module _ (results : Named Done) (below : List Task) where
  -- after a first join the task knows what the joined one knew
  knows_more : (old new : Task) (here : Here) (future : Name) (child : Result) (done : Done) → IsAt results below old here → IsKept results (knows here.known) future child.outcome child.log child.known
      → named future results ≡ Some done → AreKept results (knows child.known) child.known
      → ((g : Name) → has_name new.known g ≡ (has_name old.known g || has_name done.task.known g)) → Knows results below new.known (with_known here.known child.known)
  knows_more old new here future child done at kept there inner learned = record {
    same = λ g. knows_both here.known child.known g ∙ ap (λ b. b || knows child.known g) (at.knows.same g)
        ∙ learned_all (knows child.known g) (has_name old.known g) (knows_below below g) (has_name done.task.known g)
        (λ is. kept.learned g (subst (λ d. has_name d.task.known g ≡ true) same_done is))
        (λ is. subst (λ d. (has_name d.task.known g || (has_name old.known g || knows_below below g)) ≡ true) (sym same_done)
        (subst (λ b. (has_name kept.done.task.known g || b) ≡ true) (at.knows.same g) (kept.near g is)))
        ∙ ap (λ b. b || knows_below below g) (sym (learned g));
    kept = kept_both results all here.known child.known (kept_wider results (knows here.known) all here.known (λ g is. sym_both g (left_of (knows here.known g) (knows child.known g) is)) at.knows.kept)
        (kept_wider results (knows child.known) all child.known (λ g is. sym_both g (right_of (knows here.known g) (knows child.known g) is)) inner);
  }
    where
      all : Name → Bool
      all = knows (with_known here.known child.known)

      same_done : done ≡ kept.done
      same_done = some_same done kept.done (sym there ∙ kept.there)

      sym_both : (g : Name) → (knows here.known g || knows child.known g) ≡ true → all g ≡ true
      sym_both g is = knows_both here.known child.known g ∙ is

  -- the joined task is taken in
  taken_in : (old new : Task) (here : Here) (future : Name) (child : Result) (done : Done) → IsAt results below old here → IsKept results (knows here.known) future child.outcome child.log child.known
      → named future results ≡ Some done → AreKept results (knows child.known) child.known → IsTakenIn old new future done → IsAt results below new (after_join here future child)
  taken_in old new here future child done at kept there inner is =
      on (is_among future here.log.joined) (subst (λ (l : Log). IsMerged (is_among future l.joined) old new done) at.log is)
    where
      on : (b : Bool) → IsMerged b old new done → IsAt results below new (if b then here else record here { log = merged here.log child.log; known = with_known here.known child.known })
      on true same = subst (λ t. IsAt results below t here) (sym same) at
      on false is = record {
        log = is.0 ∙ ap (λ l. merged l done.task.log) at.log ∙ ap (λ (d : Done). merged here.log d.task.log) (some_same done kept.done (sym there ∙ kept.there)) ∙ ap (merged here.log) kept.log_is;
        knows = knows_more old new here future child done at kept there inner is.1;
      }

  met_as : (old new : Task) (here : Here) (future : Name) (child : Result) (done : Done) (found : Met) → IsAt results below old here → IsKept results (knows here.known) future child.outcome child.log child.known
      → named future results ≡ Some done → AreKept results (knows child.known) child.known
      → (e : TaskEnd) (outcome : Outcome) → outcome_of e ≡ outcome → IsJoinedAs e old new future done found → IsMetAs results below new here future found child outcome
  met_as old new here future child done found at kept there inner (end.Value v) outcome is joined =
      subst (λ f. IsMetAs results below new here future f child outcome) (sym joined.0)
      (subst (IsMetAs results below new here future (met.Value v) child) is (refl, taken_in old new here future child done at kept there inner joined.1))
  met_as old new here future child done found at kept there inner (end.Fault code place) outcome is joined = other_end (end.Fault code place) outcome is (refl, subst (λ t. IsAt results below t here) (sym joined.1) at) joined.0
    where
      other_end : (e : TaskEnd) (outcome : Outcome) → outcome_of e ≡ outcome → IsMetAs results below new here future (met.Ended e) child (outcome_of e) → found ≡ met.Ended e → IsMetAs results below new here future found child outcome
      other_end e outcome is there same = subst (λ f. IsMetAs results below new here future f child outcome) (sym same) (subst (IsMetAs results below new here future (met.Ended e) child) is there)
  met_as old new here future child done found at kept there inner end.Spent outcome is joined =
      subst (λ f. IsMetAs results below new here future f child outcome) (sym joined.0) (subst (IsMetAs results below new here future (met.Ended end.Spent) child) is (refl, subst (λ t. IsAt results below t here) (sym joined.1) at))
  met_as old new here future child done found at kept there inner end.Blocked outcome is joined =
      subst (λ f. IsMetAs results below new here future f child outcome) (sym joined.0) (subst (IsMetAs results below new here future (met.Ended end.Blocked) child) is (refl, subst (λ t. IsAt results below t here) (sym joined.1) at))

  -- a known result is met
  pub met_known : ((a b : Name) → same_name a b ≡ true → a ≡ b) → (old new : Task) (future : Name) (done : Done) (found : Met)
      → (has_name old.known future || knows_below below future) ≡ true → named future results ≡ Some done → IsJoined old new future done found
      → (here : Here) → IsAt results below old here → IsMet results below new here future found (result_of future here.known)
  met_known same old new future done met known there joined here at = on (result_of future here.known) refl
    where
      on : (o : Option Result) → result_of future here.known ≡ o → IsMet results below new here future met o
      on None is = absurd (subst T (sym (at.knows.same future ∙ known) ∙ ap is_some is) tt)
      on (Some child) is =
          let it = found results (knows here.known) future here.known child at.knows.kept same is in
          met_as old new here future child done met at it.kept there it.inner done.end child.outcome
          (subst (λ (d : Done). outcome_of d.end ≡ child.outcome) (some_same it.kept.done done (sym it.kept.there ∙ there)) it.kept.outcome_is) joined

  -- a result that is not known is not
  pub met_unknown : (task : Task) (future : Name) → (has_name task.known future || knows_below below future) ≡ false
      → (here : Here) → IsAt results below task here → IsMet results below task here future met.Unknown (result_of future here.known)
  met_unknown task future unknown here at = on (result_of future here.known) refl
    where
      on : (o : Option Result) → result_of future here.known ≡ o → IsMet results below task here future met.Unknown o
      on None is = (refl, at)
      on (Some child) is = absurd (subst T (sym (ap is_some is) ∙ at.knows.same future ∙ unknown) tt)

  -- no known result is missing
  pub met_missing : ((a b : Name) → same_name a b ≡ true → a ≡ b) → (task : Task) (future : Name) → (has_name task.known future || knows_below below future) ≡ true → named future results ≡ None
      → (here : Here) → IsAt results below task here → ⊥
  met_missing same task future known missing here at = on (result_of future here.known) refl
    where
      on : (o : Option Result) → result_of future here.known ≡ o → ⊥
      on None is = subst T (sym (at.knows.same future ∙ known) ∙ ap is_some is) tt
      on (Some child) is =
          let it = found results (knows here.known) future here.known child at.knows.kept same is in
          subst T (ap is_some (sym it.kept.there ∙ missing)) tt
