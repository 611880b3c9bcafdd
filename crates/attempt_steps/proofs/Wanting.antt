-- What is left for want of memory, and steps of tasks.
use Rattle.std.proofs.Common.{◌≡◌, ◌∙◌, ◌≤◌, ◌++◌, ℕ, true, false, inl, inr, le_trans, length, take, drop, List, refl, sym, ap, subst}
use Rattle.std.specs.Prelude.{◌⊎◌}
use Rattle.std.specs.Option.{IsSome, option_and_then, option_map}
use Rattle.std.specs.Prelude.{Err, IfSome, None, Ok, Option, Result, Some, is_some}
use Rattle.std.specs.declared.alloc.AllocError.{AllocError}
use Rattle.eval_step.specs.Evaluation.{Evaluation, IsOf, IsSame}
use Rattle.attempt_commits.proofs.Committing.{at-attempt}
use Rattle.attempt_steps.proofs.Again.{after-again, gone-again, root-again}
use Rattle.attempt_steps.proofs.Posted.{IsPostedAgain, first-done, step-again, step-beside, step-posted-so, then-done}
use Rattle.world_steps.proofs.Forking.{same-claimed, same-stands}
use Rattle.world_steps.proofs.Settling.{same-claims}
use Rattle.world_steps.specs.Kept.{IsSameBut}
use Rattle.attempt_steps.specs.Tasks as left_as
use Rattle.attempt_deciding.specs.TaskAt.{IsTaskIn}
use Rattle.attempt_steps.specs.Tasks.{ComesAfter, HasCome, HasDoneNoMore, HasStepped, IsLeft, IsReadied, IsReadyTask, IsTaskOf, IsWanting, MayUndo, TaskCame, is_onward}
use Rattle.serial_model.specs.declared.effect.Effect.{Effect}
use Rattle.serial_model.specs.declared.halt.Halt.{Halt}
use Rattle.serial_model.specs.declared.halt.Halt.TheVariants as halt
use Rattle.serial_model.specs.declared.request.Request.TheVariants as request
use Rattle.serial_model.specs.State.{UnitState}
use Rattle.shared_world.proofs.ActorPieces.{actor_of_piece}
use Rattle.shared_world.proofs.Few.{none-gone, none-gone-put}
use Rattle.shared_world.proofs.Live.{no-unit}
use Rattle.shared_world.proofs.MarkedTasks.{ended-beside, left-again, left-ended, left-missing, left-now, left-settling, missing-beside}
use Rattle.shared_world.proofs.Marks.{pieces-marks}
use Rattle.shared_world.proofs.Posting.{IsPosting, posting-rest}
use Rattle.shared_world.proofs.Standing.{root-in}
use Rattle.shared_world.proofs.Steps.{done-so, goes-with, marked-task, step-grown, stepped}
use Rattle.shared_world.proofs.Ages.{same-age}
use Rattle.shared_world.specs.Counts.{age_of}
use Rattle.shared_world.specs.declared.given.Given.{Given}
use Rattle.shared_world.specs.Gave.{GaveTask}
use Rattle.shared_world.specs.Marks.{AreMarked, AreMarkedBeside, HasMarks}
use Rattle.shared_world.specs.Returned.{halt_of}
use Rattle.shared_world.specs.rows.Sending.{sends_in}
use Rattle.shared_world.specs.rows.Tasks.{AfterStep, IsMarkedTask, StepPosts, StepsOn, TakesStep, TaskGives, outer_of}
use Rattle.shared_world.specs.Seen.{done_by_root, done_in}
use Rattle.shared_world.specs.Shared.{Shared, is_going, unit_state}
use Rattle.shared_world.specs.Stands.{IsUnderWay, Stands}
use Rattle.task_fork_join.proofs.Grown.{HasGrown}
use Rattle.task_fork_join.proofs.Quiet.{HasStayed, is_loud, steps-stay}
use Rattle.task_fork_join.proofs.StepShapes.{IsAfter, IsShaped, shaped}
use Rattle.task_fork_join.specs.Attempt.{Attempt, IsKept, end_at, end_by, end_of, machine_of}
use Rattle.task_fork_join.specs.declared.stepped.Stepped.{Stepped}
use Rattle.task_fork_join.specs.declared.stepped.Stepped.TheVariants as stepped
use Rattle.task_fork_join.specs.declared.task.Task.{Task}
use Rattle.task_fork_join.specs.declared.task_end.TaskEnd.{TaskEnd}
use Rattle.task_fork_join.specs.Step.{IsStep}
use Rattle.task_fork_join.specs.Stepping.{is_missing}
use Rattle.txn_snapshot.specs.SnapshotAnswer.{snapshot_of}
use Rattle.unit_table.specs.Board.{Board, SameClaims, SamePieces, lent_to, piece_at}
use Rattle.unit_table.specs.declared.mark.Mark.{Mark}
use Rattle.unit_table.specs.declared.mark.Mark.TheVariants as mark
use Rattle.unit_table.specs.declared.mark.Work.{Work}
use Rattle.unit_table.specs.declared.mark.Work.TheVariants as work
use Rattle.unit_table.specs.declared.piece.Piece.{Piece}
use Rattle.unit_table.specs.declared.piece.Piece.TheVariants as piece
use Rattle.unit_table.specs.Piece.{unit_in}
use Rattle.value_core.proofs.NamedLaws.{named-here}
use Rattle.value_core.specs.declared.ticket.Ticket.{Ticket}
use Rattle.value_core.specs.Named.{Name, named, with_named}

-- the marks of what is the same but for room
pub same-marks : (old new : Shared) → IsSameBut old new → HasMarks old → HasMarks new
same-marks old new is = pieces-marks old new is.pieces is.rest

-- nothing changed but room
pub same-wanting : (old new : Shared) (name : Name) → Stands old → IsSameBut old new → IsWanting old name new
same-wanting old new name st is = record {
  stands = same-stands old new st is;
  here = inl (is.pieces name);
  others = λ other ne. is.pieces other;
  claims = λ ticket free. is.claims.to ticket;
  ages = λ u. ap (λ (s : Shared). age_of s u) is.rest;
  no_fewer = none-gone old new (ap (λ (s : Shared). s.attempts) is.rest);
  marks = same-marks old new is;
  rest = is.rest ∙ ap (λ a. record old { attempts = a; board = new.board }) (sym (ap (λ (s : Shared). s.attempts) is.rest));
}

-- a task that is ready to settle for want of memory
pub settling-wanting : (old new : Shared) (task : Name) (m : Mark) → Stands old → piece_at old.board task ≡ Some (piece.Task m) → IsReadied work.Settle old task new → IsWanting old task new
settling-wanting old new task m st at is = record {
  stands = marked-task old st task (mark.Ready work.Settle) new (no-unit old.board task m at, ap actor_of_piece at) is.marked;
  here = inr (record { what = work.Settle; left = inr refl; is = is.marked.set.here });
  others = λ other ne. is.marked.set.others other ne;
  claims = is.claims;
  ages = λ u. ap (λ (s : Shared). age_of s u) is.marked.others;
  no_fewer = none-gone old new (ap (λ (s : Shared). s.attempts) is.marked.others);
  marks = λ marks going. left-settling old (marks (sym (ap (λ (s : Shared). is_going s.end) is.marked.others) ∙ going)) task m at new is.marked;
  rest = is.marked.others ∙ ap (λ a. record old { attempts = a; board = new.board }) (sym (ap (λ (s : Shared). s.attempts) is.marked.others));
}

-- what is left after what took a step on what is the same but for room
pub wanting-again : (old mid new : Shared) (name : Name) → SamePieces old.board mid.board → ((t : Ticket) → lent_to mid.board t ≡ lent_to old.board t) → mid ≡ record old { attempts = mid.attempts; board = mid.board } → ((u : Name) → age_of mid u ≡ age_of old u) → length old.attempts ≤ length mid.attempts → (HasMarks old → HasMarks mid) → IsWanting mid name new
    → IsWanting old name new
wanting-again old mid new name pieces to rest ages no_fewer marks is = record {
  stands = is.stands;
  here = on (piece_at new.board name) is.here;
  others = λ other ne. is.others other ne ∙ pieces other;
  claims = λ ticket free. is.claims ticket (λ lent. free (sym (to ticket) ∙ lent)) ∙ to ticket;
  ages = λ u. is.ages u ∙ ages u;
  no_fewer = le_trans no_fewer is.no_fewer;
  marks = λ right. is.marks (marks right);
  rest = is.rest ∙ ap (λ (s : Shared). record s { attempts = new.attempts; board = new.board }) rest;
}
  where
    on : (found : Option Piece) → (found ≡ piece_at mid.board name) ⊎ IsReadyTask found → (found ≡ piece_at old.board name) ⊎ IsReadyTask found
    on found (inl same) = inl (same ∙ pieces name)
    on found (inr ready) = inr ready

-- a task of what is the same but for room
pub task-again : (old new : Shared) (owner task : Name) (moved : Evaluation) (h : Halt) → IsSameBut old new → IsTaskOf old owner task moved h → IsTaskOf new owner task moved h
task-again old new owner task moved h same is = record {
  tree = is.tree;
  task_in = record {
    mark = is.task_in.mark;
    there = same.pieces task ∙ is.task_in.there;
    of = ap (λ (s : Shared). named task s.owners) same.rest ∙ is.task_in.of;
    unit = is.task_in.unit;
    unit_there = ap (option_and_then unit_in) (same.pieces owner) ∙ is.task_in.unit_there;
    attempt = ap (λ (s : Shared). named owner s.attempts) same.rest ∙ is.task_in.attempt;
    among = is.task_in.among;
    rooted = is.task_in.rooted;
  };
  machine = is.machine;
  kept = is.kept;
  same = is.same;
  program = subst (λ (s : Shared). IsOf s.setup.program moved) (sym same.rest) is.program;
  halts_so = ap (λ (s : Shared). halt_of s.setup.program is.machine) same.rest ∙ is.halts_so;
  asking = is.asking;
}

pub kept-so : (tree : Attempt) (task : Name) (machine moved : Evaluation) → machine_of tree task ≡ Some machine → IsSame machine moved → IsKept task moved tree.tasks
kept-so tree task machine moved is same = let it = goes-with tree task machine is in record { task = it.task; there = it.there; machine = machine; going = it.keeps; same = same }

outer-same : (old new : Board) (h : Halt) → SamePieces old new → outer_of new h ≡ outer_of old h
outer-same old new (halt.Ask (request.Join f) at) same = ap (λ p. option_and_then (λ (unit : UnitState). unit.finished) (option_map unit_state (option_and_then unit_in p))) (same f)
outer-same old new (halt.Ask (request.Print text) at) same = refl
outer-same old new (halt.Ask (request.NewRef v) at) same = refl
outer-same old new (halt.Ask (request.Deref ref) at) same = refl
outer-same old new (halt.Ask (request.RefSet ref v) at) same = refl
outer-same old new (halt.Ask (request.Fork body values) at) same = refl
outer-same old new (halt.Ask (request.Dosync body values) at) same = refl
outer-same old new (halt.Ask (request.Spawn n args) at) same = refl
outer-same old new (halt.Ask (request.Send a args) at) same = refl
outer-same old new (halt.Ask (request.Become n args) at) same = refl
outer-same old new (halt.Ask request.SelfActor at) same = refl
outer-same old new (halt.Value v) same = refl
outer-same old new (halt.Fault code at) same = refl
outer-same old new halt.Spent same = refl

-- an attempt that is not at its end has no root that is
open-root : (escape : TaskEnd) (o : Option TaskEnd) → end_by escape o ≡ None → o ≡ None
open-root escape None is = refl
open-root escape (Some e) is = cc

-- what a step of a task came to, whether it was taken or not
pub record HasTaken (old mid : Shared) (owner task : Name) (moved : Evaluation) (h : Halt) (is : IsTaskOf old owner task moved h) (went : Stepped) : Type 0 where
  pub after : Attempt
  pub step : IsStep (snapshot_of old.versions is.tree.snapshot) task moved (outer_of old.board h) h is.tree after went
  pub mid_is : mid ≡ record old { attempts = with_named old.attempts owner after }

-- the step of an attempt that is written through
pub taken : (old mid : Shared) (owner task : Name) (moved : Evaluation) (h : Halt) (is : IsTaskOf old owner task moved h) (went : Stepped)
    → IfSome (named owner old.attempts) (λ tree. HasStepped (snapshot_of old.versions tree.snapshot) owner task moved (outer_of old.board h) h tree old.attempts mid.attempts went) → mid ≡ record old { attempts = mid.attempts }
    → HasTaken old mid owner task moved h is went
taken old mid owner task moved h is went step mid_is =
    let did = at-attempt (named owner old.attempts) (λ (t : Attempt). HasStepped (snapshot_of old.versions t.snapshot) owner task moved (outer_of old.board h) h t old.attempts mid.attempts went) is.tree is.task_in.attempt step in
    record { after = did.after; step = did.step; mid_is = mid_is ∙ ap (λ a. record old { attempts = a }) did.put }

module _ (old mid : Shared) (st : Stands old) (on_going : is_going old.end ≡ true) (owner task : Name) (moved : Evaluation) (h : Halt) (is : IsTaskOf old owner task moved h) (went : Stepped) (t : HasTaken old mid owner task moved h is went) where
  abbrev base : Shared
  base = record old { attempts = with_named old.attempts owner t.after }

  halting : Halt
  halting = halt_of old.setup.program is.machine

  step : IsStep (snapshot_of old.versions is.tree.snapshot) task moved (outer_of old.board (halt_of old.setup.program is.machine)) (halt_of old.setup.program is.machine) is.tree t.after went
  step = subst (λ k. IsStep (snapshot_of old.versions is.tree.snapshot) task moved (outer_of old.board k) k is.tree t.after went) (sym is.halts_so) t.step

  base-stands : Stands base
  base-stands = stepped old st on_going owner task is.tree is.task_in.attempt is.machine moved is.kept is.same is.program t.after went step

  kept : IsKept task moved is.tree.tasks
  kept = kept-so is.tree task is.machine moved is.kept is.same

  shape : IsShaped is.tree.tasks task (outer_of old.board h) h went t.after.tasks
  shape = shaped (snapshot_of old.versions is.tree.snapshot) task moved (outer_of old.board h) is.tree t.after went kept.task kept.there h t.step.comes

  abbrev way : IsUnderWay old owner is.tree
  way = st.attempts on_going owner is.tree is.task_in.attempt

  abbrev root : (k : Task) × (named is.tree.root is.tree.tasks ≡ Some k)
  root = root-in old owner is.tree way

  abbrev grown : HasGrown t.after.tasks is.tree.root root.0
  grown = step-grown old st.formed owner task is.tree way is.machine moved is.kept is.same is.program t.after went step

  base-task : IsTaskIn base owner task t.after
  base-task = record {
    mark = is.task_in.mark;
    there = is.task_in.there;
    of = is.task_in.of;
    unit = is.task_in.unit;
    unit_there = is.task_in.unit_there;
    attempt = named-here owner t.after old.attempts;
    among = ap is_some shape.here;
    rooted = subst IsSome (sym (ap (λ n. named n t.after.tasks) t.step.stays.root ∙ grown.there)) refl;
  }

  -- what took the step stands
  pub taken-stands : Stands mid
  taken-stands = subst Stands (sym t.mid_is) base-stands

  -- the task is in the attempt still
  pub taken-task : IsTaskIn mid owner task t.after
  taken-task = subst (λ (s : Shared). IsTaskIn s owner task t.after) (sym t.mid_is) base-task

  -- ---- what the root has done
  abbrev more : List Effect
  more = grown.grown.more

  does : done_by_root t.after ≡ done_by_root is.tree ++ more
  does = done-so old st.formed owner task is.tree way is.machine moved is.kept is.same is.program t.after went step

  -- by a step that does not go on, and does not end it, the root has done no more
  no-more : end_at t.after ≡ None → is_onward went ≡ false → length (done_by_root t.after) ≡ length (done_by_root is.tree)
  no-more unended still = ap length (ap done_in (ap (λ n. named n t.after.tasks) t.step.stays.root ∙ stays.there) ∙ stays.same ∙ sym (ap done_in root.1))
    where
      quiet : (w : Stepped) → went ≡ w → is_onward w ≡ false → is.tree.root ≡ task → is_loud w ≡ false
      quiet stepped.Now e so at = so
      quiet (stepped.WaitJoin f) e so at = so
      quiet (stepped.Forked c) e so at = refl
      quiet (stepped.NotInSnapshot ref) e so at = refl
      quiet stepped.Finished e so at = absurd (subst (λ w. IsAfter is.tree.tasks (outer_of old.board h) h w shape.after) e shape.is (open-root t.after.escape (end_of shape.after.stage)
          (ap (λ o. end_by t.after.escape (option_and_then (λ (k : Task). end_of k.stage) o)) (sym (ap (λ n. named n t.after.tasks) (t.step.stays.root ∙ at) ∙ shape.here)) ∙ unended)))

      stays : HasStayed t.after.tasks is.tree.root root.0
      stays = steps-stay (snapshot_of old.versions is.tree.snapshot) task moved (outer_of old.board h) is.tree t.after went kept.task kept.there h t.step.comes is.tree.root root.0 root.1 (quiet went refl still)

  pub done-no-more : (before : ℕ) → before ≡ length (done_by_root is.tree) → IfSome (named owner mid.attempts) (HasDoneNoMore before went)
  done-no-more before so_much = subst (λ (s : Shared). IfSome (named owner s.attempts) (HasDoneNoMore before went)) (sym t.mid_is)
      (subst (λ o. IfSome o (HasDoneNoMore before went)) (sym (named-here owner t.after old.attempts)) (λ unended still. no-more unended still ∙ sym so_much))

  -- ---- the marks of all but the tasks of the attempt
  beside : AreMarked old → end_at is.tree ≡ None → MayUndo base owner went → AreMarkedBeside base owner
  beside marked before (inl missing) = by went refl missing
    where
      by : (w : Stepped) → went ≡ w → is_missing w ≡ true → AreMarkedBeside base owner
      by (stepped.NotInSnapshot ref) e m = missing-beside old marked owner task is.task_in.unit is.tree is.task_in.mark is.task_in.there is.task_in.of is.task_in.unit_there is.task_in.attempt before is.machine moved is.kept is.same t.after went step base-stands on_going ref e
      by stepped.Now e m = cc
      by (stepped.Forked c) e m = cc
      by (stepped.WaitJoin f) e m = cc
      by stepped.Finished e m = cc
  beside marked before (inr ended) = by (end_at t.after) refl (at-attempt (named owner base.attempts) (λ (a : Attempt). true ≡ is_some (end_at a)) t.after (named-here owner t.after old.attempts) ended)
    where
      by : (o : Option TaskEnd) → end_at t.after ≡ o → true ≡ is_some o → AreMarkedBeside base owner
      by None e so = cc
      by (Some end) e so = ended-beside old marked owner task is.task_in.unit is.tree is.task_in.mark is.task_in.there is.task_in.of is.task_in.unit_there is.task_in.attempt before is.machine moved is.kept is.same t.after went step base-stands on_going end e

  pub taken-beside : AreMarked old → IfSome (named owner old.attempts) (λ tree. end_at tree ≡ None) → MayUndo mid owner went → AreMarkedBeside mid owner
  taken-beside marked unended may = subst (λ (s : Shared). AreMarkedBeside s owner) (sym t.mid_is)
      (beside marked (at-attempt (named owner old.attempts) (λ (a : Attempt). end_at a ≡ None) is.tree is.task_in.attempt unended) (subst (λ (s : Shared). MayUndo s owner went) t.mid_is may))

  -- ---- what it comes to
  came : end_at is.tree ≡ None → (before : ℕ) → before ≡ length (done_by_root is.tree) → (new : Shared) (found : Given) → HasCome base owner task before went new found → GaveTask old task found new
  came unended before so_much new found c = record {
    owner = owner;
    unit = is.task_in.unit;
    tree = is.tree;
    mark = is.task_in.mark;
    there = is.task_in.there;
    of = is.task_in.of;
    unit_there = is.task_in.unit_there;
    attempt = is.task_in.attempt;
    gives = subst (λ o. TaskGives old owner is.task_in.unit task is.tree o (machine_of is.tree task) found new) (sym unended) (subst (λ m. StepsOn old owner is.task_in.unit task is.tree m found new) (sym is.kept) (record {
      by = record { moved = moved; same = is.same; after = t.after; went = went; of = is.program; step = step; more = more; does = does };
      mid = record c.posted { attempts = old.attempts };
      posts = posts;
      comes = subst (λ (s : Shared). AfterStep s owner is.task_in.unit task t.after went (end_at t.after) found new) (sym whole) (c.row is.task_in.unit t.after is.task_in.unit_there (named-here owner t.after old.attempts));
    }));
    claims = c.claims;
  }
    where
      posting : IsPosting base c.posted
      posting = step-posted-so base owner t.after before c.posted (named-here owner t.after old.attempts) c.posts

      whole : record c.posted { attempts = with_named old.attempts owner t.after } ≡ c.posted
      whole = ap (λ a. record c.posted { attempts = a }) (sym (ap (λ (s : Shared). s.attempts) (posting-rest base c.posted posting)))

      posts : StepPosts (end_at t.after) (named owner old.aheads) old owner is.tree.root (sends_in (done_by_root is.tree)) (sends_in more) (record c.posted { attempts = old.attempts })
      posts = subst (λ n. StepPosts (end_at t.after) (named owner old.aheads) old owner n (sends_in (done_by_root is.tree)) (sends_in more) (record c.posted { attempts = old.attempts })) t.step.stays.root
          (subst (λ es. StepPosts (end_at t.after) (named owner old.aheads) old owner t.after.root (sends_in (done_by_root is.tree)) (sends_in es) (record c.posted { attempts = old.attempts })) (then-done t.after before (done_by_root is.tree) more does so_much)
          (subst (λ es. StepPosts (end_at t.after) (named owner old.aheads) old owner t.after.root (sends_in es) (sends_in (drop before (done_by_root t.after))) (record c.posted { attempts = old.attempts })) (first-done t.after before (done_by_root is.tree) more does so_much)
          (step-beside (end_at t.after) (named owner old.aheads) base owner t.after.root (sends_in (take before (done_by_root t.after))) (sends_in (drop before (done_by_root t.after))) c.posted old.attempts (c.posts t.after (named-here owner t.after old.attempts)))))

  pub taken-came : IfSome (named owner old.attempts) (λ tree. end_at tree ≡ None) → (before : ℕ) → IfSome (named owner old.attempts) (λ tree. IsSome (named tree.root tree.tasks) → before ≡ length (done_by_root tree)) → (new : Shared) (result : Result Given AllocError)
      → ComesAfter mid owner task before went new result → TaskCame old task new result
  taken-came unended before so_much new (Ok found) c =
      came (at-attempt (named owner old.attempts) (λ (a : Attempt). end_at a ≡ None) is.tree is.task_in.attempt unended) before (at-attempt (named owner old.attempts) (λ (a : Attempt). IsSome (named a.root a.tasks) → before ≡ length (done_by_root a)) is.tree is.task_in.attempt so_much is.task_in.rooted) new found
      (subst (λ (s : Shared). HasCome s owner task before went new found) t.mid_is c)
  taken-came unended before so_much new (Err e) c = left (subst (λ (s : Shared). IsLeft s owner task went new) t.mid_is c)
    where
      rest-so : new ≡ record base { board = new.board } → new ≡ record old { attempts = new.attempts; board = new.board }
      rest-so is = is ∙ ap (λ a. record old { attempts = a; board = new.board }) (sym (ap (λ (s : Shared). s.attempts) is))

      ages-so : new ≡ record base { board = new.board } → (u : Name) → age_of new u ≡ age_of old u
      ages-so so u = ap (λ (s : Shared). age_of s u) so ∙ same-age old owner is.tree t.after is.task_in.attempt t.step.stays.snapshot u

      none-gone-so : new ≡ record base { board = new.board } → length old.attempts ≤ length new.attempts
      none-gone-so so = none-gone-put old new owner t.after (ap (λ (s : Shared). s.attempts) so)

      unended_so : end_at is.tree ≡ None
      unended_so = at-attempt (named owner old.attempts) (λ (a : Attempt). end_at a ≡ None) is.tree is.task_in.attempt unended

      ended-so : IfSome (named owner base.attempts) (λ tree. true ≡ is_some (end_at tree)) → (e : TaskEnd) × (end_at t.after ≡ Some e)
      ended-so ended = by (end_at t.after) refl (at-attempt (named owner base.attempts) (λ (a : Attempt). true ≡ is_some (end_at a)) t.after (named-here owner t.after old.attempts) ended)
        where
          by : (o : Option TaskEnd) → end_at t.after ≡ o → true ≡ is_some o → (e : TaskEnd) × (end_at t.after ≡ Some e)
          by None so e = cc
          by (Some end) so e = (end, so)

      -- the task is ready for that
      readied-left : (w : Work) → (w ≡ work.Eval) ⊎ (w ≡ work.Settle) → IsReadied w base task new → (HasMarks old → AreMarked new) → IsWanting old task new
      readied-left w kind readied marks = record {
        stands = marked-task base base-stands task (mark.Ready w) new (no-unit base.board task is.task_in.mark is.task_in.there, ap actor_of_piece is.task_in.there) readied.marked;
        here = inr (record { what = w; left = kind; is = readied.marked.set.here });
        others = λ other ne. readied.marked.set.others other ne;
        claims = readied.claims;
        ages = ages-so readied.marked.others;
        no_fewer = none-gone-so readied.marked.others;
        marks = λ right going. marks right;
        rest = rest-so readied.marked.others;
      }

      left : IsLeft base owner task went new → IsWanting old task new
      left (left_as.misses held same) = record {
        stands = same-stands base new base-stands same;
        here = inl (same.pieces task);
        others = λ other ne. same.pieces other;
        claims = λ ticket free. same.claims.to ticket;
        ages = ages-so same.rest;
        no_fewer = none-gone-so same.rest;
        marks = λ marks going. left-missing old (marks on_going) owner task is.task_in.unit is.tree is.task_in.mark is.task_in.there is.task_in.of is.task_in.unit_there is.task_in.attempt unended_so is.machine moved is.kept is.same t.after went step base-stands on_going new st held
            (same.pieces task ∙ is.task_in.there) (λ q other. same.pieces q) same.rest;
        rest = rest-so same.rest;
      }
      left (left_as.goes now readied) = readied-left work.Eval (inl refl) readied
          (λ marks. left-now old (marks on_going) owner task is.task_in.unit is.tree is.task_in.mark is.task_in.there is.task_in.of is.task_in.unit_there is.task_in.attempt unended_so is.machine moved is.kept is.same t.after went step base-stands on_going new now readied.marked)
      left (left_as.again future waits readied) = readied-left work.Eval (inl refl) readied
          (λ marks. left-again old (marks on_going) owner task is.task_in.unit is.tree is.task_in.mark is.task_in.there is.task_in.of is.task_in.unit_there is.task_in.attempt unended_so is.machine moved is.kept is.same t.after went step base-stands on_going new future waits
          readied.marked)
      left (left_as.settles ended readied) = readied-left work.Settle (inr refl) readied
          (λ marks.
          let end = ended-so ended in
          left-ended old (marks on_going) owner task is.task_in.unit is.tree is.task_in.mark is.task_in.there is.task_in.of is.task_in.unit_there is.task_in.attempt unended_so is.machine moved is.kept is.same t.after went step base-stands on_going new end.0 end.1
          readied.marked)

-- what is as it was is the same but for room
pub same-itself : (s : Shared) → IsSameBut s s
same-itself s = record { pieces = λ n. refl; claims = same-claims s.board; rest = refl }

-- what a task comes to on what is the same but for room
pub gave-again : (old : Shared) (b : Board) → SamePieces old.board b → SameClaims old.board b → (task : Name) (found : Given) (new : Shared) → GaveTask (record old { board = b }) task found new → GaveTask old task found new
gave-again old b same claims task found new g = record {
  owner = g.owner;
  unit = g.unit;
  tree = g.tree;
  mark = g.mark;
  there = sym (same task) ∙ g.there;
  of = g.of;
  unit_there = ap (option_and_then unit_in) (sym (same g.owner)) ∙ g.unit_there;
  attempt = g.attempt;
  gives = on (end_at g.tree) (machine_of g.tree task) g.gives;
  claims = gone-again found old (record old { board = b }) new task (λ q. ap is_some (same q)) (same-claimed old (record old { board = b }) (record { pieces = same; claims = claims; rest = refl })) g.claims;
}
  where
    steps : (machine : Evaluation) → TakesStep (record old { board = b }) g.owner g.unit task g.tree machine found new → TakesStep old g.owner g.unit task g.tree machine found new
    steps machine r = record {
      by = record {
        moved = r.by.moved;
        same = r.by.same;
        after = r.by.after;
        went = r.by.went;
        of = r.by.of;
        step = subst (λ o. IsStep (snapshot_of old.versions g.tree.snapshot) task r.by.moved o (halt_of old.setup.program machine) g.tree r.by.after r.by.went) (outer-same old.board b (halt_of old.setup.program machine) same) r.by.step;
        more = r.by.more;
        does = r.by.does;
      };
      mid = again.on;
      posts = again.post;
      comes = after-again (record again.on { attempts = with_named again.on.attempts g.owner r.by.after }) r.mid.board again.same again.claims.lent g.owner g.unit task r.by.after r.by.went (end_at r.by.after) found new
          (subst (λ (s : Shared). AfterStep (record s { attempts = with_named s.attempts g.owner r.by.after }) g.owner g.unit task r.by.after r.by.went (end_at r.by.after) found new) again.rest r.comes);
    }
      where
        again : IsPostedAgain old r.mid (StepPosts (end_at r.by.after) (named g.owner old.aheads) old g.owner g.tree.root (sends_in (done_by_root g.tree)) (sends_in r.by.more))
        again = step-again (end_at r.by.after) (named g.owner old.aheads) old b g.owner g.tree.root (sends_in (done_by_root g.tree)) (sends_in r.by.more) r.mid same claims r.posts

    on : (ended : Option TaskEnd) (machine : Option Evaluation) → TaskGives (record old { board = b }) g.owner g.unit task g.tree ended machine found new → TaskGives old g.owner g.unit task g.tree ended machine found new
    on (Some ended) machine r = root-again old b same claims.lent g.owner g.unit task g.tree ended found new r
    on None None r = absurd r
    on None (Some machine) r = steps machine r

pub came-again : (old one new : Shared) (task : Name) (result : Result Given AllocError) → IsSameBut old one → TaskCame one task new result → TaskCame old task new result
came-again old one new task (Ok found) same came = gave-again old one.board same.pieces same.claims task found new (subst (λ (s : Shared). GaveTask s task found new) same.rest came)
came-again old one new task (Err e) same came =
    wanting-again old one new task same.pieces same.claims.to (same.rest ∙ ap (λ a. record old { attempts = a; board = one.board }) (sym (ap (λ (s : Shared). s.attempts) same.rest)))
    (λ u. ap (λ (s : Shared). age_of s u) same.rest) (none-gone old one (ap (λ (s : Shared). s.attempts) same.rest)) (same-marks old one same) came
