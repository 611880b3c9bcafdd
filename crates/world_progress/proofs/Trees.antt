-- The tasks of an attempt whose root is not at its end: with one that goes on something can be done, or its result is to wait.
use Rattle.std.proofs.Common.{◌≡◌, ◌∙◌, ◌⊎◌, inl, inr, ◌<◌, ◌≤◌, ℕ, zero, suc, Bool, true, false, cond, [], refl, sym, ap, subst, arith}
use Rattle.std.proofs.lemmas.Bool.{cases_lt}
use Rattle.std.specs.Prelude.{None, Some, is_some}
use Rattle.serial_model.specs.declared.halt.Halt.{Halt}
use Rattle.serial_model.specs.declared.halt.Halt.TheVariants as halt
use Rattle.serial_model.specs.declared.request.Request.TheVariants as request
use Rattle.serial_model.specs.Eval.{next}
use Rattle.serial_model.specs.Standing.{Agrees, IsAt, IsFormed, StandFor, Start, is_there}
use Rattle.serial_model.specs.Task.{Around, Blocked, Result}
use Rattle.shared_world.specs.Marks.{AreMarked, IsToCome, RootSays, TaskSays, TaskWaits}
use Rattle.shared_world.specs.Marks as marked
use Rattle.shared_world.specs.Returned.{halt_of}
use Rattle.shared_world.specs.Shared.{Shared, finished_at}
use Rattle.shared_world.specs.Stands.{IsUnderWay, start_of}
use Rattle.task_fork_join.specs.Attempt.{Attempt, end_at, end_of, stage_of, tasks_of, tree_task}
use Rattle.task_fork_join.specs.declared.task.Closing.{Closing}
use Rattle.task_fork_join.specs.declared.task.Stage.{Stage}
use Rattle.task_fork_join.specs.declared.task.Stage.TheVariants as kept
use Rattle.task_fork_join.specs.declared.task.Task.{Task}
use Rattle.task_fork_join.specs.declared.task_end.TaskEnd.{TaskEnd}
use Rattle.task_fork_join.specs.Joining.{IsGoing, IsToJoin, JoinsAt, known_in}
use Rattle.task_fork_join.specs.Knowledge.{is_known}
use Rattle.task_fork_join.specs.Running.{HasMachine, IsMachine}
use Rattle.eval_step.specs.Evaluation.{Evaluation}
use Rattle.txn_snapshot.specs.SnapshotAnswer.{snapshot_of}
use Rattle.unit_table.specs.Board.{marks_ready, piece_at}
use Rattle.unit_table.specs.declared.mark.Mark.{Mark}
use Rattle.unit_table.specs.declared.mark.Mark.TheVariants as mark
use Rattle.unit_table.specs.declared.mark.WaitOn.TheVariants as wait
use Rattle.unit_table.specs.declared.piece.Piece.TheVariants as piece
use Rattle.value_core.proofs.NamedViews.{view_found, view_none}
use Rattle.value_core.specs.Named.{Name, is_among, made_by, named}
use Rattle.value_core.specs.Place.{Spot}
use Rattle.world_progress.proofs.Blocked.{blocked-by-child, blocked-by-task, blocked-by-unit, closing-less, going-less}
use Rattle.world_progress.proofs.Sizes.{size}
use Rattle.world_progress.specs.Progress.{HasWork}

-- a task that goes on has not ended
going-still : (stage : Stage) → IsGoing stage → end_of stage ≡ None
going-still (kept.Going machine) goes = refl
going-still (kept.Closing closing) goes = refl
going-still (kept.Ended ended) goes = absurd goes

-- the piece of a task of the attempt of that unit, and what its mark says
pub record HasMark (s : Shared) (u : Name) (tree : Attempt) (n : Name) (t : Task) : Type 0 where
  pub mark : Mark
  pub there : piece_at s.board n ≡ Some (piece.Task mark)
  pub says : end_at tree ≡ None → TaskSays s u tree.tasks t mark
  pub decides : (ended : TaskEnd) → end_at tree ≡ Some ended → n ≡ tree.root → RootSays s u mark

-- each task of an attempt is a piece
pub task-mark : (s : Shared) → AreMarked s → (u : Name) (tree : Attempt) → named u s.attempts ≡ Some tree → (n : Name) (t : Task) → named n tree.tasks ≡ Some t → HasMark s u tree n t
task-mark s marks u tree has n t there = record {
  mark = p.mark;
  there = p.there;
  says = λ still. subst (λ (k : Task). TaskSays s u tree.tasks k p.mark) same_task
      (subst (λ (r : Attempt). TaskSays s u r.tasks its.task p.mark) same_tree (subst (λ o. TaskSays s o its.tree.tasks its.task p.mark) same_owner (its.says (ap end_at same_tree ∙ still))));
  decides = λ ended at_end root. subst (λ o. RootSays s o p.mark) same_owner (its.decides ended (ap end_at same_tree ∙ at_end) (root ∙ ap (λ (r : Attempt). r.root) (sym same_tree)));
}
  where
    p : marked.HasPiece s u n
    p = marks.pieces u tree has n t there

    its : marked.IsTaskPiece s n p.mark
    its = marks.tasks n p.mark p.there

    same_owner : its.owner ≡ u
    same_owner = let both : Some its.owner ≡ Some u = sym its.of ∙ p.of in cc

    same_tree : its.tree ≡ tree
    same_tree = let both : Some its.tree ≡ Some tree = sym its.attempt ∙ ap (λ o. named o s.attempts) same_owner ∙ has in cc

    same_task : its.task ≡ t
    same_task = let both : Some its.task ≡ Some t = sym its.among ∙ ap (λ (r : Attempt). named n r.tasks) same_tree ∙ there in cc

module _ (s : Shared) (u : Name) (tree : Attempt) (way : IsUnderWay s u tree) (around : Around)
    (agrees : Agrees (start_of s.setup u way.unit way.body way.values) (snapshot_of s.versions tree.snapshot) tree.reads (finished_at s.board) around)
    (finishes : (f : Name) → around.finished f ≡ finished_at s.board f) where
  abbrev start : Start
  start = start_of s.setup u way.unit way.body way.values

  abbrev stand : StandFor start around (tasks_of tree.tasks)
  stand = way.runs.runs.stand around agrees

  abbrev pub results : Name → Result
  results = stand.results

  -- something can be done, or the result of that task is to wait
  abbrev pub WorksOrWaits : Name → Type 0
  WorksOrWaits n = HasWork s ⊎ ((results n).outcome ≡ Blocked)

  module _ (n : Name) (t : Task) (there : named n tree.tasks ≡ Some t) where
    -- the task as the model has it
    in_model : named n (tasks_of tree.tasks) ≡ Some (tree_task t)
    in_model = view_found tree_task n tree.tasks t there

    -- it stands there
    at_n : IsAt around results n (tree_task t)
    at_n = stand.at n (tree_task t) in_model

    -- it knows tasks that are there
    formed_n : IsFormed (is_there (tasks_of tree.tasks)) n (tree_task t)
    formed_n = way.runs.runs.formed n (tree_task t) in_model

    -- what its machine asks for, its body does in the model
    asks-so : (machine : Evaluation) → t.stage ≡ kept.Going machine → (h : Halt) → halt_of s.setup.program machine ≡ h
        → next around.program machine.body machine.values true machine.answers around.fuel ≡ h
    asks-so machine stage h is =
        let its : IsMachine start machine = subst (HasMachine start) stage (way.runs.members n t there).machine in
        ap (λ p. next p machine.body machine.values true machine.answers around.fuel) agrees.program
        ∙ ap (λ f. next s.setup.program machine.body machine.values true machine.answers f) (agrees.fuel ∙ sym its.fuel)
        ∙ ap (λ b. next s.setup.program machine.body machine.values b machine.answers machine.fuel) (sym its.inside)
        ∙ is

    -- a task that it knows is there
    known-there : (f : Name) → is_known t.knows f ≡ true → named f tree.tasks ≡ None → ⊥
    known-there f known none = let no : false ≡ true = sym (ap is_some (view_none tree_task f tree.tasks none)) ∙ formed_n.knows_there f known in cc

    -- where none is found none is known
    unknown : (f : Name) → known_in tree.tasks t.knows f ≡ None → is_known t.knows f ≡ false
    unknown f none = on (is_known t.knows f) refl none
      where
        on : (b : Bool) → is_known t.knows f ≡ b → cond b (named f tree.tasks) None ≡ None → is_known t.knows f ≡ false
        on false is e = is
        on true is e = absurd (known-there f is e)

    -- the claim, of the task that it joins
    abbrev Joined : Name → Type 0
    Joined f = (child : Task) → named f tree.tasks ≡ Some child → IsGoing child.stage → size (results f).known < size (results n).known → WorksOrWaits f

    -- its body asks for the join
    going-waits : (machine : Evaluation) → t.stage ≡ kept.Going machine → (f : Name) (place : Spot) → halt_of s.setup.program machine ≡ halt.Ask (request.Join f) place
        → IsToCome s.board tree.tasks t f → Joined f → WorksOrWaits n
    going-waits machine stage f place asks (marked.task known child is goes) joined =
        on (joined child is goes (going-less around results n (tree_task t) at_n machine.body machine.values machine.answers (ap stage_of stage) f known))
      where
        on : WorksOrWaits f → WorksOrWaits n
        on (inl work) = inl work
        on (inr waits) = inr (blocked-by-task around results n (tree_task t) at_n machine.body machine.values machine.answers (ap stage_of stage) f place
            (asks-so machine stage (halt.Ask (request.Join f) place) asks) known waits)
    going-waits machine stage f place asks (marked.unit none still) joined =
        inr (blocked-by-unit around results n (tree_task t) at_n machine.body machine.values machine.answers (ap stage_of stage) f place
        (asks-so machine stage (halt.Ask (request.Join f) place) asks) (unknown f none) (finishes f ∙ still))

    -- a child that it knows is one that it has made
    made-known : (k : ℕ) → is_known t.knows (made_by t.log.log.name k) ≡ true → k < t.log.log.made
    made-known k known = on (cases_lt k t.log.log.made)
      where
        there_so : is_there (tasks_of tree.tasks) (made_by t.log.log.name k) ≡ true
        there_so = formed_n.knows_there (made_by t.log.log.name k) known

        on : (k < t.log.log.made) ⊎ (t.log.log.made ≤ k) → k < t.log.log.made
        on (inl less) = less
        on (inr past) = let no : false ≡ true = sym (formed_n.unmade k [] past) ∙ ap (λ m. is_there (tasks_of tree.tasks) (made_by m k)) (sym formed_n.named_so) ∙ there_so in cc

    -- at its value it goes on with that join
    closing-waits : (closing : Closing) → t.stage ≡ kept.Closing closing → (f : Name) → IsToJoin t closing.next f → IsToCome s.board tree.tasks t f → Joined f → WorksOrWaits n
    closing-waits closing stage f to_join (marked.unit none still) joined = let no : false ≡ true = sym (unknown f none) ∙ to_join.known in cc
    closing-waits closing stage f to_join (marked.task known child is goes) joined =
        on (joined child is goes (closing-less around results n (tree_task t) at_n closing.value closing.next (ap stage_of stage) f known))
      where
        g : Name
        g = made_by t.log.log.name closing.next

        g_known : is_known t.knows g ≡ true
        g_known = ap (is_known t.knows) (sym to_join.called) ∙ known

        on : WorksOrWaits f → WorksOrWaits n
        on (inl work) = inl work
        on (inr waits) = inr (blocked-by-child around results n (tree_task t) at_n closing.value closing.next (ap stage_of stage) g_known
            (ap (λ m. is_among m t.log.log.joined) (sym to_join.called) ∙ to_join.unjoined) (made-known closing.next g_known)
            (ap (λ m. (results m).outcome) (sym to_join.called) ∙ waits))

    -- it waits for what it joins
    pub waits-so : (f : Name) → TaskWaits s tree.tasks t f → Joined f → WorksOrWaits n
    waits-so f w joined = on t.stage refl w.joins
      where
        on : (stage : Stage) → t.stage ≡ stage → JoinsAt s.setup.program t stage f → WorksOrWaits n
        on (kept.Going machine) is joins = going-waits machine is f joins.0 joins.1 w.to_come joined
        on (kept.Closing closing) is joins = closing-waits closing is f joins w.to_come joined
        on (kept.Ended ended) is joins = absurd joins

  module _ (marks : AreMarked s) (has : named u s.attempts ≡ Some tree) (level : named u s.aheads ≡ None) (still : end_at tree ≡ None) where
    -- with a task that goes on something can be done, or its result is to wait
    pub task-works : (bound : ℕ) (n : Name) (t : Task) → named n tree.tasks ≡ Some t → IsGoing t.stage → size (results n).known < bound → WorksOrWaits n
    task-works zero n t there goes less = absurd (omega (arith, less))
    task-works (suc bound) n t there goes less = by p.mark p.there (p.says still) (λ f child is going fewer. task-works bound f child is going (omega (arith, less, fewer)))
      where
        p : HasMark s u tree n t
        p = task-mark s marks u tree has n t there

        by : (m : Mark) → piece_at s.board n ≡ Some (piece.Task m) → TaskSays s u tree.tasks t m
            → ((f : Name) (child : Task) → named f tree.tasks ≡ Some child → IsGoing child.stage → size (results f).known < size (results n).known → WorksOrWaits f) → WorksOrWaits n
        by (mark.Ready w) is says rest = inl (record { name = n; ready = ap marks_ready is })
        by (mark.Waiting (wait.Finish f)) is says rest = waits-so n t there f says (rest f)
        by (mark.Waiting (wait.Definite turn)) is says rest = let no : None ≡ Some says.leads.ahead = sym level ∙ says.leads.leads in cc
        by mark.Resting is says rest = absurd says
        by (mark.Finished v) is says rest = absurd (says (going-still t.stage goes))
        by mark.Dropped is says rest = absurd says
