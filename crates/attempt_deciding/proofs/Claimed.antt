-- The attempt of a task that is claimed, which is to be undone.
use Rattle.std.proofs.Common.{◌≡◌, ◌∙◌, ◌<◌, true, ap, length, refl, subst, sym}
use Rattle.std.specs.Option.{IsSome, option_map}
use Rattle.std.specs.Prelude.{None, Option, Some, is_some}
use Rattle.attempt_deciding.proofs.Conflicts.{has-conflicted, within-reads}
use Rattle.attempt_deciding.proofs.Ending.{decided-ends}
use Rattle.attempt_deciding.specs.TaskAt.{IsTaskIn}
use Rattle.attempt_deciding.specs.Undoing.{HasConflicted, IsAborted, IsClaimToUndo, IsToUndo}
use Rattle.attempt_undoing.specs.declared.undoing.Undone.{Undone}
use Rattle.attempt_undoing.specs.Undoing.{IsClaimedTask, UndoneFrom}
use Rattle.attempts_gone.specs.Dropping.{HasAttempt}
use Rattle.serial_model.specs.State.{UnitState}
use Rattle.shared_world.proofs.Standing.{root-in}
use Rattle.shared_world.specs.declared.given.Given.{Given}
use Rattle.shared_world.specs.Gave.{GaveTask}
use Rattle.shared_world.specs.Marks.{AreMarked, IsTaskPiece}
use Rattle.shared_world.specs.rows.Tasks.{RootGives, TaskGives, conflicts}
use Rattle.shared_world.specs.Shared.{Shared, is_going, unit_state}
use Rattle.shared_world.specs.Stands.{Stands}
use Rattle.task_fork_join.specs.Attempt.{Attempt, machine_of}
use Rattle.txn_commit.specs.declared.conflict.Conflict.{Conflict}
use Rattle.unit_table.specs.Board.{lent_to, unit_at}
use Rattle.unit_table.specs.declared.unit.Unit.{Unit}
use Rattle.value_core.specs.declared.ticket.Ticket.{Ticket}
use Rattle.value_core.specs.Named.{Name, named}

module _ (s : Shared) (st : Stands s) (on_going : s.end ≡ None) (task : Name) (c : Conflict) (to : IsToUndo s task c) where
  -- its unit is there
  unit-of : (x : Unit) × (unit_at s.board to.owner ≡ Some x)
  unit-of = on (unit_at s.board to.owner) refl (st.attempts (ap is_going on_going) to.owner to.tree to.attempt).there
    where
      on : (found : Option Unit) → unit_at s.board to.owner ≡ found → {k : UnitState} → option_map unit_state found ≡ Some k → (x : Unit) × (unit_at s.board to.owner ≡ Some x)
      on None e is = cc
      on (Some x) e is = (x, e)

  pub to-attempt : HasAttempt s to.owner
  to-attempt = record { unit = unit-of.0; there = unit-of.1; tree = to.tree; attempt = to.attempt }

  module _ (marks : AreMarked s) where
    -- and it is a task of its attempt
    task-in : IsTaskIn s to.owner task to.tree
    task-in = record {
      mark = to.mark;
      there = to.there;
      of = to.of;
      unit = unit-of.0;
      unit_there = unit-of.1;
      attempt = to.attempt;
      among = among (marks.tasks task to.mark to.there);
      rooted = let r = root-in s to.owner to.tree (st.attempts (ap is_going on_going) to.owner to.tree to.attempt) in subst IsSome (sym r.1) refl;
    }
      where
        among : IsTaskPiece s task to.mark → is_some (named task to.tree.tasks) ≡ true
        among piece =
            let owners : Some piece.owner ≡ Some to.owner = sym piece.of ∙ to.of in
            let one : piece.owner ≡ to.owner = cc in
            let trees : Some piece.tree ≡ Some to.tree = sym piece.attempt ∙ ap (λ n. named n s.attempts) one ∙ to.attempt in
            let same : piece.tree ≡ to.tree = cc in
            subst (λ (k : Attempt). is_some (named task k.tasks) ≡ true) same (ap is_some piece.among)

    -- what it comes to
    pub gave-claimed : (new : Shared) (found : Given) → HasConflicted s to.owner c new found → GaveTask s task found new
    gave-claimed new found has =
        let told = has.row unit-of.0 to.tree unit-of.1 to.attempt in
        let row : RootGives s to.owner unit-of.0 task to.tree to.ended found new = conflicts to.level (record { conflict = c; first = to.first; ref = told.ref; ref_is = told.ref_is; aborts = told.aborts }) in
        record {
          owner = to.owner;
          unit = unit-of.0;
          tree = to.tree;
          mark = to.mark;
          there = to.there;
          of = to.of;
          unit_there = unit-of.1;
          attempt = to.attempt;
          gives = subst (λ e. TaskGives s to.owner unit-of.0 task to.tree e (machine_of to.tree task) found new) (sym to.at_end) row;
          claims = decided-ends s new to.owner task unit-of.0 to.tree to.ended found to.level task-in row has.claims;
        }

module _ (s : Shared) (st : Stands s) (on_going : s.end ≡ None) (claim : Ticket) (c : Conflict) (is : IsClaimToUndo s claim c) where
  -- it is a task of an attempt
  abbrev pub claimed-task : IsClaimedTask s claim
  claimed-task = record { task = is.task; lent = is.lent; owner = is.to_undo.owner; of = is.to_undo.of; attempt = to-attempt s st on_going is.task c is.to_undo }

  module _ (new : Shared) (undone : Undone) (undoes : (k : IsClaimedTask s claim) → UndoneFrom s k.owner new undone) where
    from : UndoneFrom s is.to_undo.owner new undone
    from = undoes claimed-task

    -- the ref in the conflict's place is there
    pub within-claimed : c.index < length undone.reads.items
    within-claimed = within-reads is.to_undo.owner s.attempts s.versions undone.reads.items c is.to_undo.tree is.to_undo.attempt from.reads is.to_undo.first

    -- what the task under the ticket comes to
    pub gave-lent : AreMarked s → (found : Given) → IsAborted undone.unit undone.reads.items c found → (task : Name) → lent_to s.board claim ≡ Some task → GaveTask s task found new
    gave-lent marks found told task lent =
        let both : Some is.task ≡ Some task = sym is.lent ∙ lent in
        let one : is.task ≡ task = cc in
        subst (λ n. GaveTask s n found new) one (gave-claimed s st on_going is.task c is.to_undo marks new found (has-conflicted s new is.to_undo.owner c undone found from told))
