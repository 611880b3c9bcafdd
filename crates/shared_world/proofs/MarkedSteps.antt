-- How the marks stay right where a task takes a step.
use Rattle.std.proofs.Common.{◌≡◌, ◌∙◌, Bool, true, false, cond, refl, sym, ap, ap₂, subst}
use Rattle.std.specs.Option.{option_and_then, option_map}
use Rattle.std.specs.Prelude.{Option, None, Some, if◌then◌else◌}
use Rattle.actor_mails.specs.Mails.{SameMail, mail_at}
use Rattle.serial_model.specs.declared.halt.Halt.{Halt}
use Rattle.serial_model.specs.State.{UnitState}
use Rattle.shared_world.proofs.Besides.{apart-of}
use Rattle.shared_world.proofs.Marks.{ActorsAreMarked, AreMarkedBut, IsStill, IsTaskPieceBut, come-again, root-again, same-root, same-settles, SameRoot, still-ahead, task-again, unit-again}
use Rattle.task_fork_join.proofs.StepShapes.{IsAfter, IsShaped}
use Rattle.shared_world.specs.Marks as marks
use Rattle.shared_world.specs.Marks.{AreMarked, HasPiece, IsRunningAhead, IsTaskPiece, IsToCome, RootSays, TaskSays, UnitSays}
use Rattle.shared_world.specs.rows.Actors.{actor_mark, has_turn}
use Rattle.shared_world.specs.Shared.{Shared, finished_at, unit_state}
use Rattle.task_fork_join.specs.Attempt.{Attempt, end_at, end_by, end_of}
use Rattle.task_fork_join.specs.declared.stepped.Stepped.{Stepped}
use Rattle.task_fork_join.specs.declared.stepped.Stepped.TheVariants as stepped
use Rattle.task_fork_join.specs.declared.task.Task.{Task}
use Rattle.task_fork_join.specs.declared.task_end.TaskEnd.{TaskEnd}
use Rattle.task_fork_join.specs.Joining.{IsGoing}
use Rattle.unit_table.specs.Board.{piece_at, unit_at}
use Rattle.unit_table.specs.declared.mark.Mark.{Mark}
use Rattle.unit_table.specs.declared.mark.Mark.TheVariants as mark
use Rattle.unit_table.specs.declared.mark.WaitOn.TheVariants as wait
use Rattle.unit_table.specs.declared.mark.Work.TheVariants as work
use Rattle.unit_table.specs.declared.piece.Piece.{Piece}
use Rattle.unit_table.specs.declared.piece.Piece.TheVariants as piece
use Rattle.unit_table.specs.declared.unit.Unit.{Unit as Doing}
use Rattle.unit_table.specs.Piece.{unit_in}
use Rattle.value_core.proofs.NamedLaws.{named-with_named, same_name-equal, same_name-itself}
use Rattle.value_core.specs.declared.value.Value.{Value}
use Rattle.task_fork_join.specs.Knowledge.{is_known}
use Rattle.value_core.specs.Named.{Name, named, same_name, with_named}

-- what is no end is none
pub none-by : (escape : TaskEnd) (o : Option TaskEnd) → end_by escape o ≡ None → o ≡ None
none-by escape None e = refl
none-by escape (Some ended) e = cc

-- whether the step ends the task
abbrev pub says_ended : Stepped → Bool
says_ended stepped.Finished = true
says_ended _ = false

-- whether the step forked a child of that name
abbrev pub forks_it : Stepped → Name → Bool
forks_it (stepped.Forked child) n = same_name n child
forks_it _ n = false

pub forked-so : (went : Stepped) (n : Name) → forks_it went n ≡ true → went ≡ stepped.Forked n
forked-so (stepped.Forked child) n e = ap (λ q. stepped.Forked q) (sym (same_name-equal n child e))
forked-so stepped.Now n e = cc
forked-so (stepped.WaitJoin f) n e = cc
forked-so (stepped.NotInSnapshot ref) n e = cc
forked-so stepped.Finished n e = cc

pub forked-not : (went : Stepped) (n : Name) → forks_it went n ≡ false → went ≡ stepped.Forked n → ⊥
forked-not went n e is = let no : true ≡ false = sym (ap (λ w. forks_it w n) is ∙ same_name-itself n) ∙ e in cc

-- a child that was forked is a task that can go on, of the attempt of that unit; every other piece, its owner and the mail stay
pub record IsWithChild (old : Shared) (u : Name) (went : Stepped) (new : Shared) : Type 0 where
  pub setup : new.setup ≡ old.setup
  pub pieces : (n : Name) → piece_at new.board n ≡ cond (forks_it went n) (Some (piece.Task (mark.Ready work.Eval))) (piece_at old.board n)
  pub owners : (n : Name) → named n new.owners ≡ cond (forks_it went n) (Some u) (named n old.owners)
  pub none : (n : Name) → forks_it went n ≡ true → piece_at old.board n ≡ None
  pub aheads : new.aheads ≡ old.aheads
  pub taken : new.taken ≡ old.taken
  pub mails : SameMail old.mails new.mails

module _ (old new : Shared) (marked : AreMarked old) (u task : Name) (tree after : Attempt) (there : named u old.attempts ≡ Some tree) (before : end_at tree ≡ None) (outer : Option Value) (h : Halt) (went : Stepped)
    (root : after.root ≡ tree.root) (there_task : (t : Task) × (named task tree.tasks ≡ Some t)) (shape : IsShaped tree.tasks task outer h went after.tasks)
    (attempts : new.attempts ≡ with_named old.attempts u after) (child : IsWithChild old u went new)
    (ends : Bool) (ends_so : end_at after ≡ None → says_ended went ≡ true → ends ≡ true) where
  piece-stays : (n : Name) → forks_it went n ≡ false → piece_at new.board n ≡ piece_at old.board n
  piece-stays n e = child.pieces n ∙ ap (λ c. cond c (Some (piece.Task (mark.Ready work.Eval))) (piece_at old.board n)) e

  piece-new : (n : Name) → forks_it went n ≡ true → piece_at new.board n ≡ Some (piece.Task (mark.Ready work.Eval))
  piece-new n e = child.pieces n ∙ ap (λ c. cond c (Some (piece.Task (mark.Ready work.Eval))) (piece_at old.board n)) e

  owner-stays : (n : Name) → forks_it went n ≡ false → named n new.owners ≡ named n old.owners
  owner-stays n e = child.owners n ∙ ap (λ c. cond c (Some u) (named n old.owners)) e

  attempt-of : (v : Name) → named v new.attempts ≡ cond (same_name v u) (Some after) (named v old.attempts)
  attempt-of v = ap (named v) attempts ∙ named-with_named v u after old.attempts

  -- a child is no piece that was there
  not-there : (n : Name) (p : Piece) → piece_at old.board n ≡ Some p → forks_it went n ≡ false
  not-there n p is = on (forks_it went n) refl
    where
      on : (c : Bool) → forks_it went n ≡ c → forks_it went n ≡ false
      on true e = let no : None ≡ Some p = sym (child.none n e) ∙ is in cc
      on false e = e

  over : (f : Name) → finished_at old.board f ≡ None → finished_at new.board f ≡ None
  over f none = on (forks_it went f) refl
    where
      on : (c : Bool) → forks_it went f ≡ c → finished_at new.board f ≡ None
      on true e = ap (λ p. option_and_then (λ (k : UnitState). k.finished) (option_map unit_state (option_and_then unit_in p))) (piece-new f e)
      on false e = ap (λ p. option_and_then (λ (k : UnitState). k.finished) (option_map unit_state (option_and_then unit_in p))) (piece-stays f e) ∙ none

  roots : (v : Name) → SameRoot (named v old.attempts) (named v new.attempts)
  roots v = subst (λ o. SameRoot (named v old.attempts) o) (sym (attempt-of v)) (on (same_name v u) refl)
    where
      on : (c : Bool) → same_name v u ≡ c → SameRoot (named v old.attempts) (cond c (Some after) (named v old.attempts))
      on true e = subst (λ o. SameRoot o (Some after)) (sym (ap (λ q. named q old.attempts) (same_name-equal v u e) ∙ there)) root
      on false e = same-root (named v old.attempts)

  still : (v : Name) → IsStill old new v
  still v = record { root = roots v; ahead = ap (named v) child.aheads; settles = same-settles old new v (ap (named v) child.aheads) child.taken }

  leads-still : (v : Name) → IsRunningAhead old v → IsRunningAhead new v
  leads-still v = still-ahead old new v (ap (named v) child.aheads)

  units : (v : Name) (x : Doing) → unit_at new.board v ≡ Some x → UnitSays new v x x.mark
  units v x at = on (forks_it went v) refl
    where
      on : (c : Bool) → forks_it went v ≡ c → UnitSays new v x x.mark
      on true e = let no : None ≡ Some x = sym (ap (option_and_then unit_in) (piece-new v e)) ∙ at in cc
      on false e = unit-again old new v x x.mark child.setup (still v) (λ f waits none. over f none) (marked.units v x (sym (ap (option_and_then unit_in) (piece-stays v e)) ∙ at))

  -- the task goes on, unless the step ends it
  goes-on : (w : Stepped) → went ≡ w → says_ended w ≡ false → IsGoing shape.after.stage
  goes-on stepped.Now e is = by e
    where
      by : went ≡ stepped.Now → IsGoing shape.after.stage
      by e = subst (λ w. IsAfter tree.tasks outer h w shape.after) e shape.is
  goes-on (stepped.Forked child) e is = by e
    where
      by : went ≡ stepped.Forked child → IsGoing shape.after.stage
      by e = subst (λ w. IsAfter tree.tasks outer h w shape.after) e shape.is
  goes-on (stepped.WaitJoin f) e is = (by e).0
    where
      by : went ≡ stepped.WaitJoin f → IsAfter tree.tasks outer h (stepped.WaitJoin f) shape.after
      by e = subst (λ w. IsAfter tree.tasks outer h w shape.after) e shape.is
  goes-on (stepped.NotInSnapshot ref) e is = by e
    where
      by : went ≡ stepped.NotInSnapshot ref → IsGoing shape.after.stage
      by e = subst (λ w. IsAfter tree.tasks outer h w shape.after) e shape.is
  goes-on stepped.Finished e is = cc

  -- what another task waits for is still to come, unless it is this one and the step ends it
  to-come : (t : Task) (f : Name) → (says_ended went ≡ true → f ≡ task → ⊥) → IsToCome old.board tree.tasks t f → IsToCome new.board after.tasks t f
  to-come t f why (marks.task known waited is going) = on (same_name f task) refl
    where
      at-task : (c : Bool) → says_ended went ≡ c → f ≡ task → IsToCome new.board after.tasks t f
      at-task true e same = absurd (why e same)
      at-task false e same = marks.task known shape.after (ap (λ q. named q after.tasks) same ∙ shape.here) (goes-on went refl e)

      stays : (f ≡ task → ⊥) → (c : Bool) → forks_it went f ≡ c → named f after.tasks ≡ Some waited
      stays other true e = let has = marked.pieces u tree there f waited is in let no : None ≡ Some (piece.Task has.mark) = sym (child.none f e) ∙ has.there in cc
      stays other false e = shape.others f other (forked-not went f e) ∙ is

      on : (c : Bool) → same_name f task ≡ c → IsToCome new.board after.tasks t f
      on true e = at-task (says_ended went) refl (same_name-equal f task e)
      on false e = marks.task known waited (stays (apart-of f task e) (forks_it went f) refl) going
  to-come t f why (marks.unit unknown none) = by (is_known t.knows f) refl
    where
      none-there : is_known t.knows f ≡ true → named f tree.tasks ≡ None
      none-there known = sym (ap (λ c. if c then named f tree.tasks else None) known) ∙ unknown

      other : is_known t.knows f ≡ true → f ≡ task → ⊥
      other known same = let no : None ≡ Some there_task.0 = sym (none-there known) ∙ ap (λ q. named q tree.tasks) same ∙ there_task.1 in cc

      -- where the task knows it, it is the child that was forked or none still
      forked : is_known t.knows f ≡ true → (c : Bool) → forks_it went f ≡ c → IsToCome new.board after.tasks t f
      forked known true e = let begun = shape.child f (forked-so went f e) (other known) in marks.task known begun.task begun.there begun.going
      forked known false e = marks.unit (ap (λ c. if c then named f after.tasks else None) known ∙ shape.others f (other known) (forked-not went f e) ∙ none-there known) (over f none)

      by : (c : Bool) → is_known t.knows f ≡ c → IsToCome new.board after.tasks t f
      by false e = marks.unit (ap (λ c. if c then named f after.tasks else None) e) (over f none)
      by true e = forked e (forks_it went f) refl

  -- a root that took no step has not come to its end by it
  root-open : (n : Name) → (n ≡ task → ⊥) → forks_it went n ≡ false → n ≡ after.root → end_at after ≡ None
  root-open n other e is = ap (λ found. end_by after.escape (option_and_then (λ (t : Task). end_of t.stage) found)) same
      ∙ ap (end_by after.escape) (none-by tree.escape (option_and_then (λ (t : Task). end_of t.stage) (named tree.root tree.tasks)) before)
    where
      same : named after.root after.tasks ≡ named tree.root tree.tasks
      same = ap (λ q. named q after.tasks) (sym is) ∙ shape.others n other (forked-not went n e) ∙ ap (λ q. named q tree.tasks) (is ∙ root)

  -- a child that was forked
  begun-piece : (n : Name) (m : Mark) → (n ≡ task → ⊥) → forks_it went n ≡ true → piece_at new.board n ≡ Some (piece.Task m) → IsTaskPieceBut task ends new n m
  begun-piece n m other e at =
      let begun = shape.child n (forked-so went n e) other in
      let both : Some (piece.Task (mark.Ready work.Eval)) ≡ Some (piece.Task m) = sym (piece-new n e) ∙ at in
      let is : mark.Ready work.Eval ≡ m = cc in record {
        owner = u;
        of = child.owners n ∙ ap (λ c. cond c (Some u) (named n old.owners)) e;
        tree = after;
        attempt = attempt-of u ∙ ap (λ c. cond c (Some after) (named u old.attempts)) (same_name-itself u);
        task = begun.task;
        among = begun.there;
        hangs = λ turn waits. let no : mark.Ready work.Eval ≡ mark.Waiting (wait.Definite turn) = is ∙ waits in cc;
        says = λ unended why. subst (λ k. TaskSays new u after.tasks begun.task k) is begun.going;
        decides = λ ended e at_root. subst (RootSays new u) is tt;
      }

  -- a task that was there
  old-piece : (n : Name) (m : Mark) → (n ≡ task → ⊥) → forks_it went n ≡ false → IsTaskPiece old n m → IsTaskPieceBut task ends new n m
  old-piece n m other e is = on (same_name is.owner u) refl
    where
      on : (c : Bool) → same_name is.owner u ≡ c → IsTaskPieceBut task ends new n m
      on true o =
          let mine : is.owner ≡ u = same_name-equal is.owner u o in
          let both : Some is.tree ≡ Some tree = sym is.attempt ∙ ap (λ q. named q old.attempts) mine ∙ there in
          let same : is.tree ≡ tree = cc in record {
            owner = is.owner;
            of = owner-stays n e ∙ is.of;
            tree = after;
            attempt = attempt-of is.owner ∙ ap (λ c. cond c (Some after) (named is.owner old.attempts)) o;
            task = is.task;
            among = shape.others n other (forked-not went n e) ∙ ap (λ (a : Attempt). named n a.tasks) (sym same) ∙ is.among;
            hangs = is.hangs;
            says = λ unended why. task-again old new child.setup is.owner tree.tasks after.tasks is.task m (λ e. leads-still is.owner) (λ f waits come. to-come is.task f (λ ended here. why (ends_so unended ended) (waits ∙ ap (λ q. mark.Waiting (wait.Finish q)) here)) come)
                (subst (λ (a : Attempt). TaskSays old is.owner a.tasks is.task m) same (is.says (ap end_at same ∙ before)));
            decides = λ ended so at_root. let no : None ≡ Some ended = sym (root-open n other e at_root) ∙ so in cc;
          }
      on false o = record {
        owner = is.owner;
        of = owner-stays n e ∙ is.of;
        tree = is.tree;
        attempt = attempt-of is.owner ∙ ap (λ c. cond c (Some after) (named is.owner old.attempts)) o ∙ is.attempt;
        task = is.task;
        among = is.among;
        hangs = is.hangs;
        says = λ unended why. task-again old new child.setup is.owner is.tree.tasks is.tree.tasks is.task m (λ e. leads-still is.owner) (λ f waits. come-again old.board new.board is.tree.tasks is.task f (over f)) (is.says unended);
        decides = λ ended e at_root. root-again old new is.owner m is.hangs (λ e. leads-still is.owner) (is.decides ended e at_root);
      }

  tasks : (n : Name) (m : Mark) (c : Bool) → forks_it went n ≡ c → (n ≡ task → ⊥) → piece_at new.board n ≡ Some (piece.Task m) → IsTaskPieceBut task ends new n m
  tasks n m true e other at = begun-piece n m other e at
  tasks n m false e other at = old-piece n m other e (marked.tasks n m (sym (piece-stays n e) ∙ at))

  actors : ActorsAreMarked new
  actors a z at = on (forks_it went a) refl
    where
      on : (c : Bool) → forks_it went a ≡ c → z.mark ≡ actor_mark (has_turn new.taken a z.state) (mail_at new.mails a)
      on true e = let no : Some (piece.Task (mark.Ready work.Eval)) ≡ Some (piece.Actor z) = sym (piece-new a e) ∙ at in cc
      on false e = marked.actors a z (sym (piece-stays a e) ∙ at) ∙ sym (ap₂ (λ taken mail. actor_mark (has_turn taken a z.state) mail) child.taken (child.mails a))

  -- a task of an attempt that was a piece
  kept-piece : (v n : Name) → HasPiece old v n → HasPiece new v n
  kept-piece v n has = let e = not-there n (piece.Task has.mark) has.there in record { mark = has.mark; there = piece-stays n e ∙ has.there; of = owner-stays n e ∙ has.of }

  own-pieces : (n : Name) (t : Task) (c d : Bool) → forks_it went n ≡ c → same_name n task ≡ d → named n after.tasks ≡ Some t → HasPiece new u n
  own-pieces n t true d e is among = record { mark = mark.Ready work.Eval; there = piece-new n e; of = child.owners n ∙ ap (λ c. cond c (Some u) (named n old.owners)) e }
  own-pieces n t false true e is among = kept-piece u n (marked.pieces u tree there n there_task.0 (ap (λ q. named q tree.tasks) (same_name-equal n task is) ∙ there_task.1))
  own-pieces n t false false e is among = kept-piece u n (marked.pieces u tree there n t (sym (shape.others n (apart-of n task is) (forked-not went n e)) ∙ among))

  pieces : (v : Name) (some : Attempt) (c : Bool) → same_name v u ≡ c → named v new.attempts ≡ Some some → (n : Name) (t : Task) → named n some.tasks ≡ Some t → HasPiece new v n
  pieces v some true e at n t among =
      let both : Some after ≡ Some some = sym (attempt-of v ∙ ap (λ c. cond c (Some after) (named v old.attempts)) e) ∙ at in
      let same : after ≡ some = cc in
      subst (λ q. HasPiece new q n) (sym (same_name-equal v u e)) (own-pieces n t (forks_it went n) (same_name n task) refl refl (ap (λ (a : Attempt). named n a.tasks) same ∙ among))
  pieces v some false e at n t among = kept-piece v n (marked.pieces v some (sym (attempt-of v ∙ ap (λ c. cond c (Some after) (named v old.attempts)) e) ∙ at) n t among)

  pub marked-step : AreMarkedBut task ends new
  marked-step = record {
    units = λ v x other at. units v x at;
    tasks = λ n m other at. tasks n m (forks_it went n) refl other at;
    actors = actors;
    pieces = λ v some at n t among. pieces v some (same_name v u) refl at n t among;
  }
