-- How the marks stay right where an attempt is gone.
use Rattle.std.proofs.Common.{◌≡◌, ◌∙◌, ◌⊎◌, Bool, true, false, cond, inl, inr, refl, sym, ap, ap₂, subst}
use Rattle.std.specs.Option.{option_and_then, option_map}
use Rattle.std.specs.Prelude.{Option, None, Some, is_some}
use Rattle.actor_mails.specs.Mails.{SameMail}
use Rattle.serial_model.specs.State.{UnitState}
use Rattle.shared_world.proofs.Besides.{apart-of}
use Rattle.shared_world.proofs.Live.{unit-piece}
use Rattle.shared_world.proofs.Marks.{ActorsAreMarked, IsStill, come-again, root-again, same-root, same-settles, SameRoot, still-ahead, task-again, unit-again}
use Rattle.shared_world.specs.Marks.{AreMarked, HasPiece, IsTaskPiece, UnitSays}
use Rattle.shared_world.specs.rows.Actors.{actor_mark, has_turn}
use Rattle.shared_world.specs.rows.Attempts.{TasksGo}
use Rattle.shared_world.specs.rows.Pieces.{task_gone}
use Rattle.shared_world.specs.Shared.{Shared, finished_at, finished_by, unit_state}
use Rattle.task_fork_join.specs.Attempt.{Attempt}
use Rattle.task_fork_join.specs.declared.task.Task.{Task}
use Rattle.unit_table.specs.Board.{piece_at, unit_at}
use Rattle.unit_table.specs.declared.mark.Mark.{Mark}
use Rattle.unit_table.specs.declared.piece.Piece.{Piece}
use Rattle.unit_table.specs.declared.piece.Piece.TheVariants as piece
use Rattle.unit_table.specs.declared.unit.Unit.{Unit as Doing}
use Rattle.unit_table.specs.Piece.{unit_in}
use Rattle.value_core.proofs.NamedLaws.{same_name-equal}
use Rattle.value_core.specs.declared.value.Value.{Value}
use Rattle.value_core.specs.Named.{Name, named, same_name}

-- The attempt of the unit is gone with its tasks, whatever they are by then: those that it had, and such as are no pieces.
pub record IsGone (old : Shared) (u : Name) (y : Doing) (tree after : Attempt) (new : Shared) : Type 0 where
  pub setup : new.setup ≡ old.setup
  pub owners : new.owners ≡ old.owners
  pub aheads : new.aheads ≡ old.aheads
  pub taken : new.taken ≡ old.taken
  pub attempts : (v : Name) → named v new.attempts ≡ cond (same_name v u) None (named v old.attempts)
  pub tasks : TasksGo u y after old.board new.board
  pub mails : SameMail old.mails new.mails
  pub only : (n : Name) (t : Task) → named n after.tasks ≡ Some t → ((k : Task) × (named n tree.tasks ≡ Some k)) ⊎ (piece_at old.board n ≡ None)
  pub all : (n : Name) (k : Task) → named n tree.tasks ≡ Some k → (t : Task) × (named n after.tasks ≡ Some t)
  pub unfinished : finished_by y.mark ≡ None
  pub says : UnitSays new u y y.mark

module _ (old new : Shared) (marked : AreMarked old) (u : Name) (x y : Doing) (tree after : Attempt) (unit_there : unit_at old.board u ≡ Some x) (there : named u old.attempts ≡ Some tree) (is : IsGone old u y tree after new) where
  abbrev finished-by-piece : Option Piece → Option Value
  finished-by-piece found = option_and_then (λ (k : UnitState). k.finished) (option_map unit_state (option_and_then unit_in found))

  -- what is no unit's piece is the same or gone
  is-other : (n : Name) → (n ≡ u → ⊥) → piece_at new.board n ≡ cond (is_some (named n after.tasks)) (task_gone (piece_at old.board n)) (piece_at old.board n)
  is-other n other = is.tasks.others n other

  over : (f : Name) → finished_at old.board f ≡ None → finished_at new.board f ≡ None
  over f none = on (same_name f u) refl
    where
      same-finished : (found : Option Piece) (c : Bool) → finished-by-piece (cond c (task_gone found) found) ≡ finished-by-piece found
      same-finished found false = refl
      same-finished None true = refl
      same-finished (Some (piece.Unit k)) true = refl
      same-finished (Some (piece.Task m)) true = refl
      same-finished (Some (piece.Actor a)) true = refl

      on : (c : Bool) → same_name f u ≡ c → finished_at new.board f ≡ None
      on true e = ap (finished_at new.board) (same_name-equal f u e) ∙ ap finished-by-piece is.tasks.here ∙ is.unfinished
      on false e = ap finished-by-piece (is-other f (apart-of f u e)) ∙ same-finished (piece_at old.board f) (is_some (named f after.tasks)) ∙ none

  still : (v : Name) → same_name v u ≡ false → IsStill old new v
  still v e = record {
    root = subst (λ o. SameRoot (named v old.attempts) o) (sym (is.attempts v ∙ ap (λ c. cond c None (named v old.attempts)) e)) (same-root (named v old.attempts));
    ahead = ap (named v) is.aheads;
    settles = same-settles old new v (ap (named v) is.aheads) is.taken;
  }

  units : (v : Name) (z : Doing) (c : Bool) → same_name v u ≡ c → unit_at new.board v ≡ Some z → UnitSays new v z z.mark
  units v z true e at =
      let both : Some y ≡ Some z = sym (ap (unit_at new.board) (same_name-equal v u e) ∙ ap (option_and_then unit_in) is.tasks.here) ∙ at in
      let same : y ≡ z = cc in
      subst (λ q. UnitSays new q z z.mark) (sym (same_name-equal v u e)) (subst (λ (k : Doing). UnitSays new u k k.mark) same is.says)
  units v z false e at = unit-again old new v z z.mark is.setup (still v e) (λ f waits. over f) (marked.units v z (left (piece_at old.board v) (is_some (named v after.tasks)) (sym (ap (option_and_then unit_in) (is-other v (apart-of v u e))) ∙ at)))
    where
      left : (found : Option Piece) (c : Bool) → option_and_then unit_in (cond c (task_gone found) found) ≡ Some z → option_and_then unit_in found ≡ Some z
      left found false e = e
      left None true e = e
      left (Some (piece.Unit k)) true e = e
      left (Some (piece.Task m)) true e = cc
      left (Some (piece.Actor a)) true e = e

  -- the unit is no task
  no-task : (k : Mark) → piece_at new.board u ≡ Some (piece.Task k) → ⊥
  no-task k at = let no : Some (piece.Unit y) ≡ Some (piece.Task k) = sym is.tasks.here ∙ at in cc

  no-task-before : (k : Mark) → piece_at old.board u ≡ Some (piece.Task k) → ⊥
  no-task-before k at = let no : Some (piece.Unit x) ≡ Some (piece.Task k) = sym (unit-piece old.board u x unit_there) ∙ at in cc

  -- a task that is left was there, and is none of those that are gone
  pub record IsLeft (n : Name) (m : Mark) : Type 0 where
    pub was_there : piece_at old.board n ≡ Some (piece.Task m)
    pub not_gone : is_some (named n after.tasks) ≡ false

  task-left : (n : Name) (m : Mark) → (n ≡ u → ⊥) → piece_at new.board n ≡ Some (piece.Task m) → IsLeft n m
  task-left n m other at = on (is_some (named n after.tasks)) refl
    where
      gone : (found : Option Piece) → task_gone found ≡ Some (piece.Task m) → ⊥
      gone None e = cc
      gone (Some (piece.Unit k)) e = cc
      gone (Some (piece.Task k)) e = cc
      gone (Some (piece.Actor a)) e = cc

      on : (c : Bool) → is_some (named n after.tasks) ≡ c → IsLeft n m
      on true e = absurd (gone (piece_at old.board n) (sym (is-other n other ∙ ap (λ c. cond c (task_gone (piece_at old.board n)) (piece_at old.board n)) e) ∙ at))
      on false e = record { was_there = sym (is-other n other ∙ ap (λ c. cond c (task_gone (piece_at old.board n)) (piece_at old.board n)) e) ∙ at; not_gone = e }

  tasks : (n : Name) (m : Mark) → (n ≡ u → ⊥) → piece_at new.board n ≡ Some (piece.Task m) → IsTaskPiece new n m
  tasks n m other at = on (same_name before.owner u) refl
    where
      left : IsLeft n m
      left = task-left n m other at

      before : IsTaskPiece old n m
      before = marked.tasks n m left.was_there

      on : (c : Bool) → same_name before.owner u ≡ c → IsTaskPiece new n m
      on true e =
          let both : Some before.tree ≡ Some tree = sym before.attempt ∙ ap (λ q. named q old.attempts) (same_name-equal before.owner u e) ∙ there in
          let same : before.tree ≡ tree = cc in
          let still = is.all n before.task (ap (λ (a : Attempt). named n a.tasks) (sym same) ∙ before.among) in
          let no : true ≡ false = sym (ap is_some still.1) ∙ left.not_gone in cc
      on false e = record {
        owner = before.owner;
        of = ap (named n) is.owners ∙ before.of;
        tree = before.tree;
        attempt = is.attempts before.owner ∙ ap (λ c. cond c None (named before.owner old.attempts)) e ∙ before.attempt;
        task = before.task;
        among = before.among;
        hangs = before.hangs;
        says = λ unended. task-again old new is.setup before.owner before.tree.tasks before.tree.tasks before.task m (λ e. still-ahead old new before.owner (ap (named before.owner) is.aheads)) (λ f waits. come-again old.board new.board before.tree.tasks before.task f (over f)) (before.says unended);
        decides = λ ended e root. root-again old new before.owner m before.hangs (λ waits. still-ahead old new before.owner (ap (named before.owner) is.aheads)) (before.decides ended e root);
      }

  actors : ActorsAreMarked new
  actors a z at = marked.actors a z (left (piece_at old.board a) (is_some (named a after.tasks)) (sym (is-other a other) ∙ at)) ∙ sym (ap₂ (λ taken mail. actor_mark (has_turn taken a z.state) mail) is.taken (is.mails a))
    where
      other : a ≡ u → ⊥
      other same = let no : Some (piece.Unit y) ≡ Some (piece.Actor z) = sym is.tasks.here ∙ ap (piece_at new.board) (sym same) ∙ at in cc

      left : (found : Option Piece) (c : Bool) → cond c (task_gone found) found ≡ Some (piece.Actor z) → found ≡ Some (piece.Actor z)
      left found false e = e
      left None true e = e
      left (Some (piece.Unit k)) true e = e
      left (Some (piece.Task m)) true e = cc
      left (Some (piece.Actor k)) true e = e

  pieces : (v : Name) (some : Attempt) (c : Bool) → same_name v u ≡ c → named v new.attempts ≡ Some some → (n : Name) (t : Task) → named n some.tasks ≡ Some t → HasPiece new v n
  pieces v some true e at n t among = let no : None ≡ Some some = sym (is.attempts v ∙ ap (λ c. cond c None (named v old.attempts)) e) ∙ at in cc
  pieces v some false e at n t among = record {
    mark = has.mark;
    there = is-other n other ∙ stays (is_some (named n after.tasks)) refl ∙ has.there;
    of = ap (named n) is.owners ∙ has.of;
  }
    where
      has : HasPiece old v n
      has = marked.pieces v some (sym (is.attempts v ∙ ap (λ c. cond c None (named v old.attempts)) e) ∙ at) n t among

      other : n ≡ u → ⊥
      other same = no-task-before has.mark (ap (piece_at old.board) (sym same) ∙ has.there)

      -- it is no task of the attempt that is gone
      apart : (k : Task) → named n after.tasks ≡ Some k → ⊥
      apart k was = by (is.only n k was)
        where
          by : ((j : Task) × (named n tree.tasks ≡ Some j)) ⊎ (piece_at old.board n ≡ None) → ⊥
          by (inl of) =
              let mine = marked.pieces u tree there n of.0 of.1 in
              let both : Some u ≡ Some v = sym mine.of ∙ has.of in
              let same : u ≡ v = cc in
              apart-of v u e (sym same)
          by (inr none) = let no : None ≡ Some (piece.Task has.mark) = sym none ∙ has.there in cc

      stays : (c : Bool) → is_some (named n after.tasks) ≡ c → cond c (task_gone (piece_at old.board n)) (piece_at old.board n) ≡ piece_at old.board n
      stays false e = refl
      stays true e = by (named n after.tasks) refl e
        where
          by : (found : Option Task) → named n after.tasks ≡ found → is_some found ≡ true → cond true (task_gone (piece_at old.board n)) (piece_at old.board n) ≡ piece_at old.board n
          by None is e = cc
          by (Some k) is e = absurd (apart k is)

  pub marked-gone : AreMarked new
  marked-gone = record {
    units = λ v z at. units v z (same_name v u) refl at;
    tasks = λ n m at. tasks n m (λ same. no-task m (ap (piece_at new.board) (sym same) ∙ at)) at;
    actors = actors;
    pieces = λ v some at n t among. pieces v some (same_name v u) refl at n t among;
  }
