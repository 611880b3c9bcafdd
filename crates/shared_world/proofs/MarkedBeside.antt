-- The marks of all but the tasks of one attempt, which has taken a step.
use Rattle.std.proofs.Common.{◌≡◌, ◌∙◌, ◌⊎◌, Bool, true, false, cond, inl, inr, refl, sym, ap, subst}
use Rattle.std.specs.Prelude.{None, Some}
use Rattle.actor_mails.specs.Mails.{mail_at}
use Rattle.shared_world.proofs.Marks.{IsStill, SameRoot, come-again, root-again, same-root, same-settles, still-ahead, task-again, unit-again}
use Rattle.shared_world.specs.Marks.{AreMarked, AreMarkedBeside, HasPiece, IsTaskOf, IsTaskPiece, IsYetToStand}
use Rattle.shared_world.specs.rows.Actors.{actor_mark, has_turn}
use Rattle.shared_world.specs.Shared.{Shared, finished_at}
use Rattle.task_fork_join.specs.Attempt.{Attempt}
use Rattle.task_fork_join.specs.declared.task.Task.{Task}
use Rattle.unit_table.specs.Board.{Board, piece_at, unit_at}
use Rattle.unit_table.specs.declared.mark.Mark.{Mark}
use Rattle.value_core.proofs.NamedLaws.{same_name-equal, same_name-itself}
use Rattle.value_core.specs.Named.{Name, named, same_name}

-- The tasks of an attempt of a unit, as they are once one of them has taken a step: those that it had, a child that is no piece
-- yet, and where it is.
pub record HasTasks (old : Shared) (u : Name) (tree after : Attempt) : Type 0 where
  pub root : after.root ≡ tree.root
  pub only : (n : Name) (t : Task) → named n after.tasks ≡ Some t → ((k : Task) × (named n tree.tasks ≡ Some k)) ⊎ (piece_at old.board n ≡ None)
  pub all : (n : Name) (k : Task) → named n tree.tasks ≡ Some k → (t : Task) × (named n after.tasks ≡ Some t)

pub same-tasks : (old : Shared) (u : Name) (tree : Attempt) → HasTasks old u tree tree
same-tasks old u tree = record { root = refl; only = λ n t is. inl (t, is); all = λ n k is. (k, is) }

-- what is kept, with those tasks of the attempt
pub record IsBase (old : Shared) (u : Name) (after : Attempt) (base : Shared) : Type 0 where
  pub attempts : (v : Name) → named v base.attempts ≡ cond (same_name v u) (Some after) (named v old.attempts)
  pub board : base.board ≡ old.board
  pub mails : base.mails ≡ old.mails
  pub owners : base.owners ≡ old.owners
  pub aheads : base.aheads ≡ old.aheads
  pub taken : base.taken ≡ old.taken
  pub setup : base.setup ≡ old.setup

-- the attempt as it is kept
pub kept-base : (old : Shared) (u : Name) (tree : Attempt) → named u old.attempts ≡ Some tree → IsBase old u tree old
kept-base old u tree there = record { attempts = λ v. own v (same_name v u) refl; board = refl; mails = refl; owners = refl; aheads = refl; taken = refl; setup = refl }
  where
    own : (v : Name) (c : Bool) → same_name v u ≡ c → named v old.attempts ≡ cond (same_name v u) (Some tree) (named v old.attempts)
    own v true e = ap (λ q. named q old.attempts) (same_name-equal v u e) ∙ there ∙ sym (ap (λ c. cond c (Some tree) (named v old.attempts)) e)
    own v false e = sym (ap (λ c. cond c (Some tree) (named v old.attempts)) e)

module _ (old : Shared) (marked : AreMarked old) (u : Name) (tree after : Attempt) (there : named u old.attempts ≡ Some tree) (tasks : HasTasks old u tree after) (base : Shared) (is : IsBase old u after base) where
  here : (n : Name) → piece_at base.board n ≡ piece_at old.board n
  here n = ap (λ (b : Board). piece_at b n) is.board

  roots : (v : Name) → SameRoot (named v old.attempts) (named v base.attempts)
  roots v = subst (λ o. SameRoot (named v old.attempts) o) (sym (is.attempts v)) (on (same_name v u) refl)
    where
      on : (c : Bool) → same_name v u ≡ c → SameRoot (named v old.attempts) (cond c (Some after) (named v old.attempts))
      on true e = subst (λ o. SameRoot o (Some after)) (sym (ap (λ q. named q old.attempts) (same_name-equal v u e) ∙ there)) tasks.root
      on false e = same-root (named v old.attempts)

  still : (v : Name) → IsStill old base v
  still v = record { root = roots v; ahead = ap (named v) is.aheads; settles = same-settles old base v (ap (named v) is.aheads) is.taken }

  over : (f : Name) → finished_at old.board f ≡ None → finished_at base.board f ≡ None
  over f none = ap (λ (b : Board). finished_at b f) is.board ∙ none

  kept : (v n : Name) → HasPiece old v n → HasPiece base v n
  kept v n has = record { mark = has.mark; there = here n ∙ has.there; of = ap (named n) is.owners ∙ has.of }

  -- a task that was there is one still
  among : (n : Name) (m : Mark) (at : IsTaskPiece old n m) (c : Bool) → same_name at.owner u ≡ c → (IsTaskOf base u n) ⊎ (IsTaskPiece base n m)
  among n m at true e =
      let mine = same_name-equal at.owner u e in
      let both : Some at.tree ≡ Some tree = sym at.attempt ∙ ap (λ q. named q old.attempts) mine ∙ there in
      let same : at.tree ≡ tree = cc in
      let now = tasks.all n at.task (ap (λ (a : Attempt). named n a.tasks) (sym same) ∙ at.among) in
      inl (record {
        of = ap (named n) is.owners ∙ at.of ∙ ap (λ q. Some q) mine;
        tree = after;
        attempt = is.attempts u ∙ ap (λ c. cond c (Some after) (named u old.attempts)) (same_name-itself u);
        task = now.0;
        among = now.1;
      })
  among n m at false e = inr (record {
    owner = at.owner;
    of = ap (named n) is.owners ∙ at.of;
    tree = at.tree;
    attempt = is.attempts at.owner ∙ ap (λ c. cond c (Some after) (named at.owner old.attempts)) e ∙ at.attempt;
    task = at.task;
    among = at.among;
    hangs = at.hangs;
    says = λ unended. task-again old base is.setup at.owner at.tree.tasks at.tree.tasks at.task m (λ waits. still-ahead old base at.owner (ap (named at.owner) is.aheads)) (λ f waits. come-again old.board base.board at.tree.tasks at.task f (over f)) (at.says unended);
    decides = λ ended e root. root-again old base at.owner m at.hangs (λ waits. still-ahead old base at.owner (ap (named at.owner) is.aheads)) (at.decides ended e root);
  })

  stands : (v : Name) (some : Attempt) (n : Name) (t : Task) (c : Bool) → same_name v u ≡ c → cond c (Some after) (named v old.attempts) ≡ Some some → named n some.tasks ≡ Some t → (HasPiece base v n) ⊎ (IsYetToStand base u v n)
  stands v some n t true e at in_it =
      let same : after ≡ some = cc in
      on (tasks.only n t (ap (λ (a : Attempt). named n a.tasks) same ∙ in_it))
    where
      on : ((k : Task) × (named n tree.tasks ≡ Some k)) ⊎ (piece_at old.board n ≡ None) → (HasPiece base v n) ⊎ (IsYetToStand base u v n)
      on (inl was) = inl (kept v n (subst (λ q. HasPiece old q n) (sym (same_name-equal v u e)) (marked.pieces u tree there n was.0 was.1)))
      on (inr none) = inr (record { own = same_name-equal v u e; none = here n ∙ none })
  stands v some n t false e at in_it = inl (kept v n (marked.pieces v some at n t in_it))

  -- the marks of all but those tasks are right
  pub beside : AreMarkedBeside base u
  beside = record {
    units = λ v x at. unit-again old base v x x.mark is.setup (still v) (λ f waits none. over f none) (marked.units v x (sym (ap (λ (b : Board). unit_at b v) is.board) ∙ at));
    tasks = λ n m at. let was = marked.tasks n m (sym (here n) ∙ at) in among n m was (same_name was.owner u) refl;
    actors = λ a x at. marked.actors a x (sym (here a) ∙ at) ∙ sym (ap (λ t. actor_mark (has_turn t a x.state) (mail_at base.mails a)) is.taken ∙ ap (λ ms. actor_mark (has_turn old.taken a x.state) (mail_at ms a)) is.mails);
    pieces = λ v some at n t in_it. stands v some n t (same_name v u) refl (sym (is.attempts v) ∙ at) in_it;
  }
