-- Tasks that go, one after another.
use Rattle.std.proofs.Common.{◌≡◌, ◌∙◌, ◌<◌, Bool, true, false, cond, suc, length, List, [], ◌∷◌, le_refl, le_trans, refl, sym, ap, subst}
use Rattle.std.specs.Prelude.{IfNone, IfSome, None, Option, Some, ◌&&◌, ◌||◌}
use Rattle.attempts_gone.specs.Dropping.{AreLeft, IsTaskGone, IsUndone, TasksGone, names_from}
use Rattle.shared_world.specs.rows.Pieces.{but_gone, is_task, task_gone}
use Rattle.task_fork_join.specs.Attempt.{Attempt, names_in}
use Rattle.task_fork_join.specs.Following.{names_after}
use Rattle.task_fork_join.specs.declared.task.Task.{Task}
use Rattle.unit_table.specs.Board.{Board, SameClaims, SamePieces, lent_to, piece_at}
use Rattle.unit_table.specs.declared.piece.Piece.{Piece}
use Rattle.unit_table.specs.declared.piece.Piece.TheVariants as piece
use Rattle.value_core.proofs.NamedLaws.{same_name-equal, same_name-itself}
use Rattle.value_core.specs.declared.ticket.Ticket.{Ticket}
use Rattle.value_core.specs.Named.{Name, Named, is_among, same_name}

gone-once : (p : Option Piece) (c : Bool) → cond c (task_gone (task_gone p)) (task_gone p) ≡ task_gone p
gone-once p false = refl
gone-once None true = refl
gone-once (Some (piece.Unit x)) true = refl
gone-once (Some (piece.Task m)) true = refl
gone-once (Some (piece.Actor a)) true = refl

gone-is-none : (p : Option Piece) → is_task (task_gone p) ≡ false
gone-is-none None = refl
gone-is-none (Some (piece.Unit x)) = refl
gone-is-none (Some (piece.Task m)) = refl
gone-is-none (Some (piece.Actor a)) = refl

module _ (m : Name) (rest : List Name) (old new : Board) (gone : IsTaskGone m old new) where
  apart : (n : Name) → same_name n m ≡ false → n ≡ m → ⊥
  apart n e same = let no : true ≡ false = sym (same_name-itself m) ∙ ap (λ k. same_name k m) (sym same) ∙ e in cc

  pieces-step : (n : Name) → cond (is_among n rest) (task_gone (piece_at new n)) (piece_at new n) ≡ cond (is_among n (m ∷ rest)) (task_gone (piece_at old n)) (piece_at old n)
  pieces-step n = on (same_name n m) refl
    where
      on : (c : Bool) → same_name n m ≡ c → cond (is_among n rest) (task_gone (piece_at new n)) (piece_at new n) ≡ cond (c || is_among n rest) (task_gone (piece_at old n)) (piece_at old n)
      on true e =
          let here : piece_at new n ≡ task_gone (piece_at old n) = ap (piece_at new) (same_name-equal n m e) ∙ gone.here ∙ ap (λ k. task_gone (piece_at old k)) (sym (same_name-equal n m e)) in
          ap (λ p. cond (is_among n rest) (task_gone p) p) here ∙ gone-once (piece_at old n) (is_among n rest)
      on false e = ap (λ p. cond (is_among n rest) (task_gone p) p) (gone.others n (apart n e))

  claims-step : (t : Ticket) → but_gone (λ q. is_among q rest && is_task (piece_at new q)) (lent_to new t) ≡ but_gone (λ q. is_among q (m ∷ rest) && is_task (piece_at old q)) (lent_to old t)
  claims-step t = ap (but_gone (λ q. is_among q rest && is_task (piece_at new q))) (gone.claims t) ∙ on (lent_to old t)
    where
      and-false : (a : Bool) → (a && false) ≡ false
      and-false true = refl
      and-false false = refl

      by : (q : Name) (c d : Bool) → same_name q m ≡ c → is_task (piece_at old m) ≡ d
          → but_gone (λ k. is_among k rest && is_task (piece_at new k)) (cond (c && d) None (Some q)) ≡ cond ((c || is_among q rest) && is_task (piece_at old q)) None (Some q)
      by q true true e f = ap (λ b. cond b None (Some q)) (sym (ap (λ k. is_task (piece_at old k)) (same_name-equal q m e) ∙ f))
      by q true false e f =
          let none : is_task (piece_at new q) ≡ false = ap (λ k. is_task (piece_at new k)) (same_name-equal q m e) ∙ ap is_task gone.here ∙ gone-is-none (piece_at old m) in
          ap (λ b. cond (is_among q rest && b) None (Some q)) none ∙ ap (λ b. cond b None (Some q)) (and-false (is_among q rest))
          ∙ ap (λ b. cond b None (Some q)) (sym (ap (λ k. is_task (piece_at old k)) (same_name-equal q m e) ∙ f))
      by q false d e f = ap (λ p. cond (is_among q rest && is_task p) None (Some q)) (gone.others q (apart q e))

      on : (found : Option Name) → but_gone (λ q. is_among q rest && is_task (piece_at new q)) (but_gone (λ q. same_name q m && is_task (piece_at old m)) found) ≡ but_gone (λ q. is_among q (m ∷ rest) && is_task (piece_at old q)) found
      on None = refl
      on (Some q) = by q (same_name q m) (is_task (piece_at old m)) refl refl

-- one more is gone
pub one_gone : (all left rest : List Name) (m : Name) (first old new : Board) → left ≡ m ∷ rest → AreLeft all left first old → IsTaskGone m old new → AreLeft all rest first new
one_gone all left rest m first old new is are gone = record {
  pieces = λ n. pieces-step m rest old new gone n ∙ ap (λ ns. cond (is_among n ns) (task_gone (piece_at old n)) (piece_at old n)) (sym is) ∙ are.pieces n;
  claims = λ t. claims-step m rest old new gone t ∙ ap (λ ns. but_gone (λ q. is_among q ns && is_task (piece_at old q)) (lent_to old t)) (sym is) ∙ are.claims t;
}

pub all_gone : (all left : List Name) (first new : Board) → left ≡ [] → AreLeft all left first new → TasksGone all first new
all_gone all left first new is are = record {
  pieces = λ n. ap (λ ns. cond (is_among n ns) (task_gone (piece_at new n)) (piece_at new n)) (sym is) ∙ are.pieces n;
  claims = λ t. same (lent_to new t) ∙ ap (λ ns. but_gone (λ q. is_among q ns && is_task (piece_at new q)) (lent_to new t)) (sym is) ∙ are.claims t;
}
  where
    same : (found : Option Name) → found ≡ but_gone (λ q. false) found
    same None = refl
    same (Some q) = refl

-- ---- the names of the tasks, one after another
-- the next of the tasks, and those that come after it
pub from_next : (after found : Option Name) (tasks : Named Task) → IfSome found (λ n. names_after after tasks ≡ n ∷ names_after (Some n) tasks) → IfNone found (names_after after tasks ≡ []) → names_from found tasks ≡ names_after after tasks
from_next after (Some n) tasks some none = sym some
from_next after None tasks some none = sym none

all_come : (tasks : Named Task) → names_after None tasks ≡ names_in tasks
all_come [] = refl
all_come (e ∷ es) = ap (λ ns. e.0 ∷ ns) (all_come es)

-- at first all are left
pub all_left : (tasks : Named Task) (b : Board) (next : Option Name) → names_from next tasks ≡ names_after None tasks → AreLeft (names_in tasks) (names_from next tasks) b b
all_left tasks b next is = subst (λ ns. AreLeft (names_in tasks) ns b b) (sym (is ∙ all_come tasks)) (record { pieces = λ n. refl; claims = λ t. refl })

-- one less is left
pub shorter : (now before rest : List Name) (n : Name) → now ≡ rest → before ≡ n ∷ rest → length now < length before
shorter now before rest n is was = subst (λ ns. length ns < length before) (sym is) (subst (λ ns. length rest < length ns) (sym was) (le_refl (suc (length rest))))

-- ---- what no piece and no claim shows
pub same_after : (one two three : Board) → SameClaims one two → SameClaims two three → SameClaims one three
same_after one two three first second = record {
  lent = λ q. second.lent q ∙ first.lent q;
  to = λ t. second.to t ∙ first.to t;
  later = λ slot. le_trans (first.later slot) (second.later slot);
}

-- tasks that are gone stay so where the same stands and the same is lent
pub undone_still : (owner : Name) (attempts left : Named Attempt) (board mid after : Board) → IsUndone owner attempts board left mid → SamePieces mid after → SameClaims mid after → IsUndone owner attempts board left after
undone_still owner attempts left board mid after undone pieces claims = record {
  gone = undone.gone;
  tasks = λ tree is. record {
    pieces = λ n. pieces n ∙ (undone.tasks tree is).pieces n;
    claims = λ t. claims.to t ∙ (undone.tasks tree is).claims t;
  };
}
