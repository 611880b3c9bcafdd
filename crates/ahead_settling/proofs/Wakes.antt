-- Tasks that wait for a turn, and are woken one after another.
use Rattle.std.proofs.Common.{◌≡◌, ◌∙◌, ◌||◌, Bool, true, false, cond, inl, inr, List, [], ◌∷◌, ◌<◌, le_refl, le_trans, length, suc, refl, sym, ap, subst}
use Rattle.std.specs.List.{filter}
use Rattle.std.specs.Option.{option_and_then, option_map}
use Rattle.std.specs.Prelude.{IfNone, IfSome, Option, None, Some, is_some}
use Rattle.ahead_settling.specs.Leaving.{AreLeft, AreWoken, NoneWaits, WaitersAmong, is_task_of}
use Rattle.ahead_settling.specs.Waking.{IsWoken, hangs, names_from, waits_for}
use Rattle.shared_world.specs.Marks.{AreMarked, IsTaskPiece}
use Rattle.shared_world.specs.rows.Leading.{definite_now}
use Rattle.shared_world.specs.Shared.{Shared}
use Rattle.task_fork_join.specs.Attempt.{Attempt, names_in}
use Rattle.task_fork_join.specs.declared.task.Task.{Task}
use Rattle.task_fork_join.specs.Following.{comes_after, names_after}
use Rattle.unit_table.specs.Board.{Board, IsMarked, IsPutAt, SameClaims, marks_ready, piece_at}
use Rattle.unit_table.specs.declared.mark.Mark.{Mark}
use Rattle.unit_table.specs.declared.mark.Mark.TheVariants as mark
use Rattle.unit_table.specs.declared.mark.WaitOn.TheVariants as wait
use Rattle.unit_table.specs.declared.mark.Work.TheVariants as work
use Rattle.unit_table.specs.declared.piece.Piece.{Piece}
use Rattle.unit_table.specs.declared.piece.Piece.TheVariants as piece
use Rattle.unit_table.specs.Piece.{marked}
use Rattle.value_core.proofs.NamedLaws.{same_name-equal, same_name-itself}
use Rattle.value_core.specs.NameSet.{holds_at}
use Rattle.value_core.specs.Named.{Name, Named, is_among, named, same_name}

-- ---- one of them
-- a task that waits for the turn is ready to settle then, and is not ready before
pub wakes : (u : Name) (found : Option Piece) → holds_at (waits_for u) found ≡ true → (option_and_then (marked (mark.Ready work.Settle)) found ≡ option_map (definite_now u) found) × (marks_ready found ≡ false)
wakes u None is = cc
wakes u (Some (piece.Unit x)) is = cc
wakes u (Some (piece.Actor a)) is = cc
wakes u (Some (piece.Task m)) is = on m is
  where
    on : (m : Mark) → hangs u m ≡ true → (option_and_then (marked (mark.Ready work.Settle)) (Some (piece.Task m)) ≡ option_map (definite_now u) (Some (piece.Task m))) × (marks_ready (Some (piece.Task m)) ≡ false)
    on (mark.Waiting (wait.Definite turn)) so = (ap (λ c. Some (piece.Task (cond c (mark.Ready work.Settle) (mark.Waiting (wait.Definite turn))))) (sym so), refl)
    on (mark.Waiting (wait.Finish f)) so = cc
    on (mark.Ready w) so = cc
    on mark.Resting so = cc
    on (mark.Finished v) so = cc
    on mark.Dropped so = cc

-- anything else stays
pub stays-waiting : (u : Name) (found : Option Piece) → holds_at (waits_for u) found ≡ false → option_map (definite_now u) found ≡ found
stays-waiting u None is = refl
stays-waiting u (Some (piece.Unit x)) is = refl
stays-waiting u (Some (piece.Actor a)) is = refl
stays-waiting u (Some (piece.Task m)) is = on m is
  where
    on : (m : Mark) → hangs u m ≡ false → option_map (definite_now u) (Some (piece.Task m)) ≡ Some (piece.Task m)
    on (mark.Waiting (wait.Definite turn)) so = ap (λ c. Some (piece.Task (cond c (mark.Ready work.Settle) (mark.Waiting (wait.Definite turn))))) so
    on (mark.Waiting (wait.Finish f)) so = refl
    on (mark.Ready w) so = refl
    on mark.Resting so = refl
    on (mark.Finished v) so = refl
    on mark.Dropped so = refl

pub woken-put : (u name : Name) (old new : Board) → holds_at (waits_for u) (piece_at old name) ≡ true → IsMarked name (mark.Ready work.Settle) old new → IsWoken u name old new
woken-put u name old new waits is = record { here = is.here ∙ (wakes u (piece_at old name) waits).0; others = is.others }

pub woken-same : (u name : Name) (b : Board) → holds_at (waits_for u) (piece_at b name) ≡ false → IsWoken u name b b
woken-same u name b other = record { here = sym (stays-waiting u (piece_at b name) other); others = λ q ne. refl }

pub waits-not-ready : (u name : Name) (b : Board) → holds_at (waits_for u) (piece_at b name) ≡ true → marks_ready (piece_at b name) ≡ false
waits-not-ready u name b waits = (wakes u (piece_at b name) waits).1

-- what waits no more is woken once
woken-once : (u : Name) (found : Option Piece) → option_map (definite_now u) (option_map (definite_now u) found) ≡ option_map (definite_now u) found
woken-once u None = refl
woken-once u (Some (piece.Unit x)) = refl
woken-once u (Some (piece.Actor a)) = refl
woken-once u (Some (piece.Task m)) = on m
  where
    by : (turn : Name) (c : Bool) → same_name turn u ≡ c → option_map (definite_now u) (Some (piece.Task (cond c (mark.Ready work.Settle) (mark.Waiting (wait.Definite turn))))) ≡ Some (piece.Task (cond c (mark.Ready work.Settle) (mark.Waiting (wait.Definite turn))))
    by turn true e = refl
    by turn false e = ap (λ c. Some (piece.Task (cond c (mark.Ready work.Settle) (mark.Waiting (wait.Definite turn))))) e

    on : (m : Mark) → option_map (definite_now u) (option_map (definite_now u) (Some (piece.Task m))) ≡ option_map (definite_now u) (Some (piece.Task m))
    on (mark.Waiting (wait.Definite turn)) = by turn (same_name turn u) refl
    on (mark.Waiting (wait.Finish f)) = refl
    on (mark.Ready w) = refl
    on mark.Resting = refl
    on (mark.Finished v) = refl
    on mark.Dropped = refl

-- ---- all of an attempt
-- one more is woken
pub one-woken : (u : Name) (all left rest : List Name) (n : Name) (first old new : Board) → left ≡ n ∷ rest → AreLeft u all left first old → IsWoken u n old new → AreLeft u all rest first new
one-woken u all left rest n first old new is are woken q = on (same_name q n) refl ∙ ap (λ ns. cond (is_among q ns) (option_map (definite_now u) (piece_at old q)) (piece_at old q)) (sym is) ∙ are q
  where
    apart : same_name q n ≡ false → q ≡ n → ⊥
    apart e same = let no : true ≡ false = sym (same_name-itself n) ∙ ap (λ k. same_name k n) (sym same) ∙ e in cc

    once : (c : Bool) (p : Option Piece) → cond c (option_map (definite_now u) (option_map (definite_now u) p)) (option_map (definite_now u) p) ≡ option_map (definite_now u) p
    once true p = woken-once u p
    once false p = refl

    on : (c : Bool) → same_name q n ≡ c → cond (is_among q rest) (option_map (definite_now u) (piece_at new q)) (piece_at new q) ≡ cond (c || is_among q rest) (option_map (definite_now u) (piece_at old q)) (piece_at old q)
    on true e =
        let here : piece_at new q ≡ option_map (definite_now u) (piece_at old q) = ap (piece_at new) (same_name-equal q n e) ∙ woken.here ∙ ap (λ k. option_map (definite_now u) (piece_at old k)) (sym (same_name-equal q n e)) in
        ap (λ p. cond (is_among q rest) (option_map (definite_now u) p) p) here ∙ once (is_among q rest) (piece_at old q)
    on false e = ap (λ p. cond (is_among q rest) (option_map (definite_now u) p) p) (woken.others q (apart e))

-- each name comes, where all do
pub all-come : (tasks : Named Task) → names_after None tasks ≡ names_in tasks
all-come [] = refl
all-come (e ∷ es) = ap (λ ns. e.0 ∷ ns) (all-come es)

-- the names of the tasks are those under which one stands
among-tasks : (q : Name) (tasks : Named Task) → is_among q (names_in tasks) ≡ is_some (named q tasks)
among-tasks q [] = refl
among-tasks q (e ∷ es) = on (same_name q e.0) (among-tasks q es)
  where
    on : (c : Bool) → is_among q (names_in es) ≡ is_some (named q es) → (c || is_among q (names_in es)) ≡ is_some (cond c (Some e.1) (named q es))
    on true rest = refl
    on false rest = rest

-- the next of the tasks, and those that come after it
pub from-next : (after found : Option Name) (tasks : Named Task) → IfSome found (λ n. names_after after tasks ≡ n ∷ names_after (Some n) tasks) → IfNone found (names_after after tasks ≡ []) → names_from found tasks ≡ names_after after tasks
from-next after (Some n) tasks some none = sym some
from-next after None tasks some none = sym none

-- one less is left
pub shorter : (now before rest : List Name) (n : Name) → now ≡ rest → before ≡ n ∷ rest → length now < length before
shorter now before rest n is was = subst (λ ns. length ns < length before) (sym is) (subst (λ ns. length rest < length ns) (sym was) (le_refl (suc (length rest))))

-- what is left at first, and at the end
pub all-left : (u : Name) (tasks : Named Task) (b : Board) (next : Option Name) → names_from next tasks ≡ names_after None tasks → AreLeft u (names_in tasks) (names_from next tasks) b b
all-left u tasks b next is q = ap (λ ns. cond (is_among q ns) (option_map (definite_now u) (piece_at b q)) (piece_at b q)) (is ∙ all-come tasks)

pub none-left : (u : Name) (tasks : Named Task) (old new : Board) (left : List Name) → left ≡ [] → AreLeft u (names_in tasks) left old new → AreWoken u (λ name. is_some (named name tasks)) old new
none-left u tasks old new left is are q =
    ap (λ ns. cond (is_among q ns) (option_map (definite_now u) (piece_at new q)) (piece_at new q)) (sym is) ∙ are q ∙ ap (λ c. cond c (option_map (definite_now u) (piece_at old q)) (piece_at old q)) (among-tasks q tasks)

-- ---- all of them
-- a task that waits for the turn
waiting-is : (u : Name) (found : Option Piece) → holds_at (waits_for u) found ≡ true → found ≡ Some (piece.Task (mark.Waiting (wait.Definite u)))
waiting-is u None is = cc
waiting-is u (Some (piece.Unit x)) is = cc
waiting-is u (Some (piece.Actor a)) is = cc
waiting-is u (Some (piece.Task m)) is = on m is
  where
    on : (m : Mark) → hangs u m ≡ true → Some (piece.Task m) ≡ Some (piece.Task (mark.Waiting (wait.Definite u)))
    on (mark.Waiting (wait.Definite turn)) so = ap (λ n. Some (piece.Task (mark.Waiting (wait.Definite n)))) (same_name-equal turn u so)
    on (mark.Waiting (wait.Finish f)) so = cc
    on (mark.Ready w) so = cc
    on mark.Resting so = cc
    on (mark.Finished v) so = cc
    on mark.Dropped so = cc

-- where all that waits are tasks of the attempt, and those are woken, nothing waits
pub none-waits : (u : Name) (tree : Option Attempt) (old new : Board) → WaitersAmong old u tree → AreWoken u (is_task_of tree) old new → NoneWaits u old new
none-waits u tree old new waiters woken q = on (is_task_of tree q) refl (woken q)
  where
    on : (c : Bool) → is_task_of tree q ≡ c → piece_at new q ≡ cond c (option_map (definite_now u) (piece_at old q)) (piece_at old q) → piece_at new q ≡ option_map (definite_now u) (piece_at old q)
    on true e is = is
    on false e is = is ∙ sym (by (holds_at (waits_for u) (piece_at old q)) refl)
      where
        by : (d : Bool) → holds_at (waits_for u) (piece_at old q) ≡ d → option_map (definite_now u) (piece_at old q) ≡ piece_at old q
        by true waits = let no : true ≡ false = sym (waiters q (waiting-is u (piece_at old q) waits)) ∙ e in cc
        by false other = stays-waiting u (piece_at old q) other

pub claims-then : (old mid new : Board) → SameClaims old mid → SameClaims mid new → SameClaims old new
claims-then old mid new one two = record {
  lent = λ n. two.lent n ∙ one.lent n;
  to = λ t. two.to t ∙ one.to t;
  later = λ k. let a = one.later k in let b = two.later k in le_trans a b;
}

-- what waits for a turn are tasks of its attempt
pub waiters-of : (s : Shared) → AreMarked s → (u : Name) → WaitersAmong s.board u (named u s.attempts)
waiters-of s marked u q there =
    let is : IsTaskPiece s q (mark.Waiting (wait.Definite u)) = marked.tasks q (mark.Waiting (wait.Definite u)) there in
    let tree : named u s.attempts ≡ Some is.tree = ap (λ n. named n s.attempts) (is.hangs u refl) ∙ is.attempt in
    ap (λ o. is_task_of o q) tree ∙ ap is_some is.among

-- they stay so, where something else is put that waits for nothing
pub waiters-put : (u n : Name) (p : Option Piece) (tree : Option Attempt) (old new : Board) → (p ≡ Some (piece.Task (mark.Waiting (wait.Definite u))) → piece_at old n ≡ Some (piece.Task (mark.Waiting (wait.Definite u)))) → IsPutAt n p old new
    → WaitersAmong old u tree → WaitersAmong new u tree
waiters-put u n p tree old new kept put waiters q there = on (same_name q n) refl
  where
    on : (c : Bool) → same_name q n ≡ c → is_task_of tree q ≡ true
    on true e = waiters q (ap (piece_at old) (same_name-equal q n e) ∙ kept (sym put.here ∙ ap (piece_at new) (sym (same_name-equal q n e)) ∙ there))
    on false e = waiters q (sym (put.others q (λ same. let no : true ≡ false = sym (same_name-itself n) ∙ ap (λ k. same_name k n) (sym same) ∙ e in cc)) ∙ there)

pub waiters-same : (u : Name) (tree : Option Attempt) (old new : Board) → ((q : Name) → piece_at new q ≡ piece_at old q) → WaitersAmong old u tree → WaitersAmong new u tree
waiters-same u tree old new same waiters q there = waiters q (sym (same q) ∙ there)
