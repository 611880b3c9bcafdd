-- What goes, and the claims on it.
use Rattle.std.proofs.Common.{◌≡◌, ◌∙◌, Bool, true, false, cond, refl, sym, ap, ap₂}
use Rattle.std.specs.Option.{option_and_then}
use Rattle.std.specs.Prelude.{List, None, Option, Some, ◌&&◌, is_some, not}
use Rattle.attempt_undoing.specs.Dropping.{GoneEnds, IsUnitGone, task_gone_where, unit_gone}
use Rattle.attempts_gone.proofs.Dropped.{among-named}
use Rattle.attempts_gone.specs.Dropping.{TasksGone}
use Rattle.shared_world.proofs.ActorPieces.{not-same}
use Rattle.shared_world.specs.Gave.{is_gone}
use Rattle.shared_world.specs.rows.Pieces.{but_gone, is_task, task_gone}
use Rattle.task_fork_join.specs.Attempt.{Attempt, names_in}
use Rattle.unit_table.specs.Board.{Board, IsMarked, IsUnlent, SameClaims, SamePieces, but_for, lent_to, piece_at}
use Rattle.unit_table.specs.declared.mark.Mark.TheVariants as mark
use Rattle.unit_table.specs.declared.piece.Piece.{Piece}
use Rattle.unit_table.specs.declared.piece.Piece.TheVariants as piece
use Rattle.unit_table.specs.declared.unit.Unit.{Unit}
use Rattle.unit_table.specs.Piece.{marked}
use Rattle.value_core.proofs.NamedLaws.{same_name-equal}
use Rattle.value_core.specs.Named.{Name, is_among, named, same_name}

-- ---- claims on what is gone, twice
-- what is gone stays gone, and nothing new stands
abbrev pub OnlyGoes : Board → Board → Type 0
OnlyGoes old new = (n : Name) → piece_at old n ≡ None → piece_at new n ≡ None

pub gone-twice : (a b c : Option Piece) → (a ≡ None → b ≡ None) → (b ≡ None → c ≡ None) → (k : Bool) → k ≡ (is_some a && not (is_some b)) → (q : Name)
    → cond k None (cond (is_some b && not (is_some c)) None (Some q)) ≡ cond (is_some a && not (is_some c)) None (Some q)
gone-twice None b c ab bc k is q = rw is (rw (ab refl) refl)
gone-twice (Some p) None c ab bc k is q = rw is (rw (bc refl) refl)
gone-twice (Some p) (Some r) c ab bc k is q = rw is refl

pub gone-ends : (a b c : Board) → OnlyGoes a b → OnlyGoes b c → GoneEnds a b → GoneEnds b c → GoneEnds a c
gone-ends a b c ab bc first second t = second t ∙ ap (but_gone (is_gone b c)) (first t) ∙ on (lent_to a t)
  where
    on : (found : Option Name) → but_gone (is_gone b c) (but_gone (is_gone a b) found) ≡ but_gone (is_gone a c) found
    on None = refl
    on (Some q) = by (is_gone a b q) refl
      where
        by : (k : Bool) → is_gone a b q ≡ k → but_gone (is_gone b c) (cond k None (Some q)) ≡ cond (is_gone a c q) None (Some q)
        by true e = gone-twice (piece_at a q) (piece_at b q) (piece_at c q) (ab q) (bc q) true (sym e) q
        by false e = gone-twice (piece_at a q) (piece_at b q) (piece_at c q) (ab q) (bc q) false (sym e) q

-- where nothing goes no claim ends
pub none-ends : (b : Board) (found : Option Name) → found ≡ but_gone (is_gone b b) found
none-ends b None = refl
none-ends b (Some q) = on (is_some (piece_at b q))
  where
    on : (c : Bool) → Some q ≡ cond (c && not c) None (Some q)
    on true = refl
    on false = refl

-- a unit that is dropped
pub unit-drops : (name : Name) (x : Unit) (old new : Board) → piece_at old name ≡ Some (piece.Unit x) → IsMarked name mark.Dropped old new → IsUnlent name old new → IsUnitGone name old new
unit-drops name x old new there dropped unlent = record {
  here = here ∙ sym (ap unit_gone there);
  others = dropped.others;
  claims = λ t. unlent.to t ∙ ends (lent_to old t);
}
  where
    here : piece_at new name ≡ None
    here = dropped.here ∙ ap (option_and_then (marked mark.Dropped)) there

    stays : (c : Bool) → (c && not c) ≡ false
    stays true = refl
    stays false = refl

    ends : (found : Option Name) → but_for name found ≡ but_gone (is_gone old new) found
    ends None = refl
    ends (Some q) = on (same_name q name) refl
      where
        on : (c : Bool) → same_name q name ≡ c → cond c None (Some q) ≡ cond (is_gone old new q) None (Some q)
        on true e = ap (λ k. cond k None (Some q)) (sym (ap (is_gone old new) (same_name-equal q name e) ∙ ap₂ (λ a b. is_some a && not (is_some b)) there here))
        on false e = ap (λ k. cond k None (Some q)) (sym (ap (λ b. is_some (piece_at old q) && not (is_some b)) (dropped.others q (not-same q name e)) ∙ stays (is_some (piece_at old q))))

-- it stays gone where the same stands and the same is lent
pub unit-still : (name : Name) (old mid new : Board) → IsUnitGone name old mid → SamePieces mid new → SameClaims mid new → IsUnitGone name old new
unit-still name old mid new gone pieces claims = record {
  here = pieces name ∙ gone.here;
  others = λ other apart. pieces other ∙ gone.others other apart;
  claims = λ t. claims.to t ∙ gone.claims t ∙ ends (lent_to old t);
}
  where
    ends : (found : Option Name) → but_gone (is_gone old mid) found ≡ but_gone (is_gone old new) found
    ends None = refl
    ends (Some q) = ap (λ b. cond (is_some (piece_at old q) && not (is_some b)) None (Some q)) (sym (pieces q))

-- nothing is dropped where no unit is
pub no-unit-drops : (name : Name) (b : Board) → unit_gone (piece_at b name) ≡ piece_at b name → IsUnitGone name b b
no-unit-drops name b none = record { here = sym none; others = λ other apart. refl; claims = λ t. none-ends b (lent_to b t) }

-- tasks that are dropped
piece-goes : (c : Bool) (found : Option Piece) → cond c (task_gone found) found ≡ task_gone_where c found
piece-goes true None = refl
piece-goes false None = refl
piece-goes true (Some (piece.Unit x)) = refl
piece-goes false (Some (piece.Unit x)) = refl
piece-goes true (Some (piece.Task m)) = refl
piece-goes false (Some (piece.Task m)) = refl
piece-goes true (Some (piece.Actor x)) = refl
piece-goes false (Some (piece.Actor x)) = refl

task-test : (c : Bool) (found : Option Piece) → (c && is_task found) ≡ (is_some found && not (is_some (cond c (task_gone found) found)))
task-test true None = refl
task-test false None = refl
task-test true (Some (piece.Unit x)) = refl
task-test false (Some (piece.Unit x)) = refl
task-test true (Some (piece.Task m)) = refl
task-test false (Some (piece.Task m)) = refl
task-test true (Some (piece.Actor x)) = refl
task-test false (Some (piece.Actor x)) = refl

-- they stay gone where the same stands and the same is lent
pub tasks-still : (names : List Name) (old mid new : Board) → TasksGone names old mid → SamePieces mid new → SameClaims mid new → TasksGone names old new
tasks-still names old mid new gone pieces claims = record { pieces = λ n. pieces n ∙ gone.pieces n; claims = λ t. claims.to t ∙ gone.claims t }

pub tasks-go : (tree : Attempt) (old new : Board) → TasksGone (names_in tree.tasks) old new → (n : Name) → piece_at new n ≡ task_gone_where (is_some (named n tree.tasks)) (piece_at old n)
tasks-go tree old new gone n = gone.pieces n ∙ piece-goes (is_among n (names_in tree.tasks)) (piece_at old n) ∙ ap (λ c. task_gone_where c (piece_at old n)) (among-named n tree.tasks)

pub tasks-end : (tree : Attempt) (old new : Board) → TasksGone (names_in tree.tasks) old new → GoneEnds old new
tasks-end tree old new gone t = gone.claims t ∙ ends (lent_to old t)
  where
    ends : (found : Option Name) → but_gone (λ q. is_among q (names_in tree.tasks) && is_task (piece_at old q)) found ≡ but_gone (is_gone old new) found
    ends None = refl
    ends (Some q) = ap (λ k. cond k None (Some q)) (task-test (is_among q (names_in tree.tasks)) (piece_at old q) ∙ ap (λ b. is_some (piece_at old q) && not (is_some b)) (sym (gone.pieces q)))
