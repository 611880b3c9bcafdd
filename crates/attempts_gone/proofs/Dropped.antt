-- What an attempt that is gone leaves.
use Rattle.std.proofs.Common.{◌≡◌, ◌∙◌, ℕ, Bool, true, false, cond, List, [], ◌∷◌, refl, sym, ap, subst}
use Rattle.std.specs.Option.{option_and_then, option_map}
use Rattle.std.specs.Prelude.{None, Option, Some, is_some, ◌&&◌, ◌||◌, if◌then◌else◌}
use Rattle.attempts_gone.specs.Dropping.{TasksGone}
use Rattle.attempts_gone.specs.Dropping.{HasAttempt, IsUndone}
use Rattle.shared_world.proofs.Gone.{SeenAs, seen-as}
use Rattle.shared_world.proofs.Leading.{now-kept}
use Rattle.shared_world.proofs.Live.{state-there, unit-piece}
use Rattle.serial_model.specs.State.{UnitState}
use Rattle.shared_world.specs.declared.given.Given.TheVariants as given
use Rattle.shared_world.specs.rows.Attempts.{ArePrunedFor, TasksGo}
use Rattle.shared_world.specs.rows.Pieces.{ClaimsEnd, but_gone, is_task, piece_or_task, task_gone}
use Rattle.shared_world.specs.Shared.{Shared, finished_by, is_going, unit_state}
use Rattle.shared_world.specs.Seen.{live_with}
use Rattle.shared_world.specs.Stands.{Stands}
use Rattle.task_fork_join.specs.Attempt.{Attempt, names_in}
use Rattle.task_fork_join.specs.declared.task.Task.{Task}
use Rattle.unit_table.specs.Board.{Board, IsMarked, IsUnlent, but_for, lent_to, piece_at, unit_at}
use Rattle.unit_table.specs.declared.mark.Mark.TheVariants as mark
use Rattle.unit_table.specs.declared.mark.Work.TheVariants as work
use Rattle.unit_table.specs.declared.piece.Piece.TheVariants as piece
use Rattle.unit_table.specs.declared.unit.Unit.{Unit}
use Rattle.unit_table.specs.Piece.{marked}
use Rattle.value_core.specs.Named.{Name, Named, is_among, named, same_name}
use Rattle.world_model.specs.StandsFor.{AttemptStands, IsAttempt}
use Rattle.world_model.specs.World.{LiveUnit}

-- a name is among those of the tasks where a task is there
pub among-named : (q : Name) (tasks : Named Task) → is_among q (names_in tasks) ≡ is_some (named q tasks)
among-named q [] = refl
among-named q (e ∷ es) = on (same_name q e.0) (among-named q es)
  where
    on : (c : Bool) → is_among q (names_in es) ≡ is_some (named q es) → (c || is_among q (names_in es)) ≡ is_some (cond c (Some e.1) (named q es))
    on true rest = refl
    on false rest = rest

-- a unit that has an attempt is not finished
pub trying-unfinished : (s : Shared) (st : Stands s) → s.end ≡ None → (u : Name) (x : Unit) (tree : Attempt) → unit_at s.board u ≡ Some x → named u s.attempts ≡ Some tree → finished_by x.mark ≡ None
trying-unfinished s st going u x tree there attempt = ap (λ (k : UnitState). k.finished) (sym (now-kept (named u s.aheads) (unit_state x))) ∙ stands.unfinished
  where
    seen : SeenAs s st.world u tree
    seen = seen-as s st (ap is_going going) u tree attempt

    live : LiveUnit
    live = live_with (named u s.aheads) (unit_state x)

    stands : IsAttempt s.setup u live seen.tried
    stands = subst (λ found. AttemptStands s.setup u (Some live) found) seen.there
        (subst (λ found. AttemptStands s.setup u found (st.world.attempts u)) (st.seen.units u ∙ ap (option_map (live_with (named u s.aheads))) (state-there s.board u x there)) (st.is_world.stands.attempts u))

-- a unit stays, where tasks go
pub unit-stays : (u : Name) (x : Unit) (names : List Name) (old new : Board) → unit_at old u ≡ Some x → TasksGone names old new → piece_at new u ≡ Some (piece.Unit x)
unit-stays u x names old new there gone = gone.pieces u ∙ ap (λ p. cond (is_among u names) (task_gone p) p) (unit-piece old u x there) ∙ on (is_among u names)
  where
    on : (c : Bool) → cond c (Some (piece.Unit x)) (Some (piece.Unit x)) ≡ Some (piece.Unit x)
    on true = refl
    on false = refl

-- the tasks are gone, and the unit has that mark
pub tasks-go : (u : Name) (x y : Unit) (tree : Attempt) (old mid new : Board) → unit_at old u ≡ Some x → TasksGone (names_in tree.tasks) old mid → piece_at new u ≡ Some (piece.Unit y)
    → ((other : Name) → (other ≡ u → ⊥) → piece_at new other ≡ piece_at mid other) → TasksGo u y tree old new
tasks-go u x y tree old mid new there gone here others = record {
  here = here;
  others = λ other ne. others other ne ∙ gone.pieces other ∙ ap (λ c. cond c (task_gone (piece_at old other)) (piece_at old other)) (among-named other tree.tasks);
}

-- the claims on the unit and on the tasks end
pub both-end : (u : Name) (tree : Attempt) (old : Board) (found : Option Name)
    → but_for u (but_gone (λ q. is_among q (names_in tree.tasks) && is_task (piece_at old q)) found) ≡ but_gone (piece_or_task old u tree) found
both-end u tree old None = refl
both-end u tree old (Some q) = on (is_among q (names_in tree.tasks)) (is_some (named q tree.tasks)) (is_task (piece_at old q)) (same_name q u) (among-named q tree.tasks)
  where
    by : (b d : Bool) → but_for u (cond b None (Some q)) ≡ cond (same_name q u || b) None (Some q)
    by true d = or-true (same_name q u)
      where
        or-true : (a : Bool) → None ≡ cond (a || true) None (Some q)
        or-true true = refl
        or-true false = refl
    by false d = or-false (same_name q u)
      where
        or-false : (a : Bool) → cond a None (Some q) ≡ cond (a || false) None (Some q)
        or-false true = refl
        or-false false = refl

    on : (a b t s : Bool) → a ≡ b → but_for u (cond (a && t) None (Some q)) ≡ cond (same_name q u || (b && t)) None (Some q)
    on a b t s same = by (a && t) s ∙ ap (λ k. cond (same_name q u || (k && t)) None (Some q)) same

pub claims-go : (u : Name) (tree : Attempt) (old new : Shared) (mid : Board) → new.end ≡ old.end → TasksGone (names_in tree.tasks) old.board mid → IsUnlent u mid new.board → ClaimsEnd (piece_or_task old.board u tree) old new
claims-go u tree old new mid same gone unlent going ticket =
    let old_going : is_going old.end ≡ true = sym (ap is_going same) ∙ going in
    ap (λ g. if g then lent_to new.board ticket else None) going ∙ unlent.to ticket ∙ ap (but_for u) (gone.claims ticket) ∙ both-end u tree old.board (lent_to old.board ticket)
    ∙ ap (λ g. but_gone (piece_or_task old.board u tree) (if g then lent_to old.board ticket else None)) (sym old_going)
