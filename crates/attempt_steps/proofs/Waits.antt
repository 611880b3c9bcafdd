-- Units that wait, on which no claim is.
use Rattle.std.proofs.Common.{◌≡◌, ◌∙◌, true, false, refl, sym, ap}
use Rattle.std.specs.Option.{IsSome}
use Rattle.std.specs.Prelude.{None, Option, Some, is_some}
use Rattle.shared_world.specs.Ahead.{Ahead}
use Rattle.attempt_commits.specs.Committing.{IsTrying}
use Rattle.attempt_steps.specs.Waiting.{IsWaitingUnit}
use Rattle.attempts_gone.specs.Gone.{IsFree}
use Rattle.shared_world.proofs.Live.{unit-piece}
use Rattle.shared_world.specs.Shared.{Shared}
use Rattle.task_fork_join.specs.Attempt.{Attempt}
use Rattle.unit_table.specs.Board.{LentAreReady, marks_ready}
use Rattle.value_core.specs.Named.{Name, named}

-- what waits is not lent
waits-free : (s : Shared) (owner : Name) → IsWaitingUnit s.board owner → LentAreReady s.board → IsFree s.board owner
waits-free s owner is ready ticket lent = let no : false ≡ true = sym is.waits ∙ ap marks_ready (sym (unit-piece s.board owner is.unit is.there)) ∙ ready ticket owner lent in cc

pub trying-so : (s : Shared) (owner : Name) → IsWaitingUnit s.board owner → IsSome (named owner s.attempts) → LentAreReady s.board → named owner s.aheads ≡ None → IsTrying s owner
trying-so s owner is some ready level = on (named owner s.attempts) refl some
  where
    on : (o : Option Attempt) → named owner s.attempts ≡ o → IsSome o → IsTrying s owner
    on None e is_some = absurd (cc)
    on (Some tree) e is_some = record { has = record { unit = is.unit; there = is.there; tree = tree; attempt = e }; level = level; free = waits-free s owner is ready }

-- where it does not run ahead it stands where the history left it
pub level-of : (s : Shared) (owner : Name) → false ≡ is_some (named owner s.aheads) → named owner s.aheads ≡ None
level-of s owner is = on (named owner s.aheads) is
  where
    on : (o : Option Ahead) → false ≡ is_some o → o ≡ None
    on None so = refl
    on (Some ahead) so = cc
