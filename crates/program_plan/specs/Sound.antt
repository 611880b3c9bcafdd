-- What holds of a draft while it grows.
use Rattle.std.specs.Prelude.{◌≡◌, ℕ, ◌≤◌, List, length, count_by, All}
use Rattle.std.specs.List.{range_with_len}
use Rattle.core_syntax.specs.declared.behaviour.Behaviour.{Behaviour}
use Rattle.core_syntax.specs.declared.function.Function.{Function}
use Rattle.core_syntax.specs.declared.row.Row.{Row}
use Rattle.core_syntax.specs.declared.step.Step.{Step}
use Rattle.core_syntax.specs.Limit.{counted, node_limit}
use Rattle.core_syntax.specs.WellFormed.{IsBelow, IsTurnAt, FunctionsBelow, BehavioursBelow}

-- each row counts, they are no more than may be, all functions and behaviours that are named are among so many first ones, and each body is there
pub record IsSound (rows : List Row) (loops : List Function) (functions behaviours : ℕ) : Type 0 where
  pub each_counts : counted rows ≡ length rows
  pub within : length rows ≤ node_limit
  pub functions_below : All (λ row. FunctionsBelow functions row.node) rows
  pub behaviours_below : All (λ row. BehavioursBelow behaviours row.node) rows
  pub bodies_there : All (λ function. IsBelow (length rows) function.body) loops

-- what holds of the parts of a program that is made: main's globals have the numbers of the steps that bind, and each
-- step, body and turn is there
pub record IsLowered (rows : List Row) (globals : List ℕ) (functions : List Function) (behaviours : List Behaviour) (steps : List Step) : Type 0 where
  pub numbers : globals ≡ range_with_len 0 (count_by (λ step. step.binds) steps)
  pub steps_there : All (λ step. IsBelow (length rows) step.node) steps
  pub bodies_there : All (λ function. IsBelow (length rows) function.body) functions
  pub turns_there : All (λ behaviour. IsTurnAt rows behaviour.body) behaviours
