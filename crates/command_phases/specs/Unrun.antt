-- The outcome where nothing was run.
use Rattle.std.specs.Prelude.{◌≡◌, ℕ, [], None}
use Rattle.command_phases.specs.declared.outcome.Detail.{Detail}
use Rattle.command_phases.specs.declared.outcome.Outcome.{Outcome}

-- it has that status and that detail, and neither entries nor an end
pub record IsUnrun (given : ℕ) (said : Detail) (outcome : Outcome) : Type 0 where
  pub status : outcome.status ≡ given
  pub detail : outcome.detail ≡ said
  pub history : outcome.history.items ≡ []
  pub end : outcome.end ≡ None
