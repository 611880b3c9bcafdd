-- Results by which an attempt is undone.
use Rattle.std.specs.Prelude.{None, Option, Some}
use Rattle.attempt_deciding.specs.Undoing.{IsToUndo}
use Rattle.shared_world.specs.Returned.{IsLive, Returned}
use Rattle.shared_world.specs.Shared.{Shared}
use Rattle.txn_commit.specs.declared.conflict.Conflict.{Conflict}
use Rattle.value_core.specs.Named.{Name}

-- The result is live, of a task of an attempt whose root is at its end and whose unit stands where the history left it, and that is the
-- first ref that the attempt has read and that has a version above its snapshot.
pub record IsDoomed (s : Shared) (r : Returned) (conflict : Conflict) : Type 0 where
  pub name : Name
  pub live : IsLive s r name
  pub to_undo : IsToUndo s name conflict

-- the ref for which an attempt is undone by the result; or it is undone for none
abbrev pub FindsDoomed : Shared → Returned → Option Conflict → Type 0
FindsDoomed s r (Some conflict) = IsDoomed s r conflict
FindsDoomed s r None = (conflict : Conflict) → IsDoomed s r conflict → ⊥

-- there is such a ref
pub record IsToAbort (s : Shared) (r : Returned) : Type 0 where
  pub conflict : Conflict
  pub doomed : IsDoomed s r conflict
