-- Results by which an attempt is undone.
use Rattle.std.proofs.Common.{◌≡◌, ◌∙◌, subst, sym}
use Rattle.std.specs.Prelude.{None, Option, Some}
use Rattle.attempt_deciding.specs.Undoing.{FindsToUndo, IsToUndo}
use Rattle.lent_pieces.specs.Claims.{IsLiveAs}
use Rattle.lent_pieces.specs.Doomed.{FindsDoomed, IsDoomed}
use Rattle.shared_world.specs.Returned.{IsLive, Returned}
use Rattle.shared_world.specs.Shared.{Shared, claimed}
use Rattle.txn_commit.specs.declared.conflict.Conflict.{Conflict}
use Rattle.value_core.specs.Named.{Name}

-- where it is live under no name none is undone by it
pub not-live : (s : Shared) (r : Returned) → IsLiveAs s r None → FindsDoomed s r None
not-live s r none c doomed = none doomed.name doomed.live

-- nor where its claim is out no more
pub not-claimed : (s : Shared) (r : Returned) → claimed s r.ticket ≡ None → FindsDoomed s r None
not-claimed s r none c doomed = let no : None ≡ Some doomed.name = sym none ∙ doomed.live.claim in cc

module _ (s : Shared) (r : Returned) (name : Name) (out : claimed s r.ticket ≡ Some name) where
  -- it is live under the name of its claim alone
  under : (other : Name) → IsLive s r other → other ≡ name
  under other live = let both : Some other ≡ Some name = sym live.claim ∙ out in cc

  -- nor where the task that is claimed is not to be undone
  pub none-to-undo : FindsToUndo s name None → FindsDoomed s r None
  none-to-undo none c doomed = none c (subst (λ n. IsToUndo s n c) (under doomed.name doomed.live) doomed.to_undo)

  -- where it is, and the result is live, it is undone by that
  pub undone-live : (c : Conflict) → IsToUndo s name c → (other : Name) → IsLive s r other → FindsDoomed s r (Some c)
  undone-live c to other live = record { name = name; live = subst (IsLive s r) (under other live) live; to_undo = to }
