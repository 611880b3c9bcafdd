-- Later values: each value is a later one of itself, and a later one of a later one is a later one.
use Rattle.std.proofs.Common.{List, ◌∙◌, refl}
use Rattle.world_lock.specs.Later.{IsLater}
use Rattle.world_lock.proofs.Begun.{prefix_self, prefix_trans}

module _ {T S I : Type 0} (setup : T → S) (history : T → List I) where
  pub later_self : (x : T) → IsLater setup history x x
  later_self x = record { same_setup = refl; grown = prefix_self (history x) }

  pub later_trans : (x y z : T) → IsLater setup history x y → IsLater setup history y z → IsLater setup history x z
  later_trans x y z p q = record {
    same_setup = q.same_setup ∙ p.same_setup;
    grown = prefix_trans (history x) (history y) (history z) p.grown q.grown;
  }
