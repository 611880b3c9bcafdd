use Rattle.std.proofs.Common.{◌≡◌, ℤ, w64, to_z, of_z, subst}
use Rattle.std.proofs.Math.Facts.{to_z-of_z}
use Rattle.std.specs.Prelude.{◌↔◌, IsTrue}
use Rattle.eval_frames.proofs.Primitives.{same-ints}
use Rattle.eval_frames.proofs.numbers.same.Goals as goal

pub returns : goal.returns
returns c =
    let P : ℤ → ℤ → Type 0 = λ a b. IsTrue c.are_same.result ↔ (a ≡ b) in
    same-ints c.args.left c.args.right c.are_same.result
    (subst (P c.args.left) (to_z-of_z c.ranges.right) (subst (λ (a : ℤ). P a (to_z w64 (of_z w64 c.args.right))) (to_z-of_z c.ranges.left) c.are_same.ensures))
