use Rattle.std.proofs.Common.{◌≡◌, ℕ, ◌≤◌, min, max, arith}
use Rattle.std.proofs.lemmas.List.{drop_all}
use Rattle.value_core.proofs.value.+depth.Goals as goal

-- where nothing is left the greatest so far is the greatest
none_left : (m n : ℕ) → m ≤ 4294967295 → min (max m 0) 4294967295 ≡ n → m ≡ n
none_left m n le e = omega arith

pub deepest_value-returns : goal.deepest_value-returns
deepest_value-returns t c =
    none_left _ _ c.loop-pair.invariant.capped (rw (drop_all c.loop-pair.pair-index c.items-pair-items.result.now c.loop-pair-test.false) at c.loop-pair.invariant.left)
