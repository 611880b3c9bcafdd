use Rattle.std.proofs.Common.{rules, of_calls}
use Rattle.std.proofs.lemmas.Fn.{always_returns_same}
use Rattle.value_core.specs.Key.{key_cmp}
use Rattle.value_core.proofs.PairLaws.{searched}
use Rattle.value_core.proofs.dict.Dict.search.Goals as goal

-- the closure compares a pair's key with the key that is looked for
pub returns : goal.returns
returns g c =
    let facts = c.binary_search_by.ensures in
    let by_key = facts.position (λ pair. key_cmp pair.key c.args.key.now) (always_returns_same _ _ _ (λ a r f k. search (rules, of_calls))) in
    rw (← c.self.view_is, ← c.deref.ensures.value) (searched _ (rw c.deref.ensures.value c.self.invariant) c.args.key.now _ facts.bound by_key)
