use Rattle.std.proofs.Common.{rules, of_calls}
use Rattle.std.proofs.lemmas.Fn.{always_returns_same}
use Rattle.value_core.specs.Name.{after_cmp}
use Rattle.ref_store.proofs.WriteLaws.{searched}
use Rattle.ref_store.proofs.writes.Writes.search.Goals as goal

-- the closure compares a write's name with the name that is looked for
pub returns : goal.returns
returns c =
    let facts = c.binary_search_by.ensures in
    let by_name = facts.position (λ write. after_cmp write.0 c.args.name.now) (always_returns_same _ _ _ (λ a r f k. search (rules, of_calls))) in
    rw (← c.self.view_is, ← c.deref.ensures.value) (searched _ (rw c.deref.ensures.value c.self.invariant) c.args.name.now _ facts.bound by_name)
