use Rattle.std.proofs.Common.{rules, of_calls}
use Rattle.std.proofs.lemmas.Fn.{always_returns_same}
use Rattle.value_core.specs.Name.{after_cmp}
use Rattle.txn_snapshot.proofs.ReadLaws.{searched_names}
use Rattle.txn_snapshot.proofs.reads.Reads.search.Goals as goal

-- the closure compares a name that is there with the one that is looked for
pub returns : goal.returns
returns c =
    let facts = c.binary_search_by.ensures in
    let by_name = facts.position (λ read. after_cmp read c.args.name.now) (always_returns_same _ _ _ (λ a r f k. search (rules, of_calls))) in
    rw (← c.self.view_is, ← c.deref.ensures.value) (searched_names _ (rw c.deref.ensures.value c.self.invariant) c.args.name.now c.binary_search_by.result facts.bound by_name)
