use Rattle.std.proofs.Common.{◌≤◌, length, subst, arith}
use Rattle.std.proofs.lemmas.Bool.Decides.{nat_tests}
use Rattle.ref_store.specs.Store.{versions_of, Kept}
use Rattle.ref_store.proofs.PruningLaws.{pruned_itself}
use Rattle.ref_store.proofs.store.Store.is_due.Goals as goal

pub returns : goal.returns
returns c = λ no numbers count name.
    let few = subst (λ (k : Kept). length (versions_of k.versions name) ≤ c.self.inside.most) c.self.view_is (c.self.invariant.few name) in
    let bound = c.saturating_sub.ensures in
    let short : c.saturating_sub.result ≤ c.args.live = grind (arith, nat_tests) in
    pruned_itself numbers (versions_of c.args.self.now.versions name) (omega arith)
