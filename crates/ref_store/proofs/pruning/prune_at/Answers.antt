use Rattle.std.proofs.Common.{◌≡◌, ◌∙◌, ◌-◌, get_or, length, sym, ap, subst, refl, arith}
use Rattle.std.specs.List.{Contains}
use Rattle.std.specs.Vec.{vec_len}
use Rattle.std.proofs.lemmas.List.Elements.{Contains-get_or}
use Rattle.ref_store.proofs.PruningLaws.{contains_before, contains_removed, count_bound, few_counted, few_idle, pruned_on}
use Rattle.ref_store.proofs.pruning.prune_at.Goals as goal

-- the name is taken from the list
pub returns-in-None : goal.returns-in-None
returns-in-None g c =
    let old = c.args.watched.now.items in
    let new = c.swap_remove.new.self.items in
    let name = c.index.result.now in
    let by_index = c.swap_remove.ensures.by_index in
    let count : vec_len c.args.watched.now ≡ length old = omega (arith, c.args.watched.now.ok.0) in
    let one_less = c.swap_remove.ensures.len in
    let idle = c.in-None.ensures.idle refl in
    λ first way. pruned_on (g.L.Live.numbers c.args.live.now) first old new c.args.index c.args.most name c.args.refs.now.entries c.prune_one.new.refs.entries way c.in-None.ensures.pruned c.args.most (omega arith) way.bound
    (few_idle (g.L.Live.numbers c.args.live.now) first old new c.args.index c.args.most name c.args.refs.now.entries c.prune_one.new.refs.entries way c.in-None.ensures.pruned idle) (omega arith)
    (λ busy. absurd (cc))
    (λ other apart. contains_removed old new c.args.index name other c.requires.at c.index.ensures apart (omega arith) (λ d lt. by_index.0 d (omega arith) ∙ ap (λ n. get_or old (n - 1) d) count) (λ k d off lt. by_index.1 k d off (omega arith)))
    (λ other apart. contains_before old new c.args.index name other c.requires.at c.index.ensures apart (omega arith) (λ k d lt. by_index.1 k d (omega arith) (omega arith)))

-- the name stays
pub returns-in-Some : goal.returns-in-Some
returns-in-Some g c =
    let names = c.args.watched.now.items in
    let name = c.index.result.now in
    let old = c.args.refs.now.entries in
    let new = c.prune_one.new.refs.entries in
    let higher = c.max.ensures in
    λ first way.
    let count = few_counted (g.L.Live.numbers c.args.live.now) first names names c.args.index c.args.most name old new way c.in-Some.ensures.pruned c.in-Some.count c.in-Some.ensures.count in
    let bound = count_bound (g.L.Live.numbers c.args.live.now) first names names c.args.index c.args.most name old new way c.in-Some.ensures.pruned c.in-Some.count c.in-Some.ensures.count in
    let low = way.bound in
    pruned_on (g.L.Live.numbers c.args.live.now) first names names c.args.index c.args.most name old new way c.in-Some.ensures.pruned c.max.result (omega arith) (omega arith) (λ place there. let is = count place there in omega arith) (omega arith)
    (λ busy. subst (λ n. Contains names n) (sym c.index.ensures) (Contains-get_or names c.args.index name c.requires.at))
    (λ other apart there. there)
    (λ other apart. contains_before names names c.args.index name other c.requires.at c.index.ensures apart (omega arith) (λ k d lt. refl))
