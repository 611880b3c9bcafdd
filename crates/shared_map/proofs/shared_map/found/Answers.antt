use Rattle.std.proofs.Common.{◌≡◌, ◌∙◌, ◌<◌, ap, length, subst, sym}
use Rattle.std.specs.Prelude.{Some}
use Rattle.std.specs.declared.cmp.Ordering.TheVariants.{Less, Equal, Greater}
use Rattle.shared_map.proofs.Entries.{finds_here, finds_left, finds_right, left_rises, right_rises, right_shorter}
use Rattle.shared_map.proofs.shared_map.found.Goals as goal
use Rattle.shared_map.proofs.Unfolded.{unfolded}
use Rattle.shared_map.specs.declared.node.Entry.{Entry}
use Rattle.shared_map.specs.declared.node.Node.TheViews.{out-Node}
use Rattle.shared_map.specs.Trees.{node_items, tree_items}
use Rattle.value_core.specs.Name.{after_cmp}
use Rattle.value_core.specs.Named.{Named, Rises, named}

pub loop-at-preserved-in-Less : goal.loop-at-preserved-in-Less
loop-at-preserved-in-Less g c =
    let n = out-Node g.row.V.Denot c.deref-in-Less.result.now in
    let here : tree_items c.loop-at.at.now ≡ node_items c.deref-in-Less.result.now = ap tree_items c.in-Some.is ∙ ap node_items (sym c.deref-in-Less.ensures) in
    let rises : Rises (node_items c.deref-in-Less.result.now) = subst Rises here c.loop-at.invariant.rises in
    let less : after_cmp c.args.name.now n.entry.value.name ≡ Less = cc (c.in-Less.is, c.cmp_after.ensures, c.deref-in-Some.ensures, c.deref.ensures, c.deref-in-Less.ensures) in
    record {
      rises = left_rises _ _ _ _ (unfolded c.deref-in-Less.result.now) rises;
      same = finds_left _ _ _ _ (unfolded c.deref-in-Less.result.now) c.args.name.now rises less ∙ sym (ap (named c.args.name.now) here) ∙ c.loop-at.invariant.same;
    }

pub returns-in-Equal : goal.returns-in-Equal
returns-in-Equal g c =
    let n = out-Node g.row.V.Denot c.deref-in-Equal.result.now in
    let here : tree_items c.loop-at.at.now ≡ node_items c.deref-in-Equal.result.now = ap tree_items c.in-Some.is ∙ ap node_items (sym c.deref-in-Equal.ensures) in
    let rises : Rises (node_items c.deref-in-Equal.result.now) = subst Rises here c.loop-at.invariant.rises in
    let same : after_cmp c.args.name.now n.entry.value.name ≡ Equal = cc (c.in-Equal.is, c.cmp_after.ensures, c.deref-in-Some.ensures, c.deref.ensures, c.deref-in-Equal.ensures) in
    ap (λ (e : Entry g.row.V.Denot). Some e.value) c.deref-in-Equal-2.ensures
    ∙ finds_here _ _ _ _ (unfolded c.deref-in-Equal.result.now) c.args.name.now rises same ∙ sym (ap (named c.args.name.now) here) ∙ c.loop-at.invariant.same

pub loop-at-preserved : goal.loop-at-preserved
loop-at-preserved g c =
    let n = out-Node g.row.V.Denot c.deref-in-Greater.result.now in
    let here : tree_items c.loop-at.at.now ≡ node_items c.deref-in-Greater.result.now = ap tree_items c.in-Some.is ∙ ap node_items (sym c.deref-in-Greater.ensures) in
    let rises : Rises (node_items c.deref-in-Greater.result.now) = subst Rises here c.loop-at.invariant.rises in
    let more : after_cmp c.args.name.now n.entry.value.name ≡ Greater = cc (c.in-Greater.is, c.cmp_after.ensures, c.deref-in-Some.ensures, c.deref.ensures, c.deref-in-Greater.ensures) in
    record {
      rises = right_rises _ _ _ _ (unfolded c.deref-in-Greater.result.now) rises;
      same = finds_right _ _ _ _ (unfolded c.deref-in-Greater.result.now) c.args.name.now rises more ∙ sym (ap (named c.args.name.now) here) ∙ c.loop-at.invariant.same;
    }

pub loop-at-smaller : goal.loop-at-smaller
loop-at-smaller g c =
    let n = out-Node g.row.V.Denot c.deref-in-Greater.result.now in
    let here : tree_items c.loop-at.at.now ≡ node_items c.deref-in-Greater.result.now = ap tree_items c.in-Some.is ∙ ap node_items (sym c.deref-in-Greater.ensures) in
    subst (λ (all : Named g.row.V.Denot). length (tree_items n.right) < length all) (sym here) (right_shorter _ _ _ _ (unfolded c.deref-in-Greater.result.now))
