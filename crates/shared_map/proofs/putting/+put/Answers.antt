use Rattle.std.proofs.Common.{◌≡◌, ◌∙◌, ap, sym}
use Rattle.std.proofs.lemmas.Result.{IfOk-weaker}
use Rattle.std.specs.declared.cmp.Ordering.TheVariants.{Greater}
use Rattle.shared_map.proofs.Entries.{around, puts_right}
use Rattle.shared_map.proofs.putting.+put.Goals as goal
use Rattle.shared_map.specs.Trees.{pair_of, tree_items}
use Rattle.value_core.specs.Name.{after_cmp}

pub beside-returns-in_ok-right-in-Greater : goal.beside-returns-in_ok-right-in-Greater
beside-returns-in_ok-right-in-Greater g t c =
    let more : after_cmp c.args.entry.value.name c.in_ok-parts.parts.entry.value.name ≡ Greater = cc (c.in-Greater.is, c.cmp_after.ensures, c.deref.ensures, c.deref-2.ensures) in
    let puts = puts_right _ _ _ _ c.in_ok-parts.ensures c.args.entry.value.name c.args.entry.value.value c.requires more in
    IfOk-weaker c.balanced-in-Greater.result _ _ (λ put is. is ∙ ap (around (tree_items c.in_ok-parts.parts.left) (pair_of c.in_ok-parts.parts.entry)) c.in_ok-right-in-Greater.ensures ∙ sym puts) c.balanced-in-Greater.ensures
