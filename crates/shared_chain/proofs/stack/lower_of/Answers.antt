use Rattle.std.proofs.Common.{◌∙◌, ◌++◌, reverse, ap}
use Rattle.std.specs.Prelude.{drop}
use Rattle.std.specs.declared.alloc.Global.{Global}
use Rattle.std.specs.declared.vec.Vec.{Vec}
use Rattle.shared_chain.proofs.Chunks.{halves}
use Rattle.shared_chain.proofs.stack.lower_of.Goals as goal

pub returns : goal.returns
returns g c =
    let old = c.args.own.now.items in
    ap (λ (v : Vec _ Global). reverse v.items ++ c.of.result) c.replace-lower.ensures.after
    ∙ ap (λ l. reverse l ++ c.of.result) c.in_ok-upper.ensures.tail
    ∙ ap (λ l. reverse (drop 32 old) ++ l) (c.of.ensures ∙ ap reverse c.shrink_to_fit.ensures.items ∙ ap (λ (v : Vec _ Global). reverse v.items) c.replace-lower.ensures.value ∙ ap reverse c.in_ok-upper.ensures.items)
    ∙ halves 32 old
