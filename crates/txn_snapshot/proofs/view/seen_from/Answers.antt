use Rattle.std.proofs.Common.{◌∙◌, ap, sym}
use Rattle.std.specs.Prelude.{option_copied}
use Rattle.shared_chain.specs.Links.{from_link}
use Rattle.txn_snapshot.proofs.Layers.{seen_here, seen_below}
use Rattle.txn_snapshot.proofs.view.seen_from.Goals as goal

pub returns-in-Some-get : goal.returns-in-Some-get
returns-in-Some-get c =
    sym (seen_here c.args.name.now (from_link (option_copied c.loop-top.top)) (from_link (option_copied c.parts.result.1)) c.parts.result.0.now c.in-Some-get.value.now
    (ap (λ t. from_link (option_copied t)) c.in-Some.is ∙ c.parts.ensures) c.get.ensures.rises (sym c.get.ensures.value ∙ ap option_copied c.in-Some-get.is)) ∙ c.loop-top.invariant

pub loop-top-preserved : goal.loop-top-preserved
loop-top-preserved c =
    seen_below c.args.name.now (from_link (option_copied c.loop-top.top)) (from_link (option_copied c.parts.result.1)) c.parts.result.0.now
    (ap (λ t. from_link (option_copied t)) c.in-Some.is ∙ c.parts.ensures) c.get.ensures.rises (sym c.get.ensures.value ∙ ap option_copied c.in_default-get.is) ∙ c.loop-top.invariant
