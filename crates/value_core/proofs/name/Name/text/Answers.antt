use Rattle.std.proofs.Common.{◌∙◌, ap, ◌++◌, get_or}
use Rattle.std.specs.Fmt.{decimal}
use Rattle.value_core.specs.Name.{name_text}
use Rattle.value_core.proofs.Names.{name_start}
use Rattle.value_core.proofs.name.Name.text.Goals as goal

pub loop-number-init : goal.loop-number-init
loop-number-init c =
    let ns = c.parts-parts.result.now in
    let first = c.in_ok-push_number.ensures ∙ ap (λ t. t ++ decimal (get_or ns 0 0)) c.new-text.ensures in
    name_start ns c.push_number.new.text c.parts-parts.ensures.not_empty first ∙ ap name_text c.parts-parts.ensures.value
