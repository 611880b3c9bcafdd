use Rattle.std.proofs.Common.{◌∙◌, ◌+◌, ◌*◌, length, ap, sym}
use Rattle.shared_vector.proofs.Pieces.{length-pieces}
use Rattle.shared_vector.proofs.layer.Layer.len.Goals as goal

pub returns-clause-length : goal.returns-clause-length
returns-clause-length g c =
    (λ i. length (c.items.ensures i) * 32 + length (c.items-2.ensures i)) ∙ sym (length-pieces c.self.inside.full c.self.inside.rest c.self.invariant.0) ∙ ap length c.self.view_is
