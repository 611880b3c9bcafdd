use Rattle.std.proofs.Common.{◌∙◌, ◌+◌, ◌*◌, length, ap, sym}
use Rattle.shared_vector.proofs.Pieces.{length-pieces}
use Rattle.shared_vector.proofs.shared_vector.SharedVector.len.Goals as goal

pub returns-clause-length : goal.returns-clause-length
returns-clause-length g c =
    (λ i. c.len.ensures.length i * 32 + length (c.items.ensures i)) ∙ sym (length-pieces c.self.inside.chunks c.self.inside.last c.self.invariant.0) ∙ ap length c.self.view_is
