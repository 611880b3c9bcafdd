use Rattle.std.proofs.Common.{◌∙◌, sym}
use Rattle.piece_table.proofs.Ties.{claim_removed, tied_taken_back}
use Rattle.piece_table.proofs.piece_table.PieceTable.take_back.Goals as goal

pub invariant_of-self : goal.invariant_of-self
invariant_of-self c =
    let found = sym c.remove.ensures.value ∙ c.in-Some.is in (
      c.unlend.ensures.flags,
      tied_taken_back c.self.inside.pieces c.unlend.new.pieces c.self.inside.claims c.remove.new.self c.self.invariant.1 c.in-Some.piece c.args.claim found c.unlend.ensures.taken
          (claim_removed c.self.inside.claims c.remove.new.self c.args.claim c.in-Some.piece c.remove.result c.remove.ensures.value found c.remove.ensures.taken),
    )
