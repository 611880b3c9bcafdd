use Rattle.std.proofs.Common.{◌∙◌, refl, sym, ap}
use Rattle.piece_table.specs.declared.piece.Piece.{Piece}
use Rattle.record_pool.proofs.Finds.{same_in_some}
use Rattle.piece_table.proofs.Ties.{claim_removed, free_as, tied_put, tied_unlent}
use Rattle.piece_table.proofs.piece_table.PieceTable.mark.Goals as goal

pub invariant_of-self : goal.invariant_of-self
invariant_of-self c = (
  c.replace-was.ensures.flags,
  tied_unlent c.self.inside.pieces c.replace-was.new.pieces c.self.inside.claims c.remove.new.self c.self.invariant.1 c.args.ticket c.in-Some.claim c.replace-was.result _ c.replace-was.ensures.was c.in-Some.is c.replace-was.ensures.put (free_as _ refl)
      (claim_removed c.self.inside.claims c.remove.new.self c.in-Some.claim c.args.ticket c.remove.result c.remove.ensures.value
      (c.self.invariant.1.lent c.args.ticket c.in-Some.claim c.replace-was.result c.replace-was.ensures.was c.in-Some.is) c.remove.ensures.taken),
)

pub invariant_of-self-in-None : goal.invariant_of-self-in-None
invariant_of-self-in-None c = (
  c.replace-was.ensures.flags,
  tied_put c.self.inside.pieces c.replace-was.new.pieces c.self.inside.claims c.self.inside.claims c.self.invariant.1 c.args.ticket _ c.replace-was.ensures.put (free_as _ refl)
      (λ x is. ap (λ (p : Piece). p.lent) (same_in_some x c.replace-was.result (sym is ∙ c.replace-was.ensures.was)) ∙ c.in-None.is) (λ claim. refl),
)
