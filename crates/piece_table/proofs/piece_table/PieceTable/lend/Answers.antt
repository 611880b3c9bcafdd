use Rattle.std.proofs.Common.{◌≡◌, ◌∙◌, refl, sym, ap}
use Rattle.piece_table.specs.Table.{has_free}
use Rattle.record_pool.proofs.Finds.{given_put, given_was, same_finds}
use Rattle.piece_table.proofs.Ties.{not_lent, tied_lent}
use Rattle.piece_table.proofs.piece_table.PieceTable.lend.Goals as goal

pub invariant_of-self-2 : goal.invariant_of-self-2
invariant_of-self-2 c =
    let free = not_lent c.replace.result (ap has_free (sym c.replace.ensures.was) ∙ rw (← c.self.view_is) at c.requires) in
    let vacant = sym (same_finds c.self.inside.claims c.reserve.new.self c.in_ok-reserve.ensures.rest c.insert-claim.result) ∙ given_was c.reserve.new.self c.insert-claim.new.self c.insert-claim.result c.args.piece c.insert-claim.ensures.gives in
    let given = given_put c.self.inside.claims c.reserve.new.self c.insert-claim.new.self c.insert-claim.result c.args.piece c.in_ok-reserve.ensures.rest c.insert-claim.ensures.gives in (
      c.replace.ensures.flags,
      tied_lent c.self.inside.pieces c.replace.new.pieces c.self.inside.claims c.insert-claim.new.self c.self.invariant.1 c.args.piece c.insert-claim.result c.replace.result _ c.replace.ensures.was free c.replace.ensures.put refl vacant given.put,
    )
