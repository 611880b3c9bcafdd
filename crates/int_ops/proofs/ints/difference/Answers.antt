use Rattle.std.proofs.Common.{sym, rules, w64}
use Rattle.std.proofs.lemmas.Int.{to_z-of_z}
use mir.Val.{SFits}
use Rattle.int_ops.proofs.IntSteps.{difference_many}
use Rattle.int_ops.proofs.ints.difference.Goals as goal

pub returns-in-len2-up : goal.returns-in-len2-up
returns-in-len2-up c =
    let fits : SFits w64 c.int_of-in-len2-up.result = search rules in
    difference_many c.args.args.now c.first-item.result c.int_of-in-len2-up.result c.folded.result c.in-len2-up.len_at_least (sym c.if-not-all_ints.ensures) c.first-item.is c.int_of-in-len2-up.ensures (simp to_z-of_z at c.folded.ensures)
