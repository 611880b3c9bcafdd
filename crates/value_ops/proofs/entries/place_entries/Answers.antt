use Rattle.std.proofs.Common.{sym, ap, ◌∙◌, rules, w64}
use Rattle.std.proofs.lemmas.Int.{to_z-of_z}
use mir.Val.{SFits}
use Rattle.value_core.specs.primitives.Parts.{placed}
use Rattle.value_core.proofs.primitives.EntrySteps.{place_done, place_stuck}
use Rattle.value_ops.proofs.entries.place_entries.Goals as goal

pub returns-then-not-branch : goal.returns-then-not-branch
returns-then-not-branch c =
    let fits : SFits w64 c.int_of.result = search rules in
    let none = simp to_z-of_z at (rw c.if-not-branch.true at c.in_ok-place.ensures.ok) in
    place_stuck c.args.entries.now c.loop-index.index c.index-entries-index-in-loop-index.result c.index-entries-index.result c.loop-index.items c.args.items c.loop-index-test.true c.index-entries-index-in-loop-index.is c.index-entries-index.is
    c.if-not-have_int_indices.ensures (ap (λ n. placed c.loop-index.items n c.index-entries-index.result) (sym c.int_of.ensures) ∙ none) c.loop-index.invariant

pub returns : goal.returns
returns c = place_done c.args.entries.now c.loop-index.index c.loop-index.items c.args.items c.loop-index-test.false c.if-not-have_int_indices.ensures c.loop-index.invariant
