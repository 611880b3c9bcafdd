use Rattle.std.proofs.Common.{ℕ, List, ◌≡◌, ◌∙◌, ◌≤◌, ◌<◌, [], ◌∷◌, ◌++◌, length, ap, sym, rules, arith}
use Rattle.std.specs.Prelude.{None, Some, slice_get}
use Rattle.std.specs.Option.{option_copied}
use Rattle.shared_vector.proofs.Parts.{part_more}
use Rattle.shared_vector.proofs.Pieces.{past_of}
use Rattle.shared_vector.proofs.shared_vector.SharedVector.part.Goals as goal
use Rattle.shared_vector.proofs.shared_vector.SharedVector.part.Goals.{in-Some+in_ok-copied+in_ok-push, in_default}

pub loop-index-preserved : goal.loop-index-preserved
loop-index-preserved g c =
    let l : List g.row.V.Denot = c.args.self.now in
    let (start, i) : ℕ × ℕ = (c.args.start, c.loop-index.index) in
    elim c.match-get.branch [
      | in-Some+in_ok-copied+in_ok-push w ↦
          let item : slice_get l i ≡ Some w.in-Some.item.now = sym c.get.ensures ∙ ap option_copied w.in-Some.is in
          let pushed : c.match-get.part ≡ c.loop-index.part ++ w.in-Some.item.now ∷ [] = search rules in
          pushed ∙ ap (λ part. part ++ w.in-Some.item.now ∷ []) c.loop-index.invariant ∙ sym (part_more l start i w.in-Some.item.now c.loop-index.auto.index item)
      | in_default w ↦
          let none : slice_get l i ≡ None = sym c.get.ensures ∙ ap option_copied w.in_default.is in
          let past : length l ≤ i = past_of l i none in
          let less : i < c.args.end = search rules in
          let end = c.requires.in_range in
          absurd (omega (arith, past, less, end))
    ]
