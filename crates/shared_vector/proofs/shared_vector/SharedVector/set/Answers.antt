use Rattle.std.proofs.Common.{ℕ, List, ◌∙◌, ◌++◌, ◌/◌, ◌%◌, ◌-◌, ◌*◌, ◌<◌, ◌≤◌, ap, sym, subst, length, length-set, rules, arith}
use Rattle.std.proofs.lemmas.Nat.{mod_below}
use Rattle.std.proofs.lemmas.Result.{on_ok_weaker}
use Rattle.std.specs.Prelude.{slice_set}
use Rattle.shared_vector.proofs.Pieces.{either_way, full-set, in_rest, length-piece, past_pieces, set-behind, set-piece}
use Rattle.shared_vector.specs.Pieces.{AreFull, joined, set_within}
use Rattle.shared_vector.proofs.shared_vector.SharedVector.set.Goals as goal

pub set_item-requires-clause-place_in_range : goal.set_item-requires-clause-place_in_range
set_item-requires-clause-place_in_range g c =
    let within : c.args.index / 32 < length c.self.inside.chunks = search rules in
    subst (λ n. c.args.index % 32 < n) (sym (length-piece c.self.inside.chunks (c.args.index / 32) c.self.invariant.0 within)) (mod_below c.args.index 32 (omega arith))

pub invariant_of-self : goal.invariant_of-self
invariant_of-self g c =
    let chunks : List (List g.row.V.Denot) = c.self.inside.chunks in
    let (b, k) : ℕ × ℕ = (c.args.index / 32, c.args.index % 32) in
    let new : List (List g.row.V.Denot) = set_within chunks b k c.args.item in (
      either_way c.set_item.result AreFull c.set_item.new.layer new chunks c.set_item.ensures.ok c.set_item.ensures.err (full-set chunks b k c.args.item c.self.invariant.0) c.self.invariant.0,
      either_way c.set_item.result (λ ps. length ps ≤ 274877906944) c.set_item.new.layer new chunks c.set_item.ensures.ok c.set_item.ensures.err
          (subst (λ n. n ≤ 274877906944) (sym (length-set chunks b _)) c.self.invariant.1) c.self.invariant.1,
      c.self.invariant.2,
    )

pub set-requires : goal.set-requires
set-requires g c =
    let past : length c.self.inside.chunks ≤ c.args.index / 32 = search rules in
    subst (λ n. c.args.index - n * 32 < length c.self.inside.last) (sym c.len-chunks.ensures.length)
    (in_rest c.self.inside.chunks c.self.inside.last c.args.index c.self.invariant.0 past (subst (λ w. c.args.index < length w) (sym c.self.view_is) c.requires))

pub returns-then-index-chunks-clause-ok : goal.returns-then-index-chunks-clause-ok
returns-then-index-chunks-clause-ok g c =
    let (chunks, last) : List (List g.row.V.Denot) × List g.row.V.Denot = (c.self.inside.chunks, c.self.inside.last) in
    let within : c.args.index / 32 < length chunks = search rules in
    on_ok_weaker c.set_item.result (λ is. ap (λ ps. joined ps ++ last) is ∙ set-piece chunks last c.args.index c.args.item c.self.invariant.0 within ∙ ap (λ w. slice_set w c.args.index c.args.item) c.self.view_is)
    c.set_item.ensures.ok

pub returns-else-index-chunks-clause-ok : goal.returns-else-index-chunks-clause-ok
returns-else-index-chunks-clause-ok g c =
    let (chunks, last) : List (List g.row.V.Denot) × List g.row.V.Denot = (c.self.inside.chunks, c.self.inside.last) in
    let n = c.args.index in
    let past : length chunks ≤ n / 32 = search rules in
    on_ok_weaker c.set.result (λ is. ap (λ l. joined chunks ++ l) (is ∙ ap (λ m. slice_set last (n - m * 32) c.args.item) c.len-chunks.ensures.length)
    ∙ set-behind chunks last n c.args.item c.self.invariant.0 (past_pieces n (length chunks) past) ∙ ap (λ w. slice_set w n c.args.item) c.self.view_is) c.set.ensures.ok
