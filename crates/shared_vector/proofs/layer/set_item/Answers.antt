use Rattle.std.proofs.Common.{ℕ, List, [], ◌∙◌, ◌≡◌, ◌++◌, ◌/◌, ◌%◌, ◌-◌, ◌*◌, ◌<◌, ◌≤◌, ap, sym, subst, length, length-set, rules, arith}
use Rattle.std.proofs.lemmas.Nat.{mod_below}
use Rattle.std.proofs.lemmas.Result.{on_ok_weaker}
use Rattle.std.specs.Prelude.{slice_index_or, slice_set}
use Rattle.shared_vector.proofs.Pieces.{either_way, full-set, in_rest, index-behind, index-piece, length-piece, past_pieces, set-behind, set-piece}
use Rattle.shared_vector.specs.Pieces.{AreFull, joined, set_within}
use Rattle.shared_vector.proofs.layer.set_item.Goals as goal

pub set_in_piece-requires-clause-number_in_range : goal.set_in_piece-requires-clause-number_in_range
set_in_piece-requires-clause-number_in_range g c =
    let within : c.args.number / 32 < length c.layer.inside.full = search rules in
    subst (λ n. c.args.number % 32 < n) (sym (length-piece c.layer.inside.full (c.args.number / 32) c.layer.invariant.0 within)) (mod_below c.args.number 32 (omega arith))

pub set_in_piece-requires-clause-place_in_range : goal.set_in_piece-requires-clause-place_in_range
set_in_piece-requires-clause-place_in_range g c =
    let within : c.args.number / 32 < length c.layer.inside.full = search rules in
    subst (λ l. c.args.place < length l) (ap (λ w. slice_index_or w c.args.number []) (sym c.layer.view_is) ∙ index-piece c.layer.inside.full c.layer.inside.rest c.args.number [] c.layer.invariant.0 within)
    c.requires.place_in_range

pub invariant_of-layer : goal.invariant_of-layer
invariant_of-layer g c =
    let full : List (List (List g.row.V.Denot)) = c.layer.inside.full in
    let (b, k) : ℕ × ℕ = (c.args.number / 32, c.args.number % 32) in
    let x : List g.row.V.Denot = slice_set (slice_index_or (slice_index_or full b []) k []) c.args.place c.args.item in (
      either_way c.set_in_piece.result AreFull c.set_in_piece.new.pieces (set_within full b k x) full c.set_in_piece.ensures.ok c.set_in_piece.ensures.err (full-set full b k x c.layer.invariant.0) c.layer.invariant.0,
      either_way c.set_in_piece.result (λ ps. length ps ≤ 4294967296) c.set_in_piece.new.pieces (set_within full b k x) full c.set_in_piece.ensures.ok c.set_in_piece.ensures.err
          (subst (λ n. n ≤ 4294967296) (sym (length-set full b _)) c.layer.invariant.1) c.layer.invariant.1,
      c.layer.invariant.2,
    )

pub set_in-requires-clause-number_in_range : goal.set_in-requires-clause-number_in_range
set_in-requires-clause-number_in_range g c =
    let past : length c.layer.inside.full ≤ c.args.number / 32 = search rules in
    subst (λ l. c.args.number - length l * 32 < length c.layer.inside.rest) (sym c.items-full.ensures)
    (in_rest c.layer.inside.full c.layer.inside.rest c.args.number c.layer.invariant.0 past (subst (λ w. c.args.number < length w) (sym c.layer.view_is) c.requires.number_in_range))

pub set_in-requires-clause-place_in_range : goal.set_in-requires-clause-place_in_range
set_in-requires-clause-place_in_range g c =
    let past : length c.layer.inside.full ≤ c.args.number / 32 = search rules in
    subst (λ l. c.args.place < length l) (ap (λ w. slice_index_or w c.args.number []) (sym c.layer.view_is)
    ∙ index-behind c.layer.inside.full c.layer.inside.rest c.args.number [] c.layer.invariant.0 (past_pieces c.args.number (length c.layer.inside.full) past)
    ∙ ap (λ l. slice_index_or c.layer.inside.rest (c.args.number - length l * 32) []) (sym c.items-full.ensures))
    c.requires.place_in_range

pub returns-then-number-full-clause-ok : goal.returns-then-number-full-clause-ok
returns-then-number-full-clause-ok g c =
    let (full, rest) : List (List (List g.row.V.Denot)) × List (List g.row.V.Denot) = (c.layer.inside.full, c.layer.inside.rest) in
    let n = c.args.number in
    let within : n / 32 < length full = search rules in
    let there : slice_index_or (slice_index_or full (n / 32) []) (n % 32) [] ≡ slice_index_or c.args.layer.now n []
    = sym (index-piece full rest n [] c.layer.invariant.0 within) ∙ ap (λ w. slice_index_or w n []) c.layer.view_is in
    on_ok_weaker c.set_in_piece.result (λ is. ap (λ ps. joined ps ++ rest) is ∙ set-piece full rest n (slice_set (slice_index_or (slice_index_or full (n / 32) []) (n % 32) []) c.args.place c.args.item) c.layer.invariant.0 within
    ∙ (λ i. slice_set (c.layer.view_is i) n (slice_set (there i) c.args.place c.args.item))) c.set_in_piece.ensures.ok

pub returns-else-number-full-clause-ok : goal.returns-else-number-full-clause-ok
returns-else-number-full-clause-ok g c =
    let (full, rest) : List (List (List g.row.V.Denot)) × List (List g.row.V.Denot) = (c.layer.inside.full, c.layer.inside.rest) in
    let n = c.args.number in
    let past : length full ≤ n / 32 = search rules in
    let from : length full * 32 ≤ n = past_pieces n (length full) past in
    let there : slice_index_or rest (n - length full * 32) [] ≡ slice_index_or c.args.layer.now n [] = sym (index-behind full rest n [] c.layer.invariant.0 from) ∙ ap (λ w. slice_index_or w n []) c.layer.view_is in
    on_ok_weaker c.set_in.result (λ is. ap (λ l. joined full ++ l) (is ∙ ap (λ l. set_within rest (n - length l * 32) c.args.place c.args.item) c.items-full.ensures)
    ∙ set-behind full rest n (slice_set (slice_index_or rest (n - length full * 32) []) c.args.place c.args.item) c.layer.invariant.0 from
    ∙ (λ i. slice_set (c.layer.view_is i) n (slice_set (there i) c.args.place c.args.item))) c.set_in.ensures.ok
