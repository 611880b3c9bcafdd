use Rattle.std.proofs.Common.{List, ◌∙◌, ◌≡◌, ◌++◌, ◌/◌, ◌%◌, ◌-◌, ◌*◌, ◌+◌, ◌<◌, ◌≤◌, ap, sym, subst, length, length-drop, arith}
use Rattle.std.proofs.lemmas.Nat.{mod_below}
use Rattle.std.specs.Prelude.{Some, drop, slice_get}
use Rattle.std.specs.Option.{option_copied}
use Rattle.shared_vector.proofs.Pieces.{drop-behind, drop-piece, in_pieces, length-from, length-pieces, no_piece}
use Rattle.shared_vector.specs.Pieces.{joined}
use Rattle.shared_vector.proofs.shared_vector.SharedVector.chunk_from.Goals as goal

pub returns-in-Some-clause-prefix : goal.returns-in-Some-clause-prefix
returns-in-Some-clause-prefix g c =
    let (chunks, last) : List (List g.row.V.Denot) × List g.row.V.Denot = (c.self.inside.chunks, c.self.inside.last) in
    let i = c.args.start in
    let at : slice_get chunks (i / 32) ≡ Some c.in-Some.chunk.now = sym c.get.ensures ∙ ap option_copied c.in-Some.is in
    let here : c.from.result.now ≡ drop (i % 32) c.in-Some.chunk.now = c.from.ensures ∙ ap (drop (i % 32)) c.items.ensures in
    let all : List g.row.V.Denot = joined chunks ++ last in
    subst (λ w. drop i w ≡ c.from.result.now ++ drop (i + length c.from.result.now) w) c.self.view_is
    (subst (λ d. drop i all ≡ d ++ drop (i + length d) all) (sym here) (drop-piece chunks last i c.in-Some.chunk.now c.self.invariant.0 at))

pub returns-in-Some-clause-some : goal.returns-in-Some-clause-some
returns-in-Some-clause-some g c =
    let i = c.args.start in
    let at : slice_get c.self.inside.chunks (i / 32) ≡ Some c.in-Some.chunk.now = sym c.get.ensures ∙ ap option_copied c.in-Some.is in
    let here : c.from.result.now ≡ drop (i % 32) c.in-Some.chunk.now = c.from.ensures ∙ ap (drop (i % 32)) c.items.ensures in
    let long : length c.from.result.now ≡ 32 - i % 32 = ap length here ∙ length-from c.self.inside.chunks i c.in-Some.chunk.now c.self.invariant.0 at in
    let below = mod_below i 32 (omega arith) in
    λ less. omega (arith, long, below)

pub returns-in-Some-clause-fits : goal.returns-in-Some-clause-fits
returns-in-Some-clause-fits g c =
    let i = c.args.start in
    let at : slice_get c.self.inside.chunks (i / 32) ≡ Some c.in-Some.chunk.now = sym c.get.ensures ∙ ap option_copied c.in-Some.is in
    let here : c.from.result.now ≡ drop (i % 32) c.in-Some.chunk.now = c.from.ensures ∙ ap (drop (i % 32)) c.items.ensures in
    let long : length c.from.result.now ≡ 32 - i % 32 = ap length here ∙ length-from c.self.inside.chunks i c.in-Some.chunk.now c.self.invariant.0 at in
    let within : i < 274877906944 * 32 = in_pieces c.self.inside.chunks i 274877906944 c.in-Some.chunk.now at c.self.invariant.1 in
    omega (arith, long, within)

pub returns-in-None-clause-prefix : goal.returns-in-None-clause-prefix
returns-in-None-clause-prefix g c =
    let (chunks, last) : List (List g.row.V.Denot) × List g.row.V.Denot = (c.self.inside.chunks, c.self.inside.last) in
    let i = c.args.start in
    let from : length chunks * 32 ≤ i = no_piece chunks i (sym c.get.ensures ∙ ap option_copied c.in-None.is) in
    let here : c.from-in-None.result.now ≡ drop (i - length chunks * 32) last = c.from-in-None.ensures ∙ (λ k. drop (i - c.len.ensures.length k * 32) (c.items-in-None.ensures k)) in
    let all : List g.row.V.Denot = joined chunks ++ last in
    subst (λ w. drop i w ≡ c.from-in-None.result.now ++ drop (i + length c.from-in-None.result.now) w) c.self.view_is
    (subst (λ d. drop i all ≡ d ++ drop (i + length d) all) (sym here) (drop-behind chunks last i c.self.invariant.0 from))

pub returns-in-None-clause-some : goal.returns-in-None-clause-some
returns-in-None-clause-some g c =
    let (chunks, last) : List (List g.row.V.Denot) × List g.row.V.Denot = (c.self.inside.chunks, c.self.inside.last) in
    let i = c.args.start in
    let from : length chunks * 32 ≤ i = no_piece chunks i (sym c.get.ensures ∙ ap option_copied c.in-None.is) in
    let here : length c.from-in-None.result.now ≡ length last - (i - length chunks * 32)
    = ap length (c.from-in-None.ensures ∙ (λ k. drop (i - c.len.ensures.length k * 32) (c.items-in-None.ensures k))) ∙ length-drop (i - length chunks * 32) last in
    let long : length c.args.self.now ≡ length chunks * 32 + length last = ap length (sym c.self.view_is) ∙ length-pieces chunks last c.self.invariant.0 in
    λ less. omega (arith, from, here, long, less)
