use Rattle.std.proofs.Common.{List, ◌∙◌, ◌≡◌, ◌/◌, ◌%◌, ◌-◌, ◌*◌, ap, sym}
use Rattle.std.specs.Prelude.{Some, None, slice_get}
use Rattle.std.specs.Option.{option_copied}
use Rattle.shared_vector.proofs.Pieces.{get-behind, get-piece, looked_up, no_piece}
use Rattle.shared_vector.proofs.shared_vector.SharedVector.get.Goals as goal

pub returns-in-Some : goal.returns-in-Some
returns-in-Some g c =
    let (chunks, last) : List (List g.row.V.Denot) × List g.row.V.Denot = (c.self.inside.chunks, c.self.inside.last) in
    let i = c.args.index in
    let at : slice_get chunks (i / 32) ≡ Some c.in-Some.chunk.now = sym c.get.ensures ∙ ap option_copied c.in-Some.is in
    looked_up c.items.result.now (i % 32) c.get-in-Some.result c.get-in-Some.ensures.lookup ∙ ap (λ l. slice_get l (i % 32)) c.items.ensures
    ∙ sym (get-piece chunks last i c.in-Some.chunk.now c.self.invariant.0 at) ∙ ap (λ l. slice_get l i) c.self.view_is

pub returns-in-None : goal.returns-in-None
returns-in-None g c =
    let (chunks, last) : List (List g.row.V.Denot) × List g.row.V.Denot = (c.self.inside.chunks, c.self.inside.last) in
    let i = c.args.index in
    let none : slice_get chunks (i / 32) ≡ None = sym c.get.ensures ∙ ap option_copied c.in-None.is in
    looked_up c.items-in-None.result.now _ c.get-in-None.result c.get-in-None.ensures.lookup ∙ (λ k. slice_get (c.items-in-None.ensures k) (i - c.len.ensures.length k * 32))
    ∙ sym (get-behind chunks last i c.self.invariant.0 (no_piece chunks i none)) ∙ ap (λ l. slice_get l i) c.self.view_is
