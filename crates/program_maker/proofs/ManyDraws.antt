-- Draws that are made after others.
use Rattle.std.proofs.Common.{◌≡◌, ℕ, zero, suc, ◌+◌, ◌*◌, ◌/◌, ◌%◌, ◌∙◌, sym, ap, add-zero, add-suc}
use Rattle.program_maker.specs.Draws.{draw, next_state, state_after}
use Rattle.program_maker.specs.MadeText.{transfer}

pub state_after-add : (number first more : ℕ) → state_after (state_after number first) more ≡ state_after number (first + more)
state_after-add number first zero = ap (state_after number) (sym (add-zero first))
state_after-add number first (suc more) = ap next_state (state_after-add number first more) ∙ ap (state_after number) (sym (add-suc first more))

draw-later : (number first more : ℕ) → draw (state_after number first) more ≡ draw number (first + more)
draw-later number first more = ap (λ state. next_state state / 65536) (state_after-add number first more)

-- the next transfer is that of the index at which four draws were made for each transfer before it
pub transfer-later : (number index : ℕ) → transfer (state_after number (4 * index)) 0 ≡ transfer number index
transfer-later number index =
    let teller = draw-later number (4 * index) 0 ∙ ap (draw number) (add-zero (4 * index)) in
    let from = draw-later number (4 * index) 1 in
    let to = draw-later number (4 * index) 2 in
    let amount = draw-later number (4 * index) 3 in
    λ i. record { teller = teller i % 8; from = from i % 100; to = to i % 100; amount = amount i % 50 + 1 }
