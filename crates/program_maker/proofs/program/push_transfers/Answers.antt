use Rattle.std.proofs.Common.{◌≡◌, ◌+◌, ◌*◌, ◌++◌, [], ◌∙◌, ap, arith}
use Rattle.program_maker.specs.Draws.{state_after}
use Rattle.program_maker.specs.MadeText.{line_of, transfer, transfer_line}
use Rattle.program_maker.proofs.ManyDraws.{state_after-add, transfer-later}
use Rattle.program_maker.proofs.MoreLines.{lines_more}
use Rattle.program_maker.proofs.program.push_transfers.Goals as goal

pub loop-index-preserved : goal.loop-index-preserved
loop-index-preserved c =
    let number = c.args.number in
    let index = c.loop-index._index in
    let text = c.loop-index.text in
    let before = c.loop-index.invariant in
    let chosen : c.choose.result ≡ transfer number index =
    c.choose.ensures.transfer ∙ ap (λ state. transfer state 0) before.drawn ∙ transfer-later number index in
    let four : 4 * index + 4 ≡ 4 * (index + 1) = omega arith in
    record {
      written =
          c.in_ok-push_transfer.ensures
          ∙ ap (λ t. text ++ line_of (transfer_line t)) chosen
          ∙ ap (λ start. start ++ line_of (transfer_line (transfer number index))) before.written
          ∙ lines_more (λ k. transfer_line (transfer number k)) [] c.args.text.now index;
      drawn = c.choose.ensures.state ∙ ap (λ state. state_after state 4) before.drawn ∙ state_after-add number (4 * index) 4 ∙ ap (state_after number) four;
    }
