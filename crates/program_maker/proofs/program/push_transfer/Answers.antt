use Rattle.std.proofs.Common.{◌≡◌, ◌++◌, ◌∙◌, [], ap}
use Rattle.std.specs.Prelude.{codes, decimal}
use Rattle.std.proofs.lemmas.Result.{on_ok_weaker}
use Rattle.program_maker.specs.MadeText.{line_of}
use Rattle.program_maker.proofs.Pieces.{nine_pieces}
use Rattle.program_maker.proofs.program.push_transfer.Goals as goal

pub returns : goal.returns
returns c =
    let t = c.args.transfer in
    let head = codes "(send t" in
    let space = codes " " in
    let rest = codes ")" in
    let teller : c.as_bytes.result.now ≡ decimal t.teller = c.as_bytes.ensures.value ∙ c.format.ensures.text in
    let from : c.as_bytes-2.result.now ≡ decimal t.from = c.as_bytes-2.ensures.value ∙ c.format-2.ensures.text in
    let to : c.as_bytes-3.result.now ≡ decimal t.to = c.as_bytes-3.ensures.value ∙ c.format-3.ensures.text in
    let amount : c.as_bytes-4.result.now ≡ decimal t.amount = c.as_bytes-4.ensures.value ∙ c.format-4.ensures.text in
    let numbers : head ++ (c.as_bytes.result.now ++ (space ++ (c.as_bytes-2.result.now ++ (space ++ (c.as_bytes-3.result.now ++ (space ++ (c.as_bytes-4.result.now ++ (rest ++ []))))))))
    ≡ head ++ (decimal t.teller ++ (space ++ (decimal t.from ++ (space ++ (decimal t.to ++ (space ++ (decimal t.amount ++ (rest ++ [])))))))) =
    λ i. head ++ (teller i ++ (space ++ (from i ++ (space ++ (to i ++ (space ++ (amount i ++ (rest ++ [])))))))) in
    let line = numbers ∙ nine_pieces head (decimal t.teller) space (decimal t.from) space (decimal t.to) space (decimal t.amount) rest in
    on_ok_weaker c.push_line.result (λ e. e ∙ ap (λ text. c.args.text.now ++ line_of text) line) c.push_line.ensures
