use Rattle.std.proofs.Common.{◌≡◌, ◌++◌, ◌∙◌, [], ap}
use Rattle.std.specs.Prelude.{codes, decimal}
use Rattle.std.proofs.lemmas.Result.{on_ok_weaker}
use Rattle.program_maker.specs.MadeText.{line_of}
use Rattle.program_maker.proofs.Pieces.{three_pieces}
use Rattle.program_maker.proofs.program.push_counter.Goals as goal

pub returns : goal.returns
returns c =
    let head = codes "(def done (spawn counter " in
    let rest = codes " refs))" in
    let size : c.as_bytes.result.now ≡ decimal c.args.size = c.as_bytes.ensures.value ∙ c.format.ensures.text in
    let line = ap (λ number. head ++ (number ++ (rest ++ []))) size ∙ three_pieces head (decimal c.args.size) rest in
    on_ok_weaker c.push_line.result (λ e. e ∙ ap (λ text. c.args.text.now ++ line_of text) line) c.push_line.ensures
