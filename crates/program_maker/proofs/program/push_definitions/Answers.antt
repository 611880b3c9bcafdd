use Rattle.std.proofs.Common.{◌∷◌, ◌++◌, [], ◌∙◌, ap}
use Rattle.std.proofs.lemmas.List.{flat_map_more}
use Rattle.program_maker.specs.MadeText.{common_lines, counter_line, line_of, teller_line}
use Rattle.program_maker.proofs.MoreLines.{lines_more}
use Rattle.program_maker.proofs.program.push_definitions.Goals as goal

pub loop-teller-init : goal.loop-teller-init
loop-teller-init c =
    let counter = line_of (counter_line c.args.size) in
    c.in_ok-push_counter.ensures
    ∙ ap (λ text. text ++ counter) c.in_ok-extend.ensures.ok
    ∙ flat_map_more line_of c.args.text.now common_lines (counter_line c.args.size)

pub loop-teller-preserved : goal.loop-teller-preserved
loop-teller-preserved c =
    let teller = c.loop-teller.teller in
    c.in_ok-push_teller.ensures
    ∙ ap (λ text. text ++ line_of (teller_line teller)) c.loop-teller.invariant
    ∙ lines_more teller_line (common_lines ++ counter_line c.args.size ∷ []) c.args.text.now teller
