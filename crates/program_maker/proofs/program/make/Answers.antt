use Rattle.std.proofs.Common.{◌∷◌, ◌++◌, ◌∙◌, map, flat_map, sym, ap}
use Rattle.std.specs.List.{range_with_len}
use Rattle.std.proofs.lemmas.Grind.{flat_map-append}
use Rattle.program_maker.specs.MadeText.{common_lines, counter_line, line_of, teller_line, transfer, transfer_line}
use Rattle.program_maker.proofs.program.make.Goals as goal

pub returns : goal.returns
returns c =
    let definitions = common_lines ++ counter_line c.args.size ∷ map teller_line (range_with_len 0 8) in
    let transfers = map (λ index. transfer_line (transfer c.args.number index)) (range_with_len 0 c.args.size) in
    c.in_ok-push_transfers.ensures
    ∙ ap (λ text. text ++ flat_map line_of transfers)
    (c.in_ok-push_definitions.ensures ∙ ap (λ text. text ++ flat_map line_of definitions) c.new-text.ensures)
    ∙ sym (flat_map-append line_of definitions transfers)
