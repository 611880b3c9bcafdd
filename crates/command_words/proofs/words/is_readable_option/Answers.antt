use Rattle.std.proofs.Common.{ap, ◌∙◌, not, ◌+◌, length, drop, ◌-◌, arith}
use Rattle.std.proofs.lemmas.List.{take_all, length-drop}
use Rattle.command_words.specs.Reading.{is_fit}
use Rattle.command_words.proofs.Fitting.{readable_with_value, readable_alone}
use Rattle.command_words.proofs.words.is_readable_option.Goals as goal

pub returns-in-Some : goal.returns-in-Some
returns-in-Some c =
    let rest = drop (c.in-Some.at + 1) c.args.text.now in
    c.is_fit.ensures
    ∙ ap is_fit (take_all (length c.args.text.now - (c.in-Some.at + 1)) rest (omega (arith, length-drop (c.in-Some.at + 1) c.args.text.now)))
    ∙ readable_with_value c.args.text.now c.in-Some.at c.in-Some.ensures

pub returns-in-None : goal.returns-in-None
returns-in-None c = ap not c.is_empty.ensures ∙ readable_alone c.args.text.now c.in-None.ensures
