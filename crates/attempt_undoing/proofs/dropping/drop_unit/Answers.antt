use Rattle.std.proofs.Common.{◌∙◌, ap, sym}
use Rattle.std.specs.Option.{option_copied}
use Rattle.std.specs.Prelude.{Some}
use Rattle.attempt_undoing.proofs.Goes.{unit-drops, unit-still}
use Rattle.attempt_undoing.proofs.dropping.drop_unit.Goals as goal

pub returns-in-Some-Unit : goal.returns-in-Some-Unit
returns-in-Some-Unit c = unit-still c.args.name.now c.args.units.now c.mark.new.self c.forget.new.self
    (unit-drops c.args.name.now c.in-Some-Unit.field-0-0 c.args.units.now c.mark.new.self (sym c.piece.ensures ∙ ap option_copied c.in-Some-Unit.is ∙ ap (λ p. Some p) c.in-Some-Unit.field-0-is) c.mark.ensures.marked c.mark.ensures.claims)
    c.forget.ensures.pieces c.forget.ensures.claims
