use Rattle.std.proofs.Common.{◌∙◌, ap, sym}
use Rattle.std.proofs.lemmas.Result.{IfOk-weaker}
use Rattle.std.specs.Option.{option_copied}
use Rattle.std.specs.Prelude.{Some}
use Rattle.world_reset.proofs.back.back_of.Goals as goal
use Rattle.world_reset.proofs.Backs.{unit-for}
use Rattle.world_reset.specs.Back.{IsBackFor, IsUnitBack}
use Rattle.world_steps.specs.Kept.{shared_of}

pub returns-in-Some-Unit : goal.returns-in-Some-Unit
returns-in-Some-Unit c =
    let s = shared_of c.args.kept.now in
    let x = c.in-Some-Unit.unit in
    IfOk-weaker c.unit_back.result (IsUnitBack s c.args.name.now x) (IsBackFor s c.args.name.now) (λ b is. unit-for s c.requires.stands c.args.name.now x b (sym c.piece.ensures ∙ ap option_copied c.in-Some-Unit.is ∙ ap (λ p. Some p) c.in-Some-Unit.field-0-is) is) c.unit_back.ensures
