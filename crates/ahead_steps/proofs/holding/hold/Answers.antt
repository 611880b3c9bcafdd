use Rattle.std.proofs.Common.{◌∙◌, ap, refl, subst, sym}
use Rattle.std.specs.Option.{IsSome}
use Rattle.ahead_steps.proofs.Held.{held-came}
use Rattle.ahead_steps.proofs.holding.hold.Goals as goal
use Rattle.unit_table.specs.Board.{unit_at}
use Rattle.world_steps.specs.declared.kept.Kept.{Kept}
use Rattle.world_steps.specs.Kept.{shared_of}

pub go_on-requires : goal.go_on-requires
go_on-requires c = subst IsSome (sym (ap (λ (k : Kept). unit_at k.units c.args.name.now) c.in_ok-going.ensures.others ∙ c.requires.unit.there)) refl

pub returns : goal.returns
returns c =
    let mid = shared_of c.prepare.new.kept in
    held-came (shared_of c.args.kept.now) mid (record mid { board = c.go_on.new.units }) c.args.name.now c.args.moved c.args.request c.in_ok-going.going _ c.requires.stands c.requires.unit c.in_ok-going.ensures.going c.in_ok-going.ensures.held
    (ap shared_of c.in_ok-going.ensures.others) refl c.go_on.ensures refl
