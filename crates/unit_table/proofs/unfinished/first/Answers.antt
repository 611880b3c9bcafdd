use Rattle.std.proofs.Common.{◌≡◌, ◌∙◌, true, false, sym, subst}
use Rattle.std.specs.Prelude.{IfNone}
use Rattle.std.specs.Option.{IfSome}
use Rattle.unit_table.specs.Board.{is_unfinished}
use Rattle.unit_table.specs.Keeping.{board_of}
use Rattle.unit_table.proofs.OpenUnits.{first_unfinished, none_unfinished}
use Rattle.value_core.specs.Named.{Name}
use Rattle.unit_table.proofs.unfinished.first.Goals as goal

pub returns-in-Some-clause-some : goal.returns-in-Some-clause-some
returns-in-Some-clause-some c =
    let board = board_of c.args.places.now in
    let first = first_unfinished board c.args.places.now.waits c.args.unfinished.now c.in-Some.slot c.requires.kept c.requires.set c.in-Some.ensures.some.member in
    subst (λ o. IfSome o (λ name. is_unfinished board name ≡ true)) (sym (c.name_in.ensures ∙ first.1)) first.2

pub returns-in-Some-clause-none : goal.returns-in-Some-clause-none
returns-in-Some-clause-none c =
    let board = board_of c.args.places.now in
    let first = first_unfinished board c.args.places.now.waits c.args.unfinished.now c.in-Some.slot c.requires.kept c.requires.set c.in-Some.ensures.some.member in
    subst (λ o. IfNone o ((name : Name) → is_unfinished board name ≡ false)) (sym (c.name_in.ensures ∙ first.1)) tt

pub returns-in-None-clause-none : goal.returns-in-None-clause-none
returns-in-None-clause-none c = none_unfinished (board_of c.args.places.now) c.args.unfinished.now c.requires.set c.in-None.ensures.none
