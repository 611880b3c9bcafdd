use Rattle.std.proofs.Common.{◌≡◌, ◌∙◌, true, false, sym, subst}
use Rattle.std.specs.Prelude.{IfNone}
use Rattle.std.specs.Option.{IfSome}
use Rattle.unit_table.specs.Board.{is_ready}
use Rattle.unit_table.specs.Keeping.{board_of}
use Rattle.unit_table.proofs.Lending.{first_is, none_is}
use Rattle.value_core.specs.Named.{Name}
use Rattle.unit_table.proofs.places.Places.first_ready.Goals as goal

pub returns-in-Some-clause-some : goal.returns-in-Some-clause-some
returns-in-Some-clause-some c =
    let board = board_of c.args.self.now in
    let first = first_is board c.args.self.now.waits c.requires c.in-Some.ticket c.in-Some.ensures.some in
    subst (λ o. IfSome o (λ name. is_ready board name ≡ true)) (sym (c.name_in.ensures ∙ first.1)) first.2

pub returns-in-Some-clause-none : goal.returns-in-Some-clause-none
returns-in-Some-clause-none c =
    let board = board_of c.args.self.now in
    let first = first_is board c.args.self.now.waits c.requires c.in-Some.ticket c.in-Some.ensures.some in
    subst (λ o. IfNone o ((name : Name) → is_ready board name ≡ false)) (sym (c.name_in.ensures ∙ first.1)) tt

pub returns-in-None-clause-none : goal.returns-in-None-clause-none
returns-in-None-clause-none c = none_is (board_of c.args.self.now) c.args.self.now.waits c.requires c.in-None.ensures.none
