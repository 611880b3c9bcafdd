use Rattle.std.proofs.Common.{IsSome, refl, sym, subst}
use Rattle.std.specs.Option.{IfSome}
use Rattle.piece_table.specs.Table.{IsTakenBack}
use Rattle.std.specs.Prelude.{IfNone}
use Rattle.unit_table.specs.Board.{SameClaims}
use Rattle.unit_table.specs.Keeping.{board_of}
use Rattle.unit_table.proofs.Lending.{back_keeps, back_unlent, lent_named, with_table}
use Rattle.unit_table.proofs.places.Places.take_back.Goals as goal

pub returns-in-Some-clause-kept : goal.returns-in-Some-clause-kept
returns-in-Some-clause-kept c =
    back_keeps (board_of c.args.self.now) c.take_back.new.self c.args.self.now.waits c.requires.kept c.claims_are_tied.ensures c.args.claim c.in-Some.field-0 (sym c.in-Some.ensures)
    (subst (λ o. IfSome o (IsTakenBack c.args.self.now.table.pieces c.take_back.new.self.pieces)) (sym c.in-Some.ensures) c.take_back.ensures.pieces)
    (c.take_back.ensures.claims (subst (λ o. IsSome o) c.in-Some.ensures refl))

pub returns-in-Some-clause-unlent : goal.returns-in-Some-clause-unlent
returns-in-Some-clause-unlent c =
    back_unlent (board_of c.args.self.now) c.take_back.new.self c.args.self.now.waits c.requires.kept c.claims_are_tied.ensures c.args.claim c.in-Some.field-0 (sym c.in-Some.ensures)
    (subst (λ o. IfSome o (IsTakenBack c.args.self.now.table.pieces c.take_back.new.self.pieces)) (sym c.in-Some.ensures) c.take_back.ensures.pieces)
    (c.take_back.ensures.claims (subst (λ o. IsSome o) c.in-Some.ensures refl))

pub returns-in-Some-clause-live : goal.returns-in-Some-clause-live
returns-in-Some-clause-live c = (λ _. subst (λ o. IsSome o) (sym (lent_named (board_of c.args.self.now) c.args.self.now.waits c.requires.kept c.args.claim c.in-Some.field-0 (sym c.in-Some.ensures))) refl, λ _. refl)

pub returns-in-Some-clause-same : goal.returns-in-Some-clause-same
returns-in-Some-clause-same c =
    subst (λ o. IfNone o (SameClaims (board_of c.args.self.now) (with_table (board_of c.args.self.now) c.take_back.new.self))) (sym (lent_named (board_of c.args.self.now) c.args.self.now.waits c.requires.kept c.args.claim c.in-Some.field-0 (sym c.in-Some.ensures))) tt
