use Rattle.std.proofs.Common.{◌≡◌, ◌∙◌, ap, sym}
use Rattle.std.specs.Prelude.{None, Some}
use Rattle.actor_mailbox.specs.Messages.{definite}
use Rattle.message_settling.proofs.Definite.{has-place, made-definite}
use Rattle.message_settling.proofs.turns.make_definite.Goals as goal
use Rattle.value_core.specs.Named.{with_named}
use Rattle.value_core.specs.Placed.{filled}

pub fill-requires : goal.fill-requires
fill-requires c = c.take.ensures.places c.args.to.now (has-place c.args.to.now c.args.taken.now c.in-Some.message (sym c.take.ensures.item ∙ c.in-Some.is))

pub returns-in-Some : goal.returns-in-Some
returns-in-Some c message there =
    let both : Some c.in-Some.message ≡ Some message = sym c.in-Some.is ∙ c.take.ensures.item ∙ there in
    let same : c.in-Some.message ≡ message = cc in
    made-definite c.args.to.now message (filled c.args.taken.now) (filled c.take.new.self) (filled c.fill.new.self) c.take.ensures.shows (c.fill.ensures.shows ∙ ap (λ k. with_named (filled c.take.new.self) c.args.to.now (definite k)) same)

pub returns-in_default : goal.returns-in_default
returns-in_default c message there = let no : None ≡ Some message = sym c.in_default.is ∙ c.take.ensures.item ∙ there in cc
