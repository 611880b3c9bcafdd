use Rattle.std.proofs.Common.{◌≡◌, ◌∙◌, ap, refl, subst, sym}
use Rattle.std.specs.Option.{IfSome, option_map}
use Rattle.attempt_undoing.proofs.Whole.{claims-end, has-undone}
use Rattle.attempt_undoing.proofs.undoing.undo_attempt.Goals as goal
use Rattle.attempt_undoing.specs.Undoing.{IsTaken, UndoneTaken}
use Rattle.shared_world.specs.Shared.{Shared}
use Rattle.world_steps.specs.Kept.{shared_of}

pub returns-clause-undone : goal.returns-clause-undone
returns-clause-undone c =
    let s : Shared = shared_of c.args.kept.now in
    let taken : Shared = record s { attempts = c.take_named.new.attempts.entries } in
    let is : IsTaken s c.args.owner.now c.in-Some.tree taken = record { there = sym c.take_named.ensures.tree ∙ ap (option_map (λ e. e.1)) c.in-Some.is; attempts = c.take_named.ensures.gone; taken_is = refl } in
    let new : Shared = shared_of c.undo_taken.new.kept in
    let unit : c.in-Some.unit ≡ c.args.owner.now = subst (λ found. IfSome found (λ e. e.0 ≡ c.args.owner.now)) c.in-Some.is c.take_named.ensures.name in
    let undone = subst (λ n. UndoneTaken n c.in-Some.tree taken new) unit c.undo_taken.ensures.undone in
    has-undone s c.requires.stands c.requires.going c.args.owner.now c.requires.marks c.in-Some.tree taken is new undone

pub returns-clause-claims : goal.returns-clause-claims
returns-clause-claims c =
    let s : Shared = shared_of c.args.kept.now in
    let taken : Shared = record s { attempts = c.take_named.new.attempts.entries } in
    let is : IsTaken s c.args.owner.now c.in-Some.tree taken = record { there = sym c.take_named.ensures.tree ∙ ap (option_map (λ e. e.1)) c.in-Some.is; attempts = c.take_named.ensures.gone; taken_is = refl } in
    let new : Shared = shared_of c.undo_taken.new.kept in
    let unit : c.in-Some.unit ≡ c.args.owner.now = subst (λ found. IfSome found (λ e. e.0 ≡ c.args.owner.now)) c.in-Some.is c.take_named.ensures.name in
    let undone = subst (λ n. UndoneTaken n c.in-Some.tree taken new) unit c.undo_taken.ensures.undone in
    claims-end s c.requires.stands c.requires.going c.args.owner.now c.requires.marks c.in-Some.tree taken is new undone c.requires.attempt.unit c.requires.attempt.there c.lent_are_ready.ensures c.undo_taken.ensures.lent

pub returns-clause-reads : goal.returns-clause-reads
returns-clause-reads c = subst (λ found. IfSome found (λ tree. c.undo_taken.result.reads.items ≡ tree.reads)) (sym (ap (option_map (λ e. e.1)) c.in-Some.is) ∙ c.take_named.ensures.tree) c.undo_taken.ensures.reads
