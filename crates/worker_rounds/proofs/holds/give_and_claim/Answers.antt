use Rattle.std.proofs.Common.{◌≡◌, subst}
use Rattle.std.specs.Prelude.{IfSome}
use Rattle.interleave_core.specs.Grown.{history_seen, setup_seen}
use Rattle.core_syntax.specs.Table.{Table}
use Rattle.worker_rounds.proofs.Holding.{gives-later, later-program, later-then}
use Rattle.worker_rounds.proofs.holds.give_and_claim.Goals as goal
use Rattle.world_lock.specs.Later.{IsLater}

pub returns-clause-later : goal.returns-clause-later
returns-clause-later c =
    later-then c.args.world.now c.give-answer.new.self c.next_after-next.new.world
    (gives-later c.args.world.now c.give-answer.new.self c.args.done c.give-answer.result c.give-answer.ensures.gave c.give-answer.ensures.back) c.next_after-next.ensures.later

pub returns-clause-next : goal.returns-clause-next
returns-clause-next c =
    let later : IsLater setup_seen history_seen c.args.world.now c.give-answer.new.self = gives-later c.args.world.now c.give-answer.new.self c.args.done c.give-answer.result c.give-answer.ensures.gave c.give-answer.ensures.back in
    subst (λ (t : Table). IfSome c.next_after-next.result (λ claim. claim.program ≡ t)) (later-program c.args.world.now c.give-answer.new.self later) c.next_after-next.ensures.next
