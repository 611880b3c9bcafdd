use Rattle.ahead_settling.proofs.Lefts.{settling-still}
use Rattle.std.proofs.Common.{subst}
use Rattle.ahead_settling.proofs.First.{spawned-first, spawned-there, spawned-waiters}
use Rattle.ahead_settling.proofs.requests.settle_spawn.Goals as goal
use Rattle.actor_mails.specs.Mails.{mail_at}
use Rattle.shared_world.specs.rows.Actors.{actor_with}
use Rattle.std.specs.Prelude.{Some}
use Rattle.unit_table.specs.Board.{IsPutAt}
use Rattle.world_steps.specs.Kept.{shared_of}

pub finish-requires-clause-settling : goal.finish-requires-clause-settling
finish-requires-clause-settling c =
    settling-still c.prepare.new.kept.history.room c.prepare.new.kept.units c.add_actor.new.units c.prepare.new.kept.attempts.entries c.prepare.new.kept.aheads.entries c.args.name.now c.in_ok-settling.settling c.add_actor.ensures.places c.in_ok-settling.ensures.settling

pub finish-requires-clause-there : goal.finish-requires-clause-there
finish-requires-clause-there c =
    spawned-there (shared_of c.args.kept.now) (shared_of c.next_new.new.kept) (shared_of c.prepare.new.kept) c.args.name.now c.in_ok-made.made _ c.add_actor.new.units c.requires.opened c.in_ok-made.ensures.same c.in_ok-settling.ensures.same c.in_ok-made.ensures.none c.add_actor.ensures.added

pub finish-requires-clause-waiters : goal.finish-requires-clause-waiters
finish-requires-clause-waiters c =
    spawned-waiters (shared_of c.args.kept.now) (shared_of c.next_new.new.kept) (shared_of c.prepare.new.kept) c.args.name.now c.in_ok-made.made _ c.add_actor.new.units c.requires.opened c.in_ok-made.ensures.same c.in_ok-settling.ensures.same c.add_actor.ensures.added

pub returns : goal.returns
returns c =
    let prep = shared_of c.prepare.new.kept in
    let added = subst (λ k. IsPutAt c.in_ok-made.made (Some (actor_with k (mail_at prep.mails c.in_ok-made.made))) prep.board c.add_actor.new.units) c.idle.ensures c.add_actor.ensures.added in
    spawned-first (shared_of c.args.kept.now) (shared_of c.next_new.new.kept) (shared_of c.prepare.new.kept) (shared_of c.finish.new.kept) c.args.name.now c.in_ok-made.made c.args.behaviour c.args.state c.add_actor.new.units c.finish.result c.requires.opened c.in_ok-made.ensures.same
    c.in_ok-settling.ensures.same c.in_ok-made.ensures.none c.in_ok-made.ensures.made added c.add_actor.ensures.claims c.finish.ensures.leaves c.finish.ensures.unlent c.finish.ensures.end
