use Rattle.std.proofs.Common.{◌≡◌, ◌∙◌, ◌∷◌, [], ap, length, subst, suc, sym}
use Rattle.ahead_settling.proofs.First.{ref-first, there-again, waiters-again}
use Rattle.ahead_settling.proofs.requests.settle_new_ref.Goals as goal
use Rattle.ref_store.specs.Store.{committed}
use Rattle.shared_world.specs.Shared.{Shared}
use Rattle.world_steps.specs.Kept.{shared_of}

pub finish-requires-clause-there : goal.finish-requires-clause-there
finish-requires-clause-there c = there-again (shared_of c.args.kept.now) (shared_of c.prepare.new.kept) c.args.name.now c.requires.opened c.in_ok-settling.ensures.same

pub finish-requires-clause-waiters : goal.finish-requires-clause-waiters
finish-requires-clause-waiters c = waiters-again (shared_of c.args.kept.now) (shared_of c.prepare.new.kept) c.args.name.now c.requires.opened c.in_ok-settling.ensures.same

pub returns : goal.returns
returns c =
    let old = shared_of c.args.kept.now in
    let same = c.in_ok-settling.ensures.same in
    let made = c.in_ok-made.made in
    let number = c.in_ok-writes.number in
    let versions : c.commit.new.self.versions ≡ committed old.versions ((made, c.args.content) ∷ []) (suc (length old.history)) =
    c.commit.ensures.versions ∙ ap (λ vs. committed vs c.in_ok-writes.writes.items number) (c.in_ok-reserve.ensures.versions ∙ ap (λ (s : Shared). s.versions) same)
    ∙ ap (λ ws. committed old.versions ws number) c.in_ok-writes.ensures.write ∙ ap (committed old.versions ((made, c.args.content) ∷ [])) c.in_ok-writes.ensures.number in
    ref-first old (shared_of c.prepare.new.kept) (shared_of c.finish.new.kept) c.args.name.now made c.args.content c.commit.new.self.versions c.finish.result c.requires.opened same c.in_ok-made.ensures c.in_ok-writes.ensures.none versions c.finish.ensures.leaves c.finish.ensures.unlent c.finish.ensures.end
