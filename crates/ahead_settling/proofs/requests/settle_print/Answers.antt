use Rattle.std.proofs.Common.{◌≡◌, ◌∙◌, ◌++◌, ap}
use Rattle.ahead_settling.proofs.First.{printed-first, there-again, waiters-again}
use Rattle.ahead_settling.proofs.requests.settle_print.Goals as goal
use Rattle.shared_world.specs.Shared.{Shared}
use Rattle.world_steps.specs.Kept.{shared_of}

pub finish-requires-clause-there : goal.finish-requires-clause-there
finish-requires-clause-there c = there-again (shared_of c.args.kept.now) (shared_of c.prepare.new.kept) c.args.name.now c.requires.opened c.in_ok-settling.ensures.same

pub finish-requires-clause-waiters : goal.finish-requires-clause-waiters
finish-requires-clause-waiters c = waiters-again (shared_of c.args.kept.now) (shared_of c.prepare.new.kept) c.args.name.now c.requires.opened c.in_ok-settling.ensures.same

pub returns : goal.returns
returns c =
    let old = shared_of c.args.kept.now in
    let same = c.in_ok-settling.ensures.same in
    let bytes : c.extend_from_slice.new.self.items ≡ old.bytes ++ c.args.text.now =
    c.in_ok-extend_from_slice.ensures.items ∙ ap (λ t. c.prepare.new.kept.output.items ++ t) c.items.ensures ∙ ap (λ (s : Shared). s.bytes ++ c.args.text.now) same in
    printed-first old (shared_of c.prepare.new.kept) (shared_of c.finish.new.kept) c.args.name.now c.args.text.now c.extend_from_slice.new.self.items c.finish.result c.requires.opened same bytes c.finish.ensures.leaves c.finish.ensures.unlent c.finish.ensures.end
