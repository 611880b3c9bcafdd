use Rattle.std.proofs.Common.{◌∙◌, subst, sym}
use Rattle.attempt_undoing.proofs.undoing.undo_claimed.Goals as goal
use Rattle.attempt_undoing.proofs.Whole.{undone-from}
use Rattle.attempt_undoing.specs.Sends.{ActorsMarked}
use Rattle.attempt_undoing.specs.Undoing.{TookOut, UndoneTaken}
use Rattle.shared_world.specs.Shared.{Shared}
use Rattle.world_steps.specs.Kept.{shared_of}

pub undo_taken-requires : goal.undo_taken-requires
undo_taken-requires c =
    let q = c.requires.claimed in
    let s : Shared = shared_of c.args.kept.now in
    let out = subst (λ found. TookOut s q.owner found (shared_of c.take_claimed.new.kept)) c.in-Some.is (c.take_claimed.ensures.out q) in
    record { marks = subst ActorsMarked (sym out.1.taken_is) (λ a x at. (c.requires.marks q).actors a x at) }

pub unreachable-requires : goal.unreachable-requires
unreachable-requires c =
    let q = c.requires.claimed in subst (λ found. TookOut (shared_of c.args.kept.now) q.owner found (shared_of c.take_claimed.new.kept)) c.in-None.is (c.take_claimed.ensures.out q)

pub returns : goal.returns
returns c = λ q.
    let s : Shared = shared_of c.args.kept.now in
    let taken : Shared = shared_of c.take_claimed.new.kept in
    let new : Shared = shared_of c.undo_taken.new.kept in
    let out = subst (λ found. TookOut s q.owner found taken) c.in-Some.is (c.take_claimed.ensures.out q) in
    undone-from s c.requires.stands c.requires.going q.owner (c.requires.marks q) c.in-Some.tree taken out.1 new (subst (λ n. UndoneTaken n c.in-Some.tree taken new) out.0 c.undo_taken.ensures.undone) q.attempt.unit q.attempt.there
    c.lent_are_ready.ensures c.undo_taken.ensures.lent c.undo_taken.result (c.undo_taken.ensures.unit ∙ out.0) c.undo_taken.ensures.reads
