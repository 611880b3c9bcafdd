use Rattle.std.proofs.Common.{ap, sym, subst}
use Rattle.run_end.proofs.Ends.{cleared-few, cleared-marks, cleared-stands, cleared-turns, over-none-tried}
use Rattle.run_end.proofs.Turns.{turns-later, turns-then}
use Rattle.run_end.proofs.Walked.{walked-first}
use Rattle.run_end.proofs.finishing.finish.Goals as goal
use Rattle.world_steps.specs.Kept.{shared_of}
use Rattle.shared_world.specs.Few.{KeepsFew}
use Rattle.shared_world.specs.Marks.{HasMarks}
use Rattle.shared_world.specs.rows.Attempts.{ArePrunedFor}
use Rattle.shared_world.specs.Stands.{Stands}
use Rattle.task_fork_join.specs.Attempt.{Attempt}
use Rattle.value_core.specs.Named.{Named, named}

pub returns-clause-stands : goal.returns-clause-stands
returns-clause-stands c =
    let mid = shared_of c.settle_all.new.kept in
    let versions = c.clear_attempts.new.store.versions in
    let pruned = subst (λ (es : Named Attempt). ArePrunedFor es mid.versions versions) c.clear_attempts.ensures.none c.clear_attempts.ensures.pruned in
    subst (λ (es : Named Attempt). Stands (record mid { attempts = es; versions = versions })) (sym c.clear_attempts.ensures.none)
    (cleared-stands mid c.settle_all.ensures.goes.stands (over-none-tried mid c.settle_all.ensures.goes.stands c.in_ok-end.end c.in_ok-end.ensures.end) versions pruned)

pub returns-clause-marks : goal.returns-clause-marks
returns-clause-marks c =
    let old = shared_of c.args.kept.now in
    let mid = shared_of c.settle_all.new.kept in
    let versions = c.clear_attempts.new.store.versions in
    let pruned = subst (λ (es : Named Attempt). ArePrunedFor es mid.versions versions) c.clear_attempts.ensures.none c.clear_attempts.ensures.pruned in
    λ marks. subst (λ (es : Named Attempt). HasMarks (record mid { attempts = es; versions = versions })) (sym c.clear_attempts.ensures.none)
    (cleared-marks mid c.settle_all.ensures.goes.stands (over-none-tried mid c.settle_all.ensures.goes.stands c.in_ok-end.end c.in_ok-end.ensures.end) versions pruned
    (c.settle_all.ensures.goes.marks (c.in_ok-withdraw.ensures.goes.marks marks)))

pub returns-clause-few : goal.returns-clause-few
returns-clause-few c =
    let mid = shared_of c.settle_all.new.kept in
    let versions = c.clear_attempts.new.store.versions in
    let pruned = subst (λ (es : Named Attempt). ArePrunedFor es mid.versions versions) c.clear_attempts.ensures.none c.clear_attempts.ensures.pruned in
    λ few. subst (λ (es : Named Attempt). KeepsFew (record mid { attempts = es; versions = versions })) (sym c.clear_attempts.ensures.none)
    (cleared-few mid c.settle_all.ensures.goes.stands (over-none-tried mid c.settle_all.ensures.goes.stands c.in_ok-end.end c.in_ok-end.ensures.end) versions pruned)

pub returns-in_err-withdraw-clause-few : goal.returns-in_err-withdraw-clause-few
returns-in_err-withdraw-clause-few c = c.withdraw.ensures.goes.few

pub returns-in_err-end-clause-few : goal.returns-in_err-end-clause-few
returns-in_err-end-clause-few c = λ few. c.settle_all.ensures.goes.few (c.withdraw.ensures.goes.few few)

pub settle_all-requires-clause-walked : goal.settle_all-requires-clause-walked
settle_all-requires-clause-walked c = walked-first (shared_of c.withdraw.new.kept) c.in_ok-withdraw.ensures.tried c.in_ok-withdraw.ensures.level

pub returns-in_err-withdraw-clause-later : goal.returns-in_err-withdraw-clause-later
returns-in_err-withdraw-clause-later c = turns-later (shared_of c.args.kept.now) (shared_of c.withdraw.new.kept) c.withdraw.ensures.goes.turns

pub returns-in_err-end-clause-turns : goal.returns-in_err-end-clause-turns
returns-in_err-end-clause-turns c =
    turns-then (shared_of c.args.kept.now) (shared_of c.withdraw.new.kept) (shared_of c.settle_all.new.kept) c.withdraw.ensures.goes.turns c.settle_all.ensures.goes.turns

pub returns-in_err-end-clause-later : goal.returns-in_err-end-clause-later
returns-in_err-end-clause-later c =
    turns-later (shared_of c.args.kept.now) (shared_of c.settle_all.new.kept)
    (turns-then (shared_of c.args.kept.now) (shared_of c.withdraw.new.kept) (shared_of c.settle_all.new.kept) c.withdraw.ensures.goes.turns c.settle_all.ensures.goes.turns)

pub returns-clause-turns : goal.returns-clause-turns
returns-clause-turns c =
    cleared-turns (shared_of c.args.kept.now) (shared_of c.settle_all.new.kept) _ _
    (turns-then (shared_of c.args.kept.now) (shared_of c.withdraw.new.kept) (shared_of c.settle_all.new.kept) c.withdraw.ensures.goes.turns c.settle_all.ensures.goes.turns)

pub returns-clause-later : goal.returns-clause-later
returns-clause-later c =
    let mid = shared_of c.settle_all.new.kept in
    turns-later (shared_of c.args.kept.now) (record mid { attempts = c.clear_attempts.new.attempts.entries; versions = c.clear_attempts.new.store.versions })
    (cleared-turns (shared_of c.args.kept.now) mid _ _ (turns-then (shared_of c.args.kept.now) (shared_of c.withdraw.new.kept) mid c.withdraw.ensures.goes.turns c.settle_all.ensures.goes.turns))

pub settle_all-requires-clause-marks : goal.settle_all-requires-clause-marks
settle_all-requires-clause-marks c = c.in_ok-withdraw.ensures.goes.marks c.requires.marks

pub returns-clause-finished : goal.returns-clause-finished
returns-clause-finished c =
    let over = c.in_ok-end.ensures.end in
    let level = c.settle_all.ensures.goes.level c.in_ok-withdraw.ensures.level in
    record {
      over = record { state = over.state; replays = over.replays; over = over.over };
      attempts = λ u. ap (named u) c.clear_attempts.ensures.none;
      claims = c.settle_all.ensures.goes.claims c.in_ok-withdraw.ensures.claims;
      level = record { aheads = level.aheads; taken = level.taken };
    }
