use Rattle.std.proofs.Common.{◌≡◌, ◌∙◌, ap, refl, subst, sym}
use Rattle.std.specs.Option.{option_map}
use Rattle.attempt_undoing.proofs.dropping.drop_tried.Goals as goal
use Rattle.attempt_undoing.specs.Turns.{TreeGoneOf}
use Rattle.shared_world.specs.rows.Attempts.{IsWithout}
use Rattle.shared_world.specs.Shared.{Shared}
use Rattle.task_fork_join.specs.Attempt.{Attempt}
use Rattle.value_core.specs.Named.{Named, named}
use Rattle.world_steps.specs.declared.kept.Kept.{Kept}
use Rattle.world_steps.specs.Kept.{shared_of}

pub returns-in-Some-clause-gone : goal.returns-in-Some-clause-gone
returns-in-Some-clause-gone c =
    let s : Shared = shared_of c.args.kept.now in
    let new : Shared = shared_of c.drop_tree-reads.new.kept in
    let same : new.attempts ≡ c.take_named.new.attempts.entries = ap (λ (k : Kept). k.attempts.entries) c.drop_tree-reads.ensures.others in
    let start : Shared = record s { attempts = c.take_named.new.attempts.entries } in
    record {
      attempts = subst (λ attempts. IsWithout c.args.name.now c.args.kept.now.attempts.entries attempts) (sym same) c.take_named.ensures.gone;
      tree = subst (λ (left : Named Attempt). TreeGoneOf (named c.args.name.now s.attempts) (record s { attempts = left }) new) (sym same) (subst (λ found. TreeGoneOf found start new) (sym (ap (option_map (λ e. e.1)) c.in-Some.is) ∙ c.take_named.ensures.tree) c.drop_tree-reads.ensures.gone);
    }

pub returns-in_default-clause-gone : goal.returns-in_default-clause-gone
returns-in_default-clause-gone c =
    let start : Shared = record (shared_of c.args.kept.now) { attempts = c.take_named.new.attempts.entries } in
    record {
      attempts = c.take_named.ensures.gone;
      tree = subst (λ found. TreeGoneOf found start start) (sym (ap (option_map (λ e. e.1)) c.in_default.is) ∙ c.take_named.ensures.tree) refl;
    }
