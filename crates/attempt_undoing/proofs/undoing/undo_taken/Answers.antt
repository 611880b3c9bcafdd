use Rattle.std.proofs.Common.{◌≡◌, ◌∙◌, [], ap, refl, subst}
use Rattle.std.specs.BTreeMap.{BTreeMap}
use Rattle.attempt_undoing.proofs.undoing.undo_taken.Goals as goal
use Rattle.attempt_undoing.specs.Turns.{HangingGone, StandingLeft, TreeGone}
use Rattle.shared_world.specs.Ahead.{Ahead}
use Rattle.shared_world.specs.Shared.{Shared}
use Rattle.turns_ahead.specs.Leading.{Leading, ahead_of}
use Rattle.value_core.specs.Named.{Name, Named, each_as}
use Rattle.world_steps.specs.Kept.{shared_of}

-- the turns that run ahead are taken out meanwhile
pub returns-clause-undone : goal.returns-clause-undone
returns-clause-undone c =
    let s : Shared = shared_of c.args.kept.now in
    let mid : Shared = shared_of c.drop_tree-reads.new.kept in
    let last : Shared = shared_of c.drop_hanging.new.kept in
    let out : each_as ahead_of c.replace-aheads.new.dest.entries ≡ [] = ap (λ (m : BTreeMap Name Leading). each_as ahead_of m.entries) c.replace-aheads.ensures.after ∙ ap (each_as ahead_of) c.new.ensures.empty in
    let were : each_as ahead_of c.replace-aheads.result.entries ≡ s.aheads = ap (λ (m : BTreeMap Name Leading). each_as ahead_of m.entries) c.replace-aheads.ensures.value in
    record {
      mid = mid;
      tree_gone = subst (λ (aheads : Named Ahead). TreeGone c.args.tree (record s { aheads = aheads }) mid) out c.drop_tree-reads.ensures.gone;
      last = last;
      hanging = subst (λ (aheads : Named Ahead). HangingGone aheads mid last) were c.drop_hanging.ensures.gone;
      last_is = ap shared_of c.drop_hanging.ensures.others;
      aheads = subst (λ (aheads : Named Ahead). StandingLeft last.board aheads (each_as ahead_of c.standing.result.entries)) were c.standing.ensures;
      readied = c.make_ready.ensures;
      versions = c.prune_by_walk.ensures.pruned;
      new_is = refl;
    }
