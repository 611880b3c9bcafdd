use Rattle.std.proofs.Common.{◌≡◌, ◌∙◌, [], rules, subst}
use Rattle.std.specs.Vec.Iter.{into_iter_items}
use Rattle.task_log.proofs.CopiedMaps.{over-nothing}
use Rattle.value_core.specs.declared.value.Value.{Value}
use Rattle.value_core.specs.Named.{Named, Rises, over}
use Rattle.attempt_commits.proofs.commits.written.Goals as goal

pub loop-name-init : goal.loop-name-init
loop-name-init c =
    let entries = c.writes.result.now in
    let same : over (into_iter_items c.into_iter-name-iterator.result) c.reserve.new.self.items ≡ over entries [] = search rules in
    same ∙ over-nothing entries c.in_ok-entries.ensures.rises ∙ c.writes.ensures

pub returns-clause-rises : goal.returns-clause-rises
returns-clause-rises c = subst (λ (ws : Named Value). Rises ws) c.writes.ensures c.in_ok-entries.ensures.rises
