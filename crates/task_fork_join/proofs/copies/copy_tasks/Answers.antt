use Rattle.std.proofs.Common.{◌≡◌, ◌∙◌, [], rules}
use Rattle.task_log.proofs.CopiedMaps.{over-nothing}
use Rattle.value_core.specs.Named.{over}
use Rattle.task_fork_join.proofs.copies.copy_tasks.Goals as goal

pub loop-name-init : goal.loop-name-init
loop-name-init c =
    let entries = c.args.tasks.now.entries in
    let same : over c.into_iter-name-iterator.result c.new-copied.result.entries ≡ over entries [] = search rules in
    same ∙ over-nothing entries c.requires
