use Rattle.std.proofs.Common.{◌≡◌, ◌∙◌, ◌∷◌, [], Some, None, ap, refl, sym}
use Rattle.std.specs.BTreeMap.Range.{range_contains}
use Rattle.std.specs.declared.ops.Bound.TheVariants.{Unbounded}
use Rattle.std.specs.List.{filter}
use Rattle.std.specs.Option.{option_copied}
use Rattle.task_fork_join.proofs.Nexts.{after_test, next-found, none-found}
use Rattle.value_core.proofs.NameMaps.{rises_of}
use Rattle.value_core.specs.Name.{after_cmp}
use Rattle.task_fork_join.proofs.following.next_task.Goals as goal

pub returns-in-Some-clause-some : goal.returns-in-Some-clause-some
returns-in-Some-clause-some c =
    let range : c.range-rest.result ≡ filter (λ e. after_test (option_copied c.args.after) e.0) c.args.tasks.now.entries = c.range-rest.ensures.between tt ∙ ap (λ b. filter (λ e. range_contains after_cmp b Unbounded e.0) c.args.tasks.now.entries) c.start_after.ensures in
    next-found (option_copied c.args.after) (c.in-Some.name.now, c.in-Some._task.now) c.next.new.self c.args.tasks.now.entries (rises_of c.args.tasks.now.entries c.range-rest.ensures.ordered) (sym range ∙ c.in-Some.ensures.steps)

pub returns-in-None-clause-none : goal.returns-in-None-clause-none
returns-in-None-clause-none c =
    let range : c.range-rest.result ≡ filter (λ e. after_test (option_copied c.args.after) e.0) c.args.tasks.now.entries = c.range-rest.ensures.between tt ∙ ap (λ b. filter (λ e. range_contains after_cmp b Unbounded e.0) c.args.tasks.now.entries) c.start_after.ensures in
    none-found (option_copied c.args.after) c.args.tasks.now.entries (sym range ∙ c.in-None.ensures.steps.0)
