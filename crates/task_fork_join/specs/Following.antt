-- The tasks of an attempt, one after another.
use Rattle.std.specs.Prelude.{Bool, List, Option, None, Some, filter, true}
use Rattle.std.specs.declared.ops.Bound.{Bound}
use Rattle.std.specs.declared.ops.Bound.TheVariants.{Excluded, Unbounded}
use Rattle.std.specs.Ordering.{is_lt}
use Rattle.task_fork_join.specs.Attempt.{names_in}
use Rattle.task_fork_join.specs.declared.task.Task.{Task}
use Rattle.value_core.specs.Name.{after_cmp}
use Rattle.value_core.specs.Named.{Name, Named}

-- the name comes after that one in after-order; each does where it is none
abbrev pub comes_after : Option Name → Name → Bool
comes_after None q = true
comes_after (Some name) q = is_lt (after_cmp name q)

-- the names of the tasks that come after that one
abbrev pub names_after : Option Name → Named Task → List Name
names_after name tasks = filter (comes_after name) (names_in tasks)

-- from where on they come after it
abbrev pub after_bound : Option Name → Bound Name
after_bound None = Unbounded
after_bound (Some name) = Excluded name
