use Rattle.std.proofs.Common.{◌≡◌, ◌+◌, ◌-◌, ◌*◌, suc}
use Rattle.serial_model.specs.Task.{Known, turns as turns_of}
use Rattle.eval_step.specs.Evaluation.{IsSameTask}
use Rattle.serial_units.specs.Tasks.{around_of, view_of, Knows, AddsMade, Extends, IsMachine, IsUnmade}
use Rattle.serial_model.specs.Standing.{call_below, here_of}
use Rattle.serial_units.proofs.TaskTurns.{Turning}
use Rattle.serial_units.proofs.tasks.Tasks.+task.Given as goal

abbrev pub decreases-fork : goal.decreases-fork
decreases-fork l = 7 * l.levels

abbrev pub decreases-reply : goal.decreases-reply
decreases-reply l = 7 * l.levels + 1

abbrev pub decreases-answer : goal.decreases-answer
decreases-answer l = 7 * l.levels + 2

abbrev pub decreases-turn : goal.decreases-turn
decreases-turn l = 7 * l.levels + 3

abbrev pub decreases-turns : goal.decreases-turns
decreases-turns l = 7 * l.levels + 4

abbrev pub decreases-run_above : goal.decreases-run_above
decreases-run_above l = 7 * l.levels + 5

abbrev pub decreases-run : goal.decreases-run
decreases-run l = 7 * l.levels + 6

abbrev pub invariant-turns-loop : goal.invariant-turns-loop
invariant-turns-loop l = record {
  machine : IsMachine (around_of l.around) l.machine;
  same : IsSameTask l.fn.machine l.machine;
  below : l.self.below.items ≡ l.fn.self.below.items;
  end : l.end ≡ l.around.fuel;
  results : Extends l.fn.self.results.entries l.self.results.entries;
  made : AddsMade l.fn.self.results.entries l.fn.self.top.log l.self.results.entries l.self.top.log;
  unmade : IsUnmade l.self.results.entries l.self.top.log;
  turning : (known : Known) → Knows l.fn.self.results.entries l.fn.self.below.items l.fn.self.top.known known
      → Turning (around_of l.around) l.levels (call_below (around_of l.around) l.levels) l.fn.machine.body l.fn.machine.values l.self.results.entries l.fn.self.below.items l.self.top l.machine.answers (suc (l.end - l.counter))
      (turns_of (around_of l.around) l.levels (call_below (around_of l.around) l.levels) l.fn.machine.body l.fn.machine.values (view_of l.fn.self.below.items) (suc l.around.fuel) (here_of l.fn.machine.answers l.fn.self.top.log known));
}
