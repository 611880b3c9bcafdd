use Rattle.std.proofs.Common.{◌≡◌, ◌-◌, List}
use Rattle.value_core.specs.declared.value.Value.{Value as Datum}
use Rattle.serial_model.specs.declared.answer.Answer.{Answer}
use Rattle.serial_model.specs.Task.{Known, closes}
use Rattle.serial_model.specs.Standing.{here_of}
use Rattle.serial_units.specs.Tasks.{KeepsMade, Knows}
use Rattle.serial_units.proofs.ChildJoins.{Closing}
use Rattle.serial_units.proofs.tasks.Tasks.close_children.Given as goal

abbrev pub invariant-loop-number : goal.invariant-loop-number
invariant-loop-number l = record {
  below : l.self.below.items ≡ l.fn.self.below.items;
  results : l.self.results.entries ≡ l.fn.self.results.entries;
  made : KeepsMade l.fn.self.top.log l.self.top.log;
  number_end : l.number-end ≡ l.fn.self.top.log.made;
  closing : (v : Datum) (answers : List Answer) (known : Known) → Knows l.fn.self.results.entries l.fn.self.below.items l.fn.self.top.known known
      → Closing l.self.results.entries l.self.below.items l.self.top v l.number (l.number-end - l.number) (closes v 0 l.fn.self.top.log.made (here_of answers l.fn.self.top.log known));
}
