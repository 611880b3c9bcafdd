use Rattle.serial_units.proofs.Forks.{new_extends, new_there}
use Rattle.serial_units.proofs.tasks.Tasks.keep.Goals as goal

pub returns-clause-results : goal.returns-clause-results
returns-clause-results c = new_extends c.args.self.now.results.entries c.keep_result.new.results.entries c.args.future c.args.done c.in_ok-keep_result.ensures c.requires

pub returns-clause-kept : goal.returns-clause-kept
returns-clause-kept c = new_there c.args.self.now.results.entries c.keep_result.new.results.entries c.args.future c.args.done c.in_ok-keep_result.ensures
