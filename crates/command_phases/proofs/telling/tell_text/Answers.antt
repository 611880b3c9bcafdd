use Rattle.command_phases.proofs.ToldTexts.{IsTold-failed, IsTold-written}
use Rattle.command_phases.proofs.telling.tell_text.Goals as goal

pub returns-in-Ok : goal.returns-in-Ok
returns-in-Ok g c = IsTold-written _ _ _ c.without_run.result c.without_run.ensures c.write_all.ensures.prefix c.in-Ok.ensures.whole c.in-Ok.ensures.counts c.write_all.ensures.later

pub returns-in-Err : goal.returns-in-Err
returns-in-Err g c = IsTold-failed _ _ _ c.without_run-in-Err.result c.without_run-in-Err.ensures c.write_all.ensures.prefix c.in-Err.ensures.counts c.write_all.ensures.later
