use Rattle.std.proofs.Common.{◌∙◌}
use Rattle.schedule_command.proofs.DrivenWorlds.{driven_on, reported_setup}
use Rattle.schedule_command.proofs.schedule_command.drive_to_end.Goals as goal

pub returns-in-Ok-clause-setup : goal.returns-in-Ok-clause-setup
returns-in-Ok-clause-setup c = c.end_with.ensures.later.setup ∙ reported_setup _ _ _ _ c.in-Ok.ensures.reported

pub returns-in-Ok-clause-driven : goal.returns-in-Ok-clause-driven
returns-in-Ok-clause-driven c = driven_on (λ over. over.report) c.end_with.result _ _ _ _ _ c.in-Ok.ensures.reported c.end_with.ensures.later c.end_with.ensures.report

pub returns-in-Err-clause-setup : goal.returns-in-Err-clause-setup
returns-in-Err-clause-setup c = c.in-Err.ensures.later.appends.setup
