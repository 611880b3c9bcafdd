use Rattle.std.proofs.Common.{◌≡◌, ◌∙◌, refl, sym, ap, subst}
use Rattle.std.specs.Prelude.{IfSome}
use Rattle.serial_model.specs.Replay.{replay}
use Rattle.command_phases.specs.Outcome.{Finished, IsEnded}
use Rattle.command_phases.proofs.Statuses.{six_not_ended}
use Rattle.run_command.proofs.Worlds.{has_bytes, has_state, opening_setup, over_state}
use Rattle.schedule_command.proofs.DrivenWorlds.{report_of}
use Rattle.run_command.proofs.Ended.{ProgramAnswers-of}
use Rattle.serial_commands.proofs.Finishes.{Finished-stopped}
use Rattle.serial_commands.proofs.Stopped.{SaysOutcome-stopped}
use Rattle.run_command.proofs.Stopped.{ProgramAnswers-stopped}
use Rattle.schedule_command.proofs.schedule_command.run_world.Goals as goal

pub returns-in_default-clause-answers : goal.returns-in_default-clause-answers
returns-in_default-clause-answers g c =
    let world = c.drive_to_end.new.world in
    ProgramAnswers-stopped c.stopped_after.result c.stopped_after.ensures.status _ c.args.trace.now _ _ _ c.stopped_after.ensures.detail c.stopped_after.ensures.end
    (subst (λ setup. Finished setup (g.K.Sink.seen c.args.outside.out.now) (g.K.Sink.seen c.args.outside.out.now) c.stopped_after.result)
    (c.drive_to_end.ensures.setup ∙ opening_setup _ _ c.requires.opens)
    (Finished-stopped (record { setup = world.setup; history = world.history }) c.stopped_after.result _ _ (ap (λ h. h.items) c.stopped_after.ensures.history ∙ c.into_history.ensures) (has_state world c.stands.ensures.stands)
    c.stopped_after.ensures.status c.stopped_after.ensures.end refl))

pub returns-in_default-clause-reports : goal.returns-in_default-clause-reports
returns-in_default-clause-reports g c = λ ended. absurd (six_not_ended (subst IsEnded c.stopped_after.ensures.status ended))

pub returns-in_default-clause-says : goal.returns-in_default-clause-says
returns-in_default-clause-says g c = λ never. SaysOutcome-stopped c.stopped_after.result c.stopped_after.ensures.status _ _ c.stopped_after.ensures.says

pub returns-clause-answers : goal.returns-clause-answers
returns-clause-answers g c =
    let world = c.drive_to_end.new.world in
    ProgramAnswers-of _ c.args.limits c.args.trace.now _ _ c.end_run.result c.in-Some.over.end (record { setup = world.setup; history = world.history }) c.output.result.now c.write_all-written.result
    (c.drive_to_end.ensures.setup ∙ opening_setup _ _ c.requires.opens) (ap (λ h. h.items) c.end_run.ensures.history ∙ c.into_history-history.ensures)
    (has_state world c.stands-2.ensures.stands)
    (subst (λ bytes. IfSome (replay world.setup world.history) (λ state. bytes ≡ state.bytes)) (sym c.output.ensures) (has_bytes world c.stands-2.ensures.stands))
    (over_state world c.in-Some.over.end c.in-Some.ensures.over)
    c.end_run.ensures.end c.end_run.ensures.detail
    c.write_all-written.ensures.prefix c.write_all-written.ensures.whole c.write_all-written.ensures.counts
    (rw c.end_run.ensures.history c.end_run.ensures.ends)

pub returns-clause-reports : goal.returns-clause-reports
returns-clause-reports g c = λ ended. record {
  report = c.in-Some.over.report;
  of_lines = report_of _ c.args.lines.now c.args.world c.drive_to_end.new.world c.in-Some.over.report _ c.requires.opens c.requires.unclaimed c.in-Some.ensures.driven
      (ap (λ h. h.items) c.end_run.ensures.history ∙ c.into_history-history.ensures);
  says = c.end_run.ensures.reports ended;
}
