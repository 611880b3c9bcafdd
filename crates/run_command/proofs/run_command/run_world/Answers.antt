use Rattle.std.proofs.Common.{◌≡◌, ◌∙◌, ap, subst}
use Rattle.std.specs.Prelude.{IfSome, OnOk}
use Rattle.std.specs.Io.KnownBytes.{append_known}
use Rattle.run_end.specs.Over.{IsOverWith}
use Rattle.world_io.specs.Taken.{CountsWrite}
use Rattle.command_phases.specs.Outcome.{Finished}
use Rattle.command_phases.proofs.Said.{SaysOutcome-unreported}
use Rattle.run_command.proofs.Worlds.{has_bytes, has_state, over_state}
use Rattle.run_command.proofs.Ended.{ProgramAnswers-of}
use Rattle.serial_commands.proofs.Finishes.{Finished-cut}
use Rattle.serial_commands.proofs.Stopped.{SaysOutcome-stopped}
use Rattle.run_command.proofs.Stopped.{ProgramAnswers-stopped}
use Rattle.run_command.proofs.run_command.run_world.Goals as goal

pub returns-in_default-clause-answers : goal.returns-in_default-clause-answers
returns-in_default-clause-answers g c =
    let world = c.run_shared-world.result.world in
    ProgramAnswers-stopped c.stopped_after.result c.stopped_after.ensures.status _ c.args.trace.now _ _ _ c.stopped_after.ensures.detail c.stopped_after.ensures.end
    (subst (λ setup. Finished setup (g.K.Sink.seen c.args.outside.out.now) (g.K.Sink.seen c.run_shared-world.new.sink) c.stopped_after.result)
    (c.run_shared-world.ensures.later.setup ∙ c.requires.setup)
    (Finished-cut (record { setup = world.setup; history = world.history }) c.stopped_after.result world.bytes _ _ (ap (λ h. h.items) c.stopped_after.ensures.history ∙ c.into_history.ensures)
    (has_state world c.stands.ensures.stands) (has_bytes world c.stands.ensures.stands) c.stopped_after.ensures.status c.stopped_after.ensures.end c.run_shared-world.ensures.prefix))

pub returns-in_default-clause-says : goal.returns-in_default-clause-says
returns-in_default-clause-says g c = SaysOutcome-stopped c.stopped_after.result c.stopped_after.ensures.status _ _ c.stopped_after.ensures.says

pub returns-clause-answers : goal.returns-clause-answers
returns-clause-answers g c =
    let world = c.run_shared-world.result.world in
    ProgramAnswers-of _ c.args.limits c.args.trace.now _ _ c.end_run.result c.in-Some.over.end (record { setup = world.setup; history = world.history }) world.bytes c.in-Some.over.written
    (c.run_shared-world.ensures.later.setup ∙ c.requires.setup) (ap (λ h. h.items) c.end_run.ensures.history ∙ c.into_history-history.ensures)
    (has_state world c.stands.ensures.stands) (has_bytes world c.stands.ensures.stands)
    (over_state world c.in-Some.over.end (subst (λ o. IfSome o (λ ended. IsOverWith world ended.end)) c.in-Some.ensures c.run_shared-world.ensures.over))
    c.end_run.ensures.end c.end_run.ensures.detail
    c.run_shared-world.ensures.prefix
    (subst (λ o. IfSome o (λ ended. OnOk ended.written ((g.K.Sink.seen c.run_shared-world.new.sink).taken ≡ append_known (g.K.Sink.seen c.args.outside.out.now).taken world.bytes))) c.in-Some.ensures c.run_shared-world.ensures.whole)
    (subst (λ o. IfSome o (λ ended. CountsWrite ended.written (g.K.Sink.seen c.args.outside.out.now).faults (g.K.Sink.seen c.run_shared-world.new.sink).faults)) c.in-Some.ensures c.run_shared-world.ensures.counts)
    (rw c.end_run.ensures.history c.end_run.ensures.ends)

pub returns-clause-says : goal.returns-clause-says
returns-clause-says g c =
    SaysOutcome-unreported _ c.end_run.result _ _ c.new.ensures c.end_run.ensures.detail c.end_run.ensures.ends.status c.end_run.ensures.reports c.end_run.ensures.says
