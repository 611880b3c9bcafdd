use Rattle.std.proofs.Common.{subst}
use Rattle.command_phases.specs.Outcome.{IsEnded}
use Rattle.command_phases.proofs.Said.{SaysOutcome-unless, SaysReport-unless}
use Rattle.command_phases.proofs.ending.end_run.Goals as goal

pub returns-clause-ends : goal.returns-clause-ends
returns-clause-ends g c = rw c.outcome_of.ensures.status c.keep_and_report-status.ensures.ends

pub returns-clause-reports : goal.returns-clause-reports
returns-clause-reports g c = λ is.
    let ended = subst IsEnded c.outcome_of.ensures.status is in
    rw (c.outcome_of.ensures.status, c.outcome_of.ensures.end)
    (SaysReport-unless c.args.ran.report c.keep_and_report-status.result c.args.ran.trace.end _ _ ended (c.keep_and_report-status.ensures.reports ended))

pub returns-clause-says : goal.returns-clause-says
returns-clause-says g c = λ is.
    let never = subst (λ s. IsEnded s → ⊥) c.outcome_of.ensures.status is in
    rw (c.outcome_of.ensures.status, c.outcome_of.ensures.detail, c.outcome_of.ensures.end)
    (SaysOutcome-unless c.keep_and_report-status.result c.args.ran.trace.end _ _ c.keep_and_report-status.ensures.ends.status (c.keep_and_report-status.ensures.says never))
