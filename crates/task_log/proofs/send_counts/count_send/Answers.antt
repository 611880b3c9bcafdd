use Rattle.std.proofs.Common.{subst, sym}
use Rattle.std.proofs.lemmas.Result.{on_ok_weaker}
use Rattle.task_log.specs.Logged.{IsCounted}
use Rattle.task_log.proofs.SendCounts.{send_counted}
use Rattle.task_log.proofs.send_counts.count_send.Goals as goal

pub returns-in-Send-clause-counted : goal.returns-in-Send-clause-counted
returns-in-Send-clause-counted c =
    on_ok_weaker c.count_one.result
    (λ put. subst (λ w. IsCounted w c.args.sends.now c.count_one.new.sends) (sym c.in-Send.is) (send_counted c.args.sends.now c.count_one.new.sends c.in-Send.actor c.in-Send.field-1 put))
    c.count_one.ensures.counted
