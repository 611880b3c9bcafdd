use Rattle.std.proofs.Common.{◌∙◌, Some, ap, rules}
use Rattle.chocola.proofs.StressSize.{stress_size}
use Rattle.chocola.proofs.top.obey.Goals as goal

pub returns-in-Stress : goal.returns-in-Stress
returns-in-Stress g c words is =
    let said = is ∙ ap (λ x. Some x) c.in-Stress.is in
    let answers = c.stress_program.ensures.answers (stress_size words c.in-Stress.number c.in-Stress.size c.in-Stress.workers said) in
    search (rules, answers, is, said)
