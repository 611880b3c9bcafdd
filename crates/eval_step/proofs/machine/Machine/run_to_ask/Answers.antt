use Rattle.std.proofs.Common.{◌∙◌, Bool, ap, subst}
use Rattle.std.proofs.lemmas.Result.{IfOk-weaker}
use Rattle.eval_step.specs.declared.parts.Parts.{Parts}
use Rattle.eval_step.specs.Evaluation.{Evaluation}
use Rattle.eval_step.specs.Standing.{standing_of}
use Rattle.eval_step.specs.Walk.{StopsAt}
use Rattle.eval_step.proofs.Machines.{stops-next}
use Rattle.eval_step.proofs.machine.Machine.run_to_ask.Goals as goal

pub returns-clause-halt : goal.returns-clause-halt
returns-clause-halt c =
    let table = c.args.program.now in
    let old = c.deref_mut.result.now.inner in
    let inside = ap (λ (p : Parts). p.inside) c.deref.ensures ∙ ap (λ (m : Evaluation). m.inside) c.self.view_is in
    let same = ap (λ (p : Parts). standing_of p.inner) c.deref_mut.ensures.value ∙ ap (λ (m : Evaluation). m.inner) c.self.view_is in
    IfOk-weaker c.run.result _ _
    (λ stop stops.
    let Q : Bool → Type 0 = λ b. StopsAt table b old c.run.new.self stop in
    stops-next table c.args.self.now old c.run.new.self stop c.requires same (subst Q inside stops))
    c.run.ensures.ok
