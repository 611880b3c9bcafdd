use Rattle.std.proofs.Common.{◌∙◌, sym, ap, arith}
use Rattle.core_syntax.specs.declared.build_no.BuildNo.{BuildNo}
use Rattle.core_syntax.specs.declared.node_id.NodeId.{NodeId}
use Rattle.std.specs.Prelude.{Result, Err}
use Rattle.program_plan.proofs.Making.{makes_node, makes_no_node, makes_error, makes_of}
use Rattle.program_plan.proofs.Growing.{IsSound-push, below_more}
use Rattle.program_plan.proofs.emitter.Emitter.push.Goals as goal

pub returns-in_err-id-clause-makes : goal.returns-in_err-id-clause-makes
returns-in_err-id-clause-makes c =
    let refusal : BuildNo → Result NodeId BuildNo = λ e. Err e in
    makes_error _ c.from_residual.ensures
    (makes_of c.self.view_is
    (makes_no_node c.args.at c.args.node _ _ c.in_err-id.field-0.0 (λ is. sym c.self.invariant.each_counts ∙ c.in_err-id.ensures.too_many.0 (ap refusal is))))

pub invariant_of-self-2 : goal.invariant_of-self-2
invariant_of-self-2 c =
    IsSound-push c.self.inside.builder _ _ c.self.inside.functions c.self.inside.behaviours _ _ _ c.in_ok-id.ensures.pushed (λ full. let refused = c.in_ok-id.ensures.too_many.1 (c.self.invariant.each_counts ∙ full) in absurd (cc)) (omega arith) (omega arith) c.requires.counts
    (below_more _ _ _ (omega arith) c.functions_named.ensures) (below_more _ _ _ (omega arith) c.behaviours_named.ensures) c.self.invariant

pub returns-clause-makes : goal.returns-clause-makes
returns-clause-makes c =
    makes_of c.self.view_is
    (makes_node c.args.at c.args.node c.self.inside.builder _ c.self.inside.loops.items c.in_ok-id.id c.in_ok-id.ensures.pushed c.in_ok-id.ensures.id)
