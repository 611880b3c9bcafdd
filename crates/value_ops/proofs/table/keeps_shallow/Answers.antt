use Rattle.value_core.specs.declared.op.Op.TheVariants as op
use Rattle.value_ops.proofs.Depths.{keeps-along, keeps_conj, keeps_into, keeps_assoc, keeps_dissoc}
use Rattle.value_ops.proofs.table.keeps_shallow.Goals as goal

pub returns-in-Conj : goal.returns-in-Conj
returns-in-Conj c = λ yes. keeps-along _ op.Conj c.args.args.now _ c.in-Some.more.now c.in-Conj.is c.in-Some.ensures.cases.0 (keeps_conj _ c.in-Some.more.now (c.are_parts.ensures yes))

pub returns-in-Into : goal.returns-in-Into
returns-in-Into c = λ yes. keeps-along _ op.Into c.args.args.now _ c.in-Some.more.now c.in-Into.is c.in-Some.ensures.cases.0 (keeps_into _ c.in-Some.more.now (c.are_parts-in-Into.ensures yes))

pub returns-in-Assoc : goal.returns-in-Assoc
returns-in-Assoc c = λ yes. keeps-along _ op.Assoc c.args.args.now _ c.in-Some.more.now c.in-Assoc.is c.in-Some.ensures.cases.0 (keeps_assoc _ c.in-Some.more.now (c.are_parts-in-Assoc.ensures yes))

pub returns-in-Dissoc : goal.returns-in-Dissoc
returns-in-Dissoc c = λ yes. keeps-along _ op.Dissoc c.args.args.now _ c.in-Some.more.now c.in-Dissoc.is c.in-Some.ensures.cases.0 (keeps_dissoc _ c.in-Some.more.now)
