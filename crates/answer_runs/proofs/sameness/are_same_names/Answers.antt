use Rattle.std.proofs.Common.{◌∙◌, sym}
use Rattle.answer_runs.proofs.Earlier.{same-ends}
use Rattle.std.proofs.lemmas.Bool.{false≢true}
use Rattle.answer_runs.proofs.sameness.are_same_names.Goals as goal

pub returns-then-are_same_makers : goal.returns-then-are_same_makers
returns-then-are_same_makers c =
    let left = c.in-Some-Some.ensures.cases in
    let right = c.in-Some-Some.ensures'.cases in
    let both = same-ends c.args.left_steps c.args.right_steps c.args.left.now c.args.right.now c.in-Some-Some.maker.now c.in-Some-Some.other_maker.now c.in-Some-Some.left.now c.in-Some-Some.right.now
    (sym c.parts.ensures.value ∙ left.0) (sym c.parts-2.ensures.value ∙ right.0) in
    (λ t. both.1 (c.are_same_makers.ensures.0 c.if-are_same_makers.true, c.are_same_numbers.ensures.0 t), λ e. c.are_same_numbers.ensures.1 (both.0 e).1)

pub returns-else-are_same_makers : goal.returns-else-are_same_makers
returns-else-are_same_makers c =
    let left = c.in-Some-Some.ensures.cases in
    let right = c.in-Some-Some.ensures'.cases in
    let both = same-ends c.args.left_steps c.args.right_steps c.args.left.now c.args.right.now c.in-Some-Some.maker.now c.in-Some-Some.other_maker.now c.in-Some-Some.left.now c.in-Some-Some.right.now
    (sym c.parts.ensures.value ∙ left.0) (sym c.parts-2.ensures.value ∙ right.0) in
    (λ t. absurd (false≢true (sym c.if-are_same_makers.false ∙ t)), λ e. c.are_same_makers.ensures.1 (both.0 e).0)
