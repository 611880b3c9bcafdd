use Rattle.std.proofs.Common.{◌∙◌, ◌++◌, sym, ap, subst}
use Rattle.std.specs.Prelude.{IsTrue}
use Rattle.std.proofs.lemmas.Bool.{false≢true}
use Rattle.std.proofs.lemmas.List.{append_cancel_left}
use Rattle.answer_runs.specs.Rest.{first_of, rest_back}
use Rattle.answer_runs.specs.Runs.{run_back}
use Rattle.answer_runs.proofs.Rests.{rest-some, rest-same, rest-none, none-rest}
use Rattle.answer_runs.proofs.lane.are_same_rests.Goals as goal

pub returns-in_default-right : goal.returns-in_default-right
returns-in_default-right c =
    (λ t. absurd (false≢true t), λ e. absurd (rest-some c.in-Some.one (sym (ap rest_back c.in-Some.is) ∙ c.loop-left.invariant.back e ∙ ap rest_back c.in_default-right.is)))

pub returns-then-not-is_at_same : goal.returns-then-not-is_at_same
returns-then-not-is_at_same c = (
  λ t. absurd (false≢true t),
  λ e. subst IsTrue c.if-not-is_at_same.true
      (c.is_at_same.ensures.1 (rest-same c.in-Some.one c.in-Some-right.other (sym (ap rest_back c.in-Some.is) ∙ c.loop-left.invariant.back e ∙ ap rest_back c.in-Some-right.is))),
)

pub loop-left-preserved : goal.loop-left-preserved
loop-left-preserved c =
    let one = c.in-Some.one in
    let other = c.in-Some-right.other in
    let passed = run_back one.run.now.stride (first_of one) c.alike-more.result in
    let behind = rest_back c.behind-right.result in
    let alike = c.alike-more.ensures.alike (c.is_at_same.ensures.0 c.if-not-is_at_same.false) in
    let left = ap rest_back c.in-Some.is ∙ c.behind-left.ensures in
    let right = ap rest_back c.in-Some-right.is ∙ c.behind-right.ensures ∙ ap (λ p. p ++ behind) (sym alike) in
    record {
      onward = λ e. c.loop-left.invariant.onward (left ∙ ap (λ l. passed ++ l) e ∙ sym right);
      back = λ e. append_cancel_left passed _ _ (sym left ∙ c.loop-left.invariant.back e ∙ right);
    }

pub returns : goal.returns
returns c = (
  λ t. c.loop-left.invariant.onward (ap rest_back c.in_default.is ∙ rest-none c.loop-left.right c.is_none.result c.is_none.ensures t),
  λ e. none-rest c.loop-left.right c.is_none.result c.is_none.ensures (sym (ap rest_back c.in_default.is) ∙ c.loop-left.invariant.back e),
)
