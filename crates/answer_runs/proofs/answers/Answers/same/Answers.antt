use Rattle.std.proofs.Common.{◌≡◌, ◌∙◌, ◌-◌, ◌++◌, reverse, sym, ap, arith}
use Rattle.std.proofs.lemmas.Bool.{false≢true}
use Rattle.answer_runs.specs.Dealt.{woven}
use Rattle.answer_runs.proofs.Dealt.{same-kept}
use Rattle.answer_runs.proofs.answers.Answers.same.Goals as goal

pub returns-then-self-other : goal.returns-then-self-other
returns-then-self-other c =
    let one = c.self.inside in
    let two = c.other.inside in (
      λ t. absurd (false≢true t),
      λ e. absurd (omega (
        arith,
        c.if-self-other.true,
        (same-kept one.count two.count one.first two.first one.lanes.items two.lanes.items c.self.invariant c.other.invariant (c.self.view_is ∙ e ∙ sym c.other.view_is)).0,
      )),
    )

pub returns-then-same : goal.returns-then-same
returns-then-same c =
    let one = c.self.inside in
    let two = c.other.inside in
    let counts : one.count ≡ two.count = omega (arith, c.if-self-other.false) in
    let firsts : one.first ≡ two.first = c.same.ensures.0 c.if-same.true in
    let left = c.deref.ensures.value in
    let right = c.deref-then-same.ensures.value in (
      λ t. sym c.self.view_is ∙ ap (λ k. reverse (woven (k - 24) one.lanes.items ++ one.first)) counts ∙ ap (λ f. reverse (woven (two.count - 24) one.lanes.items ++ f)) firsts
          ∙ ap (λ l. reverse (woven (two.count - 24) l ++ two.first)) (sym left ∙ c.are_same_lanes.ensures.0 t ∙ right) ∙ c.other.view_is,
      λ e. c.are_same_lanes.ensures.1
          (left ∙ (same-kept one.count two.count one.first two.first one.lanes.items two.lanes.items c.self.invariant c.other.invariant (c.self.view_is ∙ e ∙ sym c.other.view_is)).2 ∙ sym right),
    )

pub returns-else-same : goal.returns-else-same
returns-else-same c =
    let one = c.self.inside in
    let two = c.other.inside in (
      λ t. absurd (false≢true (sym c.if-same.false ∙ t)),
      λ e. c.same.ensures.1 (same-kept one.count two.count one.first two.first one.lanes.items two.lanes.items c.self.invariant c.other.invariant (c.self.view_is ∙ e ∙ sym c.other.view_is)).1,
    )
