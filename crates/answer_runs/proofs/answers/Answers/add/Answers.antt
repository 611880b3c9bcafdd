use Rattle.std.proofs.Common.{◌≡◌, ◌∙◌, suc, ◌-◌, [], ◌∷◌, ◌++◌, reverse, ap, subst, arith}
use Rattle.std.proofs.lemmas.List.{reverse-append}
use Rattle.answer_runs.specs.Dealt.{woven, AreLanes}
use Rattle.answer_runs.proofs.Dealt.{passed-on}
use Rattle.answer_runs.proofs.answers.Answers.add.Goals as goal

pub invariant_of-self-2 : goal.invariant_of-self-2
invariant_of-self-2 c =
    let n = c.self.inside.count in
    let passed = passed-on c.args.answer (n - 24) c.self.inside.lanes.items c.deal.new.lanes.items c.self.invariant.others c.in_ok-deal.ensures.ok in
    let more : suc (n - 24) ≡ c.in_ok-count.count - 24 = omega (arith, c.in_ok-count.ensures, c.if-self-lt-FIRST.false) in
    record {
      all = omega (arith, more, c.in_ok-count.ensures, c.self.invariant.all);
      others = subst (λ k. AreLanes k c.deal.new.lanes.items) more passed.0;
    }

pub returns-clause-ok : goal.returns-clause-ok
returns-clause-ok c =
    let n = c.self.inside.count in
    let first = c.self.inside.first in
    let new = c.deal.new.lanes.items in
    let passed = passed-on c.args.answer (n - 24) c.self.inside.lanes.items new c.self.invariant.others c.in_ok-deal.ensures.ok in
    let more : c.in_ok-count.count - 24 ≡ suc (n - 24) = omega (arith, c.in_ok-count.ensures, c.if-self-lt-FIRST.false) in
    ap (λ k. reverse (woven k new ++ first)) more ∙ ap (λ l. reverse (l ++ first)) passed.1
    ∙ reverse-append (c.args.answer ∷ []) (woven (n - 24) c.self.inside.lanes.items ++ first) ∙ ap (λ l. l ++ c.args.answer ∷ []) c.self.view_is
