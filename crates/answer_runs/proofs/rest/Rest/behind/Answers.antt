use Rattle.std.proofs.Common.{◌∙◌, ◌++◌, sym, ap, arith}
use Rattle.answer_runs.specs.Rest.{first_of}
use Rattle.answer_runs.specs.Runs.{run_back}
use Rattle.answer_runs.proofs.Rests.{rest-behind, rest-passed}
use Rattle.answer_runs.proofs.rest.Rest.behind.Goals as goal

pub returns-then-more-saturating_sub : goal.returns-then-more-saturating_sub
returns-then-more-saturating_sub c =
    rest-behind c.args.self.run c.args.self.passed c.args.more c.args.self.below (omega (arith, c.many_before-before.ensures, c.saturating_sub.ensures, c.if-more-saturating_sub.true))

pub returns : goal.returns
returns c =
    rest-passed c.args.self.run c.args.self.passed c.args.more c.args.self.below (omega (arith, c.many_before-before.ensures, c.requires, c.saturating_sub.ensures, c.if-more-saturating_sub.false))
    ∙ ap (λ l. run_back c.args.self.run.now.stride (first_of c.args.self) c.args.more ++ l) (sym c.from.ensures)
