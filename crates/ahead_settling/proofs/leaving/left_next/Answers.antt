use Rattle.std.proofs.Common.{◌∙◌, ap, subst, sym}
use Rattle.std.specs.Option.{option_copied}
use Rattle.std.specs.Prelude.{IfSome}
use Rattle.std.proofs.lemmas.Result.{IfOk-weaker}
use Rattle.ahead_settling.proofs.leaving.left_next.Goals as goal
use Rattle.turns_ahead.specs.Leading.{IsLeftNext}

pub returns-in-Some : goal.returns-in-Some
returns-in-Some c = IfOk-weaker c.left_next.result _ _ (λ left is. subst (λ o. IfSome o (λ l. IsLeftNext l left)) (sym (sym c.find.ensures ∙ ap option_copied c.in-Some.is)) is) c.left_next.ensures
