use Rattle.std.proofs.Common.{◌∙◌, ap, sym}
use Rattle.std.specs.Option.{option_copied}
use Rattle.std.proofs.lemmas.Result.{IfOk-weaker}
use Rattle.ahead_settling.proofs.beginning.take_entry.Goals as goal

pub returns-in-Some : goal.returns-in-Some
returns-in-Some c = IfOk-weaker c.entry_of.result _ _ (λ entry is. record { message = c.in-Some.message.now; took = sym c.get.ensures ∙ ap option_copied c.in-Some.is; entry_of = is }) c.entry_of.ensures
