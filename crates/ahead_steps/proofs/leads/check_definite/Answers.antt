use Rattle.std.proofs.Common.{◌∙◌, ap, sym}
use Rattle.std.specs.Option.{option_copied}
use Rattle.ahead_steps.proofs.leads.check_definite.Goals as goal
use Rattle.turns_ahead.specs.Leading.{ahead_of}
use Rattle.value_core.proofs.NamedViews.{view_found}

pub returns-in-Some : goal.returns-in-Some
returns-in-Some c = record {
  lead = ahead_of c.in-Some.turn.now;
  leads = view_found ahead_of c.args.name.now c.args.kept.now.aheads.entries c.in-Some.turn.now (sym c.find.ensures ∙ ap option_copied c.in-Some.is);
  definite_is = c.is_definite.ensures;
}
