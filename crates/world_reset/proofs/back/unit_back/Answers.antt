use Rattle.std.proofs.Common.{◌≡◌, ◌∙◌, ap, subst, sym}
use Rattle.std.specs.Option.{option_copied}
use Rattle.std.specs.Prelude.{IfOk, None, Some}
use Rattle.turns_ahead.specs.Leading.{ahead_of}
use Rattle.value_core.proofs.NamedViews.{view_found, view_none}
use Rattle.value_core.specs.Named.{named}
use Rattle.world_reset.proofs.back.unit_back.Goals as goal
use Rattle.world_reset.specs.Back.{IsBackBy, IsLeadBack}
use Rattle.world_steps.specs.Kept.{shared_of}

pub returns-in-Some : goal.returns-in-Some
returns-in-Some c =
    let s = shared_of c.args.kept.now in
    let lead = c.in-Some.lead.now in
    let leads : named c.args.name.now s.aheads ≡ Some (ahead_of lead) = view_found ahead_of c.args.name.now c.args.kept.now.aheads.entries lead (sym c.find.ensures ∙ ap option_copied c.in-Some.is) in
    subst (λ h. IfOk c.lead_back.result (IsBackBy s.setup.program c.args.unit.now h (named c.args.name.now s.attempts))) (sym leads)
    (subst (λ program. IfOk c.lead_back.result (IsLeadBack program c.args.unit.now (ahead_of lead) (ahead_of lead).takes)) c.deref.ensures c.lead_back.ensures)

pub returns-in-None : goal.returns-in-None
returns-in-None c =
    let s = shared_of c.args.kept.now in
    let level : named c.args.name.now s.aheads ≡ None = view_none ahead_of c.args.name.now c.args.kept.now.aheads.entries (sym c.find.ensures ∙ ap option_copied c.in-None.is) in
    subst (λ h. IsBackBy s.setup.program c.args.unit.now h (named c.args.name.now s.attempts) c.level_back.result) (sym level) c.level_back.ensures
