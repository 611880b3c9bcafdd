use Rattle.std.proofs.Common.{◌≡◌, ◌∙◌, sym, ap, subst}
use Rattle.std.specs.declared.cmp.Ordering.TheVariants.{Equal}
use Rattle.std.specs.Ordering.{is_eq}
use Rattle.value_core.specs.Name.{after_cmp}
use Rattle.value_core.proofs.NamedLaws.{after_cmp-itself, same_name-equal}
use Rattle.value_core.proofs.name.Name.equal.Goals as goal

pub returns : goal.returns
returns c = (
  λ yes. same_name-equal _ _ (ap is_eq (sym c.cmp_after.ensures) ∙ sym c.is_eq.ensures ∙ yes),
  λ same. c.is_eq.ensures ∙ ap is_eq (c.cmp_after.ensures ∙ subst (λ other. after_cmp c.args.self.now other ≡ Equal) same (after_cmp-itself c.args.self.now)),
)
