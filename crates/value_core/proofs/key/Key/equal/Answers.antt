use Rattle.std.proofs.Common.{◌≡◌, true, ◌∙◌, sym, ap, subst}
use Rattle.std.specs.declared.cmp.Ordering.{Ordering}
use Rattle.std.specs.declared.cmp.Ordering.TheVariants.{Less, Equal, Greater}
use Rattle.std.specs.Ordering.{is_eq}
use Rattle.std.proofs.lemmas.Cmp.{tied_itself}
use Rattle.value_core.specs.Key.{key_cmp}
use Rattle.value_core.proofs.KeyOrder.{key_cmp_total, key_cmp-IsAntisymmetric}
use Rattle.value_core.proofs.key.Key.equal.Goals as goal

equal : (o : Ordering) → is_eq o ≡ true → o ≡ Equal
equal Less e = cc
equal Equal e = cc
equal Greater e = cc

pub returns : goal.returns
returns c = (
  λ yes. key_cmp-IsAntisymmetric _ _ (sym c.cmp.ensures ∙ equal _ (sym c.is_eq.ensures ∙ yes)),
  λ same. c.is_eq.ensures ∙ ap is_eq (c.cmp.ensures ∙ subst (λ k. key_cmp c.args.self.now k ≡ Equal) same (tied_itself key_cmp_total c.args.self.now)),
)
