use Rattle.std.proofs.Common.{◌∙◌, sym, ap, subst, refl}
use Rattle.std.specs.Option.{IsSome, option_copied}
use Rattle.std.proofs.lemmas.Result.{on_ok_weaker}
use Rattle.value_core.proofs.PlacedLaws.{is_prepared, made_prepared}
use Rattle.value_core.proofs.places.prepare.Goals as goal

pub returns-in-Some-clause-prepared : goal.returns-in-Some-clause-prepared
returns-in-Some-clause-prepared g c = is_prepared c.args.name c.args.places.now.entries (subst IsSome (sym (ap option_copied c.in-Some.is) ∙ c.find.ensures) refl)

pub returns-in-None-clause-prepared : goal.returns-in-None-clause-prepared
returns-in-None-clause-prepared g c = on_ok_weaker c.put.result (λ put. made_prepared c.args.name c.args.places.now.entries c.put.new.map.entries (sym (sym (ap option_copied c.in-None.is) ∙ c.find.ensures)) put) c.put.ensures.put
