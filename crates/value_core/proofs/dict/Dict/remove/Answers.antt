use Rattle.std.proofs.Common.{sym, ap, ◌∙◌, Some}
use Rattle.value_core.specs.declared.pair.Pair.{Pair}
use Rattle.value_core.specs.Pairs.{IsPlaceOf}
use Rattle.value_core.proofs.PairLaws.{find_place, find_none, without_place, without_none, keys_rise-without}
use Rattle.value_core.proofs.dict.Dict.remove.Goals as goal

-- the pair with the key is taken out
pub invariant_of-self : goal.invariant_of-self
invariant_of-self g c =
    let place : IsPlaceOf c.self.inside.pairs.items c.args.key.now c.in-Ok.at = rw c.self.view_is c.in-Ok.ensures.found in
    rw (c.remove-value.ensures.items, ← without_place _ _ _ c.remove-value.result place) (keys_rise-without c.args.key.now _ c.self.invariant)

pub returns-in-Ok-clause-value : goal.returns-in-Ok-clause-value
returns-in-Ok-clause-value g c =
    let place : IsPlaceOf c.self.inside.pairs.items c.args.key.now c.in-Ok.at = rw c.self.view_is c.in-Ok.ensures.found in
    rw (← c.self.view_is) (ap (λ (p : Pair g.row.V.Denot). Some p.value) c.remove-value.ensures.value ∙ sym (find_place _ _ _ c.remove-value.result place))

pub returns-in-Ok-clause-rest : goal.returns-in-Ok-clause-rest
returns-in-Ok-clause-rest g c = rw (c.remove-value.ensures.items, c.self.view_is) (sym (without_place _ _ _ c.remove-value.result c.in-Ok.ensures.found))

-- no pair has the key
pub returns-in-Err-clause-value : goal.returns-in-Err-clause-value
returns-in-Err-clause-value g c = sym (find_none _ _ _ c.in-Err.ensures.absent)

pub returns-in-Err-clause-rest : goal.returns-in-Err-clause-rest
returns-in-Err-clause-rest g c = sym (without_none _ _ _ c.in-Err.ensures.absent)
