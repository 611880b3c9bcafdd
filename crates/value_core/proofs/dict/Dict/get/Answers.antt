use Rattle.std.proofs.Common.{sym, ap, ◌∙◌, Some}
use Rattle.value_core.specs.declared.pair.Pair.{Pair}
use Rattle.value_core.specs.Pairs.{IsPlaceOf}
use Rattle.value_core.proofs.PairLaws.{find_place, find_none}
use Rattle.value_core.proofs.dict.Dict.get.Goals as goal

pub returns-in-Ok : goal.returns-in-Ok
returns-in-Ok g c =
    let place : IsPlaceOf c.self.inside.pairs.items c.args.key.now c.in-Ok.at = rw c.self.view_is c.in-Ok.ensures.found in
    rw (← c.self.view_is) (ap (λ (p : Pair g.row.V.Denot). Some p.value) c.index.ensures ∙ sym (find_place _ _ _ c.index.result.now place))

pub returns-in-Err : goal.returns-in-Err
returns-in-Err g c = sym (find_none _ _ _ c.in-Err.ensures.absent)
