use Rattle.std.proofs.Common.{sym}
use Rattle.value_core.specs.Pairs.{IsPlaceOf, IsGapFor}
use Rattle.value_core.proofs.PairLaws.{find_none, put_place, put_none, keys_rise-put}
use Rattle.value_core.proofs.dict.Dict.put.Goals as goal

-- the pair with the key is written over
pub invariant_of-self : goal.invariant_of-self
invariant_of-self g c =
    let place : IsPlaceOf c.self.inside.pairs.items c.args.key c.in-Ok.at = rw c.self.view_is c.in-Ok.ensures.found in
    rw (← put_place _ c.args.key c.args.value _ place) (keys_rise-put c.args.key c.args.value _ c.self.invariant)

pub returns-in-Ok-clause-ok : goal.returns-in-Ok-clause-ok
returns-in-Ok-clause-ok g c = rw c.self.view_is (sym (put_place _ c.args.key c.args.value _ c.in-Ok.ensures.found))

-- the pair is added in the gap
pub invariant_of-self-in-Err : goal.invariant_of-self-in-Err
invariant_of-self-in-Err g c =
    let gap : IsGapFor c.self.inside.pairs.items c.args.key c.in-Err.at = rw c.self.view_is c.in-Err.ensures.absent in
    rw (c.in_ok-insert-in-Err.ensures.items, ← put_none _ c.args.key c.args.value _ gap) (keys_rise-put c.args.key c.args.value _ c.self.invariant)

pub returns-in_ok-insert-in-Err-clause-ok : goal.returns-in_ok-insert-in-Err-clause-ok
returns-in_ok-insert-in-Err-clause-ok g c =
    rw (c.in_ok-insert-in-Err.ensures.items, c.self.view_is) (sym (put_none _ c.args.key c.args.value _ c.in-Err.ensures.absent))

-- where no memory was found, the key is not there
pub returns-in_err-insert-in-Err-clause-present : goal.returns-in_err-insert-in-Err-clause-present
returns-in_err-insert-in-Err-clause-present g c = rw (find_none _ _ _ c.in-Err.ensures.absent) (λ there. absurd (cc))
