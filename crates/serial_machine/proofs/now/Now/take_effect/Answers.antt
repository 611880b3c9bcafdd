use Rattle.std.proofs.Common.{◌≡◌, ◌++◌, refl, sym, subst, List, ℕ}
use Rattle.std.proofs.lemmas.Result.{on_ok_weaker}
use Rattle.serial_model.specs.declared.effect.What.{What}
use Rattle.serial_model.specs.Step as row
use Rattle.serial_machine.specs.Now.{IsNow, turned_into}
use Rattle.serial_machine.proofs.now.Now.take_effect.Goals as goal

pub returns-in-Bytes-clause-taken : goal.returns-in-Bytes-clause-taken
returns-in-Bytes-clause-taken c = on_ok_weaker c.print_bytes.result (λ comes. λ setup before s unit at.
    subst (λ (w : What). IsNow setup before c.print_bytes.new.self (row.takes_effect c.args.name.now s (turned_into c.args.becomes.now unit) w).0 × ((row.takes_effect c.args.name.now s (turned_into c.args.becomes.now unit) w).1 ≡ turned_into c.args.becomes.now unit)) (sym c.in-Bytes.is)
    (subst (λ (bytes : List ℕ). IsNow setup before c.print_bytes.new.self (record s { bytes = s.bytes ++ bytes })) c.items.ensures (comes setup before s at), refl)) c.print_bytes.ensures.comes

pub returns-in-Send-clause-taken : goal.returns-in-Send-clause-taken
returns-in-Send-clause-taken c = on_ok_weaker c.deliver.result (λ comes. λ setup before s unit at.
    subst (λ (w : What). IsNow setup before c.deliver.new.self (row.takes_effect c.args.name.now s (turned_into c.args.becomes.now unit) w).0 × ((row.takes_effect c.args.name.now s (turned_into c.args.becomes.now unit) w).1 ≡ turned_into c.args.becomes.now unit)) (sym c.in-Send.is)
    (comes setup before s at, refl)) c.deliver.ensures.comes

pub returns-in-Spawn-clause-taken : goal.returns-in-Spawn-clause-taken
returns-in-Spawn-clause-taken c = on_ok_weaker c.put_actor.result (λ comes. λ setup before s unit at.
    subst (λ (w : What). IsNow setup before c.put_actor.new.self (row.takes_effect c.args.name.now s (turned_into c.args.becomes.now unit) w).0 × ((row.takes_effect c.args.name.now s (turned_into c.args.becomes.now unit) w).1 ≡ turned_into c.args.becomes.now unit)) (sym c.in-Spawn.is)
    (comes setup before s at, refl)) c.put_actor.ensures.comes
