use Rattle.std.proofs.Common.{refl, subst, sym}
use Rattle.actor_turns.proofs.aheads.put_ahead.Goals as goal
use Rattle.actor_turns.proofs.Due.{on-ok}
use Rattle.actor_turns.proofs.Noted.{noted-ahead}
use Rattle.shared_world.specs.rows.Leading.{IsChanged, begun_by}
use Rattle.std.specs.Prelude.{Some}
use Rattle.turns_ahead.specs.Leading.{ahead_of}
use Rattle.value_core.specs.Named.{each_as}

pub returns-clause-begun : goal.returns-clause-begun
returns-clause-begun c =
    on-ok c.put.result
    (λ put actor take. subst (λ es. IsChanged c.args.turn.now (Some (begun_by actor)) (each_as ahead_of c.args.aheads.now.entries) (each_as ahead_of es)) (sym put)
    (noted-ahead c.args.aheads.now.entries c.args.turn.now c.in_ok-copy-2.field-0 c.in_ok-ahead.ahead (begun_by actor) (each_as ahead_of c.args.aheads.now.entries) c.in_ok-copy-2.ensures (c.in_ok-ahead.ensures.ahead actor take) refl))
    c.put.ensures.put
