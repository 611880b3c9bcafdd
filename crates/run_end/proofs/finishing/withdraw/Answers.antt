use Rattle.std.specs.Prelude.{Err, Ok, OnOk, Result}
use Rattle.run_end.proofs.Ends.{ending-goes, goes-then, lent-none-out, reset-or-same}
use Rattle.run_end.proofs.finishing.withdraw.Goals as goal
use Rattle.run_end.specs.Finishing.{NoneOut, NoneTried}
use Rattle.run_end.specs.InTurn.{IsLevel}
use Rattle.shared_world.specs.rows.Resetting.{Resets}
use Rattle.shared_world.specs.Shared.{Shared}
use Rattle.world_steps.specs.Kept.{shared_of}

pub returns-in_err-end_claims-clause-goes : goal.returns-in_err-end_claims-clause-goes
returns-in_err-end_claims-clause-goes c = ending-goes (shared_of c.args.kept.now) c.end_claims.new.units c.requires.stands c.end_claims.ensures.ending

pub reset-requires : goal.reset-requires
reset-requires c = let goes = ending-goes (shared_of c.args.kept.now) c.end_claims.new.units c.requires.stands c.end_claims.ensures.ending in record { stands = goes.stands }

pub returns-clause-goes : goal.returns-clause-goes
returns-clause-goes c =
    let old = shared_of c.args.kept.now in
    let mid = record old { board = c.end_claims.new.units } in
    let new = shared_of c.reset.new.kept in
    let goes = ending-goes old c.end_claims.new.units c.requires.stands c.end_claims.ensures.ending in
    goes-then old mid new goes (reset-or-same mid new goes.stands c.reset.result c.reset.ensures.resets c.reset.ensures.claims c.reset.ensures.same)

on-ok : {X E : Type 0} (P : Type 0) (r : Result X E) → P → OnOk r P
on-ok P (Ok x) holds = holds
on-ok P (Err e) holds = tt

pub returns-clause-claims : goal.returns-clause-claims
returns-clause-claims c =
    let old = shared_of c.args.kept.now in
    let mid = record old { board = c.end_claims.new.units } in
    let new = shared_of c.reset.new.kept in
    let goes = ending-goes old c.end_claims.new.units c.requires.stands c.end_claims.ensures.ending in
    let later = reset-or-same mid new goes.stands c.reset.result c.reset.ensures.resets c.reset.ensures.claims c.reset.ensures.same in
    on-ok (NoneOut new) c.reset.result (later.claims (lent-none-out mid c.in_ok-end_claims.ensures.none))

none-tried : {X E : Type 0} (old new : Shared) (r : Result X E) → OnOk r (Resets old new) → OnOk r (NoneTried new.attempts)
none-tried old new (Ok x) is = is.attempts
none-tried old new (Err e) is = tt

pub returns-clause-tried : goal.returns-clause-tried
returns-clause-tried c = none-tried (record (shared_of c.args.kept.now) { board = c.end_claims.new.units }) (shared_of c.reset.new.kept) c.reset.result c.reset.ensures.resets

is-level : {X E : Type 0} (old new : Shared) (r : Result X E) → OnOk r (Resets old new) → OnOk r (IsLevel new)
is-level old new (Ok x) is = record { aheads = is.aheads; taken = is.taken }
is-level old new (Err e) is = tt

pub returns-clause-level : goal.returns-clause-level
returns-clause-level c = is-level (record (shared_of c.args.kept.now) { board = c.end_claims.new.units }) (shared_of c.reset.new.kept) c.reset.result c.reset.ensures.resets
