use Rattle.std.proofs.Common.{◌≡◌}
use Rattle.std.specs.Prelude.{IfSome}
use mathlib.Core.List.{IsPrefix}
use Rattle.worker_rounds.proofs.working.work.Given as goal
use Rattle.world_lock.specs.Known.{IsSeatOf}

abbrev pub invariant-loop : goal.invariant-loop
invariant-loop g l = record {
  of : IsSeatOf l.lock l.mine;
  shares : l.mine.shares ≡ l.initial.mine.shares;
  seen : IsPrefix l.initial.mine.seen l.mine.seen;
  start : g.B.Between.start l.between ≡ g.B.Between.start l.fn.between;
  under : g.B.Between.under l.between ≡ g.B.Between.under l.fn.between;
  setup : IfSome (g.B.Between.under l.between) (λ s. l.lock.setup ≡ s);
  used : IsPrefix (g.B.Between.used l.between) l.mine.seen;
  claimed : IfSome l.claimed (λ claim. claim.program ≡ l.lock.setup.0);
}
