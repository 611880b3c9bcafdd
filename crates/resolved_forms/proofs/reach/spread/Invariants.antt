use Rattle.std.proofs.Common.{◌↔◌, ℕ, ◌+◌, ◌<◌, List, length}
use Rattle.std.specs.Prelude.{All, Contains}
use Rattle.resolved_forms.specs.declared.uses.Uses.{Uses}
use Rattle.resolved_forms.specs.Reach.{AreReached, Names, globals_named, units_named}
use Rattle.resolved_forms.specs.Users.{AreUsers}
use Rattle.resolved_forms.proofs.Spreading.{Spreading, calls_left}
use Rattle.resolved_forms.proofs.reach.spread.Given as goal

abbrev pub invariant-loop-unit : goal.invariant-loop-unit
invariant-loop-unit l = record {
  units : All (λ unit. unit < length l.initial.lists) l.waiting.items;
  spreading : (uses : List Uses) → AreUsers units_named uses (length uses) l.callers → ((unit : ℕ) → Contains l.users unit ↔ Names globals_named uses unit l.global)
      → AreReached uses l.global l.initial.lists → Spreading uses l.callers l.users l.global l.initial.lists l.lists l.waiting.items;
}

abbrev pub decreases-loop-unit : goal.decreases-loop-unit
decreases-loop-unit l = length l.waiting.items + calls_left l.global l.lists l.callers
