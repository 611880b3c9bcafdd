use Rattle.std.proofs.Common.{length, take}
use Rattle.resolved_forms.specs.Reach.{globals_named, units_named}
use Rattle.resolved_forms.specs.Users.{AreUsers}
use Rattle.resolved_forms.proofs.reach.users_of.Given as goal

abbrev pub invariant-loop-unit : goal.invariant-loop-unit
invariant-loop-unit l = record {
  globals : AreUsers globals_named (take l.unit l.uses) l.globals l.of_globals.items;
  units : AreUsers units_named (take l.unit l.uses) (length l.uses) l.of_units.items;
}
