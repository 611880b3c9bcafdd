-- What the text of a trace tells: all but how much room its history has.
use Rattle.std.specs.Prelude.{◌≡◌}
use Rattle.serial_model.specs.declared.trace.Trace.{Trace}

-- the two traces have the same limits, entries and end
pub record IsSameTrace (t u : Trace) : Type 0 where
  pub limits : t.limits ≡ u.limits
  pub entries : t.history.items ≡ u.history.items
  pub end : t.end ≡ u.end
