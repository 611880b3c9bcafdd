-- When no unit more is allowed.
use Rattle.std.specs.Prelude.{ℕ, Bool, ◌==◌}
use Rattle.serial_model.specs.Limits.{Budget}

-- as many units are made as the limits allow
abbrev pub are_units_spent : Budget → ℕ → Bool
are_units_spent limits made = made == limits.units
