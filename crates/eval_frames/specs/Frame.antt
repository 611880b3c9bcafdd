-- Frames that lose their last values.
use Rattle.std.specs.Prelude.{ℕ, ◌-◌, List, length, take}
use Rattle.value_core.specs.declared.value.Value.{Value}

-- the frame without so many of its last values
abbrev pub shorter : ℕ → List Value → List Value
shorter count frame = take (length frame - count) frame
