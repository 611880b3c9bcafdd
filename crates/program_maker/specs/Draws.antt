-- The draws by chance, of a linear congruential generator.
use Rattle.std.specs.Prelude.{ℕ, zero, suc, ◌+◌, ◌*◌, ◌/◌, ◌%◌}

-- a draw replaces the state
abbrev pub next_state : ℕ → ℕ
next_state state = (state * 1103515245 + 12345) % 2147483648

-- the state after so many draws, of which the first comes from this number
abbrev pub state_after : ℕ → ℕ → ℕ
state_after number zero = number
state_after number (suc draws) = next_state (state_after number draws)

-- the draw at this index, from 0: what the state after it, divided by 65,536, gives rounded down
abbrev pub draw : ℕ → ℕ → ℕ
draw number index = state_after number (suc index) / 65536
