-- The exit statuses of the program.
use Rattle.std.specs.Prelude.{ℕ}

-- the command came to its end, and what it ran is done
abbrev pub done : ℕ
done = 0

-- what it ran ended in a fault
abbrev pub fault : ℕ
fault = 1

-- the words are no command
abbrev pub usage : ℕ
usage = 2

-- a file was not read
abbrev pub not_read : ℕ
not_read = 3

-- what was read is refused
abbrev pub refused : ℕ
refused = 4

-- what it ran spent its budget
abbrev pub spent : ℕ
spent = 5

-- there was no memory
abbrev pub no_memory : ℕ
no_memory = 6

-- something was not written
abbrev pub not_written : ℕ
not_written = 7

-- the replay differs from its trace
abbrev pub differs : ℕ
differs = 8
