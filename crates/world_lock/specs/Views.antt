-- The view of a seat, as plain data: what the seat knows and holds.
use Rattle.std.specs.Prelude.{ℕ, ◌+◌, ◌-◌, List, [], Some, None}
use Rattle.world_lock.specs.declared.view.View.{View}

module _ {T S I : Type 0} where
  -- the view of a seat that was joined into another
  abbrev pub spent : View T S I
  spent = record { setup = None; seen = []; told = []; shares = 0; held = None }

  -- the view of the seat that a lock is made with
  abbrev pub opening_view : S → List I → ℕ → View T S I
  opening_view s xs n = record { setup = Some s; seen = xs; told = []; shares = n; held = None }

  -- one share fewer
  abbrev pub without_one : View T S I → View T S I
  without_one v = record { setup = v.setup; seen = v.seen; told = v.told; shares = v.shares - 1; held = v.held }

  -- the same knowledge, with one share
  abbrev pub with_one : View T S I → View T S I
  with_one v = record { setup = v.setup; seen = v.seen; told = []; shares = 1; held = None }

  -- the shares of both, and what the second had seen beside what the first had
  abbrev pub joined : View T S I → View T S I → View T S I
  joined v w = record { setup = v.setup; seen = v.seen; told = w.seen; shares = v.shares + w.shares; held = v.held }

  -- the seat holds y
  abbrev pub holding : View T S I → T → View T S I
  holding v y = record { setup = v.setup; seen = v.seen; told = v.told; shares = v.shares; held = Some y }

  -- the seat has seen xs, and holds nothing
  abbrev pub resting : View T S I → List I → View T S I
  resting v xs = record { setup = v.setup; seen = xs; told = []; shares = v.shares; held = None }
