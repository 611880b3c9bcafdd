-- The items of a list that are still to come.
use Rattle.std.specs.Prelude.{List, ◌++◌, drop}
use Rattle.shared_vector.specs.declared.vector_items.VectorItems.{VectorItems}

-- what is left of the chunk, and the items behind it
abbrev pub items_left : {X : Type 0} → VectorItems X → List X
items_left s = s.chunk.now ++ drop s.next s.list.now
