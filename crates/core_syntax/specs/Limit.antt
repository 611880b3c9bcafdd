-- The limit of a table of nodes, and how many of its nodes count towards it.
use Rattle.std.specs.Prelude.{ℕ, Bool, true, false, List, count_by}
use Rattle.core_syntax.specs.declared.node.Node.{Node}
use Rattle.core_syntax.specs.declared.node.Node.TheVariants.{Main}
use Rattle.core_syntax.specs.declared.row.Row.{Row}

-- the most nodes that count
abbrev pub node_limit : ℕ
node_limit = 1000000

-- each node counts but main
abbrev pub counts : Node → Bool
counts (Main steps) = false
counts _ = true

abbrev pub counted : List Row → ℕ
counted nodes = count_by (λ row. counts row.node) nodes
