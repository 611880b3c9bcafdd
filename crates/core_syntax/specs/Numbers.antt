-- The functions and behaviours that a node names, by their numbers.
use Rattle.std.specs.Prelude.{ℕ, List, [], ◌∷◌}
use Rattle.core_syntax.specs.declared.node.Node.{Node}
use Rattle.core_syntax.specs.declared.node.Node.TheVariants.{Call, Spawn, Become}

-- a call names its function
abbrev pub functions_named : Node → List ℕ
functions_named (Call number hidden arguments) = number ∷ []
functions_named _ = []

-- a spawn and a become name their behaviour
abbrev pub behaviours_named : Node → List ℕ
behaviours_named (Spawn number hidden arguments) = number ∷ []
behaviours_named (Become number hidden arguments) = number ∷ []
behaviours_named _ = []
