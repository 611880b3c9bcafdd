-- How chains of parts are made without a recursion along them: all parts first, and then what closes them, from the
-- last to the first.
use Rattle.std.specs.Prelude.{ℕ, ◌+◌, List, [], ◌∷◌}
use Rattle.value_core.specs.Place.{Spot}
use Rattle.core_syntax.specs.declared.node.Node.TheVariants.{If, Let}
use Rattle.core_syntax.specs.declared.node_id.NodeId.{NodeId}
use Rattle.core_syntax.specs.WellFormed.{IsBelow}
use Rattle.program_plan.specs.declared.chain.Chain.{Chain}
use Rattle.program_plan.specs.declared.chain.Chain.TheVariants as chain
use Rattle.program_plan.specs.declared.chain.ChainPart.{ChainPart}
use Rattle.program_plan.specs.declared.chain.ChainPart.TheVariants as part
use Rattle.program_plan.specs.Emitted.{Emitting, local, and_of, or_of}
use Rattle.program_plan.specs.Frame.{Frame}
use Rattle.program_plan.specs.Made.{Making, node, nothing, followed}

-- round the last expression what closes each part; the number rises with each
abbrev pub closed : {B : Type 0} → (ℕ → B → NodeId → Making NodeId) → ℕ → List B → NodeId → Making NodeId
closed one number [] last = nothing last
closed one number (part ∷ parts) last = followed (closed one (number + 1) parts last) (λ rest. one number part rest)

-- the ifs of a cond over its tests and results
abbrev pub cond_closed : Spot → List NodeId → NodeId → Making NodeId
cond_closed at (test ∷ result ∷ ids) last = followed (cond_closed at ids last) (λ others. node at (If test result others))
cond_closed at (test ∷ []) last = nothing last
cond_closed at [] last = nothing last

-- a chain is an and or an or
abbrev pub chain_of : Chain → Spot → Frame → ℕ → List Emitting → Making NodeId
chain_of chain.And = and_of
chain_of chain.Or = or_of

-- the locals of a part before the last: its test, and in an or its result
abbrev pub tested : Chain → Spot → Frame → ℕ → NodeId → NodeId → Making ChainPart
tested chain.And at frame level value test = nothing (part.And value test)
tested chain.Or at frame level value test = followed (local at level frame) (λ again. nothing (part.Or value test again))

-- such a part
abbrev pub chain_part : Chain → Spot → Frame → ℕ → Emitting → Making ChainPart
chain_part kind at frame level one = followed (one frame) (λ value. followed (local at level frame) (λ test. tested kind at frame level value test))

-- an if, and the let that binds the value round it
abbrev pub choice_of : Spot → NodeId → NodeId → NodeId → NodeId → Making NodeId
choice_of at value test taken other = followed (node at (If test taken other)) (λ choice. node at (Let (value ∷ []) choice))

-- the let of such a part
abbrev pub chain_node : Spot → Frame → ℕ → ChainPart → NodeId → Making NodeId
chain_node at frame level (part.And value test) rest = followed (local at level frame) (λ again. choice_of at value test rest again)
chain_node at frame level (part.Or value test again) rest = choice_of at value test again rest

-- the nodes of a part are among the first n
abbrev pub PartBelow : ℕ → ChainPart → Type 0
PartBelow n (part.And value test) = IsBelow n value × IsBelow n test
PartBelow n (part.Or value test again) = IsBelow n value × IsBelow n test × IsBelow n again
