-- The items of a chain of links.
use Rattle.std.specs.Prelude.{List, [], ◌∷◌, Option, Some, None}
use Rattle.std.specs.declared.alloc.Global.{Global}
use Rattle.std.specs.declared.sync.Arc.{Arc}
use Rattle.shared_chain.specs.declared.chain.Link.{Link}
use Rattle.shared_chain.specs.declared.chain.Link.TheOpen as one
use Rattle.shared_chain.specs.declared.chain.Link.TheFolds.{fold-Link}

-- the items that stand below
abbrev pub below_items : {X : Type 0} → Option (Arc (List X) Global) → List X
below_items None = []
below_items (Some more) = more.value

abbrev pub link_step : {X : Type 0} → one.Link-F X (List X) → List X
link_step l = l.item ∷ below_items l.below

-- the item of a link, and those below it
abbrev pub link_items : {X : Type 0} → Link X → List X
link_items {X} = fold-Link X (List X) link_step

abbrev pub links : {X : Type 0} → Option (Arc (Link X) Global) → List X
links None = []
links (Some l) = link_items l.value

-- the items from that link down; none where there is no link
abbrev pub from_link : {X : Type 0} → Option (Link X) → List X
from_link None = []
from_link (Some l) = link_items l
