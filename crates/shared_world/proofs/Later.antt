-- What a result comes to is later than what was there.
use Rattle.std.proofs.Common.{ap}
use Rattle.serial_model.specs.Step.{next_of}
use Rattle.shared_world.proofs.Appends.{actor-gives, led-appends, stays, task-gives, unit-gives}
use Rattle.shared_world.proofs.LeadsDo.{lead-led, tentative-led}
use Rattle.shared_world.specs.declared.given.Given.{Given}
use Rattle.shared_world.specs.Gave as gave
use Rattle.shared_world.specs.Gave.{Gave, GaveTask, GaveUnit}
use Rattle.shared_world.specs.Later.{Appends, IsLater, settled_by}
use Rattle.shared_world.specs.Returned.{Returned}
use Rattle.shared_world.specs.rows.Turns.{GaveActor}
use Rattle.shared_world.specs.Shared.{Shared, unit_state}
use Rattle.value_core.specs.Named.{Name}

-- what a unit, a task and an actor append
pub gave-unit-appends : (old : Shared) (name : Name) (found : Given) (new : Shared) → GaveUnit old name found new → Appends (settled_by found) old new
gave-unit-appends old name found new g = unit-gives old name g.unit (next_of old.setup (unit_state g.unit)) found new g.gives

pub gave-task-appends : (old : Shared) (name : Name) (found : Given) (new : Shared) → GaveTask old name found new → Appends (settled_by found) old new
gave-task-appends old name found new g = task-gives old g.owner g.unit name g.tree _ _ found new g.gives

pub gave-actor-appends : (old : Shared) (name : Name) (found : Given) (new : Shared) → GaveActor old name found new → Appends (settled_by found) old new
gave-actor-appends old name found new g = actor-gives old name g.actor.state g.first g.rest g.can.behaviour _ found new g.gives

-- a result that is given back appends just the entry that is answered
pub gave-appends : (old new : Shared) (r : Returned) (found : Given) → Gave old r found new → Appends (settled_by found) old new
gave-appends old new r found (gave.stale none is unclaimed) = stays old new found (ap settled_by is) (ap (λ (s : Shared). s.setup) unclaimed.rest) (ap (λ (s : Shared). s.history) unclaimed.rest)
gave-appends old new r found (gave.unit name live g) = gave-unit-appends old name found new g
gave-appends old new r found (gave.task name live g) = gave-task-appends old name found new g
gave-appends old new r found (gave.actor name live g) = gave-actor-appends old name found new g
gave-appends old new r found (gave.lead name live g) = led-appends old found new (lead-led old name r.work found new g)
gave-appends old new r found (gave.tentative name live g) = led-appends old found new (tentative-led old name found new g)

-- what appends is later
pub appends-later : (found : Given) (old new : Shared) → Appends (settled_by found) old new → IsLater old new
appends-later found old new is = record { setup = is.setup; more = settled_by found; history = is.history }

pub gave-later : (old new : Shared) (r : Returned) (found : Given) → Gave old r found new → IsLater old new
gave-later old new r found g = appends-later found old new (gave-appends old new r found g)
