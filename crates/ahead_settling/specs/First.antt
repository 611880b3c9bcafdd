-- What a turn comes to whose first request is settled.
use Rattle.std.specs.Prelude.{◌≡◌, ◌<◌, ◌∷◌, [], Bool, Err, List, None, Ok, Result, Some, false, length, suc, true}
use Rattle.std.specs.declared.alloc.AllocError.{AllocError}
use Rattle.std.specs.Option.{IsSome}
use Rattle.ahead_settling.specs.declared.requests.Child.{Child}
use Rattle.ahead_settling.specs.Leaving.{WaitersAmong}
use Rattle.core_syntax.specs.declared.node_id.NodeId.{NodeId}
use Rattle.core_syntax.specs.Table.{Table}
use Rattle.eval_step.specs.Evaluation.{IsOf}
use Rattle.serial_model.specs.declared.request.Request.TheVariants as request
use Rattle.serial_model.specs.declared.request.Request.{Request}
use Rattle.shared_world.specs.Ahead.{Ahead}
use Rattle.shared_world.specs.declared.given.Given.{Given}
use Rattle.shared_world.specs.rows.Leading.{FirstSettles, ForkSettles}
use Rattle.shared_world.specs.rows.Pieces.{ClaimsEnd}
use Rattle.shared_world.specs.Shared.{Shared}
use Rattle.shared_world.specs.Stands.{Stands}
use Rattle.unit_table.specs.Board.{HasPlace, piece_at, unit_at}
use Rattle.value_core.specs.declared.value.Value.{Value}
use Rattle.unit_table.specs.declared.unit.Unit.{Unit}
use Rattle.value_core.specs.Named.{Name, made_by, named, same_name}
use Rattle.world_steps.specs.Kept.{IsSameBut}

-- what is kept stands, and the run goes on; the unit is there, and what waits for it to be definite are tasks of its attempt
pub record IsOpen (s : Shared) (u : Name) : Type 0 where
  pub stands : Stands s
  pub going : s.end ≡ None
  pub there : IsSome (unit_at s.board u)
  pub waiters : WaitersAmong s.board u (named u s.attempts)

-- the request, where it is the first that the turn holds, is settled
pub record FirstSettled (old : Shared) (u : Name) (r : Request) (new : Shared) (found : Given) : Type 0 where
  pub row : (x : Unit) (h : Ahead) (rest : List Request) → unit_at old.board u ≡ Some x → named u old.aheads ≡ Some h → h.held ≡ r ∷ rest → FirstSettles old u x h r rest found new
  pub claims : ClaimsEnd (λ q. same_name q u) old new

-- or for want of memory nothing changes
abbrev pub FirstComes : Shared → Name → Request → Shared → Result Given AllocError → Type 0
FirstComes old u r new (Ok found) = FirstSettled old u r new found
FirstComes old u r new (Err e) = IsSameBut old new

-- the next thing that the turn had made where the history left it
abbrev pub IsNextMade : Shared → Name → Name → Type 0
IsNextMade s u made = (h : Ahead) → named u s.aheads ≡ Some h → made ≡ made_by u h.made

-- What is forked: nothing stands under its name, and there is a place for it; its machine begins that body, where that is in the table;
-- and the number of units with it.
pub record IsChild (s : Shared) (u : Name) (body : NodeId) (values : List Value) (c : Child) : Type 0 where
  pub called : IsNextMade s u c.name
  pub none : piece_at s.board c.name ≡ None
  pub place : HasPlace s.board c.name
  pub inside : c.machine.inside ≡ false
  pub fuel : c.machine.fuel ≡ s.setup.limits.fuel
  pub of : (table : Table) → body.index < length table.nodes → IsOf table c.machine
  pub body_is : c.machine.body ≡ body
  pub values_are : c.machine.values ≡ values
  pub answers : c.machine.answers ≡ []
  pub units : c.units ≡ suc s.made

-- a request that does nothing but to be told
abbrev pub is_told_alone : Request → Bool
is_told_alone (request.Become behaviour state) = true
is_told_alone request.SelfActor = true
is_told_alone _ = false

-- the turn forks that, where the limit allows it; or for want of memory nothing changes
pub record HasForked (old : Shared) (u : Name) (body : NodeId) (values : List Value) (new : Shared) (found : Given) : Type 0 where
  pub row : (x : Unit) (h : Ahead) (rest : List Request) → unit_at old.board u ≡ Some x → named u old.aheads ≡ Some h → h.held ≡ request.Fork body values ∷ rest → ForkSettles old u x h body values rest false found new
  pub claims : ClaimsEnd (λ q. same_name q u) old new

abbrev pub ForksOr : Shared → Name → NodeId → List Value → Shared → Result Given AllocError → Type 0
ForksOr old u body values new (Ok found) = HasForked old u body values new found
ForksOr old u body values new (Err e) = IsSameBut old new
