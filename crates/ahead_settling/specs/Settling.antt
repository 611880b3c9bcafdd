-- What comes of a turn that runs ahead, once the next that it holds is settled.
use Rattle.std.specs.Prelude.{◌≡◌, ◌∷◌, Err, List, None, Ok, Result, Some, true}
use Rattle.std.specs.declared.alloc.AllocError.{AllocError}
use Rattle.serial_model.specs.declared.request.Request.{Request}
use Rattle.shared_world.specs.Ahead.{Ahead}
use Rattle.shared_world.specs.declared.given.Given.{Given}
use Rattle.shared_world.specs.rows.Leading.{NextSettles, is_definite}
use Rattle.shared_world.specs.rows.Pieces.{ClaimsEnd}
use Rattle.shared_world.specs.Shared.{Shared}
use Rattle.turns_ahead.specs.declared.next_held.NextHeld.{NextHeld}
use Rattle.turns_ahead.specs.declared.next_held.NextHeld.TheVariants as next
use Rattle.unit_table.specs.Board.{unit_at}
use Rattle.unit_table.specs.declared.unit.Unit.{Unit}
use Rattle.value_core.specs.Named.{Name, named, same_name}
use Rattle.world_steps.specs.Kept.{IsSameBut}

-- the unit runs ahead and is definite; its begin is settled, where that is held, and else the first request
pub record NextSettled (old : Shared) (u : Name) (new : Shared) (found : Given) : Type 0 where
  pub unit : Unit
  pub there : unit_at old.board u ≡ Some unit
  pub ahead : Ahead
  pub leads : named u old.aheads ≡ Some ahead
  pub definite : is_definite old.taken ahead.takes ≡ true
  pub gives : NextSettles old u unit ahead ahead.takes ahead.held found new
  pub claims : ClaimsEnd (λ q. same_name q u) old new

-- or for want of memory nothing changes
abbrev pub SettlesComes : Shared → Name → Shared → Result Given AllocError → Type 0
SettlesComes old u new (Ok found) = NextSettled old u new found
SettlesComes old u new (Err e) = IsSameBut old new

-- the begin of a turn of that actor is held
pub record HoldsBegin (s : Shared) (u a : Name) : Type 0 where
  pub ahead : Ahead
  pub leads : named u s.aheads ≡ Some ahead
  pub takes : ahead.takes ≡ Some a

-- that request is the first that is held, and the begin is not
pub record HoldsFirst (s : Shared) (u : Name) (r : Request) : Type 0 where
  pub ahead : Ahead
  pub leads : named u s.aheads ≡ Some ahead
  pub takes : ahead.takes ≡ None
  pub rest : List Request
  pub first : ahead.held ≡ r ∷ rest

-- that is the next that the turn holds
abbrev pub IsNextHeld : Shared → Name → NextHeld → Type 0
IsNextHeld s u (next.Begin actor) = HoldsBegin s u actor
IsNextHeld s u (next.Asked request) = HoldsFirst s u request
