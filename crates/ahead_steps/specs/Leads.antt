-- What a turn comes to that runs ahead, or that nothing changes.
use Rattle.std.specs.Prelude.{◌≡◌, Bool, Err, List, Ok, Result, Some}
use Rattle.std.specs.declared.alloc.AllocError.{AllocError}
use Rattle.core_syntax.specs.declared.node_id.NodeId.{NodeId}
use Rattle.serial_model.specs.declared.halt.Halt.{Halt}
use Rattle.serial_model.specs.declared.request.Request.{Request}
use Rattle.shared_world.specs.Ahead.{Ahead}
use Rattle.shared_world.specs.declared.given.Given.{Given}
use Rattle.shared_world.specs.rows.Leading.{HoldsOn, LeadGoes, LeadTries, SendsAhead, WaitsDefinite, is_definite}
use Rattle.shared_world.specs.rows.Pieces.{ClaimsEnd}
use Rattle.shared_world.specs.Shared.{Shared}
use Rattle.unit_table.specs.Board.{unit_at}
use Rattle.unit_table.specs.declared.unit.Unit.{Unit}
use Rattle.value_core.specs.declared.value.Value.{Value}
use Rattle.value_core.specs.Named.{Name, named, same_name}
use Rattle.value_core.specs.Place.{Spot}
use Rattle.world_steps.specs.Kept.{IsSameBut}

-- the turn of that name runs ahead, and it is definite or not
pub record IsLead (s : Shared) (name : Name) (definite : Bool) : Type 0 where
  pub lead : Ahead
  pub leads : named name s.aheads ≡ Some lead
  pub definite_is : definite ≡ is_definite s.taken lead.takes

-- the turn of that name comes to what that says of it, and the claims on it end
pub record Came (old : Shared) (name : Name) (Row : Unit → Ahead → Given → Shared → Type 0) (new : Shared) (found : Given) : Type 0 where
  pub row : (x : Unit) → unit_at old.board name ≡ Some x → (h : Ahead) → named name old.aheads ≡ Some h → Row x h found new
  pub claims : ClaimsEnd (λ q. same_name q name) old new

-- or for want of memory nothing changes
abbrev pub CameOr : Shared → Name → (Unit → Ahead → Given → Shared → Type 0) → Shared → Result Given AllocError → Type 0
CameOr old name Row new (Ok found) = Came old name Row new found
CameOr old name Row new (Err e) = IsSameBut old new

-- what it comes to by where its machine halts
abbrev pub LeadComes : Shared → Name → Halt → Shared → Result Given AllocError → Type 0
LeadComes old name h new result = CameOr old name (λ x lead found after. LeadGoes old name x lead h found after) new result

-- it holds that request more
abbrev pub HoldsOr : Shared → Name → Request → Shared → Result Given AllocError → Type 0
HoldsOr old name r new result = CameOr old name (λ x lead found after. HoldsOn old name x lead r found after) new result

-- it holds that send more, which is put at once or kept
abbrev pub SendsOr : Shared → Name → Name → List Value → Shared → Result Given AllocError → Type 0
SendsOr old name to args new result = CameOr old name (λ x lead found after. SendsAhead old name x lead to args found after) new result

-- it waits until it is definite
abbrev pub WaitsOr : Shared → Name → Shared → Result Given AllocError → Type 0
WaitsOr old name new result = CameOr old name (λ x lead found after. WaitsDefinite old name x lead found after) new result

-- it begins an attempt
abbrev pub TriesOr : Shared → Name → NodeId → List Value → Spot → Shared → Result Given AllocError → Type 0
TriesOr old name body values at new result = CameOr old name (λ x lead found after. LeadTries old name x lead body values at (named name old.attempts) found after) new result
