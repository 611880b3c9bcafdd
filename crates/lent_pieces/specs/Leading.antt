-- What comes of a turn that runs ahead of the history, or of an actor that begins one.
use Rattle.std.specs.Prelude.{◌≡◌, ◌&&◌, Bool, Err, Ok, Result, Some}
use Rattle.std.specs.declared.alloc.AllocError.{AllocError}
use Rattle.ahead_steps.specs.Leads.{CameOr}
use Rattle.attempt_steps.specs.Tasks.{IsWanting}
use Rattle.lent_pieces.specs.Giving.{PieceGave}
use Rattle.serial_model.specs.Step.{next_of}
use Rattle.shared_world.specs.Ahead.{Ahead}
use Rattle.shared_world.specs.declared.given.Given.{Given}
use Rattle.shared_world.specs.rows.Leading.{GaveLead, GaveTentative, LeadGoes, is_definite, is_to_settle}
use Rattle.shared_world.specs.Shared.{Shared, unit_state}
use Rattle.unit_table.specs.declared.mark.Work.{Work}
use Rattle.value_core.specs.Named.{Name, named}
use Rattle.world_steps.specs.Kept.{IsSameBut}

-- the turn runs ahead; it settles the next that it holds where it is definite and was lent for that
pub record IsSettling (s : Shared) (name : Name) (w : Work) (settles : Bool) : Type 0 where
  pub ahead : Ahead
  pub leads : named name s.aheads ≡ Some ahead
  pub settles_is : settles ≡ (is_definite s.taken ahead.takes && is_to_settle w)

-- it goes on by where its machine halts; or for want of memory nothing changes
abbrev pub GoesAhead : Shared → Name → Shared → Result Given AllocError → Type 0
GoesAhead old name new result = CameOr old name (λ x h found after. LeadGoes old name x h (next_of old.setup (unit_state x)) found after) new result

-- it comes to what its row says; or for want of memory nothing changes
abbrev pub GivesLead : Shared → Name → Work → Shared → Result Given AllocError → Type 0
GivesLead old name w new (Ok found) = GaveLead old name w found new
GivesLead old name w new (Err e) = IsSameBut old new

-- what a piece comes to that was lent for that work
pub data LiveGave (old : Shared) (name : Name) (w : Work) (found : Given) (new : Shared) : Type 0 where
  piece : PieceGave old name found new → LiveGave old name w found new
  lead : GaveLead old name w found new → LiveGave old name w found new
  tentative : GaveTentative old name found new → LiveGave old name w found new

abbrev pub GivesLive : Shared → Name → Work → Shared → Result Given AllocError → Type 0
GivesLive old name w new (Ok found) = LiveGave old name w found new
GivesLive old name w new (Err e) = IsWanting old name new
