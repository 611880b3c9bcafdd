-- Claims that are given out, and claims that end.
use Rattle.std.specs.Prelude.{◌≡◌, true, Option, None, Some}
use Rattle.eval_step.specs.Evaluation.{Evaluation}
use Rattle.shared_world.specs.Gave.{IsUnclaimed}
use Rattle.shared_world.specs.Returned.{IsLive, IsSameMachine, Returned}
use Rattle.shared_world.specs.Shared.{Shared, claimed, kept_machine, kept_work, ready}
use Rattle.unit_table.specs.Board.{IsLent, NoneAgain, SamePieces}
use Rattle.unit_table.specs.declared.mark.Work.{Work}
use Rattle.value_core.specs.declared.ticket.Ticket.{Ticket}
use Rattle.value_core.specs.Named.{Name}
use Rattle.world_claim.specs.Lent.{Lent}

-- The piece is lent under a ticket that was never given out, and that claim is out. All else stays.
pub record IsClaimedBy (name : Name) (ticket : Ticket) (old new : Shared) : Type 0 where
  pub pieces : SamePieces old.board new.board
  pub lent : IsLent name ticket old.board new.board
  pub here : claimed new ticket ≡ Some name
  pub others : (other : Ticket) → (other ≡ ticket → ⊥) → claimed new other ≡ claimed old other
  pub rest : new ≡ record old { board = new.board }

-- A claim on the piece, for what can be done with it. It lends the machine that is kept.
pub record IsClaimOn (name : Name) (old : Shared) (lent : Lent) (new : Shared) : Type 0 where
  pub program : lent.program ≡ old.setup.program
  pub piece : lent.piece ≡ name
  pub work : kept_work old name ≡ Some lent.work
  pub machine : lent.machine ≡ kept_machine old name
  pub claim : IsClaimedBy name lent.ticket old new

-- The claim of that ticket is out no more. Its piece is ready again, and every other one where it was. No ticket that was given
-- out will be given out again.
pub record IsAbandoned (ticket : Ticket) (old new : Shared) : Type 0 where
  pub unclaimed : IsUnclaimed ticket old new
  pub again : (name : Name) → claimed old ticket ≡ Some name → ready new name ≡ true
  pub others : (name : Name) → (claimed old ticket ≡ Some name → ⊥) → ready new name ≡ ready old name
  pub later : NoneAgain old.board new.board

-- The result is live under no name. Its claim is out no more, where it was, its piece is ready again, and nothing else changes.
pub record IsStale (old : Shared) (r : Returned) (new : Shared) : Type 0 where
  pub none : (name : Name) → IsLive old r name → ⊥
  pub left : IsAbandoned r.ticket old new

-- the work and the machine are those that are kept of the piece
pub record IsKeptSo (s : Shared) (name : Name) (work : Work) (machine : Option Evaluation) : Type 0 where
  pub work_is : kept_work s name ≡ Some work
  pub machine_is : IsSameMachine (kept_machine s name) machine

-- the result has that ticket, work and machine
pub record HasParts (r : Returned) (ticket : Ticket) (work : Work) (machine : Option Evaluation) : Type 0 where
  pub ticket_is : r.ticket ≡ ticket
  pub work_is : r.work ≡ work
  pub machine_is : r.machine ≡ machine

-- a result is live under that name, or under none
abbrev pub IsLiveAs : Shared → Returned → Option Name → Type 0
IsLiveAs s r (Some name) = IsLive s r name
IsLiveAs s r None = (name : Name) → IsLive s r name → ⊥

-- so is each result with that ticket, work and machine
abbrev pub FindsLive : Shared → Ticket → Work → Option Evaluation → Option Name → Type 0
FindsLive s ticket work machine found = (r : Returned) → HasParts r ticket work machine → IsLiveAs s r found
