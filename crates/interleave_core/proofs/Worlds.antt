-- Worlds that begin, and that stand.
use Rattle.std.proofs.Common.{◌≡◌, ap, refl, sym, subst}
use Rattle.std.specs.Prelude.{Err, IfOk, Ok, OnErr, Result}
use Rattle.std.specs.declared.alloc.AllocError.{AllocError}
use Rattle.core_syntax.specs.Table.{Table}
use Rattle.core_syntax.specs.WellFormed.{IsWellFormed}
use Rattle.lent_pieces.proofs.Lending.{pieces-stand}
use Rattle.lent_pieces.specs.Back.{GivesBack}
use Rattle.lent_pieces.specs.Claims.{IsAbandoned, IsClaimOn}
use Rattle.world_steps.specs.Kept.{IsSameBut}
use Rattle.interleave_core.specs.Standing.{IsStanding}
use Rattle.serial_model.specs.declared.end.End.{End}
use Rattle.serial_model.specs.declared.end.End.TheVariants.{Done}
use Rattle.serial_model.specs.State.{Setup}
use Rattle.shared_world.proofs.Few.{few-same, few-still, gave-keeps-few, opening-keeps-few}
use Rattle.shared_world.proofs.Kept.{gave-keeps}
use Rattle.shared_world.proofs.Later.{gave-later}
use Rattle.shared_world.proofs.MarkLaws.{gave-marks, opening-marks}
use Rattle.shared_world.proofs.Marks.{pieces-marks}
use Rattle.shared_world.proofs.Opens.{opening-stands}
use Rattle.shared_world.specs.declared.given.Given.{Given}
use Rattle.shared_world.specs.Few.{KeepsFew}
use Rattle.shared_world.specs.Later.{IsLater}
use Rattle.shared_world.specs.Marks.{HasMarks}
use Rattle.shared_world.specs.Opening.{IsOpening}
use Rattle.shared_world.specs.Returned.{Returned}
use Rattle.shared_world.specs.Shared.{Shared}
use Rattle.shared_world.specs.Stands.{Stands}
use Rattle.unit_table.specs.Board.{SamePieces}
use Rattle.value_core.specs.declared.ticket.Ticket.{Ticket}
use Rattle.value_core.specs.Named.{Name}
use Rattle.world_claim.specs.Lent.{Lent}
use Rattle.world_claim.specs.Run.{IsRunOf, parts_of, returned_of}

-- main alone stands
pub opening-standing : (setup : Setup) (s : Shared) → IsWellFormed setup.program → IsOpening setup s → IsStanding s Done
opening-standing setup s formed is = record {
  stands = opening-stands setup s formed is;
  marks = opening-marks setup s is;
  few = opening-keeps-few setup s is;
  done_is = refl;
}

-- where the pieces stay, and all else but claims and room, the world stands
pub still-standing : (old new : Shared) (closing : End) → IsStanding old closing → SamePieces old.board new.board → new ≡ record old { board = new.board } → IsStanding new closing
still-standing old new closing is same rest = record {
  stands = pieces-stand old new is.stands same rest;
  marks = pieces-marks old new same rest is.marks;
  few = few-same old new (ap (λ (s : Shared). s.versions) rest) (ap (λ (s : Shared). s.attempts) rest) is.few;
  done_is = is.done_is;
}

pub abandoned-standing : (ticket : Ticket) (old new : Shared) (closing : End) → IsStanding old closing → IsAbandoned ticket old new → IsStanding new closing
abandoned-standing ticket old new closing is ended = still-standing old new closing is ended.unclaimed.pieces ended.unclaimed.rest

-- a claim, or the refusal of one
pub claim-standing : {E : Type 0} (name : Lent → Name) (old new : Shared) (closing : End) (result : Result Lent E) → IsStanding old closing → IfOk result (λ lent. IsClaimOn (name lent) old lent new) → OnErr result (IsSameBut old new) → IsStanding new closing
claim-standing name old new closing (Ok lent) is claimed same = still-standing old new closing is claimed.claim.pieces claimed.claim.rest
claim-standing name old new closing (Err e) is claimed same = still-standing old new closing is same.pieces same.rest

-- what a result comes to, or the want of memory for it
pub given-standing : (old new : Shared) (r : Returned) (closing : End) (result : Result Given AllocError) → IsStanding old closing → GivesBack old r new result → IsStanding new closing
given-standing old new r closing (Ok found) is given_so = record {
  stands = gave-keeps old new r found is.stands given_so.gave;
  marks = gave-marks old new r found is.stands is.marks given_so.gave;
  few = gave-keeps-few old new r found is.few given_so.gave;
  done_is = is.done_is;
}
given-standing old new r closing (Err e) is back = record {
  stands = back.stands;
  marks = back.marks is.marks;
  few = few-still old new (ap (λ (s : Shared). s.versions) back.rest) back.no_fewer is.few;
  done_is = is.done_is;
}

-- what was run on the program of the world
pub run-here : (table : Table) (r : Returned) → r.program ≡ table → IsRunOf r → IsRunOf (returned_of table (parts_of r))
run-here table r same is = subst (λ t. IsRunOf (record r { program = t })) same is

-- the run of the same program goes on
pub later-standing : (old new : Shared) (closing : End) → IsStanding old closing → Stands new → (HasMarks old → HasMarks new) → (KeepsFew old → KeepsFew new) → IsLater old new → IsStanding new closing
later-standing old new closing is stands marks few later = record {
  stands = stands;
  marks = marks is.marks;
  few = few is.few;
  done_is = is.done_is;
}
