-- What becomes of each piece.
use Rattle.std.specs.Prelude.{◌≡◌, ⊤, IsSome, List, None, Option, Some, cond}
use Rattle.std.specs.Option.{option_and_then, option_map}
use Rattle.actor_mailbox.specs.declared.message.Message.{Message}
use Rattle.core_syntax.specs.Table.{Table}
use Rattle.shared_world.specs.Ahead.{Ahead}
use Rattle.shared_world.specs.rows.Actors.{actor_with}
use Rattle.shared_world.specs.rows.Resetting.{PieceBack, mail_back}
use Rattle.shared_world.specs.Shared.{Shared}
use Rattle.task_fork_join.specs.Attempt.{Attempt}
use Rattle.unit_table.specs.Board.{piece_at}
use Rattle.unit_table.specs.declared.mark.Mark.{Mark}
use Rattle.unit_table.specs.declared.mark.Mark.TheVariants as mark
use Rattle.unit_table.specs.declared.mark.Work.TheVariants as work
use Rattle.unit_table.specs.declared.piece.Piece.{Piece}
use Rattle.unit_table.specs.declared.piece.Piece.TheVariants as piece
use Rattle.unit_table.specs.declared.unit.Unit.{Unit}
use Rattle.unit_table.specs.Piece.{actor_in, says_finished, unit_in, with_mark}
use Rattle.value_core.specs.Named.{Name, named}
use Rattle.world_reset.specs.declared.back.Back.{Back}
use Rattle.world_reset.specs.declared.back.Back.TheVariants as back
use Rattle.world_reset.specs.declared.left.Left.{Left}
use Rattle.world_reset.specs.Left.{IsLeft}

-- a unit that stands there and can go on; anything else as it was
abbrev pub standing : Left → Piece → Piece
standing left (piece.Unit x) = piece.Unit (record x { machine = left.machine; made = left.made; becomes = left.becomes; mark = mark.Ready work.Eval })
standing left p = p

-- an actor that has no turn unless it is busy, with that mail; anything else as it was
abbrev pub freed : List Message → Piece → Piece
freed mail (piece.Actor a) = actor_with a.state mail
freed mail p = p

-- what stands under a name then, with that mail
abbrev pub put_back : Back → List Message → Option Piece → Option Piece
put_back back.Gone mail found = None
put_back (back.Left left) mail found = option_map (standing left) found
put_back back.Anew mail found = option_map (λ p. with_mark p (mark.Ready work.Settle)) found
put_back back.Stays mail found = found
put_back back.Freed mail found = option_map (freed mail) found

-- it can become that: something is there; a unit is, where that is to stand anywhere; and an actor, where that is freed
abbrev pub CanBe : Back → Option Piece → Type 0
CanBe (back.Left left) found = IsSome (option_and_then unit_in found)
CanBe back.Freed found = IsSome (option_and_then actor_in found)
CanBe back.Stays found = ⊤
CanBe _ found = IsSome found

-- that is what becomes of what stands under the name
pub record IsBackFor (s : Shared) (u : Name) (b : Back) : Type 0 where
  pub can_be : CanBe b (piece_at s.board u)
  pub puts : PieceBack s u (piece_at s.board u) (put_back b (mail_back s u) (piece_at s.board u))

-- a unit that is not finished and whose attempt is gone can begin one anew; another one stays
abbrev pub anew_or_stays : Option Attempt → Mark → Back
anew_or_stays None m = back.Stays
anew_or_stays (Some tree) m = cond (says_finished m) back.Stays back.Anew

-- where the history left the unit, which holds requests
pub record IsLeftBack (program : Table) (x : Unit) (h : Ahead) (b : Back) : Type 0 where
  pub left : Left
  pub back_is : b ≡ back.Left left
  pub is : IsLeft program x h left

-- what becomes of a unit that runs ahead, by whether its begin is held
abbrev pub IsLeadBack : Table → Unit → Ahead → Option Name → Back → Type 0
IsLeadBack program x h (Some a) b = b ≡ back.Gone
IsLeadBack program x h None b = IsLeftBack program x h b

-- what becomes of a unit, by whether it runs ahead
abbrev pub IsBackBy : Table → Unit → Option Ahead → Option Attempt → Back → Type 0
IsBackBy program x (Some h) tried b = IsLeadBack program x h h.takes b
IsBackBy program x None tried b = b ≡ anew_or_stays tried x.mark

abbrev pub IsUnitBack : Shared → Name → Unit → Back → Type 0
IsUnitBack s u x b = IsBackBy s.setup.program x (named u s.aheads) (named u s.attempts) b
