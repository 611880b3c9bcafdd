-- Something can be done while a run goes on that is not at rest.
use Rattle.std.proofs.Common.{◌≡◌, ◌⊎◌, inl, inr, true, List, [], ◌∷◌, refl}
use Rattle.std.specs.Option.{IsSome}
use Rattle.std.specs.Prelude.{Option, None, Some}
use Rattle.actor_mailbox.specs.declared.message.Message.{Message}
use Rattle.actor_mails.specs.Mails.{mail_at}
use Rattle.serial_model.proofs.runs.Firsts.{first_unit-is, first_unit-none}
use Rattle.serial_model.specs.First.{first_unit}
use Rattle.serial_model.specs.State.{UnitState}
use Rattle.shared_world.specs.Marks.{AreMarked}
use Rattle.shared_world.specs.Rest.{IsAtRest}
use Rattle.shared_world.specs.Shared.{Shared, is_going}
use Rattle.shared_world.specs.Stands.{Stands}
use Rattle.unit_table.specs.Board.{is_unfinished}
use Rattle.value_core.proofs.NamedLaws.{Each}
use Rattle.value_core.specs.Named.{Name}
use Rattle.world_progress.proofs.First.{first-works}
use Rattle.world_progress.proofs.Mailed.{mail-works, unfinished-works}
use Rattle.world_progress.proofs.Now.{now, sound}
use Rattle.world_progress.proofs.Searching.{Some_of, has_mail, some-is-left}
use Rattle.world_progress.specs.Progress.{HasWork}

-- by whether some unit of the state is not finished, and else by what is kept that is not done
pub something-can-be-done : (s : Shared) → Stands s → AreMarked s → is_going s.end ≡ true → (IsAtRest s → ⊥) → HasWork s
something-can-be-done s st marks going restless = on (first_unit (now s st).units) refl
  where
    -- all units of the state are finished
    left : Each (λ u (unit : UnitState). IsSome unit.finished) (now s st).units → Some_of (is_unfinished s.board) ⊎ Some_of (λ a. has_mail (mail_at s.mails a)) → HasWork s
    left over (inl found) = unfinished-works s st marks over found.0 found.1
    left over (inr found) = mailed (mail_at s.mails found.0) refl found.1
      where
        mailed : (ms : List Message) → mail_at s.mails found.0 ≡ ms → has_mail ms ≡ true → HasWork s
        mailed [] is some = cc
        mailed (m ∷ ms) is some = mail-works s st marks over found.0 m ms is

    on : (found : Option Name) → first_unit (now s st).units ≡ found → HasWork s
    on None none = left (first_unit-none (now s st).units none) (some-is-left s restless)
    on (Some u) is =
        let first = first_unit-is (now s st).units u (sound s st).ordered.unit_names is in
        first-works s st going marks u first.0 first.1
