-- What of a lock and its workers may cross threads.
use denote.Param.{param}
use denote.Param.Send.{IsSend, IsSync, sendable}
use denote.Param.SendFields.{declared_send, variants_send, as_row_send}
use denote.RattleType.{RattleType}
use denote.Ref.{NamedLft}
use denote.Struct.Field.{shr_ref_field, mut_ref_field, u32-field}
use denote.Struct.Tuple.{Tuple, TupleAt, type_at}
use Rattle.std.proofs.Crossing.{sync}
use Rattle.std.specs.contracts.alloc.Global as Global
use Rattle.std.specs.contracts.option.Option as option
use Rattle.std.specs.Prelude.{ℕ, List, [], ◌∷◌}
use Rattle.core_syntax.proofs.program.Program.TheSendSync as program_crosses
use Rattle.core_syntax.specs.contracts.program.Program as program
use Rattle.interleave_core.proofs.Crossing.{world_send}
use Rattle.interleave_core.specs.contracts.grows.WorldGrows.TheImpl
use Rattle.interleave_core.specs.contracts.world.World as world
use Rattle.serial_model.specs.contracts.entry.Entry as entry
use Rattle.serial_model.specs.contracts.limits.Limits as limits
use Rattle.world_lock.proofs.lock.WorldLock.TheSendSync as lock_crosses
use Rattle.world_lock.proofs.seat.Seat.TheSendSync as seat_crosses
use Rattle.world_lock.specs.contracts.lock.WorldLock as lock
use Rattle.world_lock.specs.contracts.seat.Seat as seat

-- the setup of a lock, the lock, and a seat
abbrev setup_row : RattleType
setup_row = Tuple (program.the_row ∷ limits.the_row ∷ [])

abbrev lock_row : RattleType
lock_row = lock.the_row world.the_row setup_row entry.the_row TheImpl.ghosts

abbrev seat_row : RattleType
seat_row = seat.the_row world.the_row setup_row entry.the_row TheImpl.ghosts

pub seat_send : IsSend seat_row
seat_send = seat_crosses.the_send world.the_row setup_row entry.the_row TheImpl.ghosts world_send

pub lock_sync : IsSync lock_row
lock_sync = lock_crosses.the_sync world.the_row setup_row entry.the_row TheImpl.ghosts world_send

-- what the closure of a worker captures: the runtime, the allocator, the lock, a seat, the program, a number and the gate
pub errand_send : (ν : List ℕ) (ℓ ℓ' ℓ'' ℓ₃ ℓ₄ ℓ₅ : NamedLft) (R G : RattleType) → IsSync (param 0 R) → IsSync (param 1 G)
    → IsSend (TupleAt ν ((shr_ref_field ℓ (param 0 R) tt).row ∷ (shr_ref_field ℓ' Global.the_row tt).row ∷ (shr_ref_field ℓ'' lock_row tt).row
    ∷ seat_row ∷ (shr_ref_field ℓ₃ program.the_row tt).row ∷ (shr_ref_field ℓ₄ u32-field.row tt).row ∷ (shr_ref_field ℓ₅ (param 1 G) tt).row ∷ []))
errand_send ν ℓ ℓ' ℓ'' ℓ₃ ℓ₄ ℓ₅ R G r h =
    let Ts : List RattleType = (shr_ref_field ℓ (param 0 R) tt).row ∷ (shr_ref_field ℓ' Global.the_row tt).row ∷ (shr_ref_field ℓ'' lock_row tt).row
    ∷ seat_row ∷ (shr_ref_field ℓ₃ program.the_row tt).row ∷ (shr_ref_field ℓ₄ u32-field.row tt).row ∷ (shr_ref_field ℓ₅ (param 1 G) tt).row ∷ [] in
    declared_send (type_at ν Ts) (
      search (r, as_row_send, sendable) depth 20,
      (
        search (sync, as_row_send, sendable) depth 20,
        (
          search (lock_sync, as_row_send, sendable) depth 20,
          (
            search (seat_send, as_row_send, sendable) depth 20,
            (
              search (program_crosses.the_sync, as_row_send, sendable) depth 20,
              (
                search (as_row_send, sendable) depth 20,
                (search (h, as_row_send, sendable) depth 20, tt),
              ),
            ),
          ),
        ),
      ),
    )

-- what the closure of the first worker captures: the place of a seat, the runtime, the allocator, the lock, the program, the gate
-- and what it does between its holds
pub first_errand_send : (ν : List ℕ) (ℓ ℓ' ℓ'' ℓ₃ ℓ₄ ℓ₅ ℓ₆ : NamedLft) (R G B : RattleType) → IsSync (param 0 R) → IsSync (param 1 G) → IsSend (param 2 B)
    → IsSend (TupleAt ν ((mut_ref_field ℓ (option.the_row seat_row) tt).row ∷ (shr_ref_field ℓ' (param 0 R) tt).row ∷ (shr_ref_field ℓ'' Global.the_row tt).row
    ∷ (shr_ref_field ℓ₃ lock_row tt).row ∷ (shr_ref_field ℓ₄ program.the_row tt).row ∷ (shr_ref_field ℓ₅ (param 1 G) tt).row ∷ (mut_ref_field ℓ₆ (param 2 B) tt).row ∷ []))
first_errand_send ν ℓ ℓ' ℓ'' ℓ₃ ℓ₄ ℓ₅ ℓ₆ R G B r h b =
    let Ts : List RattleType = (mut_ref_field ℓ (option.the_row seat_row) tt).row ∷ (shr_ref_field ℓ' (param 0 R) tt).row ∷ (shr_ref_field ℓ'' Global.the_row tt).row
    ∷ (shr_ref_field ℓ₃ lock_row tt).row ∷ (shr_ref_field ℓ₄ program.the_row tt).row ∷ (shr_ref_field ℓ₅ (param 1 G) tt).row ∷ (mut_ref_field ℓ₆ (param 2 B) tt).row ∷ [] in
    declared_send (type_at ν Ts) (
      search (seat_send, variants_send, as_row_send, sendable) depth 20,
      (
        search (r, as_row_send, sendable) depth 20,
        (
          search (sync, as_row_send, sendable) depth 20,
          (
            search (lock_sync, as_row_send, sendable) depth 20,
            (
              search (program_crosses.the_sync, as_row_send, sendable) depth 20,
              (
                search (h, as_row_send, sendable) depth 20,
                (search (b, as_row_send, sendable) depth 20, tt),
              ),
            ),
          ),
        ),
      ),
    )
