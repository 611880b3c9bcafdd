use denote.Param.Send.{sendable}
use Rattle.std.proofs.Common.{◌≡◌, ◌∙◌, ℕ, List, [], ap, refl, sym, subst, append-nil}
use Rattle.std.specs.Io.KnownBytes.{append_known}
use Rattle.std.specs.Prelude.{None, Option, Some, take}
use Rattle.interleave_core.proofs.Crossing.{world_send}
use Rattle.shared_world.specs.Later.{IsLater}
use Rattle.shared_world.specs.Shared.{Shared}
use Rattle.shared_run.proofs.sharing.share.Goals as goal

-- a world is later than itself
later_itself : (s : Shared) → IsLater s s
later_itself s = record { setup = refl; more = []; history = sym (append-nil s.history) }

pub returns-in_default-clause-later : goal.returns-in_default-clause-later
returns-in_default-clause-later g c = subst (IsLater c.args.world) (sym c.unshared.ensures.world) (later_itself c.args.world)

pub new-requires-send-T : goal.new-requires-send-T
new-requires-send-T g c κs = search (world_send, sendable) depth 20

pub returns-in-Err-clause-later : goal.returns-in-Err-clause-later
returns-in-Err-clause-later g c = subst (IsLater c.args.world) (sym (c.unshared-in-Err.ensures.world ∙ c.in-Err.ensures.back)) (later_itself c.args.world)

-- nothing more is taken where nothing is
taken-none : (known : Option (List ℕ)) → known ≡ append_known known []
taken-none None = refl
taken-none (Some bytes) = ap Some (sym (append-nil bytes))

pub returns-in_default-clause-taken : goal.returns-in_default-clause-taken
returns-in_default-clause-taken g c =
    let known = (g.K.Sink.seen c.args.sink.now).taken in
    subst (λ n. known ≡ append_known known (take n c.unshared.result.world.bytes)) (sym c.unshared.ensures.written) (taken-none known)
