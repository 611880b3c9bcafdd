use Rattle.std.proofs.Common.{subst, sym}
use Rattle.world_steps.specs.Kept.{shared_of}
use Rattle.shared_world.specs.Returned.{IsLive}
use Rattle.lent_pieces.proofs.claims.live_piece.Goals as goal

pub returns-in_ok-copy-in-Some : goal.returns-in_ok-copy-in-Some
returns-in_ok-copy-in-Some c = λ r parts. subst (λ n. IsLive (shared_of c.args.kept.now) r n) (sym c.in_ok-copy-in-Some.ensures) (c.in-Some.ensures r parts)
