use Rattle.world_progress.proofs.Progress.{something-can-be-done}
use Rattle.world_progress.proofs.laws.something_can_be_done.Goals as goal

pub returns : goal.returns
returns c = something-can-be-done
