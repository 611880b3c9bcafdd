use Rattle.serial_model.proofs.evaluation.Carries.{ask-needs-no-actor}
use Rattle.serial_model.proofs.laws.no_actor_is_asked.Goals as goal

pub returns : goal.returns
returns c = ask-needs-no-actor
