use Rattle.serial_model.proofs.evaluation.Carries.{ask-is-inner}
use Rattle.serial_model.proofs.laws.none_is_begun_inside.Goals as goal

pub returns : goal.returns
returns c = ask-is-inner
