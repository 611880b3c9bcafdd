-- What a request of a task does to its log.
use Rattle.std.specs.Prelude.{◌≡◌}
use Rattle.serial_model.specs.declared.answer.Answer.{Answer}
use Rattle.serial_model.specs.Log.{Log}

-- the log is that, and the answer is this
pub record IsDone (log wanted : Log) (answer due : Answer) : Type 0 where
  pub log_is : log ≡ wanted
  pub answer_is : answer ≡ due
