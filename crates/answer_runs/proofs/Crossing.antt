-- Answers may be moved into a thread.
use denote.Param.Send.{IsSend, IsSync, sendable}
use denote.Param.SendFields.{as_row_sync, declared_sync, variants_sync}
use Rattle.std.proofs.Crossing.{crosses}
use Rattle.value_core.proofs.Crossing.{value_sync}
use Rattle.serial_model.proofs.Crossing.{fields, answer_send}
use Rattle.serial_model.specs.contracts.answer.Answer as answer
use Rattle.shared_chain.proofs.Crossing.{link_send, link_sync, below_send}
use Rattle.shared_chain.specs.contracts.chain.Chain as chain
use Rattle.answer_runs.specs.contracts.answers.Answers as answers
use Rattle.answer_runs.specs.contracts.run.Run as run

answer_sync : IsSync answer.the_row
answer_sync = search (value_sync, variants_sync, declared_sync, as_row_sync, crosses, sendable) depth 60 fits 20000

run_send : IsSend run.the_row
run_send = search (answer_send, fields) depth 60 fits 20000

run_sync : IsSync run.the_row
run_sync = search (answer_sync, declared_sync, as_row_sync, crosses, sendable) depth 60 fits 20000

runs_send : IsSend (chain.the_row run.the_row)
runs_send = search (run_send, run_sync, link_send, link_sync, below_send, fields) depth 60 fits 20000

pub answers_send : IsSend answers.the_row
answers_send = search (runs_send, fields) depth 60 fits 20000

runs_sync : IsSync (chain.the_row run.the_row)
runs_sync = search (run_send, run_sync, link_send, link_sync, below_send, as_row_sync, declared_sync, crosses, sendable) depth 60 fits 20000

pub answers_sync : IsSync answers.the_row
answers_sync = search (runs_sync, as_row_sync, declared_sync, crosses, sendable) depth 60 fits 20000
