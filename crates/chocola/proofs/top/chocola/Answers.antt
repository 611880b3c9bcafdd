use Rattle.chocola.proofs.WithoutMemory.{without_memory}
use Rattle.chocola.proofs.top.chocola.Goals as goal

pub returns-in-Err-Memory : goal.returns-in-Err-Memory
returns-in-Err-Memory g c = without_memory _ _ _ _ _ c.out_of_memory.result c.out_of_memory.ensures.outcome c.out_of_memory.ensures.says
