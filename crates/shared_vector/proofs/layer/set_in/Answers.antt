use Rattle.std.proofs.lemmas.Result.{on_err_weaker}
use Rattle.std.proofs.Common.{◌∙◌, ap}
use Rattle.std.specs.Prelude.{slice_set}
use Rattle.shared_vector.proofs.Pieces.{set_same}
use Rattle.shared_vector.proofs.layer.set_in.Goals as goal

pub returns-clause-err : goal.returns-clause-err
returns-clause-err g c = on_err_weaker c.set.result (λ same. ap (slice_set c.args.lists.now c.args.number) same ∙ set_same c.args.lists.now c.args.number c.in_ok-at_mut.field-0.now c.in_ok-at_mut.ensures.item) c.set.ensures.err
