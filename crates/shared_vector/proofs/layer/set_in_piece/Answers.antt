use Rattle.std.proofs.lemmas.Result.{on_err_weaker}
use Rattle.std.proofs.Common.{◌∙◌, ap}
use Rattle.std.specs.Prelude.{slice_set}
use Rattle.shared_vector.proofs.Pieces.{set_same}
use Rattle.shared_vector.proofs.layer.set_in_piece.Goals as goal

pub returns-clause-err : goal.returns-clause-err
returns-clause-err g c = on_err_weaker c.set_in.result (λ same. ap (slice_set c.args.pieces.now c.args.piece) same ∙ set_same c.args.pieces.now c.args.piece c.in_ok-at_mut.field-0.now c.in_ok-at_mut.ensures.item) c.set_in.ensures.err
