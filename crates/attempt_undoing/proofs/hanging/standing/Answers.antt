use Rattle.std.proofs.Common.{rules}
use Rattle.std.proofs.lemmas.Map.Made.{filter_same_pairs}
use Rattle.std.specs.Prelude.{is_some}
use Rattle.attempt_undoing.proofs.hanging.standing.Goals as goal
use Rattle.attempt_undoing.proofs.Walk.{standing-left}
use Rattle.unit_table.specs.Board.{unit_at}

pub returns : goal.returns
returns c =
    standing-left c.args.units.now c.args.aheads.entries c.retain.new.self.entries
    (filter_same_pairs _ (λ e. is_some (unit_at c.args.units.now e.0)) _ (λ n turn kept after next called. search rules) _ _ c.retain.ensures.filtered)
