use Rattle.lent_pieces.proofs.Leads.{begun-live, lead-live}
use Rattle.world_steps.specs.Kept.{shared_of}
use Rattle.lent_pieces.proofs.leading.give_piece.Goals as goal

pub returns-then-runs_ahead : goal.returns-then-runs_ahead
returns-then-runs_ahead c = lead-live (shared_of c.args.kept.now) (shared_of c.give_lead.new.kept) c.requires.stands c.args.name.now c.args.work c.give_lead.result c.give_lead.ensures

pub returns-then-begins_ahead : goal.returns-then-begins_ahead
returns-then-begins_ahead c = begun-live (shared_of c.args.kept.now) (shared_of c.take_ahead.new.kept) c.requires.stands c.args.name.now c.args.work c.take_ahead.result c.take_ahead.ensures
