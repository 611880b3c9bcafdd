use Rattle.std.proofs.Common.{subst}
use Rattle.lent_pieces.proofs.Leads.{gone-on}
use Rattle.lent_pieces.specs.Leading.{IsSettling}
use Rattle.world_steps.specs.Kept.{shared_of}
use Rattle.lent_pieces.proofs.leading.give_lead.Goals as goal

pub returns-in-Ok-false : goal.returns-in-Ok-false
returns-in-Ok-false c =
    let s = shared_of c.args.kept.now in
    gone-on s (shared_of c.go_on.new.kept) c.requires.stands c.args.name.now c.args.work c.go_on.result c.requires.leads (subst (IsSettling s c.args.name.now c.args.work) c.in-Ok-false.field-0-test c.in-Ok-false.ensures) c.go_on.ensures
