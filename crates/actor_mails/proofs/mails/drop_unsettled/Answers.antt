use Rattle.std.proofs.Common.{rules}
use Rattle.actor_mails.proofs.Dropping.{each-cleared, mail-cleared, room-cleared}
use Rattle.value_core.proofs.NameMaps.{rises_of}
use Rattle.actor_mails.proofs.mails.drop_unsettled.Goals as goal

pub returns-clause-mail : goal.returns-clause-mail
returns-clause-mail c =
    mail-cleared c.args.boxes.now.entries c.retain.new.self.entries (each-cleared _ (λ f name box kept after next called. search rules) _ _ _ c.retain.ensures.filtered)
    (rises_of c.args.boxes.now.entries c.retain.ensures.was_ordered) (rises_of c.retain.new.self.entries c.retain.ensures.ordered)

pub returns-clause-room : goal.returns-clause-room
returns-clause-room c = room-cleared c.args.boxes.now.entries c.retain.new.self.entries (each-cleared _ (λ f name box kept after next called. search rules) _ _ _ c.retain.ensures.filtered)

pub returns-clause-rises : goal.returns-clause-rises
returns-clause-rises c = λ _. rises_of c.retain.new.self.entries c.retain.ensures.ordered
