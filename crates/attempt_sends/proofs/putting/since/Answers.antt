use Rattle.std.proofs.Common.{◌∙◌, ap, refl, sym}
use Rattle.std.specs.Option.{option_copied, option_map}
use Rattle.attempt_sends.proofs.Puts.{since-so}
use Rattle.attempt_sends.proofs.putting.since.Goals as goal
use Rattle.turns_ahead.specs.Leading.{ahead_of}
use Rattle.value_core.proofs.NamedViews.{named-each_as}
use Rattle.world_steps.specs.Kept.{shared_of}

pub returns-in-Some : goal.returns-in-Some
returns-in-Some c =
    since-so (λ letters. letters.items) c.letters_since.result (shared_of c.args.kept.now) c.args.unit.now c.root_name.result.now c.args.before c.in-Some.tree.now (option_map ahead_of (option_copied c.find-turn.result)) c.root.result.now.log.effects c.root.result.now
    (sym c.find.ensures ∙ ap option_copied c.in-Some.is) (ap (option_map ahead_of) c.find-turn.ensures ∙ sym (named-each_as ahead_of c.args.unit.now c.args.kept.now.aheads.entries)) c.root_name.ensures c.root.ensures refl c.letters_since.ensures
