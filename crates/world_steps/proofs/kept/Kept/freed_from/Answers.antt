use Rattle.std.proofs.Common.{◌≡◌, ◌∙◌, sym, ap}
use Rattle.std.specs.Option.{option_map}
use Rattle.std.specs.Prelude.{Some}
use Rattle.serial_model.specs.Step.{after_turn}
use Rattle.shared_world.specs.Shared.{becoming_of}
use Rattle.unit_table.specs.Board.{unit_at}
use Rattle.unit_table.specs.declared.unit.Unit.{Unit}
use Rattle.world_steps.proofs.Due.{if-ok, some-is}
use Rattle.world_steps.proofs.kept.Kept.freed_from.Goals as goal

pub returns-in-Some : goal.returns-in-Some
returns-in-Some c = if-ok c.after_turn.result
    (λ after is. record {
      at = record { actor = c.args.found.now; there = c.requires; rests = c.in_ok-check_rests.ensures };
      after_is = λ x there. is ∙ ap (λ (u : Unit). after_turn (option_map becoming_of u.becomes) c.args.found.now.state) (some-is c.in-Some.turn.now x (c.in-Some.ensures ∙ there));
    }) c.after_turn.ensures
