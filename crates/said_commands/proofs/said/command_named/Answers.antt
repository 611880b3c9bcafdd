use Rattle.std.proofs.Common.{refl, codes}
use Rattle.said_commands.proofs.OtherNames.{other_name}
use Rattle.said_commands.proofs.said.command_named.Goals as goal

pub returns-in_default : goal.returns-in_default
returns-in_default c =
    rw (
      other_name (codes "run") c.args.name.now c.in_default.not-run,
      other_name (codes "schedule") c.args.name.now c.in_default.not-schedule,
      other_name (codes "replay") c.args.name.now c.in_default.not-replay,
      other_name (codes "check") c.args.name.now c.in_default.not-check,
      other_name (codes "make") c.args.name.now c.in_default.not-make,
      other_name (codes "stress") c.args.name.now c.in_default.not-stress,
    ) refl
