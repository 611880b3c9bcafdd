use Rattle.std.proofs.Common.{◌≡◌, subst}
use Rattle.std.specs.Option.{option_copied}
use Rattle.std.specs.Prelude.{Some, ◌↔◌}
use Rattle.interleave_core.proofs.world.World.end.Goals as goal
use Rattle.run_end.specs.Over.{IsOverWith}
use Rattle.serial_model.specs.declared.end.End.{End}
use Rattle.shared_world.specs.Shared.{Shared}

pub returns : goal.returns
returns c = subst (λ (s : Shared). (end : End) → IsOverWith s end ↔ (option_copied c.end_by.result ≡ Some end)) c.self.view_is c.end_by.ensures
