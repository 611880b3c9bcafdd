use Rattle.std.proofs.Common.{◌≡◌, sym, ap}
use Rattle.std.specs.Prelude.{Some}
use Rattle.run_end.proofs.Ends.{not-over-going}
use Rattle.run_end.proofs.finishing.end_reached.Goals as goal
use Rattle.world_steps.specs.Kept.{shared_of}
use Rattle.serial_model.specs.declared.end.End.{End}

pub returns-in_ok-copy-in-Some : goal.returns-in_ok-copy-in-Some
returns-in_ok-copy-in-Some c =
    let same : c.in_ok-copy-in-Some.field-0 ≡ c.in-Some.end.now = c.in_ok-copy-in-Some.ensures in
    (c.in-Some.ensures c.in_ok-copy-in-Some.field-0).1 (ap (λ (end : End). Some end) (sym same))

pub returns-in-None : goal.returns-in-None
returns-in-None c = not-over-going (shared_of c.args.kept.now) c.requires.stands c.in-None.ensures
