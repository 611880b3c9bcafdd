-- What holds of every world.
use Rattle.std.specs.Prelude.{◌≡◌}
use Rattle.serial_model.specs.declared.end.End.{End}
use Rattle.serial_model.specs.declared.end.End.TheVariants.{Done}
use Rattle.shared_world.specs.Few.{KeepsFew}
use Rattle.shared_world.specs.Marks.{HasMarks}
use Rattle.shared_world.specs.Shared.{Shared}
use Rattle.shared_world.specs.Stands.{Stands}

-- What is kept stands for the replay of its history, its marks are right, and few versions are kept of each ref. The end beside it is Done.
pub record IsStanding (s : Shared) (done : End) : Type 0 where
  pub stands : Stands s
  pub marks : HasMarks s
  pub few : KeepsFew s
  pub done_is : done ≡ Done
