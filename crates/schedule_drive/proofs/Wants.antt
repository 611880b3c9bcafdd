-- A world after memory was wanting.
use Rattle.std.proofs.Common.{◌≡◌, ◌∙◌, [], append-nil, ap, sym}
use Rattle.lent_pieces.specs.Back.{IsBack}
use Rattle.world_steps.specs.Kept.{IsSameBut}
use Rattle.schedule_drive.specs.Drive.{IsLater}
use Rattle.shared_world.specs.Returned.{Returned}
use Rattle.shared_world.specs.Shared.{Shared}

pub same_later : (old new : Shared) → IsSameBut old new → IsLater old new
same_later old new is = record { entries = []; appends = record { setup = ap (λ (s : Shared). s.setup) is.rest; history = ap (λ (s : Shared). s.history) is.rest ∙ sym (append-nil old.history) } }

pub back_later : (old new : Shared) (r : Returned) → IsBack old r new → IsLater old new
back_later old new r is = record { entries = []; appends = record { setup = ap (λ (s : Shared). s.setup) is.rest; history = ap (λ (s : Shared). s.history) is.rest ∙ sym (append-nil old.history) } }
