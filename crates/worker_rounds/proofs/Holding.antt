-- What a hold leaves is later than what was entered.
use Rattle.std.proofs.Common.{◌≡◌, ◌∙◌, [], append-nil, sym, ap, subst}
use Rattle.std.specs.Prelude.{Result, Ok, Err, IfOk, OnErr}
use Rattle.core_syntax.specs.Table.{Table}
use Rattle.lent_pieces.specs.Back.{IsBack}
use Rattle.lent_pieces.specs.Claims.{IsAbandoned, IsClaimOn}
use Rattle.interleave_core.specs.declared.error.ClaimNo.{ClaimNo}
use Rattle.interleave_core.specs.declared.error.StepNo.{StepNo}
use Rattle.interleave_core.specs.Grown.{history_seen, setup_seen, IsDone}
use Rattle.run_end.specs.Over.{IsRunOver}
use Rattle.serial_model.specs.Limits.{Budget}
use Rattle.serial_model.specs.State.{Setup}
use Rattle.shared_world.proofs.Later.{gave-later}
use Rattle.shared_world.specs.declared.given.Given.{Given}
use Rattle.shared_world.specs.Gave.{Gave}
use Rattle.shared_world.specs.Later.{IsLater as IsLaterWorld}
use Rattle.shared_world.specs.Returned.{Returned}
use Rattle.shared_world.specs.Shared.{Shared}
use Rattle.value_core.specs.declared.ticket.Ticket.{Ticket}
use Rattle.value_core.specs.Named.{Name}
use Rattle.world_claim.specs.Lent.{Lent}
use Rattle.world_lock.proofs.Begun.{prefix_trans}
use Rattle.world_lock.specs.Later.{IsLater}
use Rattle.world_steps.specs.Kept.{IsSameBut}

-- a later world, as the lock sees it
pub later : (old new : Shared) → IsLaterWorld old new → IsLater setup_seen history_seen old new
later old new is = record { same_setup = ap (λ (s : Setup). (s.program, s.limits)) is.setup; grown = (is.more, sym is.history) }

-- the setup and the history stay
stays : (old new : Shared) → new.setup ≡ old.setup → new.history ≡ old.history → IsLater setup_seen history_seen old new
stays old new setup history = record { same_setup = ap (λ (s : Setup). (s.program, s.limits)) setup; grown = ([], append-nil old.history ∙ sym history) }

pub claimed-later : (old new : Shared) (name : Name) (lent : Lent) → IsClaimOn name old lent new → IsLater setup_seen history_seen old new
claimed-later old new name lent is = stays old new (ap (λ (s : Shared). s.setup) is.claim.rest) (ap (λ (s : Shared). s.history) is.claim.rest)

pub same-later : (old new : Shared) → IsSameBut old new → IsLater setup_seen history_seen old new
same-later old new is = stays old new (ap (λ (s : Shared). s.setup) is.rest) (ap (λ (s : Shared). s.history) is.rest)

pub abandoned-later : (old new : Shared) (ticket : Ticket) → IsAbandoned ticket old new → IsLater setup_seen history_seen old new
abandoned-later old new ticket is = stays old new (ap (λ (s : Shared). s.setup) is.unclaimed.rest) (ap (λ (s : Shared). s.history) is.unclaimed.rest)

pub back-later : (old new : Shared) (r : Returned) → IsBack old r new → IsLater setup_seen history_seen old new
back-later old new r is = stays old new (ap (λ (s : Shared). s.setup) is.rest) (ap (λ (s : Shared). s.history) is.rest)

pub gave-lock-later : (old new : Shared) (r : Returned) (found : Given) → Gave old r found new → IsLater setup_seen history_seen old new
gave-lock-later old new r found gave = later old new (gave-later old new r found gave)

-- where a run is over, its history says so
pub over-done : (old new : Shared) (setup : Table × Budget) → setup_seen old ≡ setup → IsRunOver old → IsSameBut old new → IsDone setup new.history
over-done old new setup is over same = subst (λ s. IsDone s new.history) is (subst (IsDone (setup_seen old)) (sym (ap (λ (s : Shared). s.history) same.rest)) (record {
  state = over.1.state;
  end = over.0;
  replays = over.1.replays;
  over = over.1.over;
}))

-- whatever a claim and a return answer
pub claims-later : (old new : Shared) (found : Result Lent ClaimNo) → IfOk found (λ lent. IsClaimOn lent.piece old lent new) → OnErr found (IsSameBut old new) → IsLater setup_seen history_seen old new
claims-later old new (Ok lent) is same = claimed-later old new lent.piece lent is
claims-later old new (Err why) is same = same-later old new same

pub gives-later : (old new : Shared) (r : Returned) (answer : Result Given StepNo) → IfOk answer (λ given. Gave old r given new) → OnErr answer (IsBack old r new) → IsLater setup_seen history_seen old new
gives-later old new r (Ok given) is back = gave-lock-later old new r given is
gives-later old new r (Err why) is back = back-later old new r back

-- and what is left then is later than what was at first
pub later-then : (first mid last : Shared) → IsLater setup_seen history_seen first mid → IsLater setup_seen history_seen mid last → IsLater setup_seen history_seen first last
later-then first mid last a b = record { same_setup = b.same_setup ∙ a.same_setup; grown = prefix_trans first.history mid.history last.history a.grown b.grown }

pub later-program : (old new : Shared) → IsLater setup_seen history_seen old new → new.setup.program ≡ old.setup.program
later-program old new is = ap (λ (p : Table × Budget). p.0) is.same_setup
