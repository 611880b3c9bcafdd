-- A text that was written, or failed to be.
use Rattle.std.proofs.Common.{◌≡◌, ◌≤◌, ℕ, List, refl, inl, inr, arith}
use Rattle.std.specs.Io.KnownBytes.{append_known}
use Rattle.world_io.specs.Counts.{Rose}
use Rattle.world_io.specs.Seen.{SinkSeen}
use Rattle.world_io.specs.Taken.{TookPrefix}
use Rattle.command_phases.specs.declared.outcome.Outcome.{Outcome}
use Rattle.command_phases.specs.declared.outcome.Detail.TheVariants.{Nothing}
use Rattle.command_phases.specs.Told.{IsTold}
use Rattle.command_phases.specs.Unrun.{IsUnrun}
use Rattle.command_phases.specs.Written.{IsWritten}

module _ (text : List ℕ) (old new : SinkSeen) (outcome : Outcome) where
  pub IsTold-written : IsUnrun 0 Nothing outcome → TookPrefix old.taken new.taken text → new.taken ≡ append_known old.taken text → new.faults ≡ old.faults
      → old.faults ≤ new.faults → IsTold text old new outcome
  IsTold-written unrun prefix whole quiet later = record {
    status = inl unrun.status;
    unrun = record { status = refl; detail = unrun.detail; history = unrun.history; end = unrun.end };
    prefix = prefix;
    whole = λ written. whole;
    fault = λ seven. absurd (omega (arith, unrun.status, seven));
    unfailed = λ other. quiet;
    later = later;
  }

  unwritten : outcome.status ≡ 7 → Rose old.faults new.faults → IsWritten outcome.status old new → ⊥
  unwritten seven rose written = elim written [
    | inl e ↦ omega (arith, e, seven)
    | inr w ↦ elim w [
      | inl e ↦ omega (arith, e, seven)
      | inr w ↦ elim w [ inl e ↦ omega (arith, e, seven) | inr w ↦ elim w [ inl e ↦ omega (arith, e, seven) | inr p ↦ p.1 rose ] ]
    ]
  ]

  pub IsTold-failed : IsUnrun 7 Nothing outcome → TookPrefix old.taken new.taken text → Rose old.faults new.faults → old.faults ≤ new.faults → IsTold text old new outcome
  IsTold-failed unrun prefix rose later = record {
    status = inr unrun.status;
    unrun = record { status = refl; detail = unrun.detail; history = unrun.history; end = unrun.end };
    prefix = prefix;
    whole = λ written. absurd (unwritten unrun.status rose written);
    fault = λ seven. rose;
    unfailed = λ other. absurd (other unrun.status);
    later = later;
  }
