use Rattle.std.proofs.Common.{◌≡◌, ◌∙◌, false, sym, true}
use Rattle.interleave_core.proofs.Idle.{claim-out}
use Rattle.interleave_core.proofs.Ready.{memory-not-over, ready-not-over}
use Rattle.interleave_core.proofs.claiming.claim_any.Goals as goal
use Rattle.world_steps.specs.Kept.{shared_of}

pub returns-clause-idle : goal.returns-clause-idle
returns-clause-idle c = (λ refused. cc, λ idle. let no : true ≡ false = sym c.in-Some.ensures.some ∙ idle.none c.in-Some.name.now in cc)

pub returns-in_err-name-in-Some-clause-over : goal.returns-in_err-name-in-Some-clause-over
returns-in_err-name-in-Some-clause-over c = (λ refused. absurd (memory-not-over c.from_residual.result c.from_residual.ensures.1 refused), λ over. absurd (ready-not-over (shared_of c.args.kept.now) c.requires.stands c.requires.marks c.in-Some.name.now c.in-Some.ensures.some over))

pub returns-in_err-claim_piece-clause-over : goal.returns-in_err-claim_piece-clause-over
returns-in_err-claim_piece-clause-over c = (λ refused. absurd (memory-not-over c.from_residual-in_err-claim_piece.result c.from_residual-in_err-claim_piece.ensures.1 refused), λ over. absurd (ready-not-over (shared_of c.args.kept.now) c.requires.stands c.requires.marks c.in-Some.name.now c.in-Some.ensures.some over))

pub returns-clause-over : goal.returns-clause-over
returns-clause-over c = (λ refused. cc, λ over. absurd (ready-not-over (shared_of c.args.kept.now) c.requires.stands c.requires.marks c.in-Some.name.now c.in-Some.ensures.some over))

pub returns-in-None-2-clause-out : goal.returns-in-None-2-clause-out
returns-in-None-2-clause-out c = λ refused. claim-out (shared_of c.args.kept.now) c.requires.stands c.requires.marks c.claims_are_tied.ensures (record {
  going = λ over. let yes = c.is_over.ensures.1 over in let no : true ≡ false = sym yes ∙ c.if-is_over.false in cc;
  none = c.in-None-2.ensures.none;
})
