use Rattle.std.proofs.Common.{◌≡◌, ◌∙◌, ap, subst, sym, true}
use Rattle.std.specs.Option.{option_and_then}
use Rattle.lent_pieces.proofs.Lending.{kept-is-of, ready-goes, ready-marks}
use Rattle.lent_pieces.proofs.claims.claim_piece.Goals as goal
use Rattle.shared_world.specs.Shared.{machine_in}
use Rattle.unit_table.specs.Board.{marks_ready}
use Rattle.world_claim.specs.Lent.{IsMachineOf}
use Rattle.world_steps.specs.Kept.{shared_of}

pub ready_work-work-requires : goal.ready_work-work-requires
ready_work-work-requires c = subst (λ o. marks_ready o ≡ true) (sym c.piece-found.ensures) (ready-marks (shared_of c.args.kept.now) c.args.name.now c.requires.ready)

pub new-requires : goal.new-requires
new-requires c =
    let s = shared_of c.args.kept.now in
    let name = c.args.name.now in
    let kept = kept-is-of s c.requires.stands (ready-goes s name c.requires.ready) name in
    let same = c.in_ok-machine.ensures ∙ c.machine_in.ensures ∙ ap (option_and_then (machine_in s name)) c.piece-found.ensures in
    subst (λ table. IsMachineOf table c.in_ok-machine.machine) (sym c.in_ok-program.ensures.cases) (subst (IsMachineOf s.setup.program) (sym same) kept)
