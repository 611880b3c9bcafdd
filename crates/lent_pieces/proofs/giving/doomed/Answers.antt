use Rattle.std.proofs.Common.{◌≡◌, ◌∙◌, Some, ap, refl, subst, sym}
use Rattle.std.specs.Arc.{arc_value}
use Rattle.std.specs.Option.{option_copied}
use Rattle.attempt_deciding.specs.Undoing.{FindsToUndo}
use Rattle.lent_pieces.proofs.Doomed.{none-to-undo, not-live, undone-live}
use Rattle.lent_pieces.proofs.giving.doomed.Goals as goal
use Rattle.lent_pieces.specs.Claims.{IsLiveAs}
use Rattle.lent_pieces.specs.Doomed.{FindsDoomed}
use Rattle.world_claim.specs.Run.{returned_of}
use Rattle.world_steps.specs.Kept.{shared_of}

pub returns-in_err-conflict : goal.returns-in_err-conflict
returns-in_err-conflict c =
    let s = shared_of c.args.kept.now in
    let r = returned_of (arc_value c.args.kept.now.program) c.args.parts.now in
    let name = c.in_ok-name.name.now in
    subst (FindsDoomed s r) (sym c.from_residual-in_err-conflict.ensures)
    (none-to-undo s r name (sym c.claimed.ensures ∙ ap option_copied c.in_ok-name.was) (subst (FindsToUndo s name) c.in_err-conflict.was c.to_undo.ensures))

pub returns-in_err-_live : goal.returns-in_err-_live
returns-in_err-_live c =
    let s = shared_of c.args.kept.now in
    let r = returned_of (arc_value c.args.kept.now.program) c.args.parts.now in
    subst (FindsDoomed s r) (sym c.from_residual-in_err-_live.ensures)
    (not-live s r (subst (λ o. IsLiveAs s r (option_copied o)) c.in_err-_live.was (c.live_name.ensures r (record { ticket_is = refl; work_is = refl; machine_is = refl }))))

pub returns : goal.returns
returns c =
    let s = shared_of c.args.kept.now in
    let r = returned_of (arc_value c.args.kept.now.program) c.args.parts.now in
    let name = c.in_ok-name.name.now in
    undone-live s r name (sym c.claimed.ensures ∙ ap option_copied c.in_ok-name.was) c.in_ok-conflict.conflict
    (subst (FindsToUndo s name) c.in_ok-conflict.was c.to_undo.ensures) c.in_ok-_live._live.now
    (subst (λ o. IsLiveAs s r (option_copied o)) c.in_ok-_live.was (c.live_name.ensures r (record { ticket_is = refl; work_is = refl; machine_is = refl })))
