use Rattle.std.proofs.Common.{refl, subst, sym}
use Rattle.world_steps.specs.Kept.{shared_of}
use Rattle.attempt_deciding.specs.Undoing.{HasAborted}
use Rattle.attempt_deciding.proofs.undoing.abort.Goals as goal
use Rattle.shared_world.specs.declared.given.Given.TheVariants as given

pub returns : goal.returns
returns c =
    subst (λ n. HasAborted (shared_of c.args.kept.now) c.args.owner.now c.args.name c.args.version (shared_of c.undo_attempt-unit.new.kept) (given.Aborted n c.args.name c.args.version)) (sym c.undo_attempt-unit.ensures.unit) (record {
      row = λ x tree there attempt. record { found_is = refl; undoes = c.undo_attempt-unit.ensures.undone x tree there attempt };
      claims = c.undo_attempt-unit.ensures.claims;
    })
