use Rattle.std.proofs.Common.{◌≡◌, refl, ap}
use Rattle.world_steps.proofs.Settling.{at-unit, marked-so, row-for, shift-claims}
use Rattle.world_steps.specs.Kept.{shared_of}
use Rattle.shared_world.specs.declared.given.Given.TheVariants as given
use Rattle.shared_world.specs.rows.Units.{Waits}
use Rattle.unit_table.specs.declared.mark.Mark.TheVariants as mark
use Rattle.unit_table.specs.declared.mark.WaitOn.TheVariants as wait
use Rattle.unit_table.specs.declared.unit.Unit.{Unit}
use Rattle.world_steps.proofs.kept.Kept.wait.Goals as goal

pub returns : goal.returns
returns c =
    let old = shared_of c.args.self.now in
    let new = record old { board = c.move_to.new.units } in
    let name = c.args.name.now in
    let is = c.requires.unit in
    let waiting = mark.Waiting (wait.Finish c.args.future) in
    let made = at-unit old.board name (λ (x : Unit). c.made_of-made.result ≡ x.made) is.unit is.there c.made_of-made.ensures in
    record {
      row = row-for old.board name (λ (x : Unit). Waits old name x c.args.future (given.Waiting (wait.Finish c.in_ok-told.told)) new) is.unit is.there (record {
        found_is = ap (λ n. given.Waiting (wait.Finish n)) c.in_ok-told.ensures;
        marked = marked-so old old new name c.args.moved c.made_of-made.result waiting is (c.requires.stands.machines name is.unit is.there) refl made c.move_to.ensures refl;
        others = refl;
      });
      claims = shift-claims old old new name c.args.moved c.made_of-made.result waiting is (c.requires.stands.machines name is.unit is.there) refl made c.move_to.ensures refl;
    }
