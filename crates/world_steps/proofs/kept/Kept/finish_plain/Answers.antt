use Rattle.std.proofs.Common.{◌≡◌, ◌∙◌, refl, ap, subst, ◌++◌, ◌∷◌, []}
use Rattle.std.specs.Prelude.{IfSome, Some}
use Rattle.world_steps.proofs.Settling.{at-unit, finished-so, row-for, shift-claims}
use Rattle.world_steps.specs.Kept.{shared_of}
use Rattle.serial_model.specs.declared.entry.Entry.TheVariants.{Run}
use Rattle.shared_world.specs.declared.given.Given.TheVariants as given
use Rattle.shared_world.specs.rows.Pieces.{Settles}
use Rattle.shared_world.specs.Shared.{Shared, unit_state}
use Rattle.unit_table.specs.Board.{unit_at}
use Rattle.unit_table.specs.declared.mark.Mark.TheVariants as mark
use Rattle.unit_table.specs.declared.unit.Unit.{Unit}
use Rattle.world_steps.proofs.kept.Kept.finish_plain.Goals as goal

pub returns : goal.returns
returns c =
    let old = shared_of c.args.self.now in
    let before = shared_of c.make_room.new.self in
    let at_base : before ≡ old = c.in_ok-make_room.ensures.same in
    let new = record before { history = c.append.new.history.items; board = c.move_to.new.units } in
    let name = c.args.name.now in
    let is = c.requires.unit in
    let finished = mark.Finished c.args.value in
    let made = at-unit old.board name (λ (x : Unit). c.made_of-made.result ≡ x.made) is.unit is.there (subst (λ (s : Shared). IfSome (unit_at s.board name) (λ (x : Unit). c.made_of-made.result ≡ x.made)) at_base c.made_of-made.ensures) in
    let others : new ≡ record old { history = old.history ++ Run name ∷ []; board = new.board } =
    ap (λ h. record before { history = h; board = c.move_to.new.units }) (c.append.ensures ∙ ap (λ e. before.history ++ e ∷ []) c.in_ok-entry.ensures.entry)
    ∙ ap (λ (s : Shared). record s { history = s.history ++ Run name ∷ []; board = c.move_to.new.units }) at_base in
    record {
      row = row-for old.board name (λ (x : Unit). Settles old name x (record (unit_state x) { finished = Some c.args.value }) (given.Settled c.in_ok-entry.field-0.told) new) is.unit is.there
          (finished-so old before new name c.args.moved c.made_of-made.result finished is (c.requires.stands.machines name is.unit is.there) at_base made c.move_to.ensures c.args.value (given.Settled c.in_ok-entry.field-0.told) refl (ap given.Settled c.in_ok-entry.ensures.told) others);
      claims = shift-claims old before new name c.args.moved c.made_of-made.result finished is (c.requires.stands.machines name is.unit is.there) at_base made c.move_to.ensures (ap (λ (s : Shared). s.end) others);
    }
