use Rattle.std.proofs.Common.{◌≡◌, refl, subst, ◌++◌, ◌∷◌, []}
use Rattle.world_steps.proofs.Settling.{at-unit, claims-so, row-for, same-claims, settled-so}
use Rattle.world_steps.specs.Kept.{shared_of}
use Rattle.serial_model.specs.declared.answer.Answer.TheVariants as answer
use Rattle.serial_model.specs.Step.{answered}
use Rattle.shared_world.specs.rows.Pieces.{Settles}
use Rattle.shared_world.specs.Shared.{unit_state}
use Rattle.unit_table.specs.declared.unit.Unit.{Unit}
use Rattle.world_steps.proofs.kept.Kept.reply.Goals as goal

pub returns : goal.returns
returns c =
    let old = shared_of c.args.self.now in
    let new = shared_of c.settle.new.self in
    let name = c.args.name.now in
    let is = c.requires.unit in
    let at_base = c.in_ok-ready.ensures.same in
    let made = at-unit old.board name (λ (x : Unit). c.made_of-made.result ≡ x.made) is.unit is.there c.made_of-made.ensures in
    let row = settled-so old old (shared_of c.prepare.new.self) new name c.args.moved c.in_ok-ready.ready.machine c.args.value c.made_of-made.result c.settle.result c.requires.stands is refl is.there (same-claims old.board) refl
    at_base c.in_ok-ready.ensures.ready.given c.settle.ensures.found c.settle.ensures.set c.settle.ensures.others in
    record {
      row = row-for old.board name (λ (x : Unit). Settles old name x (answered (unit_state x) c.args.value) c.settle.result new) is.unit is.there
          (subst (λ n. Settles old name is.unit (record (unit_state is.unit) { answers = is.unit.machine.answers ++ answer.Value c.args.value ∷ []; made = n }) c.settle.result new) made row);
      claims = claims-so old old (shared_of c.prepare.new.self) new name c.args.moved c.in_ok-ready.ready.machine c.args.value c.made_of-made.result c.settle.result c.requires.stands is refl is.there (same-claims old.board) refl
          at_base c.in_ok-ready.ensures.ready.given c.settle.ensures.found c.settle.ensures.set c.settle.ensures.others;
    }
