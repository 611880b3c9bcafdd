use Rattle.std.proofs.Common.{◌≡◌, ◌∙◌, refl, ap, subst, ◌++◌, ◌∷◌, []}
use Rattle.world_steps.proofs.Settling.{at-unit, claims-so, row-for, same-claims, settled-so}
use Rattle.world_steps.specs.Kept.{shared_of}
use Rattle.serial_model.specs.declared.answer.Answer.TheVariants as answer
use Rattle.serial_model.specs.declared.halt.Halt.TheVariants as halts
use Rattle.serial_model.specs.declared.request.Request.TheVariants as requests
use Rattle.shared_world.specs.rows.Pieces.{Settles}
use Rattle.shared_world.specs.rows.Units.{UnitGives}
use Rattle.shared_world.specs.Shared.{Shared, unit_state}
use Rattle.unit_table.specs.declared.unit.Unit.{Unit}
use Rattle.value_core.specs.declared.value.Value.TheVariants as value
use Rattle.world_steps.proofs.kept.Kept.print.Goals as goal

pub returns : goal.returns
returns c =
    let old = shared_of c.args.self.now in
    let new = shared_of c.settle.new.self in
    let name = c.args.name.now in
    let is = c.requires.unit in
    let base = record old { bytes = old.bytes ++ c.args.text.now } in
    let before = record (shared_of c.prepare.new.self) { bytes = c.extend_from_slice.new.self.items } in
    let bytes : c.extend_from_slice.new.self.items ≡ old.bytes ++ c.args.text.now =
    c.in_ok-extend_from_slice.ensures.items ∙ ap (λ t. c.prepare.new.self.output.items ++ t) c.items.ensures ∙ ap (λ (s : Shared). s.bytes ++ c.args.text.now) c.in_ok-ready.ensures.same in
    let at_base : before ≡ base = ap (λ (s : Shared). record s { bytes = c.extend_from_slice.new.self.items }) c.in_ok-ready.ensures.same ∙ ap (λ b. record old { bytes = b }) bytes in
    let made = at-unit old.board name (λ (x : Unit). c.made_of-made.result ≡ x.made) is.unit is.there c.made_of-made.ensures in
    let row = settled-so old base before new name c.args.moved c.in_ok-ready.ready.machine value.Nil c.made_of-made.result c.settle.result c.requires.stands is refl is.there (same-claims old.board) refl
    at_base c.in_ok-ready.ensures.ready.given c.settle.ensures.found c.settle.ensures.set c.settle.ensures.others in
    record {
      row = row-for old.board name (λ (x : Unit). UnitGives old name x (halts.Ask (requests.Print c.args.text.now) c.args.at) c.settle.result new) is.unit is.there
          (subst (λ n. Settles base name is.unit (record (unit_state is.unit) { answers = is.unit.machine.answers ++ answer.Value value.Nil ∷ []; made = n }) c.settle.result new) made row);
      claims = claims-so old base before new name c.args.moved c.in_ok-ready.ready.machine value.Nil c.made_of-made.result c.settle.result c.requires.stands is refl is.there (same-claims old.board) refl
          at_base c.in_ok-ready.ensures.ready.given c.settle.ensures.found c.settle.ensures.set c.settle.ensures.others;
    }
