use Rattle.std.proofs.Common.{◌≡◌, ◌∙◌, refl, ap, subst, suc, length, ◌++◌, ◌∷◌, []}
use Rattle.world_steps.proofs.Settling.{at-unit, claims-so, row-for, same-claims, settled-so}
use Rattle.world_steps.specs.Kept.{shared_of}
use Rattle.ref_store.specs.Store.{committed, versions_of}
use Rattle.serial_model.specs.declared.answer.Answer.TheVariants as answer
use Rattle.serial_model.specs.declared.halt.Halt.TheVariants as halts
use Rattle.serial_model.specs.declared.request.Request.TheVariants as requests
use Rattle.serial_model.specs.Step.{next_made}
use Rattle.shared_world.specs.rows.Pieces.{Settles}
use Rattle.shared_world.specs.rows.Units.{UnitGives}
use Rattle.shared_world.specs.Shared.{Shared, unit_state}
use Rattle.unit_table.specs.declared.unit.Unit.{Unit}
use Rattle.value_core.specs.declared.value.Value.TheVariants as value
use Rattle.value_core.specs.Named.{made_by}
use Rattle.world_steps.proofs.kept.Kept.new_ref.Goals as goal

pub returns : goal.returns
returns c =
    let old = shared_of c.args.self.now in
    let new = shared_of c.settle.new.self in
    let name = c.args.name.now in
    let is = c.requires.unit in
    let made = at-unit old.board name (λ (x : Unit). c.made_of.result ≡ x.made) is.unit is.there c.made_of.ensures in
    let n = next_made name (unit_state is.unit) in
    let told : c.in_ok-made.field-0.told ≡ n = c.in_ok-made.ensures.told_is ∙ ap (made_by name) made in
    let named_so : c.in_ok-made.field-0.name ≡ n = c.in_ok-made.ensures.name_is ∙ ap (made_by name) made in
    let count : c.in_ok-made.field-0.count ≡ suc is.unit.made = c.in_ok-made.ensures.count_is ∙ ap suc made in
    let base = record old { versions = committed old.versions ((n, c.args.content) ∷ []) (suc (length old.history)) } in
    let before = record (shared_of c.prepare.new.self) { versions = c.commit.new.self.versions } in
    let number = c.in_ok-writes.number in
    let versions : c.commit.new.self.versions ≡ committed old.versions ((n, c.args.content) ∷ []) (suc (length old.history)) =
    c.commit.ensures.versions
    ∙ ap (λ vs. committed vs c.in_ok-writes.writes.items number) (c.in_ok-reserve.ensures.versions ∙ ap (λ (s : Shared). s.versions) c.in_ok-ready.ensures.same)
    ∙ ap (λ ws. committed old.versions ws number) (c.in_ok-writes.ensures.write ∙ ap (λ k. (k, c.args.content) ∷ []) named_so)
    ∙ ap (committed old.versions ((n, c.args.content) ∷ [])) c.in_ok-writes.ensures.number in
    let at_base : before ≡ base = ap (λ (s : Shared). record s { versions = c.commit.new.self.versions }) c.in_ok-ready.ensures.same ∙ ap (λ vs. record old { versions = vs }) versions in
    let row = settled-so old base before new name c.args.moved c.in_ok-ready.ready.machine (value.Ref c.in_ok-made.field-0.told) c.in_ok-made.field-0.count c.settle.result c.requires.stands is refl is.there (same-claims old.board) refl
    at_base c.in_ok-ready.ensures.ready.given c.settle.ensures.found c.settle.ensures.set c.settle.ensures.others in
    record {
      row = row-for old.board name (λ (x : Unit). UnitGives old name x (halts.Ask (requests.NewRef c.args.content) c.args.at) c.settle.result new) is.unit is.there (record {
        none = subst (λ k. versions_of old.versions k ≡ []) named_so c.in_ok-writes.ensures.none;
        settles = subst (λ k. Settles base name is.unit (record (unit_state is.unit) { answers = is.unit.machine.answers ++ answer.Value (value.Ref k) ∷ []; made = suc is.unit.made }) c.settle.result new) told
            (subst (λ m. Settles base name is.unit (record (unit_state is.unit) { answers = is.unit.machine.answers ++ answer.Value (value.Ref c.in_ok-made.field-0.told) ∷ []; made = m }) c.settle.result new) count row);
      });
      claims = claims-so old base before new name c.args.moved c.in_ok-ready.ready.machine (value.Ref c.in_ok-made.field-0.told) c.in_ok-made.field-0.count c.settle.result c.requires.stands is refl is.there (same-claims old.board) refl
          at_base c.in_ok-ready.ensures.ready.given c.settle.ensures.found c.settle.ensures.set c.settle.ensures.others;
    }
