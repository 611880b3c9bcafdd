use Rattle.std.proofs.Common.{◌≡◌, ◌∙◌, refl, ap, subst, suc, ◌++◌, ◌∷◌, []}
use Rattle.std.specs.Prelude.{None, Some}
use Rattle.actor_mails.specs.Mails.{mail_at}
use Rattle.serial_model.specs.declared.answer.Answer.TheVariants as answer
use Rattle.serial_model.specs.Step.{idle}
use Rattle.shared_world.specs.rows.Actors.{Spawns, actor_with}
use Rattle.shared_world.specs.rows.Pieces.{Settles}
use Rattle.shared_world.specs.Shared.{Shared, unit_state}
use Rattle.unit_table.specs.Board.{IsPutAt, SameClaims, piece_at}
use Rattle.unit_table.specs.declared.unit.Unit.{Unit}
use Rattle.value_core.specs.declared.value.Value.TheVariants as value
use Rattle.world_steps.proofs.Acting.{apart-from, unit-apart}
use Rattle.world_steps.proofs.Settling.{claims-so, row-for, settled-so}
use Rattle.world_steps.specs.Kept.{shared_of}
use Rattle.world_steps.proofs.kept.Kept.add_spawned.Goals as goal

pub returns : goal.returns
returns c =
    let old = shared_of c.args.self.now in
    let new = shared_of c.settle.new.self in
    let name = c.args.name.now in
    let is = c.requires.unit in
    let made_so = c.requires.making.made is.unit is.there in
    let made = c.args.made in
    let board = c.add_actor.new.units in
    let actor = actor_with (idle c.args.behaviour c.args.state) (mail_at old.mails made.name) in
    let base = record old { board = board } in
    let before = record (shared_of c.prepare.new.self) { board = board } in
    let same_board : (shared_of c.prepare.new.self).board ≡ old.board = ap (λ (s : Shared). s.board) c.in_ok-ready.ensures.same in
    let put : IsPutAt made.name (Some actor) old.board board =
    subst (λ (s : Shared). IsPutAt made.name (Some (actor_with (idle c.args.behaviour c.args.state) (mail_at s.mails made.name))) s.board board) c.in_ok-ready.ensures.same
    (subst (λ k. IsPutAt made.name (Some (actor_with k (mail_at (shared_of c.prepare.new.self).mails made.name))) (shared_of c.prepare.new.self).board board) c.idle.ensures c.add_actor.ensures.added) in
    let there = unit-apart old.board board made.name (Some actor) name is.unit (apart-from old.board made.name name is.unit None is.there c.requires.making.none refl) is.there put in
    let kept = subst (λ b. SameClaims b board) same_board c.add_actor.ensures.claims in
    let at_base : before ≡ base = ap (λ (s : Shared). record s { board = board }) c.in_ok-ready.ensures.same in
    let row = settled-so old base before new name c.args.moved c.in_ok-ready.ready.machine (value.Actor made.told) made.count c.settle.result c.requires.stands is refl there kept refl
    at_base c.in_ok-ready.ensures.ready.given c.settle.ensures.found c.settle.ensures.set c.settle.ensures.others in
    record {
      row = row-for old.board name (λ (x : Unit). Spawns old name x c.args.behaviour c.args.state c.settle.result new) is.unit is.there (record {
        none = subst (λ n. piece_at old.board n ≡ None) made_so.name_is c.requires.making.none;
        board = board;
        put = subst (λ n. IsPutAt n (Some (actor_with (idle c.args.behaviour c.args.state) (mail_at old.mails n))) old.board board) made_so.name_is put;
        settles = subst (λ k. Settles base name is.unit (record (unit_state is.unit) { answers = is.unit.machine.answers ++ answer.Value (value.Actor k) ∷ []; made = suc is.unit.made }) c.settle.result new) made_so.told_is
            (subst (λ m. Settles base name is.unit (record (unit_state is.unit) { answers = is.unit.machine.answers ++ answer.Value (value.Actor made.told) ∷ []; made = m }) c.settle.result new) made_so.count_is row);
      });
      claims = claims-so old base before new name c.args.moved c.in_ok-ready.ready.machine (value.Actor made.told) made.count c.settle.result c.requires.stands is refl there kept refl
          at_base c.in_ok-ready.ensures.ready.given c.settle.ensures.found c.settle.ensures.set c.settle.ensures.others;
    }
