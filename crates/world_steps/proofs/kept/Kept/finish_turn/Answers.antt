use Rattle.std.proofs.Common.{◌≡◌, ◌∙◌, refl, sym, ap, subst, ◌++◌, ◌∷◌, []}
use Rattle.std.specs.Option.{IsSome, option_map}
use Rattle.std.specs.Prelude.{IfSome, None, Some}
use Rattle.actor_mails.specs.Mails.{mail_at}
use Rattle.serial_model.specs.declared.entry.Entry.TheVariants.{Run}
use Rattle.serial_model.specs.Step.{after_turn}
use Rattle.shared_world.specs.declared.given.Given.TheVariants as given
use Rattle.shared_world.specs.rows.Actors.{FinishesTurn, actor_with}
use Rattle.shared_world.specs.Shared.{Shared, unit_state}
use Rattle.unit_table.specs.Board.{IsPutAt, SameClaims, unit_at}
use Rattle.unit_table.specs.declared.mark.Mark.TheVariants as mark
use Rattle.unit_table.specs.declared.piece.Piece.TheVariants as piece
use Rattle.unit_table.specs.declared.unit.Unit.{Unit}
use Rattle.value_core.specs.Named.{same_name}
use Rattle.world_steps.proofs.Acting.{apart-from, claims-from, unit-apart}
use Rattle.world_steps.proofs.Settling.{at-unit, finished-so, row-for, shift-claims}
use Rattle.world_steps.specs.Acting.{RestsAt}
use Rattle.world_steps.specs.Kept.{IsUnitOf, shared_of}
use Rattle.world_steps.proofs.kept.Kept.finish_turn.Goals as goal

pub free-requires : goal.free-requires
free-requires c = subst (λ (s : Shared). RestsAt s.board c.args.actor.now) (sym c.in_ok-make_room.ensures.same) c.in_ok-freed.ensures.at

pub move_to-requires-clause-there : goal.move_to-requires-clause-there
move_to-requires-clause-there c =
    let old = shared_of c.args.self.now in
    let is = c.requires.unit in
    let a = c.args.actor.now in
    let at = c.in_ok-freed.ensures.at in
    let board = c.free.new.units in
    let put = subst (λ (s : Shared). IsPutAt a (Some (actor_with c.in_ok-freed.freed (mail_at s.mails a))) s.board board) c.in_ok-make_room.ensures.same c.free.ensures.freed in
    subst IsSome (sym (unit-apart old.board board a _ c.args.name.now is.unit (apart-from old.board a c.args.name.now is.unit (Some (piece.Actor at.actor)) is.there at.there refl) is.there put)) refl

pub returns : goal.returns
returns c =
    let old = shared_of c.args.self.now in
    let name = c.args.name.now in
    let a = c.args.actor.now in
    let is = c.requires.unit in
    let at = c.in_ok-freed.ensures.at in
    let board = c.free.new.units in
    let base = record old { board = board } in
    let before = record (shared_of c.make_room.new.self) { board = board } in
    let at_base : before ≡ base = ap (λ (s : Shared). record s { board = board }) c.in_ok-make_room.ensures.same in
    let put = subst (λ (s : Shared). IsPutAt a (Some (actor_with c.in_ok-freed.freed (mail_at s.mails a))) s.board board) c.in_ok-make_room.ensures.same c.free.ensures.freed in
    let kept = subst (λ (s : Shared). SameClaims s.board board) c.in_ok-make_room.ensures.same c.free.ensures.claims in
    let there = unit-apart old.board board a _ name is.unit (apart-from old.board a name is.unit (Some (piece.Actor at.actor)) is.there at.there refl) is.there put in
    let is_base : IsUnitOf base name c.args.moved = record { unit = is.unit; there = there; same = is.same; of = is.of; unfinished = is.unfinished } in
    let new = record before { history = c.append.new.history.items; board = c.move_to.new.units } in
    let finished = mark.Finished c.args.value in
    let found = given.Settled c.in_ok-marks.marks.told in
    let made = at-unit old.board name (λ (x : Unit). c.made_of-made.result ≡ x.made) is.unit is.there c.made_of-made.ensures in
    let others : new ≡ record base { history = base.history ++ Run name ∷ []; board = new.board } =
    ap (λ h. record before { history = h; board = c.move_to.new.units }) (c.append.ensures ∙ ap (λ e. before.history ++ e ∷ []) c.in_ok-marks.ensures.entry)
    ∙ ap (λ (s : Shared). record s { history = s.history ++ Run name ∷ []; board = c.move_to.new.units }) at_base in
    let machine = c.requires.stands.machines name is.unit is.there in
    record {
      row = row-for old.board name (λ (x : Unit). FinishesTurn old name x a c.args.value found new) is.unit is.there (record {
        actor = at.actor;
        there = at.there;
        board = board;
        freed = subst (λ k. IsPutAt a (Some (actor_with k (mail_at old.mails a))) old.board board) (c.in_ok-freed.ensures.after_is is.unit is.there) put;
        settles = finished-so base before new name c.args.moved c.made_of-made.result finished is_base machine at_base made c.move_to.ensures c.args.value found refl (ap given.Settled c.in_ok-marks.ensures.told) others;
      });
      claims = claims-from (λ q. same_name q name) old new board kept (shift-claims base before new name c.args.moved c.made_of-made.result finished is_base machine at_base made c.move_to.ensures (ap (λ (s : Shared). s.end) others));
    }
