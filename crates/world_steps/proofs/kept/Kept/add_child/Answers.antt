use Rattle.std.proofs.Common.{◌≡◌, ◌∙◌, refl, ap, subst, suc, ◌++◌, ◌∷◌, []}
use Rattle.std.specs.Prelude.{None, Some}
use Rattle.world_steps.proofs.Settling.{claims-so, row-for, settled-so}
use Rattle.world_steps.specs.Kept.{shared_of}
use Rattle.serial_model.specs.declared.answer.Answer.TheVariants as answer
use Rattle.shared_world.specs.rows.Pieces.{Settles}
use Rattle.shared_world.specs.rows.Units.{Forks}
use Rattle.shared_world.specs.Shared.{Shared, unit_state}
use Rattle.world_steps.proofs.Forking.{still-there}
use Rattle.unit_table.specs.declared.mark.Mark.TheVariants as mark
use Rattle.unit_table.specs.declared.unit.Unit.{Unit}
use Rattle.unit_table.specs.declared.unit.UnitKind.TheVariants as kind
use Rattle.unit_table.specs.declared.mark.Work.TheVariants as work
use Rattle.unit_table.specs.declared.piece.Piece.TheVariants as piece
use Rattle.unit_table.specs.Board.{IsPutAt, SameClaims, piece_at}
use Rattle.serial_model.specs.State.{new_unit}
use Rattle.world_steps.specs.Moved.{IsPlainPut}
use Rattle.value_core.specs.declared.value.Value.TheVariants as value
use Rattle.world_steps.proofs.kept.Kept.add_child.Goals as goal

pub returns : goal.returns
returns c =
    let old = shared_of c.args.self.now in
    let new = shared_of c.settle.new.self in
    let name = c.args.name.now in
    let is = c.requires.unit in
    let made_so = c.requires.forking.made is.unit is.there in
    let forked = c.args.forking.made in
    let board = c.add_plain.new.units in
    let base = record old { made = suc old.made; board = board } in
    let before = record (shared_of c.prepare.new.self) { board = board; made = c.args.forking.units } in
    let same_board : (shared_of c.prepare.new.self).board ≡ old.board = ap (λ (s : Shared). s.board) c.in_ok-ready.ensures.same in
    let put = subst (λ b. IsPlainPut forked.name c.args.child b board) same_board c.add_plain.ensures.added in
    let there = still-there old.board board forked.name c.args.child name is.unit is.there c.requires.forking.none put in
    let kept = subst (λ b. SameClaims b board) same_board c.add_plain.ensures.claims in
    let at_base : before ≡ base =
    ap (λ (s : Shared). record s { board = board; made = c.args.forking.units }) c.in_ok-ready.ensures.same ∙ ap (λ m. record old { board = board; made = m }) c.requires.forking.units in
    let row = settled-so old base before new name c.args.moved c.in_ok-ready.ready.machine (value.Future forked.told) forked.count c.settle.result c.requires.stands is refl there kept refl
    at_base c.in_ok-ready.ensures.ready.given c.settle.ensures.found c.settle.ensures.set c.settle.ensures.others in
    record {
      row = row-for old.board name (λ (x : Unit). Forks old name x c.args.child.body c.args.child.values c.settle.result new) is.unit is.there (record {
        none = subst (λ n. piece_at old.board n ≡ None) made_so.name_is c.requires.forking.none;
        child = record { name = forked.name; kind = kind.Plain; machine = c.args.child; made = 0; becomes = None; mark = mark.Ready work.Eval };
        board = board;
        begins = record {
          state = ap (λ as_given. record (new_unit None c.args.child.body c.args.child.values) { answers = as_given }) c.requires.begins.none;
          machine = c.requires.begins.is;
          mark = refl;
        };
        put = subst (λ n. IsPutAt n (Some (piece.Unit (record { name = forked.name; kind = kind.Plain; machine = c.args.child; made = 0; becomes = None; mark = mark.Ready work.Eval }))) old.board board) made_so.name_is put;
        settles = subst (λ k. Settles base name is.unit (record (unit_state is.unit) { answers = is.unit.machine.answers ++ answer.Value (value.Future k) ∷ []; made = suc is.unit.made }) c.settle.result new) made_so.told_is
            (subst (λ m. Settles base name is.unit (record (unit_state is.unit) { answers = is.unit.machine.answers ++ answer.Value (value.Future forked.told) ∷ []; made = m }) c.settle.result new) made_so.count_is row);
      });
      claims = claims-so old base before new name c.args.moved c.in_ok-ready.ready.machine (value.Future forked.told) forked.count c.settle.result c.requires.stands is refl there kept refl
          at_base c.in_ok-ready.ensures.ready.given c.settle.ensures.found c.settle.ensures.set c.settle.ensures.others;
    }
