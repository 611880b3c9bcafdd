use Rattle.std.proofs.Common.{◌≡◌, ◌∙◌, refl, sym, ap, subst, ◌++◌, ◌∷◌, []}
use Rattle.std.specs.Option.{IsSome, is_some}
use Rattle.std.specs.Prelude.{None, Some}
use Rattle.actor_mails.specs.Mails.{IsMailed, held, mail_at}
use Rattle.serial_model.specs.declared.answer.Answer.TheVariants as answer
use Rattle.serial_model.specs.declared.halt.Halt.TheVariants as halts
use Rattle.serial_model.specs.declared.request.Request.TheVariants as requests
use Rattle.shared_world.specs.rows.Actors.{Sends, roused_unless}
use Rattle.shared_world.specs.rows.Pieces.{Settles}
use Rattle.shared_world.specs.rows.Units.{UnitGives}
use Rattle.shared_world.specs.Shared.{Shared, unit_state}
use Rattle.unit_table.specs.Board.{IsPutAt, SameClaims, piece_at}
use Rattle.unit_table.specs.declared.unit.Unit.{Unit}
use Rattle.value_core.specs.declared.value.Value.TheVariants as value
use Rattle.value_core.specs.Named.{named}
use Rattle.world_model.specs.Message.{settled}
use Rattle.world_steps.proofs.Acting.{copied-there, roused-units}
use Rattle.world_steps.proofs.Settling.{at-unit, claims-so, row-for, settled-so}
use Rattle.world_steps.specs.Kept.{shared_of}
use Rattle.world_steps.proofs.kept.Kept.send.Goals as goal

pub settle-requires-clause-there : goal.settle-requires-clause-there
settle-requires-clause-there c =
    let old = shared_of c.args.self.now in
    let same_board = ap (λ (s : Shared). s.board) c.in_ok-ready.ensures.same in
    let begun = c.is_some.result in
    let rouses = subst (λ b. IsPutAt c.args.to.now (roused_unless begun (piece_at b c.args.to.now)) b c.rouse_unless.new.units) same_board c.rouse_unless.ensures.roused in
    subst IsSome (sym (roused-units begun old.board c.rouse_unless.new.units c.args.to.now rouses c.args.name.now ∙ c.requires.unit.there)) refl

pub returns : goal.returns
returns c =
    let old = shared_of c.args.self.now in
    let new = shared_of c.settle.new.self in
    let name = c.args.name.now in
    let to = c.args.to.now in
    let is = c.requires.unit in
    let mid = shared_of c.prepare.new.self in
    let mails = held c.put.new.self in
    let board = c.rouse_unless.new.units in
    let base = record old { board = board; mails = mails } in
    let before = record mid { board = board; mails = mails } in
    let mid_is : mid ≡ record old { mails = mid.mails } = c.in_ok-ready.ensures.same ∙ ap (λ (s : Shared). record old { mails = s.mails }) (sym c.in_ok-ready.ensures.same) in
    let same_mails : mid.mails ≡ old.mails = ap (λ (s : Shared). s.mails) c.in_ok-ready.ensures.same ∙ c.in_ok-reserve.ensures.mail in
    let same_board : mid.board ≡ old.board = ap (λ (s : Shared). s.board) mid_is in
    let at_base : before ≡ base = ap (λ (s : Shared). record s { board = board; mails = mails }) mid_is in
    let mailed : IsMailed to (mail_at old.mails to ++ settled name c.args.args ∷ []) old.mails mails =
    subst (λ m. IsMailed to (mail_at m to ++ settled name c.args.args ∷ []) m mails) same_mails
    (subst (λ n. IsMailed to (mail_at mid.mails to ++ settled n c.args.args ∷ []) mid.mails mails) c.in_ok-sender.ensures c.put.ensures.mail) in
    let taken : mid.taken ≡ old.taken = ap (λ (s : Shared). s.taken) mid_is in
    let begun : c.is_some.result ≡ is_some (named to old.taken) = c.is_some.ensures ∙ copied-there c.get.result ∙ ap is_some (c.get.ensures ∙ ap (named to) taken) in
    let rouses : IsPutAt to (roused_unless (is_some (named to old.taken)) (piece_at old.board to)) old.board board =
    subst (λ g. IsPutAt to (roused_unless g (piece_at old.board to)) old.board board) begun
    (subst (λ b. IsPutAt to (roused_unless c.is_some.result (piece_at b to)) b board) same_board c.rouse_unless.ensures.roused) in
    let there = roused-units (is_some (named to old.taken)) old.board board to rouses name ∙ is.there in
    let kept : SameClaims old.board board = subst (λ b. SameClaims b board) same_board c.rouse_unless.ensures.claims in
    let made = at-unit old.board name (λ (x : Unit). c.made_of-made.result ≡ x.made) is.unit is.there c.made_of-made.ensures in
    let row = settled-so old base before new name c.args.moved c.in_ok-ready.ready.machine value.Nil c.made_of-made.result c.settle.result c.requires.stands is refl there kept refl
    at_base c.in_ok-ready.ensures.ready.given c.settle.ensures.found c.settle.ensures.set c.settle.ensures.others in
    record {
      row = row-for old.board name (λ (x : Unit). Sends old name x to c.args.args c.settle.result new) is.unit is.there (record {
        mails = mails;
        mailed = mailed;
        board = board;
        rouses = rouses;
        settles = subst (λ n. Settles base name is.unit (record (unit_state is.unit) { answers = is.unit.machine.answers ++ answer.Value value.Nil ∷ []; made = n }) c.settle.result new) made row;
      });
      claims = claims-so old base before new name c.args.moved c.in_ok-ready.ready.machine value.Nil c.made_of-made.result c.settle.result c.requires.stands is refl there kept refl
          at_base c.in_ok-ready.ensures.ready.given c.settle.ensures.found c.settle.ensures.set c.settle.ensures.others;
    }
