use Rattle.std.proofs.Common.{◌≡◌, ◌<◌, ◌∙◌, ◌++◌, ◌∷◌, [], ap, is_some, refl, subst, sym}
use Rattle.std.specs.Option.{IsSome}
use Rattle.std.specs.Prelude.{Some}
use Rattle.actor_mails.specs.Mails.{IsMailed, held, mail_at, room_at}
use Rattle.ahead_steps.proofs.Sent.{same-but, sent-came}
use Rattle.ahead_steps.proofs.sending.put_ahead.Goals as goal
use Rattle.ahead_steps.specs.Going.{IsGoingAt}
use Rattle.serial_model.specs.declared.request.Request.TheVariants as request
use Rattle.shared_world.specs.rows.Actors.{roused_unless}
use Rattle.shared_world.specs.Shared.{Shared}
use Rattle.unit_table.specs.Board.{IsPutAt, SameClaims, piece_at, unit_at}
use Rattle.value_core.specs.Named.{named}
use Rattle.value_core.specs.Placed.{filled}
use Rattle.world_steps.proofs.Acting.{copied-there, roused-units}
use Rattle.world_steps.specs.declared.kept.Kept.{Kept}
use Rattle.world_steps.specs.Kept.{shared_of}

pub put-requires : goal.put-requires
put-requires c = subst (λ (k : Kept). 0 < room_at k.mails c.in_ok-receiver.receiver) (sym c.in_ok-going.ensures.others) c.in_ok-reserve.ensures.room

pub go_on-requires : goal.go_on-requires
go_on-requires c =
    let units = ap (λ (k : Kept). unit_at k.units c.args.name.now) c.in_ok-going.ensures.others in
    subst IsSome (sym (roused-units c.is_some.result c.prepare.new.kept.units c.rouse_unless.new.units c.in_ok-receiver.receiver c.rouse_unless.ensures.roused c.args.name.now ∙ units ∙ c.requires.unit.there)) refl

pub returns : goal.returns
returns c =
    let old = shared_of c.args.kept.now in
    let after = c.prepare.new.kept in
    let receiver = c.in_ok-receiver.receiver in
    let others = c.in_ok-going.ensures.others in
    let asked = request.Send c.args.to c.args.args in
    let mails = held c.put.new.self in
    let board = c.rouse_unless.new.units in
    let mid = record (shared_of after) { mails = mails; board = board } in
    let reserved : record old { mails = held c.reserve.new.self } ≡ old = ap (λ m. record old { mails = m }) c.in_ok-reserve.ensures.mail in
    let same_mails : held after.mails ≡ old.mails = ap (λ (k : Kept). held k.mails) others ∙ c.in_ok-reserve.ensures.mail in
    let same_board : after.units ≡ old.board = ap (λ (k : Kept). k.units) others in
    let begun : c.is_some.result ≡ is_some (named receiver old.taken) = c.is_some.ensures ∙ copied-there c.get.result ∙ ap is_some (c.get.ensures ∙ ap (λ (k : Kept). named receiver (filled k.taken)) others) in
    sent-came old mid (record mid { board = c.go_on.new.units }) c.args.name.now c.args.moved c.args.to receiver c.args.args c.in_ok-message.message c.in_ok-going.going _ c.requires.stands c.requires.unit c.requires.puts c.in_ok-receiver.ensures c.in_ok-message.ensures
    (subst (λ (s : Shared). IsGoingAt s c.args.name.now c.args.moved asked c.in_ok-going.going) reserved c.in_ok-going.ensures.going) c.in_ok-going.ensures.held
    (ap (λ (k : Kept). record (shared_of k) { mails = mails; board = board }) others)
    (subst (λ ms. IsMailed receiver (mail_at ms receiver ++ c.in_ok-message.message ∷ []) ms mails) same_mails c.put.ensures.mail)
    (subst (λ g. IsPutAt receiver (roused_unless g (piece_at old.board receiver)) old.board board) begun (subst (λ b. IsPutAt receiver (roused_unless c.is_some.result (piece_at b receiver)) b board) same_board c.rouse_unless.ensures.roused))
    (subst (λ b. SameClaims b board) same_board c.rouse_unless.ensures.claims) refl c.go_on.ensures refl
