use Rattle.ahead_settling.proofs.Lefts.{settling-still}
use Rattle.std.proofs.Common.{◌≡◌, ◌∙◌, ap, subst, sym}
use Rattle.std.specs.Option.{is_some}
use Rattle.actor_mails.specs.Mails.{IsMailed, held, mail_at}
use Rattle.ahead_settling.proofs.Sending.{mailed-first, mailed-there, mailed-waiters}
use Rattle.ahead_settling.proofs.sends.settle_mailed.Goals as goal
use Rattle.shared_world.specs.rows.Actors.{roused_unless}
use Rattle.shared_world.specs.Shared.{Shared}
use Rattle.unit_table.specs.Board.{IsPutAt, piece_at}
use Rattle.value_core.specs.Named.{named, same_name}
use Rattle.world_model.specs.Message.{settle_or_put, settled}
use Rattle.world_steps.proofs.Acting.{copied-there}
use Rattle.world_steps.specs.Kept.{shared_of}

pub finish-requires-clause-settling : goal.finish-requires-clause-settling
finish-requires-clause-settling c =
    settling-still c.prepare.new.kept.history.room c.prepare.new.kept.units c.rouse_unless.new.units c.prepare.new.kept.attempts.entries c.prepare.new.kept.aheads.entries c.args.name.now c.in_ok-settling.settling c.rouse_unless.ensures.places c.in_ok-settling.ensures.settling

pub finish-requires-clause-there : goal.finish-requires-clause-there
finish-requires-clause-there c =
    let same = c.in_ok-settling.ensures.same ∙ ap (λ m. record (shared_of c.args.kept.now) { mails = m }) c.in_ok-reserve.ensures.mail in
    mailed-there (shared_of c.args.kept.now) (shared_of c.prepare.new.kept) c.args.name.now c.args.to.now c.is_some.result c.rouse_unless.new.units c.requires.opened same c.rouse_unless.ensures.roused

pub finish-requires-clause-waiters : goal.finish-requires-clause-waiters
finish-requires-clause-waiters c =
    let same = c.in_ok-settling.ensures.same ∙ ap (λ m. record (shared_of c.args.kept.now) { mails = m }) c.in_ok-reserve.ensures.mail in
    mailed-waiters (shared_of c.args.kept.now) (shared_of c.prepare.new.kept) c.args.name.now c.args.to.now c.is_some.result c.rouse_unless.new.units c.requires.opened same c.rouse_unless.ensures.roused

pub returns : goal.returns
returns c =
    let old = shared_of c.args.kept.now in
    let prep = shared_of c.prepare.new.kept in
    let name = c.args.name.now in
    let to = c.args.to.now in
    let same = c.in_ok-settling.ensures.same ∙ ap (λ m. record old { mails = m }) c.in_ok-reserve.ensures.mail in
    let mailed : IsMailed to (settle_or_put (same_name name) (settled name c.args.args) (mail_at prep.mails to)) prep.mails (held c.settle_in.new.mails) =
    subst (λ n. IsMailed to (settle_or_put (same_name name) (settled n c.args.args) (mail_at prep.mails to)) prep.mails (held c.settle_in.new.mails)) c.in_ok-sender.ensures c.settle_in.ensures.mail in
    let begun : c.is_some.result ≡ is_some (named to prep.taken) = c.is_some.ensures ∙ copied-there c.get.result ∙ ap is_some c.get.ensures in
    let put : IsPutAt to (roused_unless (is_some (named to prep.taken)) (piece_at prep.board to)) prep.board c.rouse_unless.new.units =
    subst (λ b. IsPutAt to (roused_unless b (piece_at prep.board to)) prep.board c.rouse_unless.new.units) begun c.rouse_unless.ensures.roused in
    mailed-first old prep (shared_of c.finish.new.kept) name to c.args.args (held c.settle_in.new.mails) c.rouse_unless.new.units c.finish.result c.requires.opened same c.requires.taken mailed put c.rouse_unless.ensures.claims
    c.finish.ensures.leaves c.finish.ensures.unlent c.finish.ensures.end
