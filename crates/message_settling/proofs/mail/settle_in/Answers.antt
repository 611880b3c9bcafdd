use Rattle.std.proofs.Common.{◌+◌, ◌≤◌, ap, arith, le_trans, sym}
use Rattle.std.specs.Prelude.{not}
use Rattle.actor_mails.specs.Mails.{held, room_at}
use Rattle.message_settling.proofs.InMail.{mail-put, mail-settled}
use Rattle.message_settling.proofs.mail.settle_in.Goals as goal
use Rattle.value_core.specs.Named.{same_name}

pub returns-then-settle_first-clause-put : goal.returns-then-settle_first-clause-put
returns-then-settle_first-clause-put c = ap not c.if-settle_first.ensures.found

pub returns-then-settle_first-clause-mail : goal.returns-then-settle_first-clause-mail
returns-then-settle_first-clause-mail c = mail-settled c.args.to.now (same_name c.args.on.now) c.args.last (held c.args.mails.now) (held c.settle_first.new.self) (sym c.if-settle_first.ensures.found) c.if-settle_first.ensures.mail

pub returns-then-settle_first-clause-room : goal.returns-then-settle_first-clause-room
returns-then-settle_first-clause-room c = let keeps : room_at c.args.mails.now c.args.to.now ≤ room_at c.settle_first.new.self c.args.to.now = c.if-settle_first.ensures.room c.args.to.now in omega (arith, keeps)

pub returns-then-settle_first-clause-kept : goal.returns-then-settle_first-clause-kept
returns-then-settle_first-clause-kept c q other = c.if-settle_first.ensures.room q

pub returns-else-settle_first-clause-put : goal.returns-else-settle_first-clause-put
returns-else-settle_first-clause-put c = ap not c.if-settle_first.ensures.found

pub returns-else-settle_first-clause-mail : goal.returns-else-settle_first-clause-mail
returns-else-settle_first-clause-mail c =
    mail-put c.args.to.now (same_name c.args.on.now) c.args.last (held c.args.mails.now) (held c.settle_first.new.self) (held c.put.new.self) (sym c.if-settle_first.ensures.found) c.if-settle_first.ensures.mail c.put.ensures.mail

pub returns-else-settle_first-clause-room : goal.returns-else-settle_first-clause-room
returns-else-settle_first-clause-room c =
    let keeps : room_at c.args.mails.now c.args.to.now ≤ room_at c.settle_first.new.self c.args.to.now = c.if-settle_first.ensures.room c.args.to.now in
    let less : room_at c.settle_first.new.self c.args.to.now ≤ room_at c.put.new.self c.args.to.now + 1 = c.put.ensures.room in
    omega (arith, keeps, less)

pub returns-else-settle_first-clause-kept : goal.returns-else-settle_first-clause-kept
returns-else-settle_first-clause-kept c q other = let keeps = c.if-settle_first.ensures.room q in let then_keeps = c.put.ensures.kept q other in le_trans keeps then_keeps
