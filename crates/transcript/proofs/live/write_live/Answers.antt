use Rattle.std.proofs.Common.{subst, sym}
use Rattle.std.proofs.lemmas.Result.{IfOk-at_ok}
use Rattle.transcript.proofs.live.write_live.Goals as goal
use Rattle.transcript.proofs.Printed.{replayed}
use Rattle.transcript.proofs.Writing.{all-written, more-written, where-ok}
use Rattle.transcript.specs.Written.{IsBehind}

pub returns-in-Ok-clause-replays : goal.returns-in-Ok-clause-replays
returns-in-Ok-clause-replays g c =
    replayed c.args.lock.now.setup c.bytes_behind-seat.result.seat.seen c.bytes_behind-seat.result.total c.bytes_behind-seat.ensures.printed

pub returns-in-Err-clause-replays : goal.returns-in-Err-clause-replays
returns-in-Err-clause-replays g c =
    replayed c.args.lock.now.setup c.bytes_behind-seat.result.seat.seen c.bytes_behind-seat.result.total c.bytes_behind-seat.ensures.printed

pub returns-in-Ok-clause-kept : goal.returns-in-Ok-clause-kept
returns-in-Ok-clause-kept g c = λ start h.
    more-written c.args.lock.now.setup start (g.K.Sink.seen c.args.sink.now).taken (g.K.Sink.seen c.write_behind-result.new.sink).taken c.args.seat.seen c.bytes_behind-seat.result.seat.seen
    c.bytes_behind-seat.ensures.seen c.args.written.now c.as_slice.result.now c.bytes_behind-seat.result.total c.bytes_behind-seat.ensures.printed
    (subst (IsBehind c.args.lock.now.setup c.bytes_behind-seat.result.seat.seen c.args.written.now) (sym c.as_slice.ensures.value) (IfOk-at_ok _ c.in-Ok.is c.bytes_behind-seat.ensures.bytes)) h c.write_behind-result.new.written c.write_behind-result.ensures.taken

pub returns-in-Ok-clause-whole : goal.returns-in-Ok-clause-whole
returns-in-Ok-clause-whole g c = where-ok c.write_behind-result.result _ _ (λ taken start h.
    all-written c.args.lock.now.setup start (g.K.Sink.seen c.args.sink.now).taken (g.K.Sink.seen c.write_behind-result.new.sink).taken c.args.seat.seen c.bytes_behind-seat.result.seat.seen
    c.bytes_behind-seat.ensures.seen c.args.written.now c.as_slice.result.now c.bytes_behind-seat.result.total c.bytes_behind-seat.ensures.printed
    (subst (IsBehind c.args.lock.now.setup c.bytes_behind-seat.result.seat.seen c.args.written.now) (sym c.as_slice.ensures.value) (IfOk-at_ok _ c.in-Ok.is c.bytes_behind-seat.ensures.bytes)) h c.write_behind-result.new.written taken) c.write_behind-result.ensures.whole
