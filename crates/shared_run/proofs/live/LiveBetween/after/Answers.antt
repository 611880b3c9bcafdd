use Rattle.std.proofs.Common.{◌≡◌, ◌∙◌, ap, subst, arith}
use Rattle.shared_run.proofs.live.LiveBetween.after.Goals as goal
use Rattle.shared_run.proofs.Wrote.{has_written, known_setup, seen_written}
use Rattle.transcript.proofs.Writing.{longer-written}
use Rattle.world_io.specs.Counts.{Rose}

pub invariant_of-self : goal.invariant_of-self
invariant_of-self g c =
    let live = c.args.self.now in
    let setup = c.args.lock.now.setup in
    let start = (g.K.Sink.seen live.first.value).taken in
    let old = g.K.Sink.seen live.sink.now in
    let new = g.K.Sink.seen c.write_live-seat.new.sink in
    let seen = c.write_live-seat.result.seat.seen in
    let written = c.write_live-seat.new.written in
    let was = has_written setup start old.taken live.written live.at.value (known_setup setup live.at.value live.replays c.requires.under) live.replays live.within live.taken in
    let is = c.write_live-seat.ensures.kept start (longer-written setup start old.taken new.taken live.at.value.seen c.args.seat.seen c.requires.used live.written was) in
    let facts = seen_written setup start new.taken written seen is c.of.result.value
    (ap (λ s. s.setup) c.of.ensures ∙ c.write_live-seat.ensures.of.setup) (ap (λ s. s.seen) c.of.ensures) c.write_live-seat.ensures.replays in
    let same : old.faults ≡ (g.K.Sink.seen live.first.value).faults = live.unfailed c.if-self.false in
    record {
      replays = facts.0;
      within = facts.1;
      taken = facts.2;
      unfailed = λ e. c.has_failed-self.ensures.unfailed old.faults new.faults c.write_live-seat.ensures.counts e ∙ same;
      rose = λ e. subst (λ n. Rose n new.faults) same (c.has_failed-self.ensures.rose old.faults new.faults c.write_live-seat.ensures.counts e);
      later = omega (arith, live.later, c.write_live-seat.ensures.faults_later);
    }
