use Rattle.std.proofs.Common.{◌∙◌, drop, sym, arith}
use Rattle.rollback.proofs.Rooms.{link_is_there, link_passed, link_taken, room_after, room_for_one}
use Rattle.rollback.proofs.gathering.append_direct.Goals as goal
use Rattle.rollback.proofs.gathering.append_direct.Goals.{then-eq, else-eq}

pub append_once-requires-clause-room : goal.append_once-requires-clause-room
append_once-requires-clause-room c = λ new.
    room_for_one c.args.links.now (drop c.args.start c.loop-link.out.items) c.loop-link.out.room _ c.loop-link.invariant.fits
    (link_is_there c.args.links.now c.loop-link.link-index _ c.loop-link-test.true) new

pub loop-link-preserved : goal.loop-link-preserved
loop-link-preserved c = elim c.if-eq.branch [
  | then-eq w ↦
      let links = c.args.links.now in
      let i = c.loop-link.link-index in
      let start = c.args.start in
      let before = c.loop-link.out in
      let after = w.append_once.new.out in
      let kept = c.loop-link.invariant.room in
      let more = w.append_once.ensures.room in
      rw w.out-is (record {
        kept = w.append_once.ensures.kept ∙ c.loop-link.invariant.kept;
        start = w.append_once.ensures.start;
        added = link_taken links i _ c.args.on (drop start before.items) (drop start after.items) _ c.loop-link-test.true (sym c.eq.ensures ∙ w.if-eq.true) w.append_once.ensures.added c.loop-link.invariant.added;
        fits = room_after links before.items after.items start before.room after.room _ c.loop-link.invariant.fits (link_is_there links i _ c.loop-link-test.true) c.loop-link.invariant.start w.append_once.ensures.start more w.append_once.ensures.added;
        room = omega arith;
      })
  | else-eq w ↦
      rw w.out-is (record {
        kept = c.loop-link.invariant.kept;
        start = c.loop-link.invariant.start;
        added = link_passed c.args.links.now c.loop-link.link-index _ c.args.on (drop c.args.start c.loop-link.out.items) _ c.loop-link-test.true (sym c.eq.ensures ∙ w.if-eq.false) c.loop-link.invariant.added;
        fits = c.loop-link.invariant.fits;
        room = c.loop-link.invariant.room;
      })
]
