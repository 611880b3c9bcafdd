use Rattle.std.proofs.Common.{◌≡◌, ◌∙◌, ◌-◌, ◌≤◌, ◌<◌, ap, drop, length, subst, arith}
use Rattle.std.proofs.lemmas.List.{take_all}
use Rattle.rollback.proofs.Gathered.{begun, few_appended, gathered, gone_on, no_shorter, read_there, room_for_none}
use Rattle.rollback.proofs.Closing.{IsClosing}
use Rattle.rollback.proofs.gathering.gather.Goals as goal

pub append_direct-requires-clause-fits : goal.append_direct-requires-clause-fits
append_direct-requires-clause-fits c =
    room_for_none c.args.links.now c.args.out.now.items (length c.items-start.result.now) c.args.out.now.room (ap length c.items-start.ensures) c.requires

pub loop-next-init : goal.loop-next-init
loop-next-init c =
    let start = length c.items-start.result.now in
    let is : length c.items-start.result.now ≡ length c.args.out.now.items = ap length c.items-start.ensures in
    let none : 0 ≡ start - start = omega arith in
    record {
      start = is;
      kept = c.append_direct.ensures.kept ∙ take_all start c.args.out.now.items (omega arith);
      after = omega arith;
      within = c.append_direct.ensures.start;
      fits = c.append_direct.ensures.fits;
      closing = subst (λ done. IsClosing c.args.links.now c.args.of (drop start c.append_direct.new.out.items) done) none
          (begun c.args.links.now c.args.of c.args.out.now.items c.append_direct.new.out.items start is c.append_direct.ensures.added);
      room = c.append_direct.ensures.room;
    }

pub loop-next-smaller : goal.loop-next-smaller
loop-next-smaller c =
    let few = few_appended c.args.links.now c.loop-next.out.items (length c.items-start.result.now) c.loop-next.out.room (omega arith) c.loop-next.invariant.fits in
    let listed : length c.items.result.now ≡ length c.loop-next.out.items = ap length c.items.ensures in
    omega arith

pub loop-next-preserved : goal.loop-next-preserved
loop-next-preserved c =
    let start = length c.items-start.result.now in
    let before = c.loop-next.out.items in
    let after = c.append_direct-in-loop-next.new.out.items in
    let kept = c.loop-next.invariant.room in
    let more = c.append_direct-in-loop-next.ensures.room in
    let listed : length c.items.result.now ≡ length c.loop-next.out.items = ap length c.items.ensures in
    let within : c.loop-next.next < length c.loop-next.out.items = omega arith in
    let longer : length c.loop-next.out.items ≤ length c.append_direct-in-loop-next.new.out.items =
    no_shorter c.args.links.now _ before after start (omega arith) c.append_direct-in-loop-next.ensures.start c.append_direct-in-loop-next.ensures.added in
    record {
      start = c.loop-next.invariant.start;
      kept = c.append_direct-in-loop-next.ensures.kept ∙ c.loop-next.invariant.kept;
      after = omega arith;
      within = omega arith;
      fits = c.append_direct-in-loop-next.ensures.fits;
      closing = gone_on c.args.links.now c.args.of _ before after start c.loop-next.next c.loop-next.invariant.closing c.loop-next.invariant.after within
          (read_there c.items-in-loop-next.result.now before c.loop-next.next _ c.items-in-loop-next.ensures within) c.append_direct-in-loop-next.ensures.added;
      room = omega arith;
    }

pub returns-clause-appended : goal.returns-clause-appended
returns-clause-appended c =
    let listed = ap length c.items.ensures in
    gathered c.args.links.now c.args.of c.args.out.now.items c.loop-next.out.items (length c.items-start.result.now) c.loop-next.next c.loop-next.out.room
    c.loop-next.invariant.start c.loop-next.invariant.kept c.loop-next.invariant.after (omega arith) c.loop-next.invariant.fits c.loop-next.invariant.closing

pub returns-clause-room : goal.returns-clause-room
returns-clause-room c =
    let few = few_appended c.args.links.now c.loop-next.out.items (length c.items-start.result.now) c.loop-next.out.room (omega arith) c.loop-next.invariant.fits in
    let kept = c.loop-next.invariant.room in
    omega arith
