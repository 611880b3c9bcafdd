use Rattle.std.proofs.Common.{subst, take, take_all, arith}
use Rattle.std.specs.Prelude.{All}
use Rattle.std.proofs.lemmas.List.Elements.{All-more}
use Rattle.value_core.specs.declared.value.Value.{Value}
use Rattle.value_core.specs.Named.{Name, Named}
use Rattle.ref_store.specs.Places.{room_in}
use Rattle.ref_store.specs.Store.{HasRoom}
use Rattle.ref_store.proofs.PlaceLaws.{reserved_more, reserved_room}
use Rattle.ref_store.proofs.store.reserve.Goals as goal

pub loop-write-preserved : goal.loop-write-preserved
loop-write-preserved c =
    let writes = c.args.writes.now in
    let new = c.reserve_one.new.refs.entries in
    record {
      reserved = reserved_more c.args.refs.now.entries c.loop-write.refs.entries new c.loop-write.invariant.reserved c.in_ok-reserve_one.ensures.reserved;
      watched = λ watched. c.in_ok-reserve_one.ensures.watched (c.loop-write.invariant.watched watched);
      room = All-more (λ (w : Name × Value). HasRoom w.0 (room_in new)) writes c.loop-write.write-index c.write-item.result (omega arith)
          (reserved_room (take c.loop-write.write-index writes) c.loop-write.refs.entries new c.in_ok-reserve_one.ensures.reserved c.loop-write.invariant.room)
          (subst (λ (w : Name × Value). HasRoom w.0 (room_in new)) c.write-item.is c.in_ok-reserve_one.ensures.room);
    }

pub returns-clause-room : goal.returns-clause-room
returns-clause-room c =
    subst (λ (ws : Named Value). All (λ (w : Name × Value). HasRoom w.0 (room_in c.loop-write.refs.entries)) ws) (take_all c.loop-write.write-index c.args.writes.now (omega arith)) c.loop-write.invariant.room

pub returns-in_err-reserve_one-clause-watched : goal.returns-in_err-reserve_one-clause-watched
returns-in_err-reserve_one-clause-watched c = λ watched. c.reserve_one.ensures.watched (c.loop-write.invariant.watched watched)
