use Rattle.std.proofs.Common.{take}
use Rattle.ref_store.specs.Places.{room_in, AreWatched, IsReserved}
use Rattle.ref_store.specs.Store.{HasRoomFor}
use Rattle.ref_store.proofs.store.reserve.Given as goal

abbrev pub invariant-loop-write : goal.invariant-loop-write
invariant-loop-write l = record {
  reserved : IsReserved l.initial.refs.entries l.refs.entries;
  watched : AreWatched l.initial.watched.items l.initial.refs.entries → AreWatched l.watched.items l.refs.entries;
  room : HasRoomFor (take l.write-index l.writes) (room_in l.refs.entries);
}
