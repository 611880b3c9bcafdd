use Rattle.value_core.proofs.PairLaws.{rise_next}
use Rattle.value_core.proofs.value.+copy.Goals as goal

pub copy_pairs-append-requires : goal.copy_pairs-append-requires
copy_pairs-append-requires t c =
    rise_next c.items-pair-items.result.now _ c.loop-pair.pair-index c.pair-item.result _ _ c.loop-pair.invariant.rising c.loop-pair-test.true c.loop-pair.invariant.done c.pair-item.is
    c.in_ok-copy.ensures c.in_ok-copy-2.ensures
