use Rattle.std.proofs.Common.{◌∙◌, sym, arith}
use Rattle.ref_store.proofs.PruneLaws.{whole_last, whole_read}
use Rattle.ref_store.proofs.versions.drop_unread.Goals as goal
use Rattle.ref_store.proofs.versions.drop_unread.Goals.{else-next-len-via-then-next-len+else-not-any_between, else-next-len-via-else-next-len}

pub returns-else-next-len-clause-items : goal.returns-else-next-len-clause-items
returns-else-next-len-clause-items g c =
    elim c.else-next-len.branch [
      | else-next-len-via-then-next-len+else-not-any_between w ↦
          whole_read (g.L.Live.numbers c.args.live.now) c.args.versions.now.items c.args.index w.index.result.now w.index-then-next-len.result.now (omega arith) w.index.ensures w.index-then-next-len.ensures (sym w.any_between.ensures ∙ w.if-not-any_between.false)
      | else-next-len-via-else-next-len w ↦ whole_last (g.L.Live.numbers c.args.live.now) c.args.versions.now.items c.args.index c.requires.at (omega arith)
    ]
