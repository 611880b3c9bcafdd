use Rattle.std.proofs.Common.{◌∙◌, ap}
use Rattle.attempt_commits.proofs.Effects.{on-ok}
use Rattle.attempt_commits.proofs.Letters.{turn-put}
use Rattle.attempt_commits.proofs.doing.add_turn.Goals as goal
use Rattle.value_core.specs.Named.{with_named}
use Rattle.value_core.specs.Placed.{filled}

pub returns : goal.returns
returns c =
    let turn = c.in_ok-turn.turn in
    let old = c.args.turns.now.entries in
    on-ok c.put.result
    (λ put. turn-put c.args.root.now c.args.to.now turn (filled c.args.kept.now.taken) c.args.kept.now.units old c.put.new.map.entries c.in_ok-turn.ensures (put ∙ ap (λ n. with_named old n turn) c.in_ok-copy.ensures))
    c.put.ensures.put
