use Rattle.std.proofs.Common.{◌≡◌, ◌∙◌, ◌≤◌, ap, subst, sym}
use Rattle.std.proofs.lemmas.Bool.{le-leb, leb-true}
use Rattle.std.specs.Prelude.{◌-◌, length}
use Rattle.ahead_steps.proofs.Sent.{none-kept}
use Rattle.ahead_steps.proofs.sending.all_put.Goals as goal
use Rattle.shared_world.specs.Seen.{one_or_none}
use Rattle.turns_ahead.specs.Leading.{ahead_of}
use Rattle.world_model.specs.Message.{unsettled}
use Rattle.world_steps.specs.Kept.{shared_of}

pub returns : goal.returns
returns c =
    let sent = c.count_sends.result in
    let taken = c.count_taken-taken.result in
    let mailed = c.unsettled_of-mailed.result in
    let left : c.saturating_sub.result ≡ sent - taken = c.saturating_sub.ensures in
    let taken_is = c.count_taken-taken.ensures ∙ ap (λ m. length (unsettled c.args.name.now (one_or_none m))) c.get.ensures in
    let kept = none-kept (shared_of c.args.kept.now) c.args.name.now (ahead_of c.args.turn.now) c.args.to.now sent taken mailed c.count_sends.ensures taken_is c.unsettled_of-mailed.ensures in (
      λ is. kept.0 (subst (λ n. n ≤ mailed) left (leb-true c.saturating_sub.result mailed is)),
      λ none. le-leb c.saturating_sub.result mailed (subst (λ n. n ≤ mailed) (sym left) (kept.1 none)),
    )
