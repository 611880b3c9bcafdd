use Rattle.std.proofs.Common.{◌≡◌, length, reverse}
use Rattle.std.specs.Option.{option_copied}
use Rattle.attempt_undoing.proofs.SendsGone.{SendsLeft}
use Rattle.attempt_undoing.proofs.sends.drop_done.Given as goal
use Rattle.attempt_undoing.specs.Hanging.{effect_receivers, sends_on}
use Rattle.shared_chain.specs.Links.{from_link}
use Rattle.world_steps.specs.Kept.{shared_of}

-- what is below is left
abbrev pub invariant-loop-last : goal.invariant-loop-last
invariant-loop-last l = record {
  left : SendsLeft (sends_on l.on (effect_receivers (reverse l.effects))) (sends_on l.on (effect_receivers (from_link (option_copied l.last)))) (shared_of l.fn.kept) (shared_of l.kept);
  others : l.kept ≡ record l.fn.kept { units = l.kept.units; mails = l.kept.mails; taken = l.kept.taken };
}

abbrev pub decreases-loop-last : goal.decreases-loop-last
decreases-loop-last l = length (from_link (option_copied l.last))
