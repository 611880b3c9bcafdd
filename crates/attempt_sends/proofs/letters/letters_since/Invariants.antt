use Rattle.std.proofs.Common.{reverse}
use Rattle.std.specs.Option.{option_copied, option_map}
use Rattle.attempt_sends.proofs.letters.letters_since.Given as goal
use Rattle.attempt_sends.proofs.Listing.{IsListing}
use Rattle.attempt_sends.specs.Letters.{AreLeft}
use Rattle.shared_chain.specs.Links.{from_link}
use Rattle.turns_ahead.specs.Leading.{ahead_of}

-- the last effects are listed, the last one first; of each actor it is counted how many of the others send something to it
abbrev pub invariant-loop-left : goal.invariant-loop-left
invariant-loop-left l = record {
  listed : IsListing l.unit l.root (option_map ahead_of (option_copied l.turn)) l.log.log.effects l.before l.left (from_link (option_copied l.last)) l.letters.items;
  counted : AreLeft l.counts.entries l.log.log.effects (reverse (from_link (option_copied l.last)));
}

abbrev pub decreases-loop-left : goal.decreases-loop-left
decreases-loop-left l = l.left
