use Rattle.std.proofs.Common.{◌∙◌, ◌+◌, ◌++◌, ap, append-nil, length, reverse, sym}
use Rattle.std.specs.Option.{option_copied, option_map}
use Rattle.attempt_sends.proofs.Listing.{counted-before, left-less, left-same, letter-so, sends-none, sends-nothing}
use Rattle.attempt_sends.specs.Letters.{held_sends, letters_of}
use Rattle.shared_chain.specs.Links.{from_link}
use Rattle.shared_world.specs.rows.Sending.{send_in, sends_in}
use Rattle.turns_ahead.specs.Leading.{ahead_of}
use Rattle.attempt_sends.proofs.letters.add_letter.Goals as goal

pub returns-in_ok-push-clause-items : goal.returns-in_ok-push-clause-items
returns-in_ok-push-clause-items c =
    let held = option_map ahead_of (option_copied c.args.turn) in
    let done = reverse (from_link (option_copied c.args.below)) in
    c.in_ok-push.ensures.items
    ∙ ap (λ l. c.args.letters.now.items ++ l) (letter-so c.args.unit.now c.args.root.now held done c.in-Send.to c.in-Send.args c.in_ok-earlier.earlier c.in_ok-make_letter.field-0 c.in_ok-make_letter.ensures
    (c.in_ok-earlier.ensures ∙ ap (λ n. length (held_sends c.in-Send.to held) + n) (counted-before c.args.counts.now.entries c.args.log.now.log.effects done c.args.effect.now c.in-Send.to c.in-Send.args c.in_ok-before.before c.in-Send.is c.in_ok-before.ensures.count c.requires.counts))
    ∙ ap (λ w. letters_of c.args.unit.now c.args.root.now held (sends_in done) (send_in w)) (sym c.in-Send.is))

pub returns-in_ok-push-clause-counts : goal.returns-in_ok-push-clause-counts
returns-in_ok-push-clause-counts c =
    left-less c.args.counts.now.entries c.take_one.new.counts.entries c.args.log.now.log.effects (reverse (from_link (option_copied c.args.below))) c.args.effect.now c.in-Send.to c.in-Send.args c.in_ok-before.before
    c.in-Send.is c.in_ok-before.ensures.count c.in_ok-before.ensures.counts c.requires.counts

pub returns-in_default-clause-items : goal.returns-in_default-clause-items
returns-in_default-clause-items c =
    let held = option_map ahead_of (option_copied c.args.turn) in
    let done = reverse (from_link (option_copied c.args.below)) in
    sym (ap (λ l. c.args.letters.now.items ++ letters_of c.args.unit.now c.args.root.now held (sends_in done) l) (sends-nothing c.args.effect.now.what c.in_default.not-Send) ∙ append-nil c.args.letters.now.items)

pub returns-in_default-clause-counts : goal.returns-in_default-clause-counts
returns-in_default-clause-counts c =
    left-same c.args.counts.now.entries c.args.log.now.log.effects (reverse (from_link (option_copied c.args.below))) c.args.effect.now (sends-none c.args.effect.now.what c.in_default.not-Send) c.requires.counts
