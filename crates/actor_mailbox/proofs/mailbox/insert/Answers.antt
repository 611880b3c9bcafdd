use Rattle.std.proofs.Common.{◌∙◌, ◌+◌, ◌-◌, ◌≤◌, length-take, ap, arith, take, subst, sym}
use Rattle.actor_mailbox.specs.BySender.{SendersRise}
use Rattle.actor_mailbox.specs.Messages.{from}
use Rattle.actor_mailbox.proofs.Inserted.{put_at_place, put_rises, put_same}
use borrow.Rule.Slice.PartMut.{put_mid}
use Rattle.actor_mailbox.proofs.mailbox.insert.Goals as goal

pub returns-clause-same : goal.returns-clause-same
returns-clause-same c =
    let ms = c.args.messages.now in
    let place = c.place_for-place.result in
    let at = c.args.at in
    let other = c.index-all-at.result in
    let before : place ≤ at = (let n = length-take at ms in let within = c.place_for-place.ensures.within in omega arith) in
    λ u.
    ap (λ part. from u (put_mid place (at + 1 - place) ms part)) c.rotate_right.ensures.after
    ∙ ap (from u) (put_at_place ms place at other c.requires.within before)
    ∙ put_same ms place at other c.requires.within before u c.place_for-place.ensures.leads

pub returns-clause-rises : goal.returns-clause-rises
returns-clause-rises c =
    let ms = c.args.messages.now in
    let place = c.place_for-place.result in
    let at = c.args.at in
    let other = c.index-all-at.result in
    let before : place ≤ at = (let n = length-take at ms in let within = c.place_for-place.ensures.within in omega arith) in
    subst SendersRise (ap (take (at + 1)) (sym (ap (put_mid place (at + 1 - place) ms) c.rotate_right.ensures.after ∙ put_at_place ms place at other c.requires.within before)))
    (put_rises ms place at other c.requires.within before c.requires.rises c.place_for-place.ensures.follows c.place_for-place.ensures.leads)
