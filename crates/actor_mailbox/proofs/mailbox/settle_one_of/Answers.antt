use Rattle.std.proofs.Common.{sym}
use Rattle.std.proofs.lemmas.List.Folds.{list_any_at}
use Rattle.value_core.specs.Named.{same_name}
use Rattle.actor_mailbox.specs.Messages.{depends_on}
use Rattle.actor_mailbox.proofs.FirstOf.{is_first, none_passes, nothing_settled, settled_first}
use Rattle.actor_mailbox.proofs.mailbox.settle_one_of.Goals as goal

pub returns-in-Some-clause-found : goal.returns-in-Some-clause-found
returns-in-Some-clause-found c =
    let ms = c.args.messages.now in
    let test = depends_on (same_name c.args.name.now) in
    let other = c.index-messages-place.result in
    let first = is_first test ms c.in-Some.place other (sym c.in-Some.ensures) in
    sym (list_any_at test ms c.in-Some.place other first.within first.here)

pub returns-in-Some-clause-items : goal.returns-in-Some-clause-items
returns-in-Some-clause-items c =
    let ms = c.args.messages.now in
    let test = same_name c.args.name.now in
    let other = c.index-messages-place.result in
    settled_first test ms c.in-Some.place other (is_first (depends_on test) ms c.in-Some.place other (sym c.in-Some.ensures))

pub returns-in-None-clause-found : goal.returns-in-None-clause-found
returns-in-None-clause-found c = sym (none_passes (depends_on (same_name c.args.name.now)) c.args.messages.now (sym c.in-None.ensures))

pub returns-in-None-clause-items : goal.returns-in-None-clause-items
returns-in-None-clause-items c =
    let ms = c.args.messages.now in
    let test = same_name c.args.name.now in
    sym (nothing_settled test ms (none_passes (depends_on test) ms (sym c.in-None.ensures)))
