use Rattle.std.proofs.Common.{◌≡◌, [], ◌∷◌, ◌++◌, ◌∙◌, Some, sym, ap, subst, get_or, take, drop, suc, arith}
use Rattle.std.specs.Prelude.{Option, MatchOption, OnSome}
use Rattle.actor_mailbox.specs.declared.message.Message.{Message}
use Rattle.actor_mailbox.specs.BySender.{AreSortedTo}
use Rattle.actor_mailbox.specs.Messages.{from, is_from, without_first}
use Rattle.actor_mailbox.proofs.FirstOf.{IsFirst, filtered_first, is_first, nobodys, none_passes, nothing_filtered, nothing_removed, removed_first}
use Rattle.actor_mailbox.proofs.Rising.{sorted_left}
use Rattle.actor_mailbox.proofs.mailbox.Mailbox.take_of.Goals as goal

-- the message at the place is the sender's first
first : (c : goal.After-remove) → IsFirst (is_from c.args.sender.now) c.self.inside.messages.items c.in-Some.place nobodys
first c = is_first (is_from c.args.sender.now) c.self.inside.messages.items c.in-Some.place nobodys (sym c.in-Some.ensures)

-- it is what is removed
removed : (c : goal.After-remove) → c.remove.result ≡ Some (get_or c.self.inside.messages.items c.in-Some.place nobodys)
removed c = c.remove.ensures.succeeds nobodys (let long = c.self.inside.messages.ok in let lt = (first c).within in omega arith)

-- and the others are left
left : (c : goal.After-remove) → c.remove.new.self.items ≡ without_first (is_from c.args.sender.now) c.self.inside.messages.items
left c =
    let ms = c.self.inside.messages.items in
    let place = c.in-Some.place in
    let rest = take place ms ++ drop (suc place) ms in
    subst (λ (r : Option Message). OnSome r (c.remove.new.self.items ≡ rest)) (removed c) c.remove.ensures.items
    ∙ removed_first (is_from c.args.sender.now) ms place nobodys (first c)

pub invariant_of-self : goal.invariant_of-self
invariant_of-self c =
    let ms = c.self.inside.messages.items in
    let test = is_from c.args.sender.now in
    subst (AreSortedTo c.saturating_sub-self-inside.result) (sym (left c))
    (subst (λ n. AreSortedTo n (without_first test ms)) (sym c.saturating_sub-self-inside.ensures) (sorted_left test c.self.inside.sorted ms c.self.invariant))

pub returns-in-Some-clause-items : goal.returns-in-Some-clause-items
returns-in-Some-clause-items c = left c ∙ ap (λ mail. without_first (is_from c.args.sender.now) mail.items) c.self.view_is

pub returns-in-Some-clause-taken : goal.returns-in-Some-clause-taken
returns-in-Some-clause-taken c =
    let sender = c.args.sender.now in
    let old = c.args.self.now.items in
    let new = c.remove.new.self.items in
    let ms = c.self.inside.messages.items in
    let message = get_or ms c.in-Some.place nobodys in
    let left : from sender old ≡ message ∷ from sender new =
    ap (λ mail. from sender mail.items) (sym c.self.view_is)
    ∙ filtered_first (is_from sender) ms c.in-Some.place nobodys (first c)
    ∙ ap (λ mail. message ∷ from sender (without_first (is_from sender) mail.items)) c.self.view_is
    ∙ ap (λ rest. message ∷ from sender rest) (sym (returns-in-Some-clause-items c)) in
    subst (λ (r : Option Message). MatchOption r (from sender old ≡ []) (λ m. from sender old ≡ m ∷ from sender new)) (sym (removed c)) left

pub returns-in-None-clause-taken : goal.returns-in-None-clause-taken
returns-in-None-clause-taken c =
    let ms = c.self.inside.messages.items in
    let test = is_from c.args.sender.now in
    ap (λ mail. from c.args.sender.now mail.items) (sym c.self.view_is) ∙ nothing_filtered test ms (none_passes test ms (sym c.in-None.ensures))

pub returns-in-None-clause-items : goal.returns-in-None-clause-items
returns-in-None-clause-items c =
    let ms = c.self.inside.messages.items in
    let test = is_from c.args.sender.now in
    let same = nothing_removed test ms (none_passes test ms (sym c.in-None.ensures)) in
    ap (λ mail. mail.items) (sym c.self.view_is) ∙ sym same ∙ ap (λ mail. without_first test mail.items) c.self.view_is
