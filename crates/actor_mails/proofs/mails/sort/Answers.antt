use Rattle.std.proofs.Common.{◌≡◌, ◌∙◌, [], ap, arith, refl, sym, subst}
use Rattle.std.specs.BTreeMap.{BTreeMap}
use Rattle.std.specs.Option.{option_copied_mut}
use Rattle.value_core.specs.Named.{Name}
use Rattle.value_core.specs.Roomy.{Roomy}
use Rattle.value_core.proofs.NameMaps.{none_named, rises_of}
use Rattle.actor_mailbox.specs.declared.message.Message.{Message}
use Rattle.actor_mailbox.specs.BySender.{IsBySender}
use Rattle.actor_mails.specs.Mails.{held, items_in, mail_at}
use Rattle.actor_mails.proofs.BoxLaws.{others_kept, put_back, rises_kept, room_kept, sorted, IsPutBack}
use Rattle.actor_mails.proofs.Held.{held_at}
use Rattle.actor_mails.proofs.mails.sort.Goals as goal

back : (c : goal.After-boxes-in-Some-1) → IsPutBack c.args.actor.now c.in-Some.mailbox.now c.sort.new.self c.args.boxes.now.entries (c.get_mut.follows.lender c.sort.new.self).entries
back c = put_back _ _ _ c.args.boxes.now (c.get_mut.follows.lender c.sort.new.self) _ c.get_mut.ensures.value (ap option_copied_mut c.in-Some.is) (c.get_mut.follows.holds c.sort.new.self)

pub returns-in-Some-clause-mail : goal.returns-in-Some-clause-mail
returns-in-Some-clause-mail c = sorted _ _ _ _ _ (back c) c.sort.ensures.sorted

pub returns-in-Some-clause-others : goal.returns-in-Some-clause-others
returns-in-Some-clause-others c = others_kept _ _ _ _ _ (back c)

pub returns-in-Some-clause-room : goal.returns-in-Some-clause-room
returns-in-Some-clause-room c = room_kept _ _ _ _ _ (back c) (let same : c.sort.new.self.room ≡ c.in-Some.mailbox.now.room = c.sort.ensures.room in omega arith)

pub returns-in-Some-clause-rises : goal.returns-in-Some-clause-rises
returns-in-Some-clause-rises c = λ _. rises_kept _ _ _ _ _ (back c)

-- no box is there
pub returns-in_default-clause-mail : goal.returns-in_default-clause-mail
returns-in_default-clause-mail c =
    let actor = c.args.actor.now in
    let none = held_at c.args.boxes.now.entries actor (rises_of c.args.boxes.now.entries c.get_mut.ensures.ordered) ∙ ap items_in (none_named actor c.args.boxes.now _ c.get_mut.ensures.value (ap option_copied_mut c.in_default.is)) in
    let same = ap (λ (boxes : BTreeMap Name (Roomy Message)). held boxes.entries) c.get_mut.follows.holds-at-none in
    let still = ap (λ m. mail_at m actor) same ∙ none in
    subst (λ ms. IsBySender ms (mail_at (held c.get_mut.follows.lender-at-none.entries) actor)) (sym none)
    (subst (IsBySender []) (sym still) (record { same = λ u. refl; rises = tt; length = refl }))
