use Rattle.std.proofs.Common.{◌≡◌, ◌∙◌, ◌∷◌, if◌then◌else◌, suc, ap, sym, subst, arith}
use Rattle.actor_mailbox.specs.BySender.{AreSortedTo}
use Rattle.actor_mailbox.proofs.Rising.{sorted_first, sorted_led}
use Rattle.actor_mailbox.proofs.mailbox.Mailbox.put_first.Goals as goal
use Rattle.actor_mailbox.proofs.mailbox.Mailbox.put_first.Goals.{then-rises, else-rises}

pub invariant_of-self-2 : goal.invariant_of-self-2
invariant_of-self-2 c =
    let ms = c.self.inside.messages.items in
    let m = c.args.message in
    let put : c.push_front.new.self.items ≡ m ∷ ms = c.push_front.ensures.items ∙ ap (λ b. if b then m ∷ ms else ms) (sym c.in_ok-map_err.ensures.variant) in
    elim c.if-rises.branch [
      | then-rises w ↦
          let one : suc c.self.inside.sorted ≡ c.if-rises.self = (let is = w.self-is in omega arith) in
          subst (AreSortedTo c.if-rises.self) (sym put) (subst (λ n. AreSortedTo n (m ∷ ms)) one (sorted_led c.self.inside.sorted ms m c.self.invariant (sym c.leads-rises.ensures ∙ w.if-rises.true)))
      | else-rises w ↦ subst (AreSortedTo c.if-rises.self) (sym put) (subst (λ n. AreSortedTo n (m ∷ ms)) (sym w.self-is) (sorted_first m ms))
    ]
