use Rattle.std.proofs.Common.{◌≡◌, ◌∙◌, ◌+◌, ◌++◌, ◌∷◌, [], if◌then◌else◌, length, ap, sym, subst}
use Rattle.std.proofs.lemmas.Bool.{eqb-true}
use Rattle.actor_mailbox.specs.BySender.{AreSortedTo}
use Rattle.actor_mailbox.proofs.Rising.{sorted_pushed}
use Rattle.actor_mailbox.proofs.mailbox.Mailbox.put.Goals as goal
use Rattle.actor_mailbox.proofs.mailbox.Mailbox.put.Goals.{then-self-len, else-self-len}

pub invariant_of-self-then-rises : goal.invariant_of-self-then-rises
invariant_of-self-then-rises c =
    let ms = c.self.inside.messages.items in
    let m = c.args.message in
    let count = c.self.inside.sorted in
    let pushed : c.push_back.new.self.items ≡ ms ++ m ∷ [] = c.push_back.ensures.items ∙ ap (λ b. if b then ms ++ m ∷ [] else ms) (sym c.in_ok-map_err.ensures.variant) in
    elim c.if-self-len.branch [
      | then-self-len w ↦
          let all : count ≡ length ms = w.if-self-len.true ∙ c.len.ensures ∙ c.self.inside.messages.ok.0 in
          subst (AreSortedTo (count + 1)) (sym pushed) (sorted_pushed count ms m c.self.invariant all (sym w.follows-rises.ensures ∙ sym w.rises-is ∙ c.if-rises.true))
      | else-self-len w ↦ absurd (w.if-self-len.false (eqb-true count c.len.result (sym w.rises-is ∙ c.if-rises.true)))
    ]
