use Rattle.std.proofs.Common.{◌≡◌, ◌∙◌, length, ap, sym, subst, rules}
use Rattle.std.proofs.lemmas.Fn.{filter_same}
use Rattle.value_core.specs.Named.{same_name}
use Rattle.actor_mailbox.specs.BySender.{AreSortedTo}
use Rattle.actor_mailbox.specs.Messages.{stays, without}
use Rattle.actor_mailbox.proofs.Rising.{sorted_kept, sorted_none}
use Rattle.actor_mailbox.proofs.mailbox.Mailbox.drop_of.Goals as goal
use Rattle.actor_mailbox.proofs.mailbox.Mailbox.drop_of.Goals.{then-rise, else-rise}

pub invariant_of-self : goal.invariant_of-self
invariant_of-self c =
    let old = c.self.inside.messages.items in
    let new = c.retain.new.self.items in
    let test = same_name c.args.name.now in
    let kept : new ≡ without test old = filter_same _ _ _ (λ m kept after called. search rules) _ _ c.retain.ensures.filtered in
    elim c.if-rise.branch [
      | then-rise w ↦
          let all : c.self.inside.sorted ≡ length old = w.if-rise.true ∙ c.len.ensures ∙ c.self.inside.messages.ok.0 in
          let left : c.if-rise.self ≡ length new = w.self-is ∙ w.len-self-inside.ensures ∙ c.retain.new.self.ok.0 in
          sorted_kept (stays test) old new c.self.inside.sorted c.if-rise.self c.self.invariant all kept left
      | else-rise w ↦ subst (λ n. AreSortedTo n new) (sym w.self-is) (sorted_none new)
    ]

pub returns-clause-items : goal.returns-clause-items
returns-clause-items c =
    filter_same _ _ _ (λ m kept after called. search rules) _ _ c.retain.ensures.filtered
    ∙ ap (λ mail. without (same_name c.args.name.now) mail.items) c.self.view_is
