-- What becomes of the mail where each box is changed alike.
use Rattle.std.proofs.Common.{◌≡◌, ◌∙◌, ◌≤◌, Bool, true, false, cond, le_refl, [], ◌∷◌, refl, sym, ap, subst}
use Rattle.std.specs.Map.Calls.{RetainsPairs}
use Rattle.std.specs.Prelude.{None, Option, Some}
use Rattle.actor_mailbox.specs.declared.message.Message.{Message}
use Rattle.actor_mailbox.specs.Messages.{without}
use Rattle.actor_mails.proofs.Held.{held_at}
use Rattle.actor_mails.specs.Mails.{Boxes, KeepsRoom, held, items_in, mail_at, room_in}
use Rattle.value_core.specs.Named.{Name, Rises, named, same_name}
use Rattle.value_core.specs.Roomy.{Roomy}

-- what is not settled is gone from the box, which has no less room
pub record IsCleared (old new : Roomy Message) : Type 0 where
  pub items : new.items ≡ without (λ on. true) old.items
  pub room : old.room ≤ new.room

-- and so it is under a name
abbrev pub BoxCleared : Option (Roomy Message) → Option (Roomy Message) → Type 0
BoxCleared None None = Unit {0}
BoxCleared (Some old) (Some new) = IsCleared old new
BoxCleared _ _ = ⊥

module _ {F : Type 0} (T : F → Name → Roomy Message → Bool → Roomy Message → F → Type 0)
    (called : (f : F) (name : Name) (box : Roomy Message) (kept : Bool) (after : Roomy Message) (next : F) → T f name box kept after next → (kept ≡ true) × IsCleared box after) where
  pub each-cleared : (f : F) (old new : Boxes) → RetainsPairs T f old new → (q : Name) → BoxCleared (named q old) (named q new)
  each-cleared f [] new all q = subst (BoxCleared None) (ap (named q) (sym all)) tt
  each-cleared f (e ∷ old) new (kept, after, next, rest, at, more, is) q =
      let one = called f e.0 e.1 kept after next at in
      subst (λ (boxes : Boxes). BoxCleared (named q (e ∷ old)) (named q boxes)) (sym (is ∙ ap (λ c. cond c ((e.0, after) ∷ rest) rest) one.0))
      (on (same_name q e.0) one.1 (each-cleared next old rest more q))
    where
      on : (c : Bool) → IsCleared e.1 after → BoxCleared (named q old) (named q rest) → BoxCleared (cond c (Some e.1) (named q old)) (cond c (Some after) (named q rest))
      on true here others = here
      on false here others = others

module _ (old new : Boxes) (cleared : (q : Name) → BoxCleared (named q old) (named q new)) where
  pub mail-cleared : Rises old → Rises new → (q : Name) → mail_at (held new) q ≡ without (λ on. true) (mail_at (held old) q)
  mail-cleared before after q = held_at new q after ∙ on (named q old) (named q new) (cleared q) ∙ sym (ap (without (λ on. true)) (held_at old q before))
    where
      on : (a b : Option (Roomy Message)) → BoxCleared a b → items_in b ≡ without (λ on. true) (items_in a)
      on None None is = refl
      on None (Some b) is = absurd is
      on (Some a) None is = absurd is
      on (Some a) (Some b) is = is.items

  pub room-cleared : KeepsRoom old new
  room-cleared q = on (named q old) (named q new) (cleared q)
    where
      on : (a b : Option (Roomy Message)) → BoxCleared a b → room_in a ≤ room_in b
      on None None is = le_refl 0
      on None (Some b) is = absurd is
      on (Some a) None is = absurd is
      on (Some a) (Some b) is = is.room
