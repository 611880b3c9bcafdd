-- How the senders of messages stand to one another in after-order.
use Rattle.std.proofs.Common.{◌≡◌, ◌∙◌, Bool, true, false, refl, sym, ap, true≢false}
use Rattle.std.specs.Prelude.{not}
use Rattle.std.specs.Ordering.{is_gt, ordering_reverse}
use Rattle.std.specs.declared.cmp.Ordering.{Ordering}
use Rattle.std.specs.declared.cmp.Ordering.TheVariants.{Less, Equal, Greater}
use Rattle.value_core.proofs.NamedLaws.{after_cmp-itself, same_name-equal}
use Rattle.value_core.specs.Name.{after_cmp}
use Rattle.value_core.specs.NameOrder.{after_cmp_total}
use Rattle.value_core.specs.Named.{Name, same_name}

-- names that tie stand alike to a third one
tie-right : (a b c : Name) → after_cmp b c ≡ Equal → after_cmp a b ≡ after_cmp a c
tie-right a b c tie = after_cmp_total.antisymm a b ∙ ap ordering_reverse (after_cmp_total.congr b c a tie) ∙ sym (after_cmp_total.antisymm a c)

-- what is up to a name is up to each that this one is up to
pub up_to-trans : (a b c : Name) → is_gt (after_cmp a b) ≡ false → is_gt (after_cmp b c) ≡ false → is_gt (after_cmp a c) ≡ false
up_to-trans a b c h k = on (after_cmp a b) (after_cmp b c) refl refl h k
  where
    on : (o p : Ordering) → after_cmp a b ≡ o → after_cmp b c ≡ p → is_gt o ≡ false → is_gt p ≡ false → is_gt (after_cmp a c) ≡ false
    on Less Less first second h k = ap is_gt (after_cmp_total.trans a b c first second)
    on Less Equal first second h k = ap is_gt (sym (tie-right a b c second) ∙ first)
    on Less Greater first second h k = absurd (true≢false k)
    on Equal p first second h k = ap is_gt (after_cmp_total.congr a b c first ∙ second) ∙ k
    on Greater p first second h k = absurd (true≢false h)

-- a name that comes after another one has it before it
pub after-back : (a b : Name) → is_gt (after_cmp a b) ≡ true → is_gt (after_cmp b a) ≡ false
after-back a b h = on (after_cmp a b) refl h
  where
    on : (o : Ordering) → after_cmp a b ≡ o → is_gt o ≡ true → is_gt (after_cmp b a) ≡ false
    on Less is h = absurd (true≢false (sym h))
    on Equal is h = absurd (true≢false (sym h))
    on Greater is h = ap is_gt (after_cmp_total.antisymm b a ∙ ap ordering_reverse is)

-- and is not the same
pub after-other : (a b u : Name) → is_gt (after_cmp a b) ≡ true → same_name u b ≡ true → same_name u a ≡ false
after-other a b u after same = on (same_name u a) refl
  where
    on : (found : Bool) → same_name u a ≡ found → found ≡ false
    on false is = refl
    on true is =
        let one : a ≡ b = sym (same_name-equal u a is) ∙ same_name-equal u b same in
        absurd (true≢false (sym after ∙ ap is_gt (ap (λ (n : Name). after_cmp n b) one ∙ after_cmp-itself b)))

pub not_gt : (b : Bool) → not b ≡ true → b ≡ false
not_gt true h = sym h
not_gt false h = refl
