-- The links stay sound where slots get room, wait, and wait no more.
use Rattle.std.proofs.Common.{◌≡◌, ◌≢◌, ℕ, ◌<◌, ◌≤◌, List, [], ◌∷◌, length, get_or, set, Option, Some, None, refl, sym, ap, subst, ◌∙◌, inl, inr, arith, length-set, false, true, true≢false}
use Rattle.std.proofs.lemmas.Bool.{cases_eq, cases_lt}
use Rattle.std.proofs.lemmas.List.{get_or-set_same, get_or-set_other, get_or_past}
use Rattle.std.proofs.lemmas.Option.{slice_get_read, get_or_from_slice_get}
use Rattle.std.specs.Prelude.{IfSome, is_some}
use Rattle.wait_lists.specs.Links.{link, IsAmong, IsChain, IsLinked, AreLinked, IsPutFirst, IsUnlinked}
use Rattle.wait_lists.specs.WaitLists.{need_of}
use Rattle.wait_lists.proofs.Chains.{IsChain-agrees, IsChain-behind, before_within, next_among, none_is_not_some, same_in_some, without}

-- what is read at a slot
pub read_is : (links : List (Option ℕ)) (slot : ℕ) (x : Option ℕ) → slot < length links → x ≡ get_or links slot x → link links slot ≡ x
read_is links slot x within read = get_or_from_slice_get links slot x None (slice_get_read links (length links) slot x refl within read)

-- a slot with a link is one of the list
pub link_within : (links : List (Option ℕ)) (slot n : ℕ) → link links slot ≡ Some n → slot < length links
link_within links slot n is = elim (cases_lt slot (length links)) [
  | inl below ↦ below
  | inr past ↦ none_is_not_some (link links slot) n (get_or_past links slot None (omega (arith, past))) is
]

-- a slot that may be there is below the bound
pub if_below : (bound : ℕ) (x : Option ℕ) → ((n : ℕ) → x ≡ Some n → n < bound) → IfSome x (λ n. n < bound)
if_below bound None each = tt
if_below bound (Some n) each = each n refl

module _ (waits first next before : List (Option ℕ)) (linked : AreLinked waits first next before) where
  pub AreLinked-grow : (waits_2 first_2 next_2 before_2 : List (Option ℕ)) → ((s : ℕ) → link waits_2 s ≡ link waits s) → ((s : ℕ) → link first_2 s ≡ link first s)
      → ((s : ℕ) → link next_2 s ≡ link next s) → ((s : ℕ) → link before_2 s ≡ link before s)
      → length waits_2 ≤ length first_2 → length waits_2 ≤ length next_2 → length waits_2 ≤ length before_2 → AreLinked waits_2 first_2 next_2 before_2
  AreLinked-grow waits_2 first_2 next_2 before_2 same_waits same_first same_next same_before room_first room_next room_before = record {
    room_first = room_first;
    room_next = room_next;
    room_before = room_before;
    linked = λ need. let was = linked.linked need in record {
      slots = was.slots;
      chain = subst (λ l. IsChain (link next_2) (link before_2) None l was.slots) (sym (same_first need))
          (IsChain-agrees (link next) (link before) (link next_2) (link before_2) None (link first need) was.slots (λ s among. same_next s) (λ s among. same_before s) was.chain);
      all = λ s is. was.all s (sym (same_waits s) ∙ is);
      only = λ s among. same_waits s ∙ was.only s among;
      once = was.once;
    };
  }

  -- the first slot of a list waits
  pub first_waits : (need slot : ℕ) → link first need ≡ Some slot → need_of waits slot ≡ Some need
  first_waits need slot is = by_list (linked.linked need).slots (linked.linked need).chain (linked.linked need).only
    where
      by_list : (slots : List ℕ) → IsChain (link next) (link before) None (link first need) slots → ((s : ℕ) → IsAmong s slots → need_of waits s ≡ Some need) → need_of waits slot ≡ Some need
      by_list [] chain only = none_is_not_some (link first need) slot chain is
      by_list (x ∷ rest) chain only = only slot (inl (same_in_some slot x (sym is ∙ chain.0)))

  -- nothing waits where no slot is first
  pub none_waits : (need : ℕ) → link first need ≡ None → (slot : ℕ) → need_of waits slot ≢ Some need
  none_waits need none slot is = by_list (linked.linked need).slots (linked.linked need).chain ((linked.linked need).all slot is)
    where
      by_list : (slots : List ℕ) → IsChain (link next) (link before) None (link first need) slots → IsAmong slot slots → ⊥
      by_list [] chain among = among
      by_list (x ∷ rest) chain among = none_is_not_some (link first need) x none chain.0

  -- so a slot waits exactly where one is first
  pub some_first : (need : ℕ) (head : Option ℕ) → head ≡ link first need → is_some head ≡ true → (slot : ℕ) × (need_of waits slot ≡ Some need)
  some_first need None is some = absurd (true≢false (sym some))
  some_first need (Some slot) is some = (slot, first_waits need slot (sym is))

  pub none_first : (need : ℕ) (head : Option ℕ) → head ≡ link first need → is_some head ≡ false → (slot : ℕ) → need_of waits slot ≢ Some need
  none_first need None is none = none_waits need (sym is)
  none_first need (Some slot) is none = absurd (true≢false none)

  module _ (slot need : ℕ) (waits_for : need_of waits slot ≡ Some need) where
    -- what a slot waits for has a list
    pub need_within : need < length first
    need_within = by_list (linked.linked need).slots (linked.linked need).chain ((linked.linked need).all slot waits_for)
      where
        by_list : (slots : List ℕ) → IsChain (link next) (link before) None (link first need) slots → IsAmong slot slots → need < length first
        by_list [] chain among = absurd among
        by_list (x ∷ rest) chain among = link_within first need x chain.0

    -- the slots beside it wait for the same
    pub before_waits : (other : ℕ) → link before slot ≡ Some other → need_of waits other ≡ Some need
    before_waits other is =
        let was = linked.linked need in
        was.only other (before_within (link next) (link before) (link first need) was.slots slot other was.chain (was.all slot waits_for) is)

    pub next_waits : (other : ℕ) → link next slot ≡ Some other → need_of waits other ≡ Some need
    next_waits other is =
        let was = linked.linked need in
        was.only other (next_among (link next) (link before) None (link first need) was.slots slot other was.chain (was.all slot waits_for) is)

    pub AreLinked-stop : (first_2 next_2 before_2 : List (Option ℕ)) → IsUnlinked slot need first next before first_2 next_2 before_2 → AreLinked (set waits slot None) first_2 next_2 before_2
    AreLinked-stop first_2 next_2 before_2 unlinked =
        let slot_in = link_within waits slot need waits_for in
        let here : need_of (set waits slot None) slot ≡ None = get_or-set_same waits slot None None slot_in in
        let stays : (s : ℕ) → s ≢ slot → need_of (set waits slot None) s ≡ need_of waits s = λ s other. get_or-set_other waits slot s None None other in
        let was = linked.linked need in
        let cut = without (link next) (link before) (link next_2) (link before_2) slot unlinked.passed was.slots None (link first need) (link first_2 need) was.chain was.once (was.all slot waits_for)
        (λ other is among. none_is_not_some None other refl is) unlinked.first_at unlinked.first_kept in
        record {
          room_first = omega (arith, linked.room_first, length-set waits slot None, unlinked.same_first);
          room_next = omega (arith, linked.room_next, length-set waits slot None, unlinked.same_next);
          room_before = omega (arith, linked.room_before, length-set waits slot None, unlinked.same_before);
          linked = λ n. elim (cases_eq n need) [
            | inl same ↦ subst (IsLinked (set waits slot None) first_2 next_2 before_2) (sym same) record {
              slots = cut.left;
              chain = cut.chain;
              all = λ s now. elim (cases_eq s slot) [
                | inl it ↦ none_is_not_some (need_of (set waits slot None) s) need (ap (need_of (set waits slot None)) it ∙ here) now
                | inr other ↦ cut.all s (was.all s (sym (stays s other) ∙ now)) other
              ];
              only = λ s among. stays s (λ it. cut.gone (subst (λ x. IsAmong x cut.left) it among)) ∙ was.only s (cut.only s among);
              once = cut.once;
            }
            | inr differs ↦ let those = linked.linked n in record {
              slots = those.slots;
              chain = subst (λ l. IsChain (link next_2) (link before_2) None l those.slots) (sym (unlinked.first_else n differs))
                  (IsChain-agrees (link next) (link before) (link next_2) (link before_2) None (link first n) those.slots
                  (λ s among. unlinked.passed.next_else s (λ is. differs (same_in_some n need (sym (those.only s among) ∙ before_waits s is))))
                  (λ s among. unlinked.passed.before_else s (λ is. differs (same_in_some n need (sym (those.only s among) ∙ next_waits s is)))) those.chain);
              all = λ s now. elim (cases_eq s slot) [
                | inl it ↦ none_is_not_some (need_of (set waits slot None) s) n (ap (need_of (set waits slot None)) it ∙ here) now
                | inr other ↦ those.all s (sym (stays s other) ∙ now)
              ];
              only = λ s among. let waited = those.only s among in
                  stays s (λ it. differs (same_in_some n need (sym waited ∙ ap (need_of waits) it ∙ waits_for))) ∙ waited;
              once = those.once;
            }
          ];
        }

  pub AreLinked-wait : (slot need : ℕ) (first_2 next_2 before_2 : List (Option ℕ)) → slot < length waits → need_of waits slot ≡ None
      → IsPutFirst slot need first next before first_2 next_2 before_2 → AreLinked (set waits slot (Some need)) first_2 next_2 before_2
  AreLinked-wait slot need first_2 next_2 before_2 slot_in idle put =
      let here : need_of (set waits slot (Some need)) slot ≡ Some need = get_or-set_same waits slot (Some need) None slot_in in
      let stays : (s : ℕ) → s ≢ slot → need_of (set waits slot (Some need)) s ≡ need_of waits s = λ s other. get_or-set_other waits slot s (Some need) None other in
      let off : (n : ℕ) → IsAmong slot (linked.linked n).slots → ⊥ = λ n among. none_is_not_some (need_of waits slot) n idle ((linked.linked n).only slot among) in
      let differs_from : (n s : ℕ) → IsAmong s (linked.linked n).slots → s ≢ slot = λ n s among it. off n (subst (λ x. IsAmong x (linked.linked n).slots) it among) in
      let kept : (n s : ℕ) → IsAmong s (linked.linked n).slots → need_of (set waits slot (Some need)) s ≡ Some n =
      λ n s among. stays s (differs_from n s among) ∙ (linked.linked n).only s among in
      let was = linked.linked need in
      record {
        room_first = omega (arith, linked.room_first, length-set waits slot (Some need), put.same_first);
        room_next = omega (arith, linked.room_next, length-set waits slot (Some need), put.same_next);
        room_before = omega (arith, linked.room_before, length-set waits slot (Some need), put.same_before);
        linked = λ n. elim (cases_eq n need) [
          | inl same ↦ subst (IsLinked (set waits slot (Some need)) first_2 next_2 before_2) (sym same) record {
            slots = slot ∷ was.slots;
            chain = (
              put.first_at,
              put.before_at,
              subst (λ l. IsChain (link next_2) (link before_2) (Some slot) l was.slots) (sym put.next_at)
                  (IsChain-behind (link next) (link before) (link next_2) (link before_2) None (Some slot) (link first need) was.slots
                  (λ s among. put.next_else s (differs_from need s among))
                  (λ s is. put.before_first s is (λ it. none_is_not_some (need_of waits slot) need idle (ap (need_of waits) (sym it) ∙ first_waits need s is)))
                  (λ s among is_not. put.before_else s is_not (differs_from need s among)) was.once was.chain),
            );
            all = λ s is. elim (cases_eq s slot) [
              | inl it ↦ inl it
              | inr other ↦ inr (was.all s (sym (stays s other) ∙ is))
            ];
            only = λ s among. elim among [
              | inl it ↦ ap (need_of (set waits slot (Some need))) it ∙ here
              | inr earlier ↦ kept need s earlier
            ];
            once = (off need, was.once);
          }
          | inr differs ↦ let those = linked.linked n in record {
            slots = those.slots;
            chain = subst (λ l. IsChain (link next_2) (link before_2) None l those.slots) (sym (put.first_else n differs))
                (IsChain-agrees (link next) (link before) (link next_2) (link before_2) None (link first n) those.slots
                (λ s among. put.next_else s (differs_from n s among))
                (λ s among. put.before_else s (λ is. differs (same_in_some n need (sym (those.only s among) ∙ first_waits need s is))) (differs_from n s among)) those.chain);
            all = λ s is. elim (cases_eq s slot) [
              | inl it ↦ absurd (differs (same_in_some n need (sym is ∙ ap (need_of (set waits slot (Some need))) it ∙ here)))
              | inr other ↦ those.all s (sym (stays s other) ∙ is)
            ];
            only = λ s among. kept n s among;
            once = those.once;
          }
        ];
      }
