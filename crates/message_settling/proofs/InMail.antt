-- Mail in which a message is settled.
use Rattle.std.proofs.Common.{◌≡◌, ◌∙◌, ◌++◌, ◌∷◌, ◌||◌, [], Bool, true, false, cond, List, refl, sym, ap}
use Rattle.std.specs.List.{list_any}
use Rattle.actor_mailbox.specs.declared.message.Message.{Message}
use Rattle.actor_mailbox.specs.Messages.{definite, depends_on, passes, settle_first}
use Rattle.actor_mails.specs.Mails.{Mail, IsMailed, mail_at}
use Rattle.value_core.specs.Named.{Name}
use Rattle.world_model.specs.Message.{settle_or_put}

-- the first that waits is settled, where one does
pub settled-first : (test : Name → Bool) (last : Message) (ms : List Message) → list_any (depends_on test) ms ≡ true → settle_first test ms ≡ settle_or_put test last ms
settled-first test last [] is = cc
settled-first test last (m ∷ ms) is = on (passes test m.depends) refl is (settled-first test last ms)
  where
    on : (c : Bool) → passes test m.depends ≡ c → (c || list_any (depends_on test) ms) ≡ true → (list_any (depends_on test) ms ≡ true → settle_first test ms ≡ settle_or_put test last ms)
        → cond c (definite m ∷ ms) (m ∷ settle_first test ms) ≡ cond c (definite m ∷ ms) (m ∷ settle_or_put test last ms)
    on true e so rest = refl
    on false e so rest = ap (λ k. m ∷ k) (rest so)

-- else the message is the last
pub put-last : (test : Name → Bool) (last : Message) (ms : List Message) → list_any (depends_on test) ms ≡ false → settle_or_put test last ms ≡ ms ++ last ∷ []
put-last test last [] is = refl
put-last test last (m ∷ ms) is = on (passes test m.depends) refl is (put-last test last ms)
  where
    on : (c : Bool) → passes test m.depends ≡ c → (c || list_any (depends_on test) ms) ≡ false → (list_any (depends_on test) ms ≡ false → settle_or_put test last ms ≡ ms ++ last ∷ [])
        → cond c (definite m ∷ ms) (m ∷ settle_or_put test last ms) ≡ m ∷ (ms ++ last ∷ [])
    on true e so rest = cc
    on false e so rest = ap (λ k. m ∷ k) (rest so)

pub mail-settled : (to : Name) (test : Name → Bool) (last : Message) (old new : Mail) → list_any (depends_on test) (mail_at old to) ≡ true → IsMailed to (settle_first test (mail_at old to)) old new → IsMailed to (settle_or_put test last (mail_at old to)) old new
mail-settled to test last old new found is = record { here = is.here ∙ settled-first test last (mail_at old to) found; others = is.others }

pub mail-put : (to : Name) (test : Name → Bool) (last : Message) (old mid new : Mail) → list_any (depends_on test) (mail_at old to) ≡ false → IsMailed to (settle_first test (mail_at old to)) old mid → IsMailed to (mail_at mid to ++ last ∷ []) mid new
    → IsMailed to (settle_or_put test last (mail_at old to)) old new
mail-put to test last old mid new none is put = record {
  here = put.here ∙ ap (λ ms. ms ++ last ∷ []) (is.here ∙ none-first (mail_at old to) none) ∙ sym (put-last test last (mail_at old to) none);
  others = λ q ne. put.others q ne ∙ is.others q ne;
}
  where
    none-first : (ms : List Message) → list_any (depends_on test) ms ≡ false → settle_first test ms ≡ ms
    none-first [] none = refl
    none-first (m ∷ ms) none = on (passes test m.depends) none (none-first ms)
      where
        on : (c : Bool) → (c || list_any (depends_on test) ms) ≡ false → (list_any (depends_on test) ms ≡ false → settle_first test ms ≡ ms) → cond c (definite m ∷ ms) (m ∷ settle_first test ms) ≡ m ∷ ms
        on true so rest = cc
        on false so rest = ap (λ k. m ∷ k) (rest so)
