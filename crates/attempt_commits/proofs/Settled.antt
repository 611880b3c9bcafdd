-- What settling messages one after the other comes to: all that are put are settled in their places, and the others come last.
use Rattle.std.proofs.Common.{◌≡◌, ◌∙◌, Bool, true, false, cond, filter, List, [], ◌∷◌, ◌++◌, append-nil, append_assoc, map, refl, sym, ap, ap₂, subst}
use Rattle.std.specs.Option.{option_map}
use Rattle.std.specs.Prelude.{◌||◌, Option, None, Some}
use Rattle.actor_mailbox.specs.declared.message.Message.{Message}
use Rattle.actor_mailbox.specs.Messages.{definite, depends_on, settle, settle_one}
use Rattle.attempt_commits.proofs.Letters.{after-same, none-for-turn, none-with, same-taken}
use Rattle.attempt_commits.specs.Settling.{is_with_turn, left_for_mail, mail_after, put_last, taken_after}
use Rattle.shared_world.specs.rows.Commits.{hangs_on}
use Rattle.shared_world.specs.Seen.{one_or_none}
use Rattle.value_core.proofs.NamedLaws.{same_name-itself}
use Rattle.value_core.specs.declared.value.Value.{Value}
use Rattle.value_core.specs.Named.{Name, same_name}
use Rattle.world_model.proofs.lists.Lists.{map-append, settle-tentative}
use Rattle.world_model.specs.Message.{settle_or_put, settled, tentative}
use Rattle.world_model.specs.rows.Effects.{has_put}

-- ---- the first that depends on the root
-- it is settled in its place, and the others stay
pub record IsFirstSettled (on : Name) (last : Message) (ms more : List Message) : Type 0 where
  pub has : has_put on ms ≡ true
  pub others : filter (depends_on (same_name on)) (settle_or_put (same_name on) last ms) ≡ more
  pub same : settle (same_name on) (settle_or_put (same_name on) last ms) ≡ settle (same_name on) ms

first-settled : (on : Name) (last m : Message) (more ms : List Message) → filter (depends_on (same_name on)) ms ≡ m ∷ more → IsFirstSettled on last ms more
first-settled on last m more [] e = cc
first-settled on last m more (k ∷ ks) e = by (depends_on test k) refl e (λ found. first-settled on last m more ks found)
  where
    test : Name → Bool
    test = same_name on

    by : (c : Bool) → depends_on test k ≡ c → cond c (k ∷ filter (depends_on test) ks) (filter (depends_on test) ks) ≡ m ∷ more → (filter (depends_on test) ks ≡ m ∷ more → IsFirstSettled on last ks more) → IsFirstSettled on last (k ∷ ks) more
    by true is found others = record {
      has = ap (λ c. c || has_put on ks) is;
      others = ap (λ c. filter (depends_on test) (cond c (definite k ∷ ks) (k ∷ settle_or_put test last ks))) is ∙ tail found;
      same = ap (λ c. settle test (cond c (definite k ∷ ks) (k ∷ settle_or_put test last ks))) is ∙ sym (ap (λ c. cond c (definite k) k ∷ settle test ks) is);
    }
      where
        tail : k ∷ filter (depends_on test) ks ≡ m ∷ more → filter (depends_on test) ks ≡ more
        tail so = cc
    by false is found others =
        let rest = others found in
        record {
          has = ap (λ c. c || has_put on ks) is ∙ rest.has;
          others = ap (λ c. filter (depends_on test) (cond c (definite k ∷ ks) (k ∷ settle_or_put test last ks))) is
              ∙ ap (λ c. cond c (k ∷ filter (depends_on test) (settle_or_put test last ks)) (filter (depends_on test) (settle_or_put test last ks))) is ∙ rest.others;
          same = ap (λ c. settle test (cond c (definite k ∷ ks) (k ∷ settle_or_put test last ks))) is ∙ ap (λ (zs : List Message). settle_one test k ∷ zs) rest.same;
        }

-- ---- where none depends on it
-- the message comes last, and none depends on it still
pub record IsLastPut (on : Name) (last : Message) (ms : List Message) : Type 0 where
  pub has : has_put on ms ≡ false
  pub put : settle_or_put (same_name on) last ms ≡ ms ++ last ∷ []
  pub none : filter (depends_on (same_name on)) (ms ++ last ∷ []) ≡ []
  pub same : settle (same_name on) (ms ++ last ∷ []) ≡ settle (same_name on) ms ++ last ∷ []

last-put : (on : Name) (last : Message) → depends_on (same_name on) last ≡ false → (ms : List Message) → filter (depends_on (same_name on)) ms ≡ [] → IsLastPut on last ms
last-put on last not [] e = record {
  has = refl;
  put = refl;
  none = ap (λ c. cond c (last ∷ []) []) not;
  same = ap (λ c. cond c (definite last) last ∷ []) not;
}
last-put on last not (k ∷ ks) e = by (depends_on (same_name on) k) refl e (λ found. last-put on last not ks found)
  where
    by : (c : Bool) → depends_on (same_name on) k ≡ c → cond c (k ∷ filter (depends_on (same_name on)) ks) (filter (depends_on (same_name on)) ks) ≡ [] → (filter (depends_on (same_name on)) ks ≡ [] → IsLastPut on last ks) → IsLastPut on last (k ∷ ks)
    by true is found others = cc
    by false is found others =
        let rest = others found in
        record {
          has = ap (λ c. c || has_put on ks) is ∙ rest.has;
          put = ap (λ c. cond c (definite k ∷ ks) (k ∷ settle_or_put (same_name on) last ks)) is ∙ ap (λ (zs : List Message). k ∷ zs) rest.put;
          none = ap (λ c. cond c (k ∷ filter (depends_on (same_name on)) (ks ++ last ∷ [])) (filter (depends_on (same_name on)) (ks ++ last ∷ []))) is ∙ rest.none;
          same = ap (λ (zs : List Message). settle_one (same_name on) k ∷ zs) rest.same;
        }

-- ---- the mail
-- once those that are put are settled the others come last
pub record IsMailAfter (u on : Name) (first rest : List (List Value)) (mail : List Message) : Type 0 where
  pub mail_is : mail_after on (map (settled u) (first ++ rest)) mail ≡ settle (same_name on) mail ++ map (settled u) rest
  pub last_is : put_last on (map (settled u) (first ++ rest)) mail ≡ map (settled u) rest

none-settles : (on : Name) (ms : List Message) → filter (depends_on (same_name on)) ms ≡ [] → settle (same_name on) ms ≡ ms
none-settles on [] e = refl
none-settles on (k ∷ ks) e = by (depends_on (same_name on) k) refl e (λ found. none-settles on ks found)
  where
    by : (c : Bool) → depends_on (same_name on) k ≡ c → cond c (k ∷ filter (depends_on (same_name on)) ks) (filter (depends_on (same_name on)) ks) ≡ [] → (filter (depends_on (same_name on)) ks ≡ [] → settle (same_name on) ks ≡ ks) → settle (same_name on) (k ∷ ks) ≡ k ∷ ks
    by true is found others = cc
    by false is found others = ap₂ (λ j (js : List Message). j ∷ js) (ap (λ c. cond c (definite k) k) is) (others found)

mail-last : (u on : Name) (rest : List (List Value)) (mail : List Message) → filter (depends_on (same_name on)) mail ≡ [] → IsMailAfter u on [] rest mail
mail-last u on [] mail none = record { mail_is = sym (none-settles on mail none) ∙ sym (append-nil (settle (same_name on) mail)); last_is = refl }
mail-last u on (args ∷ rest) mail none =
    let put = last-put on (settled u args) refl mail none in
    let more = mail-last u on rest (mail ++ settled u args ∷ []) put.none in
    record {
      mail_is = ap (mail_after on (map (settled u) rest)) put.put ∙ more.mail_is ∙ ap (λ ms. ms ++ map (settled u) rest) put.same ∙ append_assoc (settle (same_name on) mail) (settled u args ∷ []) (map (settled u) rest);
      last_is = ap₂ (λ c ms. cond c (put_last on (map (settled u) rest) ms) (settled u args ∷ put_last on (map (settled u) rest) ms)) put.has put.put ∙ ap (λ (zs : List Message). settled u args ∷ zs) more.last_is;
    }

pub mail-settles : (u on : Name) (first rest : List (List Value)) (mail : List Message) → filter (depends_on (same_name on)) mail ≡ map (tentative u on) first → IsMailAfter u on first rest mail
mail-settles u on [] rest mail put = mail-last u on rest mail put
mail-settles u on (args ∷ first) rest mail put =
    let one = first-settled on (settled u args) (tentative u on args) (map (tentative u on) first) mail put in
    let then_mail = settle_or_put (same_name on) (settled u args) mail in
    let more = mail-settles u on first rest then_mail one.others in
    record {
      mail_is = more.mail_is ∙ ap (λ ms. ms ++ map (settled u) rest) one.same;
      last_is = ap (λ c. cond c (put_last on (map (settled u) (first ++ rest)) then_mail) (settled u args ∷ put_last on (map (settled u) (first ++ rest)) then_mail)) one.has ∙ more.last_is;
    }

-- ---- what is taken, and the mail
-- All that the attempt has sent to an actor is settled, and what it kept comes last.
pub record IsSettledTo (u on : Name) (sent rest : List (List Value)) (taken : Option Message) (mail : List Message) : Type 0 where
  pub taken_is : taken_after on (map (settled u) sent) taken ≡ option_map (settle_one (same_name on)) taken
  pub mail_is : mail_after on (left_for_mail on taken (map (settled u) sent)) mail ≡ settle (same_name on) (mail ++ map (tentative u on) rest)
  pub last_is : put_last on (left_for_mail on taken (map (settled u) sent)) mail ≡ map (settled u) rest
  pub turn_is : is_with_turn on taken (map (settled u) sent) ≡ hangs_on on taken

kept-last : (u on : Name) (rest : List (List Value)) (mail : List Message) → settle (same_name on) mail ++ map (settled u) rest ≡ settle (same_name on) (mail ++ map (tentative u on) rest)
kept-last u on rest mail = sym (map-append (settle_one (same_name on)) mail (map (tentative u on) rest) ∙ ap (λ ms. settle (same_name on) mail ++ ms) (settle-tentative u on (same_name on) rest (same_name-itself on)))

pub settled-to : (u on : Name) (sent first rest : List (List Value)) (taken : Option Message) (mail : List Message) → sent ≡ first ++ rest → filter (depends_on (same_name on)) (one_or_none taken ++ mail) ≡ map (tentative u on) first → IsSettledTo u on sent rest taken mail
settled-to u on sent first rest taken mail whole put = subst (λ all. IsSettledTo u on all rest taken mail) (sym whole) (by taken first put)
  where
    test : Name → Bool
    test = same_name on

    -- what is taken does not depend on the root
    apart : (taken : Option Message) → hangs_on on taken ≡ false → (first : List (List Value)) → filter (depends_on test) mail ≡ map (tentative u on) first → IsSettledTo u on (first ++ rest) rest taken mail
    apart taken not first found =
        let after = mail-settles u on first rest mail found in
        record {
          taken_is = same (map (settled u) (first ++ rest));
          mail_is = ap (λ ms. mail_after on ms mail) (all-left (map (settled u) (first ++ rest))) ∙ after.mail_is ∙ kept-last u on rest mail;
          last_is = ap (λ ms. put_last on ms mail) (all-left (map (settled u) (first ++ rest))) ∙ after.last_is;
          turn_is = none-with on taken not (map (settled u) (first ++ rest)) ∙ sym not;
        }
      where
        same : (ms : List Message) → taken_after on ms taken ≡ option_map (settle_one test) taken
        same ms = after-same on taken not ms ∙ sym (same-taken on taken not)

        all-left : (ms : List Message) → left_for_mail on taken ms ≡ ms
        all-left ms = none-for-turn on taken not ms

    -- it does: it is the first that is put
    hangs : (m : Message) → depends_on test m ≡ true → (first : List (List Value)) → m ∷ filter (depends_on test) mail ≡ map (tentative u on) first → IsSettledTo u on (first ++ rest) rest (Some m) mail
    hangs m is [] found = cc
    hangs m is (args ∷ first) found =
        let others : filter (depends_on test) mail ≡ map (tentative u on) first = cc in
        let after = mail-settles u on first rest mail others in
        record {
          taken_is = refl;
          mail_is = ap (λ c. mail_after on (cond c (map (settled u) (first ++ rest)) (settled u args ∷ map (settled u) (first ++ rest))) mail) is ∙ after.mail_is ∙ kept-last u on rest mail;
          last_is = ap (λ c. put_last on (cond c (map (settled u) (first ++ rest)) (settled u args ∷ map (settled u) (first ++ rest))) mail) is ∙ after.last_is;
          turn_is = refl;
        }

    by : (taken : Option Message) (first : List (List Value)) → filter (depends_on test) (one_or_none taken ++ mail) ≡ map (tentative u on) first → IsSettledTo u on (first ++ rest) rest taken mail
    by None first found = apart None refl first found
    by (Some m) first found = on-it (depends_on test m) refl found
      where
        on-it : (c : Bool) → depends_on test m ≡ c → cond c (m ∷ filter (depends_on test) mail) (filter (depends_on test) mail) ≡ map (tentative u on) first → IsSettledTo u on (first ++ rest) rest (Some m) mail
        on-it true is e = hangs m is first e
        on-it false is e = apart (Some m) is first e
