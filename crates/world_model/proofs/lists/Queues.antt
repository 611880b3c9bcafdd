-- How the queue of one sender at one actor stands after each change of a line.
use Rattle.std.proofs.Common.{◌≡◌, ◌∙◌, Bool, true, false, cond, List, [], ◌∷◌, ◌++◌, map, length, drop, filter, append_assoc, append-nil, refl, sym, ap, ap₂, subst}
use Rattle.std.specs.Prelude.{None}
use Rattle.value_core.proofs.NamedLaws.{same_name-itself}
use Rattle.value_core.specs.Named.{Name, same_name}
use Rattle.value_core.specs.declared.value.Value.{Value}
use Rattle.actor_mailbox.specs.declared.message.Message.{Message}
use Rattle.actor_mailbox.specs.Messages.{is_from, from, passes, definite, settle_one, settle, stays, without}
use Rattle.world_model.specs.Message.{settled, tentative, settle_or_put, is_tentative, unsettled}
use Rattle.world_model.specs.StandsFor.{QueueStands}
use Rattle.world_model.proofs.lists.Lists.{Each, each-left, each-right, each-map, map-append, drop-left, filter-append, filter-swap, filter-all, filter-none, from-settle, settle-settled, settle-others, settle-tentative, without-settled, tentative-settled}

abbrev pub AreTentative : List Message → Type 0
AreTentative ms = Each (λ m. is_tentative m ≡ true) ms

abbrev pub AreFrom : Name → List Message → Type 0
AreFrom u ms = Each (λ m. is_from u m ≡ true) ms

abbrev pub AreNotFrom : Name → List Message → Type 0
AreNotFrom u ms = Each (λ m. is_from u m ≡ false) ms

-- ---- a message comes last, or is kept
pub queue-puts : (u : Name) (ms ps : List Message) (m : Message) (queue : List (List Value)) → is_from u m ≡ true → (at : QueueStands u ms ps queue) → at.kept ≡ []
    → QueueStands u (ms ++ m ∷ []) (ps ++ m ∷ []) queue
queue-puts u ms ps m queue is at none = record {
  put = at.put ++ m ∷ [];
  kept = [];
  whole = ap (λ xs. xs ++ m ∷ []) (at.whole ∙ ap (λ k. at.put ++ k) none ∙ append-nil at.put) ∙ sym (append-nil (at.put ++ m ∷ []));
  stands = filter-append (is_from u) ms (m ∷ []) ∙ ap₂ (λ a b. a ++ b) at.stands (ap (λ b. cond b (m ∷ []) []) is) ∙ append_assoc (map (settled u) queue) at.put (m ∷ []);
}

pub queue-keeps : (u : Name) (ms ps more : List Message) (queue : List (List Value)) → QueueStands u ms ps queue → QueueStands u ms (ps ++ more) queue
queue-keeps u ms ps more queue at = record {
  put = at.put;
  kept = at.kept ++ more;
  whole = ap (λ xs. xs ++ more) at.whole ∙ append_assoc at.put at.kept more;
  stands = at.stands;
}

-- messages of others make no difference
pub queue-others : (u : Name) (ms more ps : List Message) (queue : List (List Value)) → AreNotFrom u more → QueueStands u ms ps queue → QueueStands u (ms ++ more) ps queue
queue-others u ms more ps queue not at = record {
  put = at.put;
  kept = at.kept;
  whole = at.whole;
  stands = filter-append (is_from u) ms more ∙ ap (λ b. from u ms ++ b) (filter-none (is_from u) more not) ∙ append-nil (from u ms) ∙ at.stands;
}

-- the ones that are kept, from the line alone
pub queue-kept : (u : Name) (ms ps : List Message) (queue : List (List Value)) → AreTentative ps → (at : QueueStands u ms ps queue) → drop (length (unsettled u ms)) ps ≡ at.kept
queue-kept u ms ps queue all at = ap₂ (λ n xs. drop n xs) (ap length puts) at.whole ∙ drop-left at.put at.kept
  where
    is_put : AreTentative at.put
    is_put = each-left (λ m. is_tentative m ≡ true) at.put at.kept (subst AreTentative at.whole all)

    puts : unsettled u ms ≡ at.put
    puts = ap (λ xs. filter is_tentative xs) at.stands ∙ filter-append is_tentative (map (settled u) queue) at.put ∙ ap₂ (λ a b. a ++ b) (tentative-settled u queue) (filter-all is_tentative at.put is_put)

-- ---- the first message is taken
pub record IsTaken (u : Name) (m : Message) (ms ps : List Message) (queue : List (List Value)) : Type 0 where
  pub rest : List (List Value)
  pub first : queue ≡ m.args ∷ rest
  pub stands : QueueStands u ms ps rest

pub queue-takes : (u : Name) (m : Message) (ms ps : List Message) (queue : List (List Value)) → is_from u m ≡ true → m.depends ≡ None → AreTentative ps → QueueStands u (m ∷ ms) ps queue
    → IsTaken u m ms ps queue
queue-takes u m ms ps queue is definite all at = on queue at.stands
  where
    first : from u (m ∷ ms) ≡ m ∷ from u ms
    first = ap (λ b. cond b (m ∷ from u ms) (from u ms)) is

    is_put : AreTentative at.put
    is_put = each-left (λ m. is_tentative m ≡ true) at.put at.kept (subst AreTentative at.whole all)

    on : (q : List (List Value)) → from u (m ∷ ms) ≡ map (settled u) q ++ at.put → IsTaken u m ms ps q
    on [] e = let same : at.put ≡ m ∷ from u ms = sym e ∙ first in
        let tentative : is_tentative m ≡ true = (subst AreTentative same is_put).0 in
        let no : is_tentative m ≡ false = ap (λ on. passes (λ n. true) on) definite in cc
    on (args ∷ rest) e =
        let same : m ∷ from u ms ≡ settled u args ∷ (map (settled u) rest ++ at.put) = sym first ∙ e in
        let head : m ≡ settled u args = cc in
        let tail : from u ms ≡ map (settled u) rest ++ at.put = cc in
        record { rest = rest; first = ap (λ (n : Message). n.args ∷ rest) (sym head); stands = record { put = at.put; kept = at.kept; whole = at.whole; stands = tail } }

pub queue-takes-other : (u : Name) (m : Message) (ms ps : List Message) (queue : List (List Value)) → is_from u m ≡ false → QueueStands u (m ∷ ms) ps queue → QueueStands u ms ps queue
queue-takes-other u m ms ps queue not at = record {
  put = at.put;
  kept = at.kept;
  whole = at.whole;
  stands = sym (ap (λ b. cond b (m ∷ from u ms) (from u ms)) not) ∙ at.stands;
}

-- ---- an attempt commits: its messages become definite in their places, and the kept ones come last
pub queue-commits : (u on : Name) (test : Name → Bool) (ms ps : List Message) (queue args : List (List Value)) → test on ≡ true → ps ≡ map (tentative u on) args → (at : QueueStands u ms ps queue)
    → QueueStands u (settle test ms ++ settle test at.kept) [] (queue ++ args)
queue-commits u on test ms ps queue args is sent at = record {
  put = [];
  kept = [];
  whole = refl;
  stands = filter-append (is_from u) (settle test ms) (settle test at.kept)
      ∙ ap₂ (λ a b. a ++ b) (from-settle u test ms ∙ ap (settle test) at.stands ∙ map-append (settle_one test) (map (settled u) queue) at.put) (from-settle u test at.kept ∙ ap (settle test) (filter-all (is_from u) at.kept kept_from))
      ∙ append_assoc (settle test (map (settled u) queue)) (settle test at.put) (settle test at.kept)
      ∙ ap₂ (λ a b. a ++ b) (settle-settled u test queue) (sym (map-append (settle_one test) at.put at.kept) ∙ ap (settle test) (sym at.whole ∙ sent) ∙ settle-tentative u on test args is)
      ∙ sym (map-append (settled u) queue args)
      ∙ sym (append-nil (map (settled u) (queue ++ args)));
}
  where
    all_from : AreFrom u (map (tentative u on) args)
    all_from = each-map (λ m. is_from u m ≡ true) (tentative u on) args (λ a. same_name-itself u)

    kept_from : AreFrom u at.kept
    kept_from = each-right (λ m. is_from u m ≡ true) at.put at.kept (subst (AreFrom u) (sym sent ∙ at.whole) all_from)

-- what settles of others makes no difference to one whose sends depend on other names
pub queue-settles-other : (u : Name) (test : Name → Bool) (ms ps : List Message) (queue : List (List Value)) → Each (λ m. passes test m.depends ≡ false) ps → QueueStands u ms ps queue → QueueStands u (settle test ms) ps queue
queue-settles-other u test ms ps queue not at = record {
  put = at.put;
  kept = at.kept;
  whole = at.whole;
  stands = from-settle u test ms ∙ ap (settle test) at.stands ∙ map-append (settle_one test) (map (settled u) queue) at.put
      ∙ ap₂ (λ a b. a ++ b) (settle-settled u test queue) (settle-others test at.put (each-left (λ m. passes test m.depends ≡ false) at.put at.kept (subst (Each (λ m. passes test m.depends ≡ false)) at.whole not)));
}

-- ---- messages are dropped, wherever they are
pub queue-drops : (u : Name) (gone : Name → Bool) (ms ps : List Message) (queue : List (List Value)) → QueueStands u ms ps queue → QueueStands u (without gone ms) (without gone ps) queue
queue-drops u gone ms ps queue at = record {
  put = without gone at.put;
  kept = without gone at.kept;
  whole = ap (without gone) at.whole ∙ filter-append (stays gone) at.put at.kept;
  stands = filter-swap (is_from u) (stays gone) ms ∙ ap (without gone) at.stands ∙ filter-append (stays gone) (map (settled u) queue) at.put ∙ ap (λ a. a ++ without gone at.put) (without-settled u gone queue);
}

-- ---- a held send settles: the first message that depends on the turn becomes definite in its place, or it comes last

-- whoever depends on such a name is of that sender
abbrev pub AreOwn : (Name → Bool) → Name → List Message → Type 0
AreOwn test u ms = Each (λ m. passes test m.depends ≡ true → is_from u m ≡ true) ms

pub first-from : (u : Name) (test : Name → Bool) (last : Message) (ms : List Message) → is_from u last ≡ true → AreOwn test u ms
    → from u (settle_or_put test last ms) ≡ settle_or_put test last (from u ms)
first-from u test last [] is own = ap (λ b. cond b (last ∷ []) []) is
first-from u test last (m ∷ ms) is own = on (passes test m.depends) (is_from u m) refl refl (first-from u test last ms is own.1)
  where
    on : (p f : Bool) → passes test m.depends ≡ p → is_from u m ≡ f → from u (settle_or_put test last ms) ≡ settle_or_put test last (from u ms)
        → from u (cond p (definite m ∷ ms) (m ∷ settle_or_put test last ms)) ≡ settle_or_put test last (cond f (m ∷ from u ms) (from u ms))
    on true true pe fe rest = rw (fe, pe) refl
    on true false pe fe rest = let no : is_from u m ≡ true = own.0 pe in cc
    on false true pe fe rest = rw (fe, pe) (ap (λ (zs : List Message). m ∷ zs) rest)
    on false false pe fe rest = rw fe rest

pub first-from-other : (u : Name) (test : Name → Bool) (last : Message) (ms : List Message) → is_from u last ≡ false → Each (λ m. passes test m.depends ≡ true → is_from u m ≡ false) ms
    → from u (settle_or_put test last ms) ≡ from u ms
first-from-other u test last [] not own = ap (λ b. cond b (last ∷ []) []) not
first-from-other u test last (m ∷ ms) not own = on (passes test m.depends) refl (first-from-other u test last ms not own.1)
  where
    on : (p : Bool) → passes test m.depends ≡ p → from u (settle_or_put test last ms) ≡ from u ms
        → from u (cond p (definite m ∷ ms) (m ∷ settle_or_put test last ms)) ≡ cond (is_from u m) (m ∷ from u ms) (from u ms)
    on true pe rest = rw (own.0 pe) refl
    on false pe rest = ap (λ (zs : List Message). cond (is_from u m) (m ∷ zs) zs) rest

first-settled : (u : Name) (test : Name → Bool) (last : Message) (queue : List (List Value)) (put : List Message)
    → settle_or_put test last (map (settled u) queue ++ put) ≡ map (settled u) queue ++ settle_or_put test last put
first-settled u test last [] put = refl
first-settled u test last (args ∷ queue) put = ap (λ zs. settled u args ∷ zs) (first-settled u test last queue put)

pub queue-settles-first : (u : Name) (test : Name → Bool) (ms ps : List Message) (queue : List (List Value)) (args : List Value) → test u ≡ true → AreOwn test u ms
    → QueueStands u ms (tentative u u args ∷ ps) queue → QueueStands u (settle_or_put test (settled u args) ms) ps (queue ++ args ∷ [])
queue-settles-first u test ms ps queue args is own at =
    on at.put at.whole (first-from u test (settled u args) ms (same_name-itself u) own ∙ ap (settle_or_put test (settled u args)) at.stands ∙ first-settled u test (settled u args) queue at.put)
  where
    Moved : List Message → Type 0
    Moved after = from u (settle_or_put test (settled u args) ms) ≡ map (settled u) queue ++ after

    on : (put : List Message) → tentative u u args ∷ ps ≡ put ++ at.kept
        → from u (settle_or_put test (settled u args) ms) ≡ map (settled u) queue ++ settle_or_put test (settled u args) put
        → QueueStands u (settle_or_put test (settled u args) ms) ps (queue ++ args ∷ [])
    on [] whole e = record {
      put = [];
      kept = ps;
      whole = refl;
      stands = e ∙ sym (map-append (settled u) queue (args ∷ [])) ∙ sym (append-nil (map (settled u) (queue ++ args ∷ [])));
    }
    on (h ∷ put) whole e =
        let head : tentative u u args ≡ h = cc in
        let tail : ps ≡ put ++ at.kept = cc in
        let first : settle_or_put test (settled u args) (tentative u u args ∷ put) ≡ settled u args ∷ put = ap (λ b. cond b (settled u args ∷ put) (tentative u u args ∷ settle_or_put test (settled u args) put)) is in
        record {
          put = put;
          kept = at.kept;
          whole = tail;
          stands = e ∙ ap (λ (zs : List Message). map (settled u) queue ++ zs) (ap (λ (m : Message). settle_or_put test (settled u args) (m ∷ put)) (sym head) ∙ first)
              ∙ sym (append_assoc (map (settled u) queue) (settled u args ∷ []) put)
              ∙ ap (λ (zs : List Message). zs ++ put) (sym (map-append (settled u) queue (args ∷ [])));
        }

pub queue-settles-first-other : (u v : Name) (test : Name → Bool) (ms ps : List Message) (queue : List (List Value)) (args : List Value) → same_name v u ≡ false
    → Each (λ m. passes test m.depends ≡ true → is_from v m ≡ false) ms → QueueStands v ms ps queue → QueueStands v (settle_or_put test (settled u args) ms) ps queue
queue-settles-first-other u v test ms ps queue args apart own at = record {
  put = at.put;
  kept = at.kept;
  whole = at.whole;
  stands = first-from-other v test (settled u args) ms apart own ∙ at.stands;
}

-- ---- a sender with no unsettled send sends a settled message
nil-left : (xs ys : List Message) → [] ≡ xs ++ ys → xs ≡ []
nil-left [] ys e = refl
nil-left (x ∷ xs) ys e = cc

pub queue-sends : (u : Name) (ms : List Message) (queue : List (List Value)) (args : List Value) → QueueStands u ms [] queue → QueueStands u (ms ++ settled u args ∷ []) [] (queue ++ args ∷ [])
queue-sends u ms queue args at = record {
  put = [];
  kept = [];
  whole = refl;
  stands = filter-append (is_from u) ms (settled u args ∷ [])
      ∙ ap₂ (λ a b. a ++ b) (at.stands ∙ ap (λ p. map (settled u) queue ++ p) (nil-left at.put at.kept at.whole) ∙ append-nil (map (settled u) queue)) (ap (λ b. cond b (settled u args ∷ []) []) (same_name-itself u))
      ∙ sym (map-append (settled u) queue (args ∷ []))
      ∙ sym (append-nil (map (settled u) (queue ++ args ∷ [])));
}
