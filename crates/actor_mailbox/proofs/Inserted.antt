-- What a message that is put at its place among those before it leaves as it was, and that senders rise there.
use Rattle.std.proofs.Common.{◌≡◌, ◌∙◌, ℕ, zero, suc, ◌+◌, ◌-◌, ◌<◌, ◌≤◌, Bool, true, false, cond, List, [], ◌∷◌, ◌++◌, length, get_or, take, drop, refl, sym, ap, subst, arith, append_assoc, length-append, take-append-drop, length-take, length-drop}
use Rattle.std.proofs.lemmas.List.{drop_at, drop_more, take_at}
use Rattle.std.specs.Ordering.{is_gt}
use borrow.Rule.Slice.PartMut.{put_mid}
use Rattle.actor_mailbox.specs.declared.message.Message.{Message}
use Rattle.actor_mailbox.specs.BySender.{is_up_to, may_follow, AllAfter, SendersRise}
use Rattle.actor_mailbox.specs.Messages.{from, is_from}
use Rattle.actor_mailbox.proofs.AfterOrder.{after-back, after-other, not_gt}
use Rattle.actor_mailbox.proofs.Rising.{rest_rises}
use Rattle.value_core.specs.Name.{after_cmp}
use Rattle.value_core.specs.Named.{Name}

-- behind the first messages may stand what may stand behind the last of them
pub follows_at : (sender : Name) (ms : List Message) (k : ℕ) (other : Message) → k < length ms → may_follow (take (suc k) ms) sender ≡ is_up_to (get_or ms k other).sender sender
follows_at sender [] k other lt = absurd (omega arith)
follows_at sender (m ∷ ms) zero other lt = refl
follows_at sender (m ∷ []) (suc k) other lt = absurd (omega arith)
follows_at sender (m ∷ n ∷ rest) (suc k) other lt = follows_at sender (n ∷ rest) k other (omega arith)

-- ---- a message stands before those that come after its sender, in place of behind them
module _ (u : Name) (m : Message) where
  swapped : (x : Message) (rest : List Message) → is_gt (after_cmp x.sender m.sender) ≡ true
      → cond (is_from u m) (m ∷ cond (is_from u x) (x ∷ rest) rest) (cond (is_from u x) (x ∷ rest) rest) ≡ cond (is_from u x) (x ∷ cond (is_from u m) (m ∷ rest) rest) (cond (is_from u m) (m ∷ rest) rest)
  swapped x rest after = on (is_from u m) refl
    where
      on : (b : Bool) → is_from u m ≡ b → cond b (m ∷ cond (is_from u x) (x ∷ rest) rest) (cond (is_from u x) (x ∷ rest) rest) ≡ cond (is_from u x) (x ∷ cond b (m ∷ rest) rest) (cond b (m ∷ rest) rest)
      on false is = refl
      on true is = rw (after-other x.sender m.sender u after is) refl

  passed : (mids rest : List Message) → AllAfter m.sender mids → from u (m ∷ (mids ++ rest)) ≡ from u (mids ++ m ∷ rest)
  passed [] rest all = refl
  passed (x ∷ mids) rest all = swapped x (from u (mids ++ rest)) all.0 ∙ ap (λ ms. cond (is_from u x) (x ∷ ms) ms) (passed mids rest all.1)

  pub moved_same : (front mids rest : List Message) → AllAfter m.sender mids → from u (front ++ m ∷ (mids ++ rest)) ≡ from u (front ++ (mids ++ m ∷ rest))
  moved_same [] mids rest all = passed mids rest all
  moved_same (x ∷ front) mids rest all = ap (λ ms. cond (is_from u x) (x ∷ ms) ms) (moved_same front mids rest all)

pub moved_rises : (front mids : List Message) (m : Message) → SendersRise (front ++ mids) → may_follow front m.sender ≡ true → AllAfter m.sender mids → SendersRise (front ++ m ∷ mids)
moved_rises [] [] m rises follows all = tt
moved_rises [] (n ∷ ns) m rises follows all = (after-back n.sender m.sender all.0, rises)
moved_rises (x ∷ []) mids m rises follows all = (not_gt _ follows, moved_rises [] mids m (rest_rises x mids rises) refl all)
moved_rises (x ∷ y ∷ front) mids m rises follows all = (rises.0, moved_rises (y ∷ front) mids m rises.1 follows all)

-- ---- by a turn of a part of the messages
-- the last message comes first
abbrev pub turned : List Message → List Message
turned ms = drop (length ms - 1) ms ++ take (length ms - 1) ms

module _ (front mids rest : List Message) (m : Message) (place at : ℕ) (long : length front ≡ place) (up_to : place + length mids ≡ at) where
  abbrev all : List Message
  all = front ++ (mids ++ m ∷ rest)

  part : take (at + 1 - place) (drop place all) ≡ mids ++ m ∷ []
  part =
      ap (take (at + 1 - place)) (drop_at front (mids ++ m ∷ rest) place long ∙ sym (append_assoc mids (m ∷ []) rest))
      ∙ take_at (mids ++ m ∷ []) rest (at + 1 - place) (let n = length-append mids (m ∷ []) in omega arith)

  behind : drop (at + 1 - place) (drop place all) ≡ rest
  behind =
      ap (drop (at + 1 - place)) (drop_at front (mids ++ m ∷ rest) place long ∙ sym (append_assoc mids (m ∷ []) rest))
      ∙ drop_at (mids ++ m ∷ []) rest (at + 1 - place) (let n = length-append mids (m ∷ []) in omega arith)

  last_first : turned (mids ++ m ∷ []) ≡ m ∷ mids
  last_first =
      let few : length (mids ++ m ∷ []) - 1 ≡ length mids = (let k = length-append mids (m ∷ []) in omega arith) in
      ap (λ n. drop n (mids ++ m ∷ []) ++ take n (mids ++ m ∷ [])) few
      ∙ ap (λ ms. ms ++ take (length mids) (mids ++ m ∷ [])) (drop_at mids (m ∷ []) (length mids) refl)
      ∙ ap (λ ms. m ∷ ms) (take_at mids (m ∷ []) (length mids) refl)

  turned_in : put_mid place (at + 1 - place) all (turned (take (at + 1 - place) (drop place all))) ≡ front ++ m ∷ (mids ++ rest)
  turned_in =
      ap (λ ms. put_mid place (at + 1 - place) all ms) (ap turned part ∙ last_first)
      ∙ ap (λ ms. ms ++ (m ∷ mids ++ drop (at + 1 - place) (drop place all))) (take_at front (mids ++ m ∷ rest) place long)
      ∙ ap (λ ms. front ++ m ∷ (mids ++ ms)) behind

module _ (ms : List Message) (place at : ℕ) (other : Message) (within : at < length ms) (before : place ≤ at) where
  abbrev pub front : List Message
  front = take place (take at ms)

  abbrev pub mids : List Message
  mids = drop place (take at ms)

  abbrev pub m : Message
  m = get_or ms at other

  abbrev pub rest : List Message
  rest = drop (at + 1) ms

  ordered : ms ≡ front ++ (mids ++ m ∷ rest)
  ordered =
      sym (take-append-drop at ms) ∙ ap (λ xs. take at ms ++ xs) (drop_more ms at other within)
      ∙ ap (λ xs. xs ++ m ∷ rest) (sym (take-append-drop place (take at ms))) ∙ append_assoc front mids (m ∷ rest)

  up_to_at : length (take at ms) ≡ at
  up_to_at = let n = length-take at ms in omega arith

  long : length front ≡ place
  long = let n = length-take place (take at ms) in let k = up_to_at in omega arith

  between : place + length mids ≡ at
  between = let n = length-drop place (take at ms) in let k = up_to_at in omega arith

  pub put_at_place : put_mid place (at + 1 - place) ms (turned (take (at + 1 - place) (drop place ms))) ≡ front ++ m ∷ (mids ++ rest)
  put_at_place = subst (λ xs. put_mid place (at + 1 - place) xs (turned (take (at + 1 - place) (drop place xs))) ≡ front ++ m ∷ (mids ++ rest)) (sym ordered) (turned_in front mids rest m place at long between)

  pub put_same : (u : Name) → AllAfter m.sender mids → from u (front ++ m ∷ (mids ++ rest)) ≡ from u ms
  put_same u all = moved_same u m front mids rest all ∙ ap (from u) (sym ordered)

  pub put_rises : SendersRise (take at ms) → may_follow front m.sender ≡ true → AllAfter m.sender mids → SendersRise (take (at + 1) (front ++ m ∷ (mids ++ rest)))
  put_rises rises follows all =
      let as_one : front ++ m ∷ (mids ++ rest) ≡ (front ++ m ∷ mids) ++ rest = sym (append_assoc front (m ∷ mids) rest) in
      let count : length (front ++ m ∷ mids) ≡ at + 1 = (let n = length-append front (m ∷ mids) in let k = long in let j = between in omega arith) in
      subst SendersRise (sym (ap (take (at + 1)) as_one ∙ take_at (front ++ m ∷ mids) rest (at + 1) count))
      (moved_rises front mids m (subst SendersRise (sym (take-append-drop place (take at ms))) rises) follows all)
