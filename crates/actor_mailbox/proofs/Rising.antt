-- Messages whose senders rise: what may be put before and behind them, and that they rise where some are gone or are definite.
use Rattle.std.proofs.Common.{◌≡◌, ◌∙◌, ℕ, zero, suc, ◌+◌, ◌-◌, ◌≤◌, Bool, true, false, cond, if◌then◌else◌, List, [], ◌∷◌, ◌++◌, length, take, map, refl, sym, ap, subst, arith}
use Rattle.std.specs.Prelude.{⊤, filter}
use Rattle.std.specs.Ordering.{is_gt}
use Rattle.std.proofs.lemmas.List.{length-map, take-map, take_all, length_push}
use Rattle.actor_mailbox.specs.declared.message.Message.{Message}
use Rattle.actor_mailbox.specs.BySender.{may_follow, may_lead, AreSortedTo, SendersRise}
use Rattle.actor_mailbox.specs.Messages.{definite, depends_on, settle, settle_first, settle_one, without_first}
use Rattle.actor_mailbox.proofs.AfterOrder.{not_gt, up_to-trans}
use Rattle.value_core.specs.Name.{after_cmp}
use Rattle.value_core.specs.Named.{Name}

-- the sender is up to each message
abbrev pub IsUpToAll : Name → List Message → Type 0
IsUpToAll sender [] = ⊤
IsUpToAll sender (m ∷ ms) = (is_gt (after_cmp sender m.sender) ≡ false) × IsUpToAll sender ms

lower : (a b : Name) (ms : List Message) → is_gt (after_cmp a b) ≡ false → IsUpToAll b ms → IsUpToAll a ms
lower a b [] le all = tt
lower a b (m ∷ ms) le all = (up_to-trans a b m.sender le all.0, lower a b ms le all.1)

pub first_up_to : (m : Message) (ms : List Message) → SendersRise (m ∷ ms) → IsUpToAll m.sender ms
first_up_to m [] rises = tt
first_up_to m (n ∷ ns) rises = (rises.0, lower m.sender n.sender ns rises.0 (first_up_to n ns rises.1))

pub rest_rises : (m : Message) (ms : List Message) → SendersRise (m ∷ ms) → SendersRise ms
rest_rises m [] rises = tt
rest_rises m (n ∷ ns) rises = rises.1

pub led : (m : Message) (ms : List Message) → IsUpToAll m.sender ms → SendersRise ms → SendersRise (m ∷ ms)
led m [] all rises = tt
led m (n ∷ ns) all rises = (all.0, rises)

-- ---- one more message
pub pushed_rises : (ms : List Message) (m : Message) → SendersRise ms → may_follow ms m.sender ≡ true → SendersRise (ms ++ m ∷ [])
pushed_rises [] m rises follows = tt
pushed_rises (x ∷ []) m rises follows = (not_gt _ follows, tt)
pushed_rises (x ∷ y ∷ rest) m rises follows = (rises.0, pushed_rises (y ∷ rest) m rises.1 follows)

pub led_rises : (m : Message) (ms : List Message) → SendersRise ms → may_lead m.sender ms ≡ true → SendersRise (m ∷ ms)
led_rises m [] rises leads = tt
led_rises m (n ∷ ns) rises leads = (not_gt _ leads, rises)

leads_front : (sender : Name) (ms : List Message) (count : ℕ) → may_lead sender ms ≡ true → may_lead sender (take count ms) ≡ true
leads_front sender ms zero leads = refl
leads_front sender [] (suc count) leads = refl
leads_front sender (m ∷ ms) (suc count) leads = leads

pub sorted_pushed : (count : ℕ) (ms : List Message) (m : Message) → AreSortedTo count ms → count ≡ length ms → may_follow ms m.sender ≡ true → AreSortedTo (count + 1) (ms ++ m ∷ [])
sorted_pushed count ms m sorted all follows = record {
  within = let long = length_push ms m in omega arith;
  rises = rw (take_all (count + 1) (ms ++ m ∷ []) (let long = length_push ms m in omega arith)) (pushed_rises ms m (subst SendersRise (take_all count ms (omega arith)) sorted.rises) follows);
}

pub sorted_led : (count : ℕ) (ms : List Message) (m : Message) → AreSortedTo count ms → may_lead m.sender ms ≡ true → AreSortedTo (suc count) (m ∷ ms)
sorted_led count ms m sorted leads = record {
  within = let long = sorted.within in omega arith;
  rises = led_rises m (take count ms) sorted.rises (leads_front m.sender ms count leads);
}

pub sorted_first : (m : Message) (ms : List Message) → AreSortedTo 1 (m ∷ ms)
sorted_first m ms = record { within = omega arith; rises = tt }

-- ---- some are gone
kept_up_to : (sender : Name) (test : Message → Bool) (ms : List Message) → IsUpToAll sender ms → IsUpToAll sender (filter test ms)
kept_up_to sender test [] all = tt
kept_up_to sender test (m ∷ ms) all = on (test m) (kept_up_to sender test ms all.1)
  where
    on : (b : Bool) → IsUpToAll sender (filter test ms) → IsUpToAll sender (cond b (m ∷ filter test ms) (filter test ms))
    on true rest = (all.0, rest)
    on false rest = rest

pub filtered_rises : (test : Message → Bool) (ms : List Message) → SendersRise ms → SendersRise (filter test ms)
filtered_rises test [] rises = tt
filtered_rises test (m ∷ ms) rises = on (test m) (filtered_rises test ms (rest_rises m ms rises))
  where
    on : (b : Bool) → SendersRise (filter test ms) → SendersRise (cond b (m ∷ filter test ms) (filter test ms))
    on true rest = led m (filter test ms) (kept_up_to m.sender test ms (first_up_to m ms rises)) rest
    on false rest = rest

-- where all rise, so do all that are left
pub sorted_kept : (test : Message → Bool) (old new : List Message) (count left : ℕ) → AreSortedTo count old → count ≡ length old → new ≡ filter test old → left ≡ length new → AreSortedTo left new
sorted_kept test old new count left sorted all kept long = record {
  within = omega arith;
  rises = subst SendersRise (sym (take_all left new (omega arith) ∙ kept)) (filtered_rises test old (subst SendersRise (take_all count old (omega arith)) sorted.rises));
}

-- of none nothing is asked
pub sorted_none : (ms : List Message) → AreSortedTo 0 ms
sorted_none ms = record { within = omega arith; rises = tt }

left_up_to : (sender : Name) (test : Message → Bool) (count : ℕ) (ms : List Message) → IsUpToAll sender (take (suc count) ms) → IsUpToAll sender (take count (without_first test ms))
left_up_to sender test zero ms all = tt
left_up_to sender test (suc count) [] all = tt
left_up_to sender test (suc count) (m ∷ ms) all = on (test m) (left_up_to sender test count ms all.1)
  where
    on : (b : Bool) → IsUpToAll sender (take count (without_first test ms)) → IsUpToAll sender (take (suc count) (if b then ms else m ∷ without_first test ms))
    on true rest = all.1
    on false rest = (all.0, rest)

left_rises : (test : Message → Bool) (count : ℕ) (ms : List Message) → SendersRise (take (suc count) ms) → SendersRise (take count (without_first test ms))
left_rises test zero ms rises = tt
left_rises test (suc count) [] rises = tt
left_rises test (suc count) (m ∷ ms) rises = on (test m) (left_rises test count ms (rest_rises m (take (suc count) ms) rises))
  where
    on : (b : Bool) → SendersRise (take count (without_first test ms)) → SendersRise (take (suc count) (if b then ms else m ∷ without_first test ms))
    on true rest = rest_rises m (take (suc count) ms) rises
    on false rest = led m (take count (without_first test ms)) (left_up_to m.sender test count ms (first_up_to m (take (suc count) ms) rises)) rest

left_length : (test : Message → Bool) (ms : List Message) → length ms ≤ length (without_first test ms) + 1
left_length test [] = omega arith
left_length test (m ∷ ms) = on (test m) (left_length test ms)
  where
    on : (b : Bool) → length ms ≤ length (without_first test ms) + 1 → length (m ∷ ms) ≤ length (if b then ms else m ∷ without_first test ms) + 1
    on true rest = omega arith
    on false rest = omega arith

pub sorted_left : (test : Message → Bool) (count : ℕ) (ms : List Message) → AreSortedTo count ms → AreSortedTo (count - 1) (without_first test ms)
sorted_left test zero ms sorted = record { within = omega arith; rises = tt }
sorted_left test (suc count) ms sorted = record {
  within = let few = left_length test ms in let long = sorted.within in omega arith;
  rises = let one : suc count - 1 ≡ count = omega arith in rw one (left_rises test count ms sorted.rises);
}

-- ---- some are definite
abbrev pub senders_of : List Message → List Name
senders_of ms = map (λ m. m.sender) ms

senders_rise : (old new : List Message) → senders_of new ≡ senders_of old → SendersRise old → SendersRise new
senders_rise old [] same rises = tt
senders_rise old (m ∷ []) same rises = tt
senders_rise [] (m ∷ n ∷ rest) same rises = cc
senders_rise (x ∷ []) (m ∷ n ∷ rest) same rises = cc
senders_rise (x ∷ y ∷ others) (m ∷ n ∷ rest) same rises =
    let first : m.sender ≡ x.sender = cc in
    let second : n.sender ≡ y.sender = cc in
    let behind : senders_of (n ∷ rest) ≡ senders_of (y ∷ others) = cc in
    (ap (λ s. is_gt (after_cmp s n.sender)) first ∙ ap (λ s. is_gt (after_cmp x.sender s)) second ∙ rises.0, senders_rise (y ∷ others) (n ∷ rest) behind rises.1)

pub sorted_same : (count : ℕ) (old new : List Message) → senders_of new ≡ senders_of old → AreSortedTo count old → AreSortedTo count new
sorted_same count old new same sorted = record {
  within =
      let long = sorted.within in
      let alike : length new ≡ length old = sym (length-map new (λ m. m.sender)) ∙ ap length same ∙ length-map old (λ m. m.sender) in
      omega arith;
  rises = senders_rise (take count old) (take count new) (sym (take-map (λ m. m.sender) count new) ∙ ap (take count) same ∙ take-map (λ m. m.sender) count old) sorted.rises;
}

settled_sender : (test : Name → Bool) (m : Message) → (settle_one test m).sender ≡ m.sender
settled_sender test m = on (depends_on test m)
  where
    on : (b : Bool) → (if b then definite m else m).sender ≡ m.sender
    on true = refl
    on false = refl

pub settle_senders : (test : Name → Bool) (ms : List Message) → senders_of (settle test ms) ≡ senders_of ms
settle_senders test [] = refl
settle_senders test (m ∷ ms) = ap (λ s. s ∷ senders_of (settle test ms)) (settled_sender test m) ∙ ap (λ rest. m.sender ∷ rest) (settle_senders test ms)

pub settle_first_senders : (test : Name → Bool) (ms : List Message) → senders_of (settle_first test ms) ≡ senders_of ms
settle_first_senders test [] = refl
settle_first_senders test (m ∷ ms) = on (depends_on test m) (settle_first_senders test ms)
  where
    on : (b : Bool) → senders_of (settle_first test ms) ≡ senders_of ms → senders_of (if b then definite m ∷ ms else m ∷ settle_first test ms) ≡ m.sender ∷ senders_of ms
    on true rest = refl
    on false rest = ap (λ senders. m.sender ∷ senders) rest
