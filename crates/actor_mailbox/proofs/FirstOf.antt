-- The first message that passes a test, and that there is none.
use Rattle.std.proofs.Common.{◌≡◌, ℕ, zero, suc, ◌+◌, ◌<◌, Bool, true, false, ◌||◌, if◌then◌else◌, List, [], ◌∷◌, ◌++◌, ◌∙◌, None, Some, length, get_or, set, take, drop, sym, ap, cond, refl, arith}
use Rattle.std.specs.Prelude.{filter}
use Rattle.std.specs.List.{list_any, position, position_from}
use Rattle.std.proofs.lemmas.Iterator.Adapters.{position_from-zero}
use Rattle.std.proofs.lemmas.List.Quantifiers.{position-Some}
use Rattle.actor_mailbox.specs.declared.message.Message.{Message}
use Rattle.actor_mailbox.specs.Messages.{definite, depends_on, settle_first, without_first}
use Rattle.value_core.specs.Named.{Name}

-- the message at this place is the first that passes
pub record IsFirst (test : Message → Bool) (ms : List Message) (place : ℕ) (other : Message) : Type 0 where
  pub within : place < length ms
  pub here : test (get_or ms place other) ≡ true
  pub before : (k : ℕ) → k < place → test (get_or ms k other) ≡ false

later : (test : Message → Bool) (m : Message) (ms : List Message) (place : ℕ) (other : Message) → IsFirst test (m ∷ ms) (suc place) other → IsFirst test ms place other
later test m ms place other is = record {
  within = let lt = is.within in omega arith;
  here = is.here;
  before = λ k lt. is.before (suc k) (omega arith);
}

pub removed_first : (test : Message → Bool) (ms : List Message) (place : ℕ) (other : Message) → IsFirst test ms place other → take place ms ++ drop (suc place) ms ≡ without_first test ms
removed_first test [] place other is = absurd (let lt = is.within in omega arith)
removed_first test (m ∷ ms) zero other is = ap (λ b. if b then ms else m ∷ without_first test ms) (sym is.here)
removed_first test (m ∷ ms) (suc place) other is =
    ap (λ rest. m ∷ rest) (removed_first test ms place other (later test m ms place other is))
    ∙ ap (λ b. if b then ms else m ∷ without_first test ms) (sym (is.before 0 (omega arith)))

-- it comes first among those that pass, and the others follow
pub filtered_first : (test : Message → Bool) (ms : List Message) (place : ℕ) (other : Message) → IsFirst test ms place other → filter test ms ≡ get_or ms place other ∷ filter test (without_first test ms)
filtered_first test [] place other is = absurd (let lt = is.within in omega arith)
filtered_first test (m ∷ ms) zero other is =
    ap (λ b. cond b (m ∷ filter test ms) (filter test ms)) is.here
    ∙ ap (λ b. m ∷ filter test (if b then ms else m ∷ without_first test ms)) (sym is.here)
filtered_first test (m ∷ ms) (suc place) other is =
    let stays = is.before 0 (omega arith) in
    let rest = without_first test ms in
    ap (λ b. cond b (m ∷ filter test ms) (filter test ms)) stays
    ∙ filtered_first test ms place other (later test m ms place other is)
    ∙ ap (λ b. get_or ms place other ∷ cond b (m ∷ filter test rest) (filter test rest)) (sym stays)
    ∙ ap (λ b. get_or ms place other ∷ filter test (if b then ms else m ∷ rest)) (sym stays)

pub settled_first : (test : Name → Bool) (ms : List Message) (place : ℕ) (other : Message) → IsFirst (depends_on test) ms place other → set ms place (definite (get_or ms place other)) ≡ settle_first test ms
settled_first test [] place other is = absurd (let lt = is.within in omega arith)
settled_first test (m ∷ ms) zero other is = ap (λ b. if b then definite m ∷ ms else m ∷ settle_first test ms) (sym is.here)
settled_first test (m ∷ ms) (suc place) other is =
    ap (λ rest. m ∷ rest) (settled_first test ms place other (later (depends_on test) m ms place other is))
    ∙ ap (λ b. if b then definite m ∷ ms else m ∷ settle_first test ms) (sym (is.before 0 (omega arith)))

none_from : (test : Message → Bool) (start : ℕ) (ms : List Message) → position_from test start ms ≡ None → list_any test ms ≡ false
none_from test start [] none = refl
none_from test start (m ∷ ms) none =
    (elim (test m) as (λ b. cond b (Some start) (position_from test (start + 1) ms) ≡ None → (b || list_any test ms) ≡ false) [
      | true ↦ λ h. cc
      | false ↦ λ h. none_from test (start + 1) ms h
    ]) none

pub none_passes : (test : Message → Bool) (ms : List Message) → position test ms ≡ None → list_any test ms ≡ false
none_passes test ms none = none_from test 0 ms (sym (position_from-zero test ms) ∙ none)

pub nothing_filtered : (test : Message → Bool) (ms : List Message) → list_any test ms ≡ false → filter test ms ≡ []
nothing_filtered test [] none = refl
nothing_filtered test (m ∷ ms) none =
    (elim (test m) as (λ b. (b || list_any test ms) ≡ false → cond b (m ∷ filter test ms) (filter test ms) ≡ []) [
      | true ↦ λ h. cc
      | false ↦ λ h. nothing_filtered test ms h
    ]) none

pub nothing_removed : (test : Message → Bool) (ms : List Message) → list_any test ms ≡ false → without_first test ms ≡ ms
nothing_removed test [] none = refl
nothing_removed test (m ∷ ms) none =
    (elim (test m) as (λ b. (b || list_any test ms) ≡ false → (if b then ms else m ∷ without_first test ms) ≡ m ∷ ms) [
      | true ↦ λ h. cc
      | false ↦ λ h. ap (λ rest. m ∷ rest) (nothing_removed test ms h)
    ]) none

pub nothing_settled : (test : Name → Bool) (ms : List Message) → list_any (depends_on test) ms ≡ false → settle_first test ms ≡ ms
nothing_settled test [] none = refl
nothing_settled test (m ∷ ms) none =
    (elim (depends_on test m) as (λ b. (b || list_any (depends_on test) ms) ≡ false → (if b then definite m ∷ ms else m ∷ settle_first test ms) ≡ m ∷ ms) [
      | true ↦ λ h. cc
      | false ↦ λ h. ap (λ rest. m ∷ rest) (nothing_settled test ms h)
    ]) none

pub is_first : (test : Message → Bool) (ms : List Message) (place : ℕ) (other : Message) → position test ms ≡ Some place → IsFirst test ms place other
is_first test ms place other found =
    let at = position-Some test ms place other found in
    record { within = at.0; here = at.1; before = at.2 }

-- a message of nobody
abbrev pub nobodys : Message
nobodys = record { sender = []; args = []; depends = None }
