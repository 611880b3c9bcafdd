-- Each kind of step keeps the rule of a lock, from any state that meets it.
use Rattle.std.proofs.Common.{◌≡◌, ℕ, ◌<◌, ◌≤◌, ◌^◌, eqb, Option, Some, None, List, [], ◌∷◌}
use prog.Atomic.{either}
use Rattle.atomic_table.specs.Table.{State, Me, opening, Allows, Splits, Joins, Final, Seen}
use Rattle.world_lock.specs.declared.view.View.{View}
use Rattle.world_lock.specs.Later.{IsLater}
use Rattle.world_lock.specs.Views.{spent, opening_view, without_one, with_one, joined}
use Rattle.world_lock.specs.Rule.{IsKept}
use Rattle.world_lock.specs.Steps.{Mine, Takes, Gives, Looks}
use Rattle.world_lock.proofs.OneValue.{HasOneValue, one_of_kept, kept_of_one}
use Rattle.world_lock.proofs.Keeps as steps
use Rattle.world_lock.proofs.Keeps.{Home}

-- what is allowed under one form of a rule is allowed under the other
allows_as : {S V : Type 0} (A B : State S V → Type 0) → ((s : State S V) → A s → B s) → ((s : State S V) → B s → A s)
    → (slots id : ℕ) (me : Me S V) (f : ℕ → ℕ) (then : ℕ → Me S V → Type 0) → Allows A slots id me 0 f then → Allows B slots id me 0 f then
allows_as A B up down slots id me f then may s r long at fits = let done = may s (down s r) long at fits in (done.0, done.1, done.2, up _ done.3, done.4)

module _ {T S I : Type 0} (setup_of : T → S) (history : T → List I) where
  -- the lock as it is made
  pub opens : (y : T) (n : ℕ) → 1 ≤ n → n < 2 ^ 32 → IsKept setup_of history (setup_of y) n (opening (0 ∷ []) (Some y ∷ []) (opening_view (setup_of y) (history y) n))
  opens y n some_share few = kept_of_one setup_of history (setup_of y) n _ (steps.opens setup_of history y n some_share few)

  module _ (setup : S) (seats : ℕ) where
    abbrev V : Type 0
    V = View T S I

    abbrev St : Type 0
    St = State (Option T) V

    abbrev One : St → Type 0
    One = HasOneValue setup_of history setup seats

    abbrev Kept : St → Type 0
    Kept = IsKept setup_of history setup seats

    up : (s : St) → One s → Kept s
    up s r = kept_of_one setup_of history setup seats s r

    down : (s : St) → Kept s → One s
    down s r = one_of_kept setup_of history setup seats s r

    -- split seat
    pub splits : (id : ℕ) (v : V) → 2 ≤ v.shares → Splits Kept id v (without_one v) (with_one v)
    splits id v two s r at = up _ (steps.splits setup_of history setup seats id v two s (down s r) at)

    -- join seat
    pub joins : (id : ℕ) (v : V) (other : ℕ) (u : V) → 1 ≤ v.shares → u.held ≡ None → Joins Kept id v other u (joined v u) spent
    joins id v other u one rests s r at apart there = up _ (steps.joins setup_of history setup seats id v other u one rests s (down s r) at apart there)

    -- the look after a join
    pub looks : (slots id : ℕ) (me : Mine T S I) → 1 ≤ me.0.shares → Allows Kept slots id me 0 (λ n. n) (λ found after. Looks me after)
    looks slots id me one = allows_as One Kept up down slots id me (λ n. n) (λ found after. Looks me after) (steps.looks setup_of history setup seats slots id me one)

    -- take word, with the slot out
    pub takes_word : (slots id : ℕ) (me : Mine T S I) → me.0.held ≡ None → 1 ≤ me.0.shares → Allows Kept slots id me 0 (λ n. either (eqb n 0) 1 n) (Takes setup_of history me)
    takes_word slots id me rests one = allows_as One Kept up down slots id me (λ n. either (eqb n 0) 1 n) (Takes setup_of history me) (steps.takes_word setup_of history setup seats slots id me rests one)

    -- slot in, with the word released
    pub gives_word : (slots id : ℕ) (me : Mine T S I) (x y : T) → 1 ≤ slots → me.0.held ≡ Some x → me.1 ≡ (0, Some y) ∷ [] → 1 ≤ me.0.shares → IsLater setup_of history x y
        → Allows Kept slots id me 0 (λ _. 0) (λ _ after. Gives history me after)
    gives_word slots id me x y one_slot has slot one later =
        allows_as One Kept up down slots id me (λ _. 0) (λ _ after. Gives history me after) (steps.gives_word setup_of history setup seats slots id me x y one_slot has slot one later)

    -- the lock as it is closed
    pub closes : (ws : List ℕ) (xs : List (Option T)) (id : ℕ) (v : V) → v.held ≡ None → 1 ≤ v.shares → seats ≤ v.shares → Final (Seen Kept id v) ws xs → Home setup_of history setup seats xs v
    closes ws xs id v rests one all f = steps.closes setup_of history setup seats ws xs id v rests one all (f.0, (down f.0 f.1.0, f.1.1), f.2, f.3, f.4)
