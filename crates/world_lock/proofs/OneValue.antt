-- The rule of a lock in another form, which steps keep easily: there is one value that the word, the slot and all views agree
-- on. The two forms say the same.
use Rattle.std.proofs.Common.{◌≡◌, ℕ, ◌<◌, ◌≤◌, ◌^◌, Option, Some, None, List, [], ◌∷◌, set, ◌⊎◌, inl, inr, ⊎_elim, refl, ap, sym, ◌∙◌, subst, arith}
use Rattle.std.specs.List.{sum_by}
use mathlib.Core.List.{IsPrefix}
use mathlib.Core.Logic.{dite}
use mathlib.Core.Option.{some-injective}
use native.Mathlib.Decide.{ℕ_discrete}
use lib.ListN.{get_elem?}
use Rattle.atomic_table.specs.Table.{State}
use Rattle.atomic_table.proofs.Lists.{at_set}
use Rattle.world_lock.specs.declared.view.View.{View}
use Rattle.world_lock.specs.Views.{spent}
use Rattle.world_lock.specs.Rule.{At, Saw, IsFree, IsTaken, IsLive, shares_of, HasAllSeen, IsHome, IsKept}
use Rattle.world_lock.proofs.Begun.{prefix_either}
use Rattle.world_lock.proofs.Sums.{sum_by-set_at, at-le-sum_by, both-le-sum_by, sum_by-nothing, sum_by-something}

-- 1 where the seat holds the value, else 0
abbrev pub held_count : {T : Type 0} → Option T → ℕ
held_count None = 0
held_count (Some y) = 1

pub held_none : {T : Type 0} (o : Option T) → held_count o ≡ 0 → o ≡ None
held_none None e = refl
held_none (Some y) e = absurd (omega arith)

module _ {T S I : Type 0} where
  -- how many seats hold the value
  abbrev pub holders : List (View T S I) → ℕ
  holders vs = sum_by (λ v. held_count v.held) vs

  -- what a view may say while the lock's value is y
  pub record Knows (history : T → List I) (setup : S) (y : T) (v : View T S I) : Type 0 where
    pub seen : IsPrefix v.seen (history y)
    pub told : IsPrefix v.told (history y)
    pub held : (v.held ≡ None) ⊎ (v.held ≡ Some y)
    pub spent_or_live : (v ≡ spent) ⊎ IsLive setup v

  -- The value is the one in the slot, or, while a seat holds it, that value as it was when the word was taken
  pub record HasOneValue (setup_of : T → S) (history : T → List I) (setup : S) (seats : ℕ) (s : State (Option T) (View T S I)) : Type 0 where
    pub value : T
    pub of_setup : setup_of value ≡ setup
    pub each : (k : ℕ) (v : View T S I) → At s.views k v → Knows history setup value v
    pub word : s.words ≡ holders s.views ∷ []
    pub one_holder : holders s.views ≤ 1
    pub home : holders s.views ≡ 0 → IsHome s value
    pub shares : shares_of s.views ≡ seats
    pub few : seats < 2 ^ 32

  abbrev counted : View T S I → ℕ
  counted v = held_count v.held

module _ {T S I : Type 0} (setup_of : T → S) (history : T → List I) (setup : S) (seats : ℕ) (s : State (Option T) (View T S I)) where
  abbrev V : Type 0
  V = View T S I

  abbrev One : Type 0
  One = HasOneValue setup_of history setup seats s

  abbrev Kept : Type 0
  Kept = IsKept setup_of history setup seats s

  knows_of : (r : Kept) (y : T) → HasAllSeen setup_of history setup s.views y → (k : ℕ) (v : V) → At s.views k v → (v.held ≡ None) ⊎ (v.held ≡ Some y) → Knows history setup y v
  knows_of r y all k v at held = record {
    seen = all.begins k v v.seen at (inl refl);
    told = all.begins k v v.told at (inr refl);
    held = held;
    spent_or_live = r.spent_or_live k v at;
  }

  one_of_free : (r : Kept) → IsFree s → One
  one_of_free r free =
      let home = r.home_has_all_seen free.word in
      let hs : holders s.views ≡ 0 = sum_by-nothing counted s.views (λ k v at. ap held_count (free.none_holds k v at)) in
      record {
        value = home.0;
        of_setup = home.2.of_setup;
        each = λ k v at. knows_of r home.0 home.2 k v at (inl (free.none_holds k v at));
        word = free.word ∙ ap (λ (n : ℕ). n ∷ []) (sym hs);
        one_holder = omega (arith, hs);
        home = λ _. home.1;
        shares = r.shares_add_up;
        few = r.few;
      }

  -- what another view than the holder's holds
  held_of : (t : IsTaken s) (k : ℕ) (v : V) → At s.views k v → (v.held ≡ None) ⊎ (v.held ≡ Some t.value)
  held_of t k v at = dite (ℕ_discrete k t.holder)
      (λ same. let is : v ≡ t.view = some-injective v t.view (sym at ∙ (ap (get_elem? s.views) same ∙ t.there)) in inr (ap (λ (w : V). w.held) is ∙ t.holds))
      (λ other. inl (t.alone k v at other))

  taken_count : (t : IsTaken s) → holders s.views ≡ 1
  taken_count t =
      let without : List V = set s.views t.holder spent in
      let nothing : holders without ≡ 0 = sum_by-nothing counted without (λ k v at. ⊎_elim
      (λ same. ap counted (sym same.1))
      (λ other. ap held_count (t.alone k v other.1 other.0))
      (at_set s.views t.holder k spent v at)) in
      let held : counted t.view ≡ 1 = ap held_count t.holds in
      omega (arith, sum_by-set_at counted s.views t.holder t.view spent t.there)

  one_of_taken : (r : Kept) → IsTaken s → One
  one_of_taken r t =
      let all = r.holder_has_all_seen t.holder t.view t.value t.there t.holds in
      let hs : holders s.views ≡ 1 = taken_count t in
      record {
        value = t.value;
        of_setup = all.of_setup;
        each = λ k v at. knows_of r t.value all k v at (held_of t k v at);
        word = t.word ∙ ap (λ (n : ℕ). n ∷ []) (sym hs);
        one_holder = omega (arith, hs);
        home = λ e. absurd (omega (arith, hs, e));
        shares = r.shares_add_up;
        few = r.few;
      }

  pub one_of_kept : Kept → One
  one_of_kept r = ⊎_elim (one_of_free r) (one_of_taken r) r.held_where_one_holds

  saw_begins : (r : One) (k : ℕ) (v : V) (xs : List I) → At s.views k v → Saw v xs → IsPrefix xs (history r.value)
  saw_begins r k v xs at saw = ⊎_elim
      (λ e. subst (λ (ys : List I). IsPrefix ys (history r.value)) (sym e) (r.each k v at).seen)
      (λ e. subst (λ (ys : List I). IsPrefix ys (history r.value)) (sym e) (r.each k v at).told)
      saw

  all_seen : (r : One) → HasAllSeen setup_of history setup s.views r.value
  all_seen r = record { of_setup = r.of_setup; begins = saw_begins r }

  holds_value : (r : One) (k : ℕ) (v : V) (y : T) → At s.views k v → v.held ≡ Some y → r.value ≡ y
  holds_value r k v y at holds = ⊎_elim (λ none_held. absurd (cc (none_held, holds))) (λ held. cc (held, holds)) (r.each k v at).held

  taken_of : (r : One) → 1 ≤ holders s.views → IsTaken s
  taken_of r some_holder =
      let found = sum_by-something counted s.views some_holder in
      let word : s.words ≡ 1 ∷ [] = r.word ∙ ap (λ (n : ℕ). n ∷ []) (let most = r.one_holder in omega arith) in
      record {
        word = word;
        holder = found.0;
        view = found.1;
        there = found.2;
        value = r.value;
        holds = ⊎_elim (λ none_held. absurd (let gone : counted found.1 ≡ 0 = ap held_count none_held in omega (arith, found.3))) (λ held. held) (r.each found.0 found.1 found.2).held;
        alone = λ k v at other. held_none v.held (let two = both-le-sum_by counted s.views found.0 k found.1 v found.2 at (λ q. other (sym q)) in omega (arith, two, found.3, r.one_holder));
      }

  free_of : (r : One) → holders s.views ≡ 0 → IsFree s
  free_of r none_holds = record {
    word = r.word ∙ ap (λ (n : ℕ). n ∷ []) none_holds;
    none_holds = λ k v at. held_none v.held (let part = at-le-sum_by counted s.views k v at in omega (arith, part, none_holds));
  }

  pub kept_of_one : One → Kept
  kept_of_one r = record {
    held_where_one_holds = dite (ℕ_discrete (holders s.views) 0) (λ none_holds. inl (free_of r none_holds)) (λ some_hold. inr (taken_of r (omega (arith, some_hold))));
    seen_in_one_order = λ j k v w xs ys at at' saw saw'. prefix_either xs ys (history r.value) (saw_begins r j v xs at saw) (saw_begins r k w ys at' saw');
    spent_or_live = λ k v at. (r.each k v at).spent_or_live;
    shares_add_up = r.shares;
    few = r.few;
    holder_has_all_seen = λ k v y at holds. subst (HasAllSeen setup_of history setup s.views) (holds_value r k v y at holds) (all_seen r);
    home_has_all_seen = λ word. (r.value, r.home (let is : holders s.views ≡ 0 = cc (word, r.word) in is), all_seen r);
  }
