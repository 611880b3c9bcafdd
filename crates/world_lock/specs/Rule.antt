-- The rule of a lock: what is true of its word, its slot and the views of all its seats between any two steps.
use Rattle.std.specs.Prelude.{◌≡◌, ◌≢◌, ℕ, ◌<◌, ◌≤◌, ◌^◌, List, [], ◌∷◌, Option, Some, None, ◌⊎◌}
use Rattle.std.specs.List.{sum_by}
use mathlib.Core.List.{IsPrefix}
use mathlib.Core.Option.{some}
use lib.ListN.{get_elem?}
use Rattle.atomic_table.specs.Table.{State}
use Rattle.world_lock.specs.declared.view.View.{View}
use Rattle.world_lock.specs.Views.{spent}

module _ {T S I : Type 0} where
  -- the view stands among the views, at the place k
  abbrev pub At : List (View T S I) → ℕ → View T S I → Type 0
  At vs k v = get_elem? vs k ≡ some v

  -- the seat has seen this list: it is its own, or that of a seat joined into it since its last look
  abbrev pub Saw : View T S I → List I → Type 0
  Saw v xs = (xs ≡ v.seen) ⊎ (xs ≡ v.told)

  -- the word is free, and no seat holds
  pub record IsFree (s : State (Option T) (View T S I)) : Type 0 where
    pub word : s.words ≡ 0 ∷ []
    pub none_holds : (k : ℕ) (v : View T S I) → At s.views k v → v.held ≡ None

  -- the word says held, and this one seat holds
  pub record IsTaken (s : State (Option T) (View T S I)) : Type 0 where
    pub word : s.words ≡ 1 ∷ []
    pub holder : ℕ
    pub view : View T S I
    pub there : At s.views holder view
    pub value : T
    pub holds : view.held ≡ Some value
    pub alone : (k : ℕ) (v : View T S I) → At s.views k v → k ≢ holder → v.held ≡ None

  -- a seat that is not spent has a share, and knows the lock's setup
  pub record IsLive (of : S) (v : View T S I) : Type 0 where
    pub shares : 1 ≤ v.shares
    pub setup : v.setup ≡ Some of

  -- the shares of all seats
  abbrev pub shares_of : List (View T S I) → ℕ
  shares_of vs = sum_by (λ v. v.shares) vs

  -- the value is of the lock's setup, and its history begins with each list that a seat has seen
  pub record HasAllSeen (setup_of : T → S) (history : T → List I) (setup : S) (vs : List (View T S I)) (y : T) : Type 0 where
    pub of_setup : setup_of y ≡ setup
    pub begins : (k : ℕ) (v : View T S I) (xs : List I) → At vs k v → Saw v xs → IsPrefix xs (history y)

  -- the slot has this value
  abbrev pub IsHome : State (Option T) (View T S I) → T → Type 0
  IsHome s y = get_elem? s.homes 0 ≡ some (some (Some y))

  -- The rule, which has six points.
  pub record IsKept (setup_of : T → S) (history : T → List I) (setup : S) (seats : ℕ) (s : State (Option T) (View T S I)) : Type 0 where
    -- 1. The word says held exactly where one view holds.
    pub held_where_one_holds : IsFree s ⊎ IsTaken s
    -- 2. Of any two seen lists one begins the other.
    pub seen_in_one_order : (j k : ℕ) (v w : View T S I) (xs ys : List I) → At s.views j v → At s.views k w → Saw v xs → Saw w ys → IsPrefix xs ys ⊎ IsPrefix ys xs
    -- 3. A spent view has seen nothing, has no share and does not hold. Every other view has at least one share.
    pub spent_or_live : (k : ℕ) (v : View T S I) → At s.views k v → (v ≡ spent) ⊎ IsLive setup v
    -- 4. The shares of all views add up to the number of seats, which is a `u32`.
    pub shares_add_up : shares_of s.views ≡ seats
    pub few : seats < 2 ^ 32
    -- 5. Where a view holds, each seen list begins the history that the value had when the word was taken.
    pub holder_has_all_seen : (k : ℕ) (v : View T S I) (y : T) → At s.views k v → v.held ≡ Some y → HasAllSeen setup_of history setup s.views y
    -- 6. Where the word is free, the slot has a value of the lock's setup whose history begins with each seen list.
    pub home_has_all_seen : s.words ≡ 0 ∷ [] → (y : T) × IsHome s y × HasAllSeen setup_of history setup s.views y
