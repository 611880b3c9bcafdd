-- How each change of the slots keeps the count and the list of free slots.
use Rattle.std.proofs.Common.{◌≡◌, ◌≢◌, ℕ, zero, suc, Bool, true, false, ◌+◌, ◌-◌, ◌==◌, ◌<◌, ◌≤◌, List, map, length, get_or, set, Option, Some, None, IsSome, count_by, cond, if◌then◌else◌, slice_get, refl, sym, ap, subst, ◌∙◌, arith, length-set, true≢false}
use Rattle.std.proofs.lemmas.Bool.{eqb-true}
use Rattle.std.proofs.lemmas.List.{map-set, length-map, get_or-map, get_or-set_same, get_or-set_other, get_or_past}
use Rattle.std.proofs.lemmas.List.Sums.{sum_by-set, count_by-le-length}
use Rattle.std.proofs.lemmas.Option.{slice_get_within, slice_get-get_or, slice_get_read, get_or_from_slice_get}
use Rattle.record_pool.specs.declared.slot.Slot.{Slot}
use Rattle.record_pool.specs.declared.slot.State.{State}
use Rattle.record_pool.specs.declared.slot.State.TheVariants.{Free, Live, Retired}
use Rattle.record_pool.specs.Slots.{state_place, place_of, value_in, value_of, is_free_state, is_free, IsFreeList, IsSound}
use Rattle.record_pool.specs.Pool.{Pool, place_at, read, Puts}

module _ {T : Type 0} where
  -- a slot starts one list of free slots at most
  IsFreeList-count_unique : (es : List (Slot T)) (m n : ℕ) (at : Option ℕ) → IsFreeList es m at → IsFreeList es n at → m ≡ n
  IsFreeList-count_unique es zero zero at p q = refl
  IsFreeList-count_unique es zero (suc n) at p q = let first = q.3 in absurd (cc)
  IsFreeList-count_unique es (suc m) zero at p q = let first = p.3 in absurd (cc)
  IsFreeList-count_unique es (suc m) (suc n) at p q =
      let first = p.3 in
      let second = q.3 in
      let found = p.4 in
      let found_too = q.4 in
      let free = p.5 in
      let free_too = q.5 in
      let same_slot : p.0 ≡ q.0 = cc in
      let same_entry : p.1 ≡ q.1 = cc in
      let same_state : p.1.state ≡ q.1.state = ap (λ s. s.state) same_entry in
      let same : q.2 ≡ p.2 = cc in
      ap suc (IsFreeList-count_unique es m n p.2 p.6 (subst (IsFreeList es n) same q.6))

  -- a write at a slot that is not on the list keeps the list
  IsFreeList-set : (es : List (Slot T)) (k : ℕ) (s : Slot T) (n : ℕ) (at : Option ℕ) → ((m : ℕ) → m < n → IsFreeList es (suc m) (Some k) → ⊥) → IsFreeList es n at → IsFreeList (set es k s) n at
  IsFreeList-set es k s zero at off p = p
  IsFreeList-set es k s (suc n) at off p =
      let other : p.0 ≢ k = λ same. off n (omega arith) (subst (IsFreeList es (suc n)) (p.3 ∙ ap Some same) p) in
      let within = slice_get_within es p.0 p.1 p.4 in
      let kept : slice_get (set es k s) p.0 ≡ Some p.1 =
      slice_get-get_or (set es k s) p.0 s (omega (arith, length-set es k s))
      ∙ ap Some (get_or-set_other es k p.0 s s other ∙ get_or_from_slice_get es p.0 p.1 s p.4) in
      (p.0, p.1, p.2, p.3, kept, p.5, IsFreeList-set es k s n p.2 (λ m below. off m (omega arith)) p.6)

  -- a slot that is not free is on no list of free slots
  off_list : (es : List (Slot T)) (k : ℕ) (s : Slot T) → slice_get es k ≡ Some s → is_free s ≡ false → (m : ℕ) → IsFreeList es (suc m) (Some k) → ⊥
  off_list es k s found busy m p =
      let first = p.3 in
      let listed = p.4 in
      let same_slot : k ≡ p.0 = cc in
      let same : s ≡ p.1 = cc in
      true≢false (sym (ap is_free_state p.5) ∙ ap is_free (sym same) ∙ busy)

  count-set : (es : List (Slot T)) (k : ℕ) (old new : Slot T) → slice_get es k ≡ Some old → count_by is_free (set es k new) + cond (is_free old) 1 0 ≡ count_by is_free es + cond (is_free new) 1 0
  count-set es k old new found =
      let one : Slot T → ℕ = λ s. cond (is_free s) 1 0 in
      let counted = sum_by-set one es k new old (slice_get_within es k old found) in
      subst (λ s. count_by is_free (set es k new) + one s ≡ count_by is_free es + one new) (get_or_from_slice_get es k old old found) counted

  -- the slot at the head of the list
  pub head_slot : (es : List (Slot T)) (head : Option ℕ) (free k : ℕ) → IsSound es head free → head ≡ Some k → (s : Slot T) × (next : Option ℕ) × (slice_get es k ≡ Some s) × (s.state ≡ Free next)
  head_slot es head free k sound is = by_count free sound.linked
    where
      by_count : (n : ℕ) → IsFreeList es n head → (s : Slot T) × (next : Option ℕ) × (slice_get es k ≡ Some s) × (s.state ≡ Free next)
      by_count zero p = absurd (cc)
      by_count (suc n) p =
          let first = p.3 in
          let same : p.0 ≡ k = cc in
          (p.1, p.2, subst (λ j. slice_get es j ≡ Some p.1) same p.4, p.5)

  pub head_read : (es : List (Slot T)) (head : Option ℕ) (free k : ℕ) (s : Slot T) → IsSound es head free → head ≡ Some k → s ≡ get_or es k s → slice_get es k ≡ Some s
  head_read es head free k s sound is read =
      let first = head_slot es head free k sound is in
      slice_get_read es (length es) k s refl (slice_get_within es k first.0 first.2) read

  pub head_is_free : (es : List (Slot T)) (head : Option ℕ) (free k : ℕ) (s : Slot T) → IsSound es head free → head ≡ Some k → s ≡ get_or es k s → is_free s ≡ true
  head_is_free es head free k s sound is read =
      let first = head_slot es head free k sound is in
      let listed = first.2 in
      let found = head_read es head free k s sound is read in
      let same : s ≡ first.0 = cc in
      ap is_free same ∙ ap is_free_state first.3

  -- the first free slot leaves the list: the rest is shorter, so it does not come back to that slot
  pub IsSound-fill : (es : List (Slot T)) (head : Option ℕ) (free k : ℕ) (old new : Slot T) (next : Option ℕ) → IsSound es head free → head ≡ Some k → old ≡ get_or es k old → old.state ≡ Free next → is_free new ≡ false → IsSound (set es k new) next (free - 1)
  IsSound-fill es head free k old new next sound is at was busy = by_count free sound.counted sound.linked
    where
      found : slice_get es k ≡ Some old
      found = head_read es head free k old sound is at

      by_count : (n : ℕ) → n ≡ count_by is_free es → IsFreeList es n head → IsSound (set es k new) next (n - 1)
      by_count zero counted p = absurd (cc)
      by_count (suc n) counted p =
          let first = p.3 in
          let listed = p.4 in
          let here = found in
          let same_slot : p.0 ≡ k = cc in
          let same : p.1 ≡ old = cc in
          let same_state : p.1.state ≡ old.state = ap (λ s. s.state) same in
          let free_then = p.5 in
          let same_next : p.2 ≡ next = cc in
          let off : (m : ℕ) → m < n → IsFreeList es (suc m) (Some k) → ⊥ =
          λ m below q. omega (arith, IsFreeList-count_unique es (suc m) (suc n) (Some k) q (subst (IsFreeList es (suc n)) is p)) in
          let change : count_by is_free (set es k new) + cond true 1 0 ≡ count_by is_free es + cond false 1 0 =
          subst (λ b. count_by is_free (set es k new) + cond true 1 0 ≡ count_by is_free es + cond b 1 0) busy (subst (λ b. count_by is_free (set es k new) + cond b 1 0 ≡ count_by is_free es + cond (is_free new) 1 0) (ap is_free_state was) (count-set es k old new found)) in
          let less : suc n - 1 ≡ n = omega arith in
          record {
            counted = omega (arith, change, counted);
            linked = subst (λ m. IsFreeList (set es k new) m next) (sym less) (IsFreeList-set es k new n next off (subst (IsFreeList es n) same_next p.6));
          }

  -- a slot that is not free becomes the head of the list
  pub IsSound-vacate : (es : List (Slot T)) (head : Option ℕ) (free k : ℕ) (old new : Slot T) → IsSound es head free → slice_get es k ≡ Some old → is_free old ≡ false → new.state ≡ Free head → IsSound (set es k new) (Some k) (free + 1)
  IsSound-vacate es head free k old new sound found busy is =
      let within = slice_get_within es k old found in
      let change = count-set es k old new found in
      let change_2 : count_by is_free (set es k new) + cond false 1 0 ≡ count_by is_free es + cond true 1 0 =
      subst (λ b. count_by is_free (set es k new) + cond false 1 0 ≡ count_by is_free es + cond b 1 0) (ap is_free_state is) (subst (λ b. count_by is_free (set es k new) + cond b 1 0 ≡ count_by is_free es + cond (is_free new) 1 0) busy change) in
      let written : slice_get (set es k new) k ≡ Some new =
      slice_get-get_or (set es k new) k new (omega (arith, length-set es k new)) ∙ ap Some (get_or-set_same es k new new within) in
      let more : suc free ≡ free + 1 = omega arith in
      record {
        counted = omega (arith, change_2, sound.counted);
        linked = subst (λ m. IsFreeList (set es k new) m (Some k)) more (k, new, head, refl, written, is, IsFreeList-set es k new free head (λ m _. off_list es k old found busy m) sound.linked);
      }

  -- a slot that is not free and does not become so
  pub IsSound-keep : (es : List (Slot T)) (head : Option ℕ) (free k : ℕ) (old new : Slot T) → IsSound es head free → slice_get es k ≡ Some old → is_free old ≡ false → is_free new ≡ false → IsSound (set es k new) head free
  IsSound-keep es head free k old new sound found busy still =
      let change : count_by is_free (set es k new) + cond false 1 0 ≡ count_by is_free es + cond false 1 0 =
      subst (λ b. count_by is_free (set es k new) + cond false 1 0 ≡ count_by is_free es + cond b 1 0) still (subst (λ b. count_by is_free (set es k new) + cond b 1 0 ≡ count_by is_free es + cond (is_free new) 1 0) busy (count-set es k old new found)) in
      record {
        counted = omega (arith, change, sound.counted);
        linked = IsFreeList-set es k new free head (λ m _. off_list es k old found busy m) sound.linked;
      }

  read_parts : (v : Option T) (n g : ℕ) → IsSome (if n == g + 1 then v else None) → (value : T) × (v ≡ Some value) × (n ≡ g + 1)
  read_parts v n g some = by_case v (n == g + 1) refl some
    where
      by_case : (v : Option T) (b : Bool) → (n == g + 1) ≡ b → IsSome (if b then v else None) → (value : T) × (v ≡ Some value) × (n ≡ g + 1)
      by_case None true e some = absurd (true≢false (sym some))
      by_case (Some value) true e some = (value, refl, eqb-true n (g + 1) e)
      by_case v false e some = absurd (true≢false (sym some))

  live_state : (st : State T) (generation g : ℕ) (value : T) → (state_place generation st).0 ≡ Some value → (state_place generation st).1 ≡ g + 1 → (st ≡ Live value) × (generation ≡ g)
  live_state (Free _) generation g value e n = absurd (cc)
  live_state (Live other) generation g value e n = (cc, omega (arith, n))
  live_state Retired generation g value e n = absurd (cc)

  read_is : (v : Option T) (b : Bool) → IsSome (if b then v else None) → (if b then v else None) ≡ v
  read_is v true some = refl
  read_is v false some = absurd (true≢false (sym some))

  place_value : (st : State T) (generation : ℕ) → (state_place generation st).0 ≡ value_in st
  place_value (Free _) generation = refl
  place_value (Live _) generation = refl
  place_value Retired generation = refl

  -- what a live ticket names
  pub record IsLiveAt (es : List (Slot T)) (slot generation first : ℕ) (s : Slot T) : Type 0 where
    pub found : slice_get es slot ≡ Some s
    pub of_generation : s.generation ≡ generation
    pub busy : is_free s ≡ false
    pub reads : read (get_or (map place_of es) slot (None, first)) generation ≡ value_of s

  pub live_within : (es : List (Slot T)) (slot generation first : ℕ) → IsSome (read (get_or (map place_of es) slot (None, first)) generation) → slot < length es
  live_within es slot generation first some =
      let parts = read_parts _ _ generation some in
      let kept = parts.1 in
      by_past (λ past. let gone = ap (λ p. p.0) (get_or_past (map place_of es) slot (None, first) (omega (arith, past, length-map es place_of))) in cc)
    where
      by_past : (length es ≤ slot → ⊥) → slot < length es
      by_past not_past = grind (arith, not_past)

  pub live_at : (es : List (Slot T)) (slot generation first : ℕ) (s : Slot T) → IsSome (read (get_or (map place_of es) slot (None, first)) generation) → s ≡ get_or es slot s → IsLiveAt es slot generation first s
  live_at es slot generation first s some is =
      let within = live_within es slot generation first some in
      let parts = read_parts _ _ generation some in
      let place : get_or (map place_of es) slot (None, first) ≡ place_of s = get_or-map place_of es slot s (None, first) within ∙ ap place_of (sym is) in
      let live = live_state s.state s.generation generation parts.0 (ap (λ p. p.0) (sym place) ∙ parts.1) (ap (λ p. p.1) (sym place) ∙ parts.2) in
      record {
        found = slice_get_read es (length es) slot s refl within is;
        of_generation = live.1;
        busy = ap is_free_state live.0;
        reads = read_is _ _ some ∙ ap (λ p. p.0) place ∙ place_value s.state s.generation;
      }

  -- what the view has at the head of the list
  pub head_place : (es : List (Slot T)) (head : Option ℕ) (free k first : ℕ) (s : Slot T) → IsSound es head free → head ≡ Some k → s ≡ get_or es k s → get_or (map place_of es) k (None, first) ≡ (None, s.generation)
  head_place es head free k first s sound is at =
      let listed = head_slot es head free k sound is in
      let there = listed.2 in
      let found = head_read es head free k s sound is at in
      let same : s ≡ listed.0 = cc in
      let state : s.state ≡ Free listed.1 = ap (λ x. x.state) same ∙ listed.3 in
      get_or-map place_of es k s (None, first) (slice_get_within es k s found) ∙ ap place_of (sym at) ∙ ap (state_place s.generation) state

  -- a write of one place changes what that slot has, and no other
  pub Puts-set : (old new : Pool T) (slot : ℕ) (place : Option T × ℕ) → slot < length old.places → new.places ≡ set old.places slot place → new.first ≡ old.first → Puts old new slot place
  Puts-set old new slot place within written first =
      record {
        changed = rw (written, first) (get_or-set_same old.places slot place (None, old.first) within);
        others = λ other differs. rw (written, first) (get_or-set_other old.places slot other place (None, old.first) differs);
      }
