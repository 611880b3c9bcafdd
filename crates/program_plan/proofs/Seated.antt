-- The places of a frame lie in it.
use Rattle.std.proofs.Common.{◌≡◌, ◌∙◌, inl, inr, ℕ, ◌+◌, ◌-◌, ◌<◌, ◌≤◌, Bool, true, false, List, [], ◌∷◌, length, map, refl, ap, arith}
use Rattle.std.specs.Prelude.{nat_lt, Contains, if◌then◌else◌, cond}
use Rattle.std.specs.List.{list_all}
use Rattle.std.proofs.lemmas.Bool.{lt-ltb, le-ltb, ltb-true, ltb-false, and_from}
use Rattle.std.proofs.lemmas.List.Folds.{list_all-append}
use Rattle.std.proofs.lemmas.List.Sums.{sum_by-cons, count_by-le-length}
use Rattle.core_syntax.specs.Fits.{all_below}
use Rattle.resolved_forms.specs.declared.layout.Hidden.{Hidden}
use Rattle.resolved_forms.specs.declared.layout.Layout.{Layout}
use Rattle.program_plan.specs.Frame.{position_of, global_place, local_place, hidden_places, frame_of}
use Rattle.resolved_forms.proofs.Members.{none_in, in_cons, in_head, in_tail}
use Rattle.program_plan.proofs.Setting.{size_in}

below_cons : (n m : ℕ) (ms : List ℕ) → position_of n (m ∷ ms) ≡ cond (nat_lt m n) 1 0 + position_of n ms
below_cons n m ms = sum_by-cons (λ k. cond (nat_lt k n) 1 0) m ms

one_at_most : (b : Bool) → cond b 1 0 ≤ 1
one_at_most true = omega arith
one_at_most false = omega arith

-- a number that is there has a position there
pub position_within : (n : ℕ) (numbers : List ℕ) → Contains numbers n → position_of n numbers < length numbers
position_within n [] there = absurd (none_in n there)
position_within n (m ∷ ms) there = elim (in_cons m n ms there) [
  | inl same ↦
      let none = ap {B = ℕ} (λ (b : Bool). cond b 1 0) (le-ltb m n (omega arith)) in
      omega (arith, below_cons n m ms, none, count_by-le-length (λ k. nat_lt k n) ms)
  | inr behind ↦ omega (arith, below_cons n m ms, one_at_most (nat_lt m n), position_within n ms behind)
]

-- a test that each mapped element passes
pub list_all_mapped : (p : ℕ → Bool) (f : ℕ → ℕ) (xs : List ℕ) → ((x : ℕ) → Contains xs x → p (f x) ≡ true) → list_all p (map f xs) ≡ true
list_all_mapped p f [] passes = refl
list_all_mapped p f (x ∷ xs) passes =
    and_from (p (f x)) (list_all p (map f xs)) (passes x (in_head x xs)) (list_all_mapped p f xs (λ y there. passes y (in_tail x y xs there)))

module _ (layout : Layout) (hidden : Hidden) (base depth : ℕ) where
  pub global_fits : (number : ℕ) → Contains hidden.globals number → global_place (frame_of layout hidden base) number < size_in hidden base depth
  global_fits number there = omega (arith, position_within number hidden.globals there)

  pub local_fits : (level : ℕ) → base ≤ depth → level < depth → (level < base → Contains hidden.levels level) → local_place (frame_of layout hidden base) level < size_in hidden base depth
  local_fits level within lt there = on (nat_lt level base) refl
    where
      on : (b : Bool) → nat_lt level base ≡ b
          → length hidden.globals + (if b then position_of level hidden.levels else length hidden.levels + (level - base)) < size_in hidden base depth
      on true outer = omega (arith, position_within level hidden.levels (there (ltb-true level base outer)))
      on false own = omega (arith, ltb-false level base own)

  -- the hidden arguments of what is called lie there
  pub hidden_fit : (callee : Hidden) → base ≤ depth → ((g : ℕ) → Contains callee.globals g → Contains hidden.globals g)
      → ((level : ℕ) → Contains callee.levels level → (level < depth) × (level < base → Contains hidden.levels level))
      → all_below (size_in hidden base depth) (hidden_places (frame_of layout hidden base) callee) ≡ true
  hidden_fit callee within globals levels =
      let frame = frame_of layout hidden base in
      let size = size_in hidden base depth in
      let below = λ (place : ℕ). nat_lt place size in
      list_all-append below (map (global_place frame) callee.globals) (map (local_place frame) callee.levels)
      ∙ and_from (list_all below (map (global_place frame) callee.globals)) (list_all below (map (local_place frame) callee.levels))
      (list_all_mapped below (global_place frame) callee.globals (λ g there. lt-ltb (global_place frame g) size (global_fits g (globals g there))))
      (list_all_mapped below (local_place frame) callee.levels (λ level there. let is = levels level there in lt-ltb (local_place frame level) size (local_fits level within is.0 is.1)))
