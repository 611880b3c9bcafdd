-- The layout of a program's forms rises.
use Rattle.std.proofs.Common.{◌≡◌, ℕ, suc, zero, ◌+◌, ◌<◌, ◌≤◌, List, [], ◌∷◌, length, map, fold, get_or, replicate, All, arith, refl, ap, inl, inr}
use Rattle.std.specs.declared.cmp.Ordering.{Ordering}
use Rattle.std.specs.Ordering.{match_ordering, MatchOrdering, nat_cmp}
use Rattle.std.specs.declared.cmp.Ordering.TheVariants.{Less, Equal, Greater}
use Rattle.std.specs.BTreeSet.{insert_key}
use Rattle.std.specs.List.Sorted.{IsStrictlyIncreasing, IsNonDecreasing}
use Rattle.std.proofs.lemmas.Bool.{cases_lt}
use Rattle.std.proofs.lemmas.Cmp.{ranked}
use Rattle.std.proofs.lemmas.List.Elements.{All-cons, All-append, All-nil}
use Rattle.std.proofs.lemmas.List.Kept.{AllPairs-from_increasing}
use Rattle.resolved_forms.specs.declared.top_survey.TopSurvey.{TopSurvey}
use Rattle.resolved_forms.specs.declared.uses.Uses.{Uses}
use Rattle.program_plan.specs.Frame.{Rises, LayoutRises}
use Rattle.resolved_forms.specs.Units.{rising, hidden_of, hidden_from, layout_of}
use Rattle.resolved_forms.specs.Reach.{AreReached}

-- the number is below each of these
Over : ℕ → List ℕ → Type 0
Over x ys = (j d : ℕ) → j < length ys → x < get_or ys j d

-- each number is below those behind it
Up : List ℕ → Type 0
Up xs = (i j d : ℕ) → i < j → j < length xs → get_or xs i d < get_or xs j d

over_cons : (x y : ℕ) (ys : List ℕ) → x < y → Over x ys → Over x (y ∷ ys)
unfolding Over
over_cons x y ys lt over zero d within = lt
over_cons x y ys lt over (suc j) d within = over j d (omega arith)

over_tail : (x y : ℕ) (ys : List ℕ) → Over x (y ∷ ys) → Over x ys
unfolding Over
over_tail x y ys over j d within = over (suc j) d (omega arith)

over_head : (x y : ℕ) (ys : List ℕ) → Over x (y ∷ ys) → x < y
unfolding Over
over_head x y ys over = over zero y (omega arith)

over_nil : (x : ℕ) → Over x []
unfolding Over
over_nil x j d within = absurd (omega arith)

over_less : (x y : ℕ) (ys : List ℕ) → x < y → Over y ys → Over x ys
unfolding Over
over_less x y ys lt over j d within = omega (arith, lt, over j d within)

up_tail : (y : ℕ) (ys : List ℕ) → Up (y ∷ ys) → Up ys
unfolding Up
up_tail y ys up i j d lt within = up (suc i) (suc j) d (omega arith) (omega arith)

up_over : (y : ℕ) (ys : List ℕ) → Up (y ∷ ys) → Over y ys
unfolding Up Over
up_over y ys up j d within = up zero (suc j) d (omega arith) (omega arith)

up_cons : (x : ℕ) (xs : List ℕ) → Over x xs → Up xs → Up (x ∷ xs)
unfolding Up Over
up_cons x xs over up i zero d lt within = absurd (omega arith)
up_cons x xs over up zero (suc j) d lt within = over j d (omega arith)
up_cons x xs over up (suc i) (suc j) d lt within = up i j d (omega arith) (omega arith)

up_nil : Up []
unfolding Up
up_nil i j d lt within = absurd (omega arith)

over_choice : (o : Ordering) (x k y : ℕ) (ys more : List ℕ) → x < k → Over x (y ∷ ys) → Over x more → Over x (match_ordering o (k ∷ y ∷ ys) (y ∷ ys) (y ∷ more))
over_choice Less x k y ys more lt over further = over_cons x k (y ∷ ys) lt over
over_choice Equal x k y ys more lt over further = over
over_choice Greater x k y ys more lt over further = over_cons x y more (over_head x y ys over) further

over_insert : (x k : ℕ) (ys : List ℕ) → x < k → Over x ys → Over x (insert_key nat_cmp ys k)
over_insert x k [] lt over = over_cons x k [] lt (over_nil x)
over_insert x k (y ∷ ys) lt over = over_choice (nat_cmp k y) x k y ys (insert_key nat_cmp ys k) lt over (over_insert x k ys lt (over_tail x y ys over))

up_choice : (o : Ordering) (k y : ℕ) (ys more : List ℕ) → MatchOrdering o (k < y) (k ≡ y) (y < k) → Up (y ∷ ys) → (y < k → Over y more) → Up more
    → Up (match_ordering o (k ∷ y ∷ ys) (y ∷ ys) (y ∷ more))
up_choice Less k y ys more order up over further = up_cons k (y ∷ ys) (over_cons k y ys order (over_less k y ys order (up_over y ys up))) up
up_choice Equal k y ys more order up over further = up
up_choice Greater k y ys more order up over further = up_cons y more (over order) further

up_insert : (ys : List ℕ) (k : ℕ) → Up ys → Up (insert_key nat_cmp ys k)
up_insert [] k up = up_cons k [] (over_nil k) up_nil
up_insert (y ∷ ys) k up =
    up_choice (nat_cmp k y) k y ys (insert_key nat_cmp ys k) (ranked k y (nat_cmp k y) refl) up (λ lt. over_insert y k ys lt (up_over y ys up)) (up_insert ys k (up_tail y ys up))

up_fold : (numbers set : List ℕ) → Up set → Up (fold (insert_key nat_cmp) set numbers)
up_fold [] set up = up
up_fold (n ∷ numbers) set up = up_fold numbers (insert_key nat_cmp set n) (up_insert set n up)

same_at : (xs : List ℕ) (i j d : ℕ) → i ≡ j → get_or xs i d ≤ get_or xs j d
same_at xs i j d same = let e = ap (λ n. get_or xs n d) same in omega (arith, e)

up_rises : (xs : List ℕ) → Up xs → IsNonDecreasing xs
unfolding Up
up_rises xs up i j d le within = elim (cases_lt i j) [
  | inl lt ↦ let here = up i j d lt within in omega (arith, here)
  | inr ge ↦ same_at xs i j d (omega arith)
]

increasing_up : (xs : List ℕ) → IsStrictlyIncreasing xs → Up xs
unfolding Up
increasing_up xs rise i j d lt within = AllPairs-from_increasing xs rise i j d lt within

rising_rises : (numbers : List ℕ) → IsNonDecreasing (rising numbers)
rising_rises numbers = up_rises (rising numbers) (up_fold numbers [] up_nil)

module _ (lists : List (List ℕ)) (rise : (unit : ℕ) → IsStrictlyIncreasing (get_or lists unit [])) where
  hidden_rises : (unit : ℕ) (levels : List ℕ) → Rises (hidden_of lists unit levels)
  hidden_rises unit levels = record { globals = up_rises (get_or lists unit []) (increasing_up (get_or lists unit []) (rise unit)); levels = rising_rises levels }

  all_rise : (unit : ℕ) (levels : List (List ℕ)) → All Rises (hidden_from lists unit levels)
  all_rise unit [] = All-nil Rises
  all_rise unit (first ∷ levels) = All-cons Rises (hidden_of lists unit first) (hidden_from lists (suc unit) levels) (hidden_rises unit first) (all_rise (suc unit) levels)

-- the lists that are reached rise, and so do the levels of loops
pub layout_rises : (uses : List Uses) (globals : ℕ) (survey : TopSurvey) (lists : List (List ℕ)) → AreReached uses globals lists → LayoutRises (layout_of survey lists)
layout_rises uses globals survey lists reached =
    let behaviours = length survey.behaviours in
    let functions = length survey.functions in
    record {
      behaviours = all_rise lists reached.rise 0 (replicate behaviours []);
      functions = All-append Rises _ _ (all_rise lists reached.rise behaviours (replicate functions [])) (all_rise lists reached.rise (behaviours + functions) (map (λ one. one.levels) survey.loops));
    }
