-- A draft that grows stays sound.
use Rattle.std.proofs.Common.{◌≡◌, ◌≢◌, ℕ, ◌+◌, ◌<◌, ◌≤◌, List, [], ◌∷◌, ◌++◌, length, Bool, true, sym, subst, arith, length-append}
use Rattle.std.specs.Prelude.{All, cond}
use Rattle.std.proofs.lemmas.List.Elements.{All-weaker, All-push}
use Rattle.std.proofs.lemmas.List.Sums.{sum_by-append}
use Rattle.core_syntax.specs.declared.function.Function.{Function}
use Rattle.core_syntax.specs.declared.row.Row.{Row}
use Rattle.core_syntax.specs.Limit.{counts, counted, node_limit}
use Rattle.core_syntax.specs.WellFormed.{IsBelow, FunctionsBelow, BehavioursBelow}
use Rattle.core_syntax.specs.Numbers.{functions_named, behaviours_named}
use Rattle.program_plan.specs.Sound.{IsSound}

pub below_more : (m n : ℕ) (numbers : List ℕ) → m ≤ n → All (λ k. k < m) numbers → All (λ k. k < n) numbers
below_more m n numbers le below = All-weaker (λ k. k < m) (λ k. k < n) (λ k lt. omega arith) numbers below

counted-push : (rows : List Row) (row : Row) → counts row.node ≡ true → counted rows ≡ length rows → counted (rows ++ row ∷ []) ≡ length (rows ++ row ∷ [])
counted-push rows row one each =
    let more : counted (rows ++ row ∷ []) ≡ counted rows + (0 + cond (counts row.node) 1 0) = sum_by-append (λ r. cond (counts r.node) 1 0) rows (row ∷ []) in
    let one_more : counted (rows ++ row ∷ []) ≡ counted rows + (0 + 1) = subst (λ (b : Bool). counted (rows ++ row ∷ []) ≡ counted rows + (0 + cond b 1 0)) one more in
    let longer = length-append rows (row ∷ []) in
    omega arith

-- one row more, with the numbers that it names
pub IsSound-push : (rows more : List Row) (loops : List Function) (f b f' b' : ℕ) (row : Row) → more ≡ rows ++ row ∷ [] → length rows ≢ node_limit → f ≤ f' → b ≤ b'
    → counts row.node ≡ true → FunctionsBelow f' row.node → BehavioursBelow b' row.node → IsSound rows loops f b → IsSound more loops f' b'
IsSound-push rows more loops f b f' b' row pushed room le_f le_b one functions behaviours sound = subst (λ l. IsSound l loops f' b') (sym pushed) (record {
  each_counts = counted-push rows row one sound.each_counts;
  within = let longer = length-append rows (row ∷ []) in let le = sound.within in omega arith;
  functions_below = All-push (λ r. FunctionsBelow f' r.node) rows row (All-weaker _ _ (λ r. below_more f f' (functions_named r.node) le_f) rows sound.functions_below) functions;
  behaviours_below = All-push (λ r. BehavioursBelow b' r.node) rows row (All-weaker _ _ (λ r. below_more b b' (behaviours_named r.node) le_b) rows sound.behaviours_below) behaviours;
  bodies_there = let longer = length-append rows (row ∷ []) in All-weaker (λ function. IsBelow (length rows) function.body) (λ function. IsBelow (length (rows ++ row ∷ [])) function.body) (λ function lt. omega arith) loops sound.bodies_there;
})
