-- Laws of steps one after another.
use Rattle.std.proofs.Common.{◌≡◌, ◌∙◌, ℕ, ◌+◌, List, [], ◌++◌, length, ap, append_assoc, append-nil, length-append, arith}
use Rattle.std.specs.Prelude.{Result, Ok, Err}
use Rattle.core_syntax.specs.declared.build_no.BuildNo.{BuildNo}
use Rattle.core_syntax.specs.declared.function.Function.{Function}
use Rattle.core_syntax.specs.declared.row.Row.{Row}
use Rattle.program_plan.specs.Made.{Draft, Made, Making, nothing, followed, extended, answered, Makes}

-- the same is made, wherever it stands
abbrev pub Same : {A : Type 0} → Making A → Making A → Type 0
Same p q = (n : ℕ) → p n ≡ q n

pub assoc : {A B C : Type 0} (p : Making A) (k : A → Making B) (h : B → Making C) → Same (followed (followed p k) h) (followed p (λ x. followed (k x) h))
unfolding followed
assoc {A} {B} {C} p k h n =
    let a = p n in
    let b = k a.answer (n + length a.rows) in
    let of_count : ℕ → Made C = λ m. let c = h b.answer m in record { rows = (a.rows ++ b.rows) ++ c.rows; loops = (a.loops ++ b.loops) ++ c.loops; answer = c.answer } in
    let c = h b.answer (n + length a.rows + length b.rows) in
    let of_rows : List Row → Made C = λ l. record { rows = l; loops = (a.loops ++ b.loops) ++ c.loops; answer = c.answer } in
    let of_loops : List Function → Made C = λ l. record { rows = a.rows ++ (b.rows ++ c.rows); loops = l; answer = c.answer } in
    let longer = length-append a.rows b.rows in
    let count : n + length (a.rows ++ b.rows) ≡ n + length a.rows + length b.rows = omega arith in
    ap of_count count ∙ ap of_rows (append_assoc a.rows b.rows c.rows) ∙ ap of_loops (append_assoc a.loops b.loops c.loops)

pub nothing-followed : {A B : Type 0} (x : A) (k : A → Making B) → Same (followed (nothing x) k) (k x)
unfolding followed nothing
nothing-followed x k n = let none : n + 0 ≡ n = omega arith in ap (λ m. k x m) none

pub followed-nothing : {A : Type 0} (p : Making A) → Same (followed p (λ x. nothing x)) p
unfolding followed nothing
followed-nothing {A} p n =
    let a = p n in
    let of_rows : List Row → Made A = λ l. record { rows = l; loops = a.loops ++ []; answer = a.answer } in
    let of_loops : List Function → Made A = λ l. record { rows = a.rows; loops = l; answer = a.answer } in
    ap of_rows (append-nil a.rows) ∙ ap of_loops (append-nil a.loops)

pub same_first : {A B : Type 0} (p q : Making A) (k : A → Making B) → Same p q → Same (followed p k) (followed q k)
unfolding followed
same_first {A} {B} p q k e n =
    let of_first : Made A → Made B = λ a. let b = k a.answer (n + length a.rows) in record { rows = a.rows ++ b.rows; loops = a.loops ++ b.loops; answer = b.answer } in
    ap of_first (e n)

pub same_second : {A B : Type 0} (p : Making A) (k h : A → Making B) → ((x : A) → Same (k x) (h x)) → Same (followed p k) (followed p h)
unfolding followed
same_second {A} {B} p k h e n =
    let a = p n in
    let of_second : Made B → Made B = λ b. record { rows = a.rows ++ b.rows; loops = a.loops ++ b.loops; answer = b.answer } in
    ap of_second (e a.answer (n + length a.rows))

pub makes_same : {A : Type 0} (p q : Making A) (s t : Draft) (r : Result A BuildNo) → Same p q → Makes p s r t → Makes q s r t
unfolding extended answered
makes_same {A} p q s t (Ok x) e makes =
    let n = length s.rows in
    let of_made : Made A → Draft = λ m. record { rows = s.rows ++ m.rows; loops = s.loops ++ m.loops } in
    record { made = (makes.made.0 ∙ ap of_made (e n), makes.made.1 ∙ ap (λ m. m.answer) (e n)); past = tt }
makes_same {A} p q s t (Err y) e makes =
    let n = length s.rows in
    let longer = ap (λ m. length (s.rows ++ m.rows)) (e n) in
    record { made = tt; past = λ is. let past = makes.past is in omega arith }
