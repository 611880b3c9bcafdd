-- Runs that are cut in two, and that grow.
use Rattle.std.proofs.Common.{◌≡◌, ◌∙◌, ℕ, zero, suc, ◌+◌, [], ◌∷◌, ◌++◌, sym, ap, arith}
use Rattle.serial_model.specs.declared.answer.Answer.{Answer}
use Rattle.std.specs.Prelude.{ℤ}
use Rattle.answer_runs.specs.Earlier.{earlier}
use Rattle.answer_runs.specs.Runs.{run_back}
use Rattle.answer_runs.proofs.Earlier.{earlier-twice}

pub run_back-next : (stride : ℤ) (a : Answer) (n : ℕ) → run_back stride a (n + 1) ≡ a ∷ run_back stride (earlier stride 1 a) n
run_back-next stride a n = ap (run_back stride a) (let next : n + 1 ≡ suc n = omega arith in next)

-- a run is so many of its answers and those before them
pub run_back-cut : (stride : ℤ) (a : Answer) (all more left : ℕ) → all ≡ more + left + 1
    → run_back stride a all ≡ run_back stride a more ++ run_back stride (earlier stride (more + 1) a) left
run_back-cut stride a zero more left is = absurd (omega (arith, is))
run_back-cut stride a (suc all) zero left is = ap (λ n. a ∷ run_back stride (earlier stride 1 a) n) (omega (arith, is))
run_back-cut stride a (suc all) (suc more) left is =
    ap (λ l. a ∷ l) (run_back-cut stride (earlier stride 1 a) all more left (omega (arith, is))
    ∙ ap (λ b. run_back stride (earlier stride 1 a) more ++ run_back stride b left)
    (earlier-twice stride (more + 1) 1 a ∙ ap (λ n. earlier stride n a) (let next : 1 + (more + 1) ≡ suc more + 1 = omega arith in next)))

-- the same run, so far
pub run_back-alike : (stride other : ℤ) (a b : Answer) (n : ℕ) → stride ≡ other → a ≡ b → run_back stride a n ≡ run_back other b n
run_back-alike stride other a b n same alike = ap (λ c. run_back c a n) same ∙ ap (λ x. run_back other x n) alike

pub run_back-none : (stride other : ℤ) (a b : Answer) → a ≡ b → run_back stride a 0 ≡ run_back other b 0
run_back-none stride other a b alike = ap (λ x. x ∷ []) alike

-- a run with an answer behind it from which the rest of it is counted back
pub run_back-grown : (marked stride : ℤ) (last a : Answer) (before : ℕ) → run_back marked last before ≡ run_back stride last before → last ≡ earlier marked 1 a
    → run_back marked a (before + 1) ≡ a ∷ run_back stride last before
run_back-grown marked stride last a before also is =
    run_back-next marked a before ∙ ap (λ l. a ∷ l) (ap (λ x. run_back marked x before) (sym is) ∙ also)
