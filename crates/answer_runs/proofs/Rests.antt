-- What is left of answers that are gone through.
use Rattle.std.proofs.Common.{◌≡◌, ◌∙◌, ℕ, zero, suc, ◌+◌, ◌-◌, ◌<◌, Bool, true, false, not, List, [], ◌∷◌, ◌++◌, Bor, refl, sym, ap, arith}
use Rattle.std.specs.Prelude.{Option, None, Some, option_copied}
use Rattle.std.specs.Option.{is_some}
use Rattle.std.proofs.lemmas.Bool.{false≢true}
use Rattle.std.proofs.lemmas.List.{append_assoc}
use Rattle.serial_model.specs.declared.answer.Answer.{Answer}
use Rattle.shared_chain.specs.declared.chain.Link.{Link}
use Rattle.shared_chain.specs.Links.{from_link}
use Rattle.answer_runs.specs.declared.rest.Rest.{Rest}
use Rattle.answer_runs.specs.declared.run.Run.{Run}
use Rattle.answer_runs.specs.Rest.{first_of, left_of, rest_back}
use Rattle.answer_runs.specs.Earlier.{earlier}
use Rattle.answer_runs.specs.Runs.{run_back, runs_back}
use Rattle.answer_runs.proofs.Earlier.{earlier-zero, earlier-twice}
use Rattle.answer_runs.proofs.Runs.{run_back-cut}

-- all answers of a run, and of those below it
pub rest-starts : (run : Bor Run) (below : Option (Bor (Link Run)))
    → rest_back (Some (record { run = run; passed = 0; below = below })) ≡ runs_back (run.now ∷ from_link (option_copied below))
rest-starts run below =
    ap (λ n. run_back run.now.stride (earlier run.now.stride 0 run.now.last) n ++ runs_back (from_link (option_copied below))) (let none : run.now.before - 0 ≡ run.now.before = omega arith in none)
    ∙ ap (λ a. run_back run.now.stride a run.now.before ++ runs_back (from_link (option_copied below))) (earlier-zero run.now.stride run.now.last)

-- the answer and so many before it, and what is left behind them in the run
pub rest-behind : (run : Bor Run) (passed more : ℕ) (below : Option (Bor (Link Run))) → more < run.now.before - passed
    → rest_back (Some (record { run = run; passed = passed; below = below }))
    ≡ run_back run.now.stride (earlier run.now.stride passed run.now.last) more ++ rest_back (Some (record { run = run; passed = passed + more + 1; below = below }))
rest-behind run passed more below less =
    let c = run.now.stride in
    let here = earlier c passed run.now.last in
    let left = run.now.before - (passed + more + 1) in
    let others = runs_back (from_link (option_copied below)) in
    ap (λ l. l ++ others) (run_back-cut c here (run.now.before - passed) more left (omega (arith, less)))
    ∙ append_assoc (run_back c here more) (run_back c (earlier c (more + 1) here) left) others
    ∙ ap (λ a. run_back c here more ++ (run_back c a left ++ others)) (earlier-twice c (more + 1) passed run.now.last ∙ ap (λ n. earlier c n run.now.last) (let same : passed + (more + 1) ≡ passed + more + 1 = omega arith in same))

-- the answer and all before it in the run, and those below
pub rest-passed : (run : Bor Run) (passed more : ℕ) (below : Option (Bor (Link Run))) → run.now.before - passed ≡ more
    → rest_back (Some (record { run = run; passed = passed; below = below }))
    ≡ run_back run.now.stride (earlier run.now.stride passed run.now.last) more ++ runs_back (from_link (option_copied below))
rest-passed run passed more below all =
    ap (λ n. run_back run.now.stride (earlier run.now.stride passed run.now.last) n ++ runs_back (from_link (option_copied below))) all

-- where something is left there is an answer
pub rest-some : (one : Rest) → rest_back (Some one) ≡ [] → ⊥
rest-some one e = on (left_of one) e
  where
    on : (n : ℕ) → run_back one.run.now.stride (first_of one) n ++ runs_back (from_link (option_copied one.below)) ≡ [] → ⊥
    on zero e = cc
    on (suc n) e = cc

heads : (a b : Answer) (ls rs : List Answer) → a ∷ ls ≡ b ∷ rs → a ≡ b
heads a b ls rs e = cc

-- rests that are the same stand at the same answer
pub rest-same : (one other : Rest) → rest_back (Some one) ≡ rest_back (Some other) → first_of one ≡ first_of other
rest-same one other e = on (left_of one) (left_of other) e
  where
    on : (n m : ℕ) → run_back one.run.now.stride (first_of one) n ++ runs_back (from_link (option_copied one.below))
        ≡ run_back other.run.now.stride (first_of other) m ++ runs_back (from_link (option_copied other.below)) → first_of one ≡ first_of other
    on zero zero e = heads (first_of one) (first_of other) _ _ e
    on zero (suc m) e = heads (first_of one) (first_of other) _ _ e
    on (suc n) zero e = heads (first_of one) (first_of other) _ _ e
    on (suc n) (suc m) e = heads (first_of one) (first_of other) _ _ e

pub rest-none : (right : Option Rest) (none : Bool) → is_some right ≡ not none → none ≡ true → [] ≡ rest_back right
rest-none None none is t = refl
rest-none (Some one) none is t = absurd (false≢true (sym (is ∙ ap not t)))

pub none-rest : (right : Option Rest) (none : Bool) → is_some right ≡ not none → [] ≡ rest_back right → none ≡ true
none-rest None true is e = refl
none-rest None false is e = is
none-rest (Some one) none is e = absurd (rest-some one (sym e))
