-- What an `alter` is made of, one after another.
use Rattle.std.proofs.Common.{◌≡◌, ℕ, ◌+◌, ◌-◌, ◌≤◌, List, [], ◌∷◌, ◌++◌, length, map, take, drop, get_or, Result, Ok, Err, sym, ap, ◌∙◌, arith}
use Rattle.std.proofs.Math.Seq.{take-length}
use Rattle.std.specs.Prelude.{codes, IfOk}
use Rattle.value_core.specs.Place.{Spot}
use Rattle.sexpr_reader.specs.declared.form.Form.{Form}
use Rattle.sugar.specs.declared.core_form.Core.{Core}
use Rattle.sugar.specs.declared.core_form.CoreKind.TheVariants as core
use Rattle.sugar.specs.Expansion.{meaning}
use Rattle.sugar.specs.Meaning.{Meaning, Gives, core_at, cores, made_in}
use Rattle.sugar.specs.Sugar.{of_alter, callee, bindings, names, call, word}

abbrev fresh_at : Spot → ℕ → Core
fresh_at at name = core_at at (core.Fresh name)

abbrev dereferenced : Spot → ℕ → Core
dereferenced at name = call at (word at (codes "deref")) (fresh_at at name ∷ [])

abbrev let_of : Spot → ℕ → List Core → List Core → Core
let_of at name bound called =
    call at (word at (codes "let")) (core_at at (core.Vector bound) ∷ call at (word at (codes "ref-set")) (fresh_at at name ∷ core_at at (core.List called) ∷ []) ∷ [])

-- three forms and those behind them
pub three_and_rest : (forms : List Form) (x y : Form) → 3 ≤ length forms → x ≡ get_or forms 1 x → y ≡ get_or forms 2 y
    → (first : Form) × (map meaning forms ≡ meaning first ∷ meaning x ∷ meaning y ∷ map meaning (take (length forms - 3) (drop 3 forms)))
three_and_rest [] x y long second third = absurd (omega arith)
three_and_rest (a ∷ []) x y long second third = absurd (omega arith)
three_and_rest (a ∷ b ∷ []) x y long second third = absurd (omega arith)
three_and_rest (a ∷ b ∷ c ∷ rest) x y long second third =
    let less : length (a ∷ b ∷ c ∷ rest) - 3 ≡ length rest = omega arith in (
      a,
      ap (λ z. meaning a ∷ meaning z ∷ meaning c ∷ map meaning rest) (sym second) ∙ ap (λ z. meaning a ∷ meaning x ∷ meaning z ∷ map meaning rest) (sym third)
          ∙ ap (λ l. meaning a ∷ meaning x ∷ meaning y ∷ map meaning l) (sym (ap (λ n. take n rest) less ∙ take-length rest)),
    )

-- the parts of an alter, where its ref is bound to this name, and the names of its function and its arguments follow
pub record AreParts (at : Spot) (ref function : Meaning) (arguments : List Meaning) (next after name : ℕ) (bound called : List Core) : Type 0 where
  pub behind_ref : ℕ
  pub behind_function : ℕ
  pub head : Core
  pub name_is : name ≡ next
  pub counts_ref : behind_ref ≡ next + 1 + ref.made
  pub gives : Gives (callee function) behind_ref behind_function head
  pub bound_is : bound ≡ (fresh_at at next ∷ ref.core (next + 1) ∷ []) ++ cores (bindings at arguments) behind_function
  pub called_is : called ≡ (head ∷ dereferenced at name ∷ []) ++ names at arguments behind_function
  pub counts : after ≡ behind_function + made_in (bindings at arguments)

module _ (at : Spot) (head ref function : Meaning) (arguments : List Meaning) (next after name : ℕ) (bound called : List Core) (parts : AreParts at ref function arguments next after name bound called) where
  abbrev last : ℕ
  last = next + 1 + ref.made + (callee function).made

  last_is : parts.behind_function ≡ last
  last_is = parts.gives.counts ∙ ap (λ n. n + (callee function).made) parts.counts_ref

  bound_all : bound ≡ cores (bindings at (ref ∷ [])) next ++ cores (bindings at arguments) last
  bound_all = parts.bound_is ∙ ap (λ n. fresh_at at next ∷ ref.core (next + 1) ∷ cores (bindings at arguments) n) last_is

  called_all : called ≡ (callee function).core (next + 1 + ref.made) ∷ dereferenced at next ∷ names at arguments last
  called_all =
      parts.called_is
      ∙ ap (λ h. h ∷ dereferenced at name ∷ names at arguments parts.behind_function) (parts.gives.is ∙ ap (callee function).core parts.counts_ref)
      ∙ ap (λ n. (callee function).core (next + 1 + ref.made) ∷ dereferenced at n ∷ names at arguments parts.behind_function) parts.name_is
      ∙ ap (λ n. (callee function).core (next + 1 + ref.made) ∷ dereferenced at next ∷ names at arguments n) last_is

  pub gives_alter : {E : Type 0} (r : Result Core E) → IfOk r (λ made. made ≡ let_of at name bound called) → IfOk r (Gives (of_alter at (head ∷ ref ∷ function ∷ arguments)) next after)
  gives_alter (Err e) is = tt
  gives_alter (Ok made) is = record {
    is = is ∙ ap (λ n. let_of at n bound called) parts.name_is ∙ ap (λ b. let_of at next b called) bound_all ∙ ap (let_of at next _) called_all;
    counts = let function_is = last_is in let all = parts.counts in omega arith;
  }
