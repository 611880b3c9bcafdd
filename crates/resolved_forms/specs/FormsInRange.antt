-- Resolved forms whose levels and numbers are in range, and whose heads take as many parts as they have: such as a program
-- that fits is made of.
use Rattle.std.specs.Prelude.{ℕ, ◌+◌, List, [], ◌∷◌, ◌++◌, length, None, Some}
use Rattle.resolved_forms.specs.declared.top.Top.{Top}
use Rattle.resolved_forms.specs.declared.top.TopKind.{TopKind}
use Rattle.resolved_forms.specs.declared.top.TopKind.TheVariants as top
use Rattle.resolved_forms.specs.InRange.{InRange, Signatures}

-- how many parameters each function has
abbrev pub kind_params : TopKind → List ℕ
kind_params (top.Function takes inner) = takes ∷ []
kind_params _ = []

abbrev pub params_of : List Top → List ℕ
params_of [] = []
params_of (form ∷ forms) = kind_params form.kind ++ params_of forms

-- how many state parameters each behaviour has
abbrev pub kind_states : TopKind → List ℕ
kind_states (top.Behaviour head inner) = head.state ∷ []
kind_states _ = []

abbrev pub states_of : List Top → List ℕ
states_of [] = []
states_of (form ∷ forms) = kind_states form.kind ++ states_of forms

-- what forms that bind so many globals may name
abbrev pub signatures_of : List Top → ℕ → Signatures
signatures_of tops globals = record { functions = params_of tops; behaviours = states_of tops; globals = globals }

-- the number of the function behind a form
abbrev pub functions_behind : TopKind → ℕ → ℕ
functions_behind (top.Function takes inner) number = number + 1
functions_behind _ number = number

-- A form whose loops have the numbers from `start` up to `end`: of the next function, where it is one.
abbrev pub FormInRange : Signatures → ℕ → ℕ → ℕ → TopKind → Type 0
FormInRange file number start end (top.Global value) = InRange file start end 0 None value
FormInRange file number start end (top.Value value) = InRange file start end 0 None value
FormInRange file number start end (top.Function takes inner) = InRange file start end takes (Some (record { number = number; takes = takes })) inner
FormInRange file number start end (top.Behaviour head inner) = InRange file start end (head.state + head.message) None inner

-- forms from the function of that number on
pub data FormsFrom (file : Signatures) : ℕ → ℕ → ℕ → List Top → Type 0 where
  none : {number start : ℕ} → FormsFrom file number start start []
  more : {number start mid end : ℕ} {form : Top} {forms : List Top} → FormInRange file number start mid form.kind → FormsFrom file (functions_behind form.kind number) mid end forms
      → FormsFrom file number start end (form ∷ forms)

-- All forms that bind so many globals are in range. Their loops are numbered behind the functions of the top level.
pub record FormsInRange (tops : List Top) (globals : ℕ) : Type 0 where
  pub end : ℕ
  pub forms : FormsFrom (signatures_of tops globals) 0 (length (params_of tops)) end tops
