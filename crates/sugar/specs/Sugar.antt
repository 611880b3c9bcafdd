-- The shorthands: what each comes to at the place where it is written.
use Rattle.std.specs.Prelude.{ℕ, ◌+◌, if◌then◌else◌, List, [], ◌∷◌, ◌++◌, codes}
use Rattle.std.specs.List.{flat_map}
use Rattle.value_core.specs.Place.{Spot}
use Rattle.sugar.specs.declared.core_form.BadKind.TheVariants.{Arity, BadForm}
use Rattle.sugar.specs.declared.core_form.Core.{Core}
use Rattle.sugar.specs.declared.core_form.CoreKind.{CoreKind}
use Rattle.sugar.specs.declared.core_form.CoreKind.TheVariants as core
use Rattle.sugar.specs.Meaning.{Head, Meaning, core_at, symbol, nil, bad, fresh, cores, made_in, list}
use Rattle.sugar.specs.Words.{is_form_word}

-- @e is (deref e); the reader gives an @ one part, and any number of parts would stand behind the deref
abbrev pub of_at : Spot → List Meaning → Meaning
of_at at parts = list at (symbol (codes "deref") at ∷ parts)

-- (if c a) is (if c a nil)
abbrev pub of_if : Spot → List Meaning → Meaning
of_if at (head ∷ condition ∷ consequent ∷ []) = list at (head ∷ condition ∷ consequent ∷ nil at ∷ [])
of_if at parts = list at parts

-- one expression for some
abbrev pub of_body : Spot → List Meaning → Meaning
of_body at [] = nil at
of_body at (expression ∷ []) = expression
of_body at expressions = list at (symbol (codes "do") at ∷ expressions)

-- (when c e..) is (if c body nil)
abbrev pub of_when : Spot → List Meaning → Meaning
of_when at (head ∷ condition ∷ expressions) = list at (symbol (codes "if") at ∷ condition ∷ of_body at expressions ∷ nil at ∷ [])
of_when at parts = bad Arity at

-- (:k m) is (get m :k), and (:k m d) is (get m :k d)
abbrev pub of_keyword : Spot → List Meaning → Meaning
of_keyword at (keyword ∷ map ∷ []) = list at (symbol (codes "get") at ∷ map ∷ keyword ∷ [])
of_keyword at (keyword ∷ map ∷ default ∷ []) = list at (symbol (codes "get") at ∷ map ∷ keyword ∷ default ∷ [])
of_keyword at parts = bad Arity at

-- the head that the second argument of an alter becomes: what is written, but no reserved word that is no primitive
abbrev pub callee_as : Head → Meaning → Meaning
callee_as (Head.Word word) function = if is_form_word word then bad BadForm function.at else function
callee_as Head.Keyword function = function
callee_as Head.Other function = function

abbrev pub callee : Meaning → Meaning
callee function = callee_as function.head function

-- each value behind a name made for it
abbrev pub bindings : Spot → List Meaning → List Meaning
bindings at values = flat_map (λ value. fresh at ∷ value ∷ []) values

-- the names of these bindings
abbrev pub names : Spot → List Meaning → ℕ → List Core
names at [] next = []
names at (value ∷ values) next = core_at at (core.Fresh next) ∷ names at values (next + 1 + value.made)

abbrev pub call : Spot → Core → List Core → Core
call at head arguments = core_at at (core.List (head ∷ arguments))

abbrev pub word : Spot → List ℕ → Core
word at name = core_at at (core.Sym name)

-- (ref-set t (f (deref t) t1 t2))
abbrev pub altered : Spot → Core → Core → List Core → Core
altered at function t ts =
    call at (word at (codes "ref-set")) (t ∷ call at function (call at (word at (codes "deref")) (t ∷ []) ∷ ts) ∷ [])

-- an alter of these, where the names that its arguments make are numbered from the last number on
abbrev pub alter_let : Spot → Meaning → Meaning → List Meaning → ℕ → ℕ → Core
alter_let at ref function arguments next last =
    call at (word at (codes "let")) (
    core_at at (core.Vector (cores (bindings at (ref ∷ [])) next ++ cores (bindings at arguments) last))
    ∷ altered at (function.core (next + 1 + ref.made)) (core_at at (core.Fresh next)) (names at arguments last) ∷ [])

-- (alter r f a1 a2) is (let [t r t1 a1 t2 a2] (ref-set t (f (deref t) t1 t2)))
abbrev pub of_alter : Spot → List Meaning → Meaning
of_alter at (head ∷ ref ∷ function ∷ arguments) = record {
  at = at;
  head = Head.Other;
  core = λ next. alter_let at ref (callee function) arguments next (next + 1 + ref.made + (callee function).made);
  made = 1 + ref.made + (callee function).made + made_in (bindings at arguments);
}
of_alter at parts = bad Arity at
