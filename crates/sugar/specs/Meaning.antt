-- What a form comes to, and what some of them come to side by side.
use Rattle.std.specs.Prelude.{◌≡◌, ℕ, ◌+◌, List, [], ◌∷◌}
use Rattle.value_core.specs.Place.{Spot}
use Rattle.sugar.specs.declared.core_form.BadKind.{BadKind}
use Rattle.sugar.specs.declared.core_form.Core.{Core}
use Rattle.sugar.specs.declared.core_form.CoreKind.{CoreKind}
use Rattle.sugar.specs.declared.core_form.CoreKind.TheVariants as core

-- what a form is as the head of a list: a symbol, a keyword, or something else
pub data Head : Type 0 where
  Word : List ℕ → Head
  Keyword : Head
  Other : Head

-- what a form comes to: its place, what it is as a head, and its core form, which has its made names numbered from a
-- given number on, and has so many of them
pub record Meaning : Type 0 where
  pub at : Spot
  pub head : Head
  pub core : ℕ → Core
  pub made : ℕ

-- the form comes to this core form where the next made name has this number, and the one after has that
pub record Gives (m : Meaning) (next after : ℕ) (result : Core) : Type 0 where
  pub is : result ≡ m.core next
  pub counts : after ≡ next + m.made

abbrev pub core_at : Spot → CoreKind → Core
core_at at kind = record { at = at; kind = kind }

-- a form without parts
abbrev pub atom : Head → CoreKind → Spot → Meaning
atom head kind at = record { at = at; head = head; core = λ next. core_at at kind; made = 0 }

abbrev pub symbol : List ℕ → Spot → Meaning
symbol word = atom (Head.Word word) (core.Sym word)

abbrev pub nil : Spot → Meaning
nil = atom Head.Other core.Nil

abbrev pub bad : BadKind → Spot → Meaning
bad kind = atom Head.Other (core.Bad kind)

-- a made name
abbrev pub fresh : Spot → Meaning
fresh at = record { at = at; head = Head.Other; core = λ next. core_at at (core.Fresh next); made = 1 }

-- the core forms of the parts; the names of each are numbered behind those of the parts before it
abbrev pub cores : List Meaning → ℕ → List Core
cores [] next = []
cores (part ∷ parts) next = part.core next ∷ cores parts (next + part.made)

abbrev pub made_in : List Meaning → ℕ
made_in [] = 0
made_in (part ∷ parts) = part.made + made_in parts

-- a form with parts
abbrev pub group : (List Core → CoreKind) → Spot → List Meaning → Meaning
group kind at parts = record { at = at; head = Head.Other; core = λ next. core_at at (kind (cores parts next)); made = made_in parts }

abbrev pub list : Spot → List Meaning → Meaning
list = group core.List
