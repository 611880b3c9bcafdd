-- What is made at the end of a table.
use Rattle.std.specs.Prelude.{◌≡◌, ℕ, ◌+◌, ◌<◌, List, [], ◌∷◌, ◌++◌, length, Result, IfOk, IfErr}
use Rattle.value_core.specs.Place.{Spot}
use Rattle.core_syntax.specs.declared.build_no.BuildNo.{BuildNo}
use Rattle.core_syntax.specs.declared.build_no.BuildNo.TheVariants.{TooManyNodes}
use Rattle.core_syntax.specs.declared.function.Function.{Function}
use Rattle.core_syntax.specs.declared.node.Node.{Node}
use Rattle.core_syntax.specs.declared.node_id.NodeId.{NodeId}
use Rattle.core_syntax.specs.declared.row.Row.{Row}
use Rattle.core_syntax.specs.Limit.{node_limit}

-- nodes with their places, children before parents, and the functions of the loops among them, in the order in which
-- the loops begin
pub record Draft : Type 0 where
  pub rows : List Row
  pub loops : List Function

-- what more is made, and an answer: mostly the id of its root, which is its last row
pub record Made (A : Type 0) : Type 0 where
  pub rows : List Row
  pub loops : List Function
  pub answer : A

-- what is made where so many rows stand before it
abbrev pub Making : Type 0 → Type 0
Making A = ℕ → Made A

-- one node
unfoldable pub node : Spot → Node → Making NodeId
node at n count = record { rows = record { node = n; at = at } ∷ []; loops = []; answer = record { index = count } }

-- nothing
unfoldable pub nothing : {A : Type 0} → A → Making A
nothing answer count = record { rows = []; loops = []; answer = answer }

-- one after another: the second is made with the answer of the first
unfoldable pub followed : {A B : Type 0} → Making A → (A → Making B) → Making B
followed first second count =
    let a = first count in
    let b = second a.answer (count + length a.rows) in
    record { rows = a.rows ++ b.rows; loops = a.loops ++ b.loops; answer = b.answer }

-- each of some things, one after another, behind what is done; the number rises with each
abbrev pub gathered : {A B : Type 0} → (ℕ → A → Making B) → ℕ → List B → List A → Making (List B)
gathered one number done [] = nothing done
gathered one number done (x ∷ xs) = followed (one number x) (λ y. gathered one (number + 1) (done ++ y ∷ []) xs)

-- within a loop's function, which is the first of the loops that begin there
unfoldable pub in_loop : {A : Type 0} → (A → Function) → Making A → Making A
in_loop function inside count =
    let a = inside count in
    record { rows = a.rows; loops = function a.answer ∷ a.loops; answer = a.answer }

-- a draft with what is made behind it
unfoldable pub extended : {A : Type 0} → Making A → Draft → Draft
extended making draft =
    let made = making (length draft.rows) in
    record { rows = draft.rows ++ made.rows; loops = draft.loops ++ made.loops }

unfoldable pub answered : {A : Type 0} → Making A → Draft → A
answered making draft = (making (length draft.rows)).answer

-- what becomes of a draft: it is made behind it, with that answer; or the nodes would be too many then, or there is no
-- memory
pub record Makes {A : Type 0} (making : Making A) (old : Draft) (result : Result A BuildNo) (new : Draft) : Type 0 where
  pub made : IfOk result (λ answer. (new ≡ extended making old) × (answer ≡ answered making old))
  pub past : IfErr result (λ refusal. refusal ≡ TooManyNodes → node_limit < length (extended making old).rows)
