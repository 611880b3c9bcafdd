-- What the top-level forms of a program that is made are, by their outermost parts.
use Rattle.std.proofs.Common.{◌≡◌, ℕ, List, refl, rules}
use Rattle.std.specs.Prelude.{codes}
use Rattle.value_core.specs.Place.{Spot}
use Rattle.sugar.specs.declared.core_form.Core.{Core}
use Rattle.sugar.specs.declared.core_form.CoreKind.{the_lemmas}
use Rattle.sugar.specs.declared.core_form.CoreKind.TheVariants as core
use Rattle.sugar.specs.declared.core_form.CoreKind.TheOpen as one
use Rattle.sugar.specs.declared.core_form.CoreKind.TheViews.{out-CoreKind}
use Rattle.scope_names.specs.Shapes.{Function, Behaviour, Global, Value, shape_of}
use Rattle.made_programs.proofs.CoreTrees.{CoreTree, CoreTrees, core_of, cores_of, reaction_by}

out-List : (parts : List Core) → out-CoreKind (core.List parts) ≡ one.List parts
out-List parts = search (rules, the_lemmas)

out-Vector : (parts : List Core) → out-CoreKind (core.Vector parts) ≡ one.Vector parts
out-Vector parts = search (rules, the_lemmas)

out-Sym : (name : List ℕ) → out-CoreKind (core.Sym name) ≡ one.Sym name
out-Sym name = search (rules, the_lemmas)

pub function_shape : (at a b c : Spot) (name : List ℕ) (params parts : CoreTrees)
    → shape_of (core_of (CoreTree.list at (CoreTrees.more (CoreTree.word a (codes "defn")) (CoreTrees.more (CoreTree.word b name) (CoreTrees.more (CoreTree.vector c params) parts)))))
    ≡ Function name (cores_of params) (cores_of parts)
function_shape at a b c name params parts = simp (out-List, out-Vector, out-Sym) refl

pub behaviour_shape : (at a b place d e f : Spot) (name : List ℕ) (states messages parts : CoreTrees)
    → shape_of (core_of (CoreTree.list at (CoreTrees.more (CoreTree.word a (codes "def")) (CoreTrees.more (CoreTree.word b name)
    (CoreTrees.more (CoreTree.list place (CoreTrees.more (CoreTree.word d (codes "behavior")) (CoreTrees.more (CoreTree.vector e states) (CoreTrees.more (CoreTree.vector f messages) parts)))) CoreTrees.none)))))
    ≡ Behaviour name (reaction_by place states messages parts)
behaviour_shape at a b place d e f name states messages parts = simp (out-List, out-Vector, out-Sym) refl

pub spawn_shape : (at a b c d : Spot) (name : List ℕ) (parts : CoreTrees)
    → let value = CoreTree.list c (CoreTrees.more (CoreTree.word d (codes "spawn")) parts) in
    shape_of (core_of (CoreTree.list at (CoreTrees.more (CoreTree.word a (codes "def")) (CoreTrees.more (CoreTree.word b name) (CoreTrees.more value CoreTrees.none)))))
    ≡ Global name (core_of value)
spawn_shape at a b c d name CoreTrees.none = simp (out-List, out-Vector, out-Sym) refl
spawn_shape at a b c d name (CoreTrees.more s CoreTrees.none) = simp (out-List, out-Vector, out-Sym) refl
spawn_shape at a b c d name (CoreTrees.more s (CoreTrees.more m parts)) = simp (out-List, out-Vector, out-Sym) refl

pub loop_shape : (at a b c d : Spot) (name : List ℕ) (first second : CoreTree)
    → let value = CoreTree.list c (CoreTrees.more (CoreTree.word d (codes "loop")) (CoreTrees.more first (CoreTrees.more second CoreTrees.none))) in
    shape_of (core_of (CoreTree.list at (CoreTrees.more (CoreTree.word a (codes "def")) (CoreTrees.more (CoreTree.word b name) (CoreTrees.more value CoreTrees.none)))))
    ≡ Global name (core_of value)
loop_shape at a b c d name first second = simp (out-List, out-Vector, out-Sym) refl

pub send_shape : (at a : Spot) (parts : CoreTrees) → shape_of (core_of (CoreTree.list at (CoreTrees.more (CoreTree.word a (codes "send")) parts))) ≡ Value
send_shape at a parts = simp (out-List, out-Sym) refl
