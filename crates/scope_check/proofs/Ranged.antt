-- Expressions in range, by the target that a scope has.
use Rattle.std.specs.Prelude.{◌≡◌, ℕ, ◌<◌, List, Option, None, Some}
use Rattle.std.specs.List.{slice_get}
use Rattle.resolved_forms.specs.declared.expr.Expr.{Expr}
use Rattle.resolved_forms.specs.declared.head.Head.{Head}
use Rattle.resolved_forms.specs.InRange as range
use Rattle.resolved_forms.specs.InRange.{AreInRange, InRange, Signatures, Takes}
use Rattle.scope_names.specs.declared.definition.What.{What}
use Rattle.scope_names.specs.declared.definition.What.TheVariants as what
use Rattle.scope_check.specs.declared.stand.Target.{Target}

abbrev pub aim : Option Target → Option range.Target
aim None = None
aim (Some target) = Some (record { number = target.number; takes = target.takes })

abbrev pub Ranged : Signatures → ℕ → ℕ → ℕ → Option Target → Expr → Type 0
Ranged file start end depth target expr = InRange file start end depth (aim target) expr

abbrev pub RangedParts : Signatures → (ℕ → ℕ) → Option Target → ℕ → ℕ → ℕ → List Expr → Type 0
RangedParts file next target start end depth parts = AreInRange file next (aim target) start end depth parts

abbrev pub HeadRanged : Signatures → Option Target → ℕ → Head → Type 0
HeadRanged file target count h = Takes file (aim target) count h

-- what a name of the top level stands for is among what may be named
abbrev pub WhatRanged : Signatures → What → Type 0
WhatRanged file (what.Function number takes) = slice_get file.functions number ≡ Some takes
WhatRanged file (what.Behaviour number state) = slice_get file.behaviours number ≡ Some state
WhatRanged file (what.Global number) = number < file.globals
