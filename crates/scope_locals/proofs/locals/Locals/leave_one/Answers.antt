use Rattle.std.proofs.Common.{◌≡◌, ℕ, List, length, ◌++◌, ◌∷◌, [], IsSome, sym, ap, subst, arith, length-append}
use Rattle.std.specs.Map.{update}
use Rattle.std.specs.Str.{bytes_eq}
use Rattle.scope_locals.specs.declared.locals.Local.{Local}
use Rattle.scope_locals.specs.ByName.{at_name}
use Rattle.scope_locals.specs.Levels.{AreLevels}
use Rattle.scope_locals.proofs.Levels.{levels_popped, last_shown}
use Rattle.scope_locals.proofs.locals.Locals.leave_one.Goals as goal

pub restore-requires : goal.restore-requires
restore-requires c =
    let levels : AreLevels (c.pop.new.self.items ++ c.in-Some.local ∷ []) c.self.inside.levels = subst (λ (ls : List Local). AreLevels ls c.self.inside.levels) c.in-Some.ensures.items c.self.invariant.1 in
    subst (λ (name : List ℕ). IsSome (at_name c.self.inside.levels name)) (sym c.items.ensures) (last_shown _ _ _ levels)

pub invariant_of-self : goal.invariant_of-self
invariant_of-self c =
    let levels : AreLevels (c.pop.new.self.items ++ c.in-Some.local ∷ []) c.self.inside.levels = subst (λ (ls : List Local). AreLevels ls c.self.inside.levels) c.in-Some.ensures.items c.self.invariant.1 in (
      omega (arith, ap length c.in-Some.ensures.items, length-append c.pop.new.self.items (c.in-Some.local ∷ [])),
      levels_popped c.pop.new.self.items c.in-Some.local c.self.inside.levels c.restore.new.levels levels
          (subst (λ (bound : List ℕ). (name : List ℕ) → at_name c.restore.new.levels name ≡ update bytes_eq (at_name c.self.inside.levels) bound c.in-Some.local.hidden name) c.items.ensures c.restore.ensures),
    )
