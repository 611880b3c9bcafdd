-- The units of the state.
use Rattle.std.proofs.Common.{◌≡◌, ◌∙◌, List, [], ◌∷◌, refl, ap, subst}
use Rattle.std.specs.Prelude.{Option, None, Some}
use Rattle.value_core.specs.Named.{Name, named}
use Rattle.serial_model.specs.State.{Setup, UnitState, State}
use Rattle.serial_model.specs.declared.request.Request.{Request}
use Rattle.world_model.specs.Ahead.{RunsAhead}
use Rattle.world_model.specs.StandsFor.{LiveStands, UnitStands, StandsFor}
use Rattle.world_model.specs.World.{LiveUnit, World}

-- a unit without a held Take is in the state
pub record IsSettledUnit (setup : Setup) (s : State) (u : Name) (x : LiveUnit) : Type 0 where
  pub there : named u s.units ≡ Some x.from
  pub runs : RunsAhead setup u x.from x.held x.now

pub settled-unit : (setup : Setup) (w : World) (s : State) (u : Name) (x : LiveUnit) → StandsFor setup w s → w.units u ≡ Some x → x.takes ≡ None → IsSettledUnit setup s u x
settled-unit setup w s u x st there takes = on (named u s.units) refl
    (subst (λ takes. LiveStands setup w.actors w.taken u x takes (named u s.units)) takes (subst (λ live. UnitStands setup w.actors w.taken u live (named u s.units)) there (st.units u)))
  where
    on : (found : Option UnitState) → named u s.units ≡ found → LiveStands setup w.actors w.taken u x None found → IsSettledUnit setup s u x
    on None is stands = absurd stands
    on (Some unit) is stands = record { there = is ∙ ap (λ unit. Some unit) stands.0; runs = stands.1 }

-- where it holds nothing, it is the state's
pub holds-nothing : (setup : Setup) (u : Name) (unit now : UnitState) (held : List Request) → held ≡ [] → RunsAhead setup u unit held now → unit ≡ now
holds-nothing setup u unit now [] none runs = runs
holds-nothing setup u unit now (r ∷ rs) none runs = cc
