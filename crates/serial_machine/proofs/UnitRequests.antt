-- How a run comes from state to state by the requests of a unit.
use Rattle.std.proofs.Common.{◌≡◌, ◌∙◌, ℕ, suc, Bool, true, false, List, sym, ap, subst, Option, Some, None}
use Rattle.std.specs.Prelude.{◌==◌, if◌then◌else◌}
use Rattle.value_core.specs.declared.value.Value.{Value}
use Rattle.serial_model.specs.declared.end.End.TheVariants as end
use Rattle.serial_model.specs.declared.effect.Effect.{Effect}
use Rattle.serial_model.specs.Log.{Log}
use Rattle.value_core.specs.Named.{Name, Named, named, made_by, over}
use Rattle.serial_model.specs.State.{Setup, UnitState, State}
use Rattle.serial_model.specs.Step.{with_unit, gets, with_made, commits, take_effects, gets_if_there, if_allowed, ended}
use Rattle.serial_machine.specs.declared.now.Now.{Now}
use Rattle.serial_units.specs.declared.unit.Becoming.{Becoming as KeptBecoming}
use Rattle.serial_machine.specs.Now.{state_after, IsNow, Comes, Does, IsStepped, Tries, TakesEffects}
use Rattle.serial_units.specs.declared.unit.Unit.{Unit}
use Rattle.serial_units.specs.Units.{units_of, settled, AreUnits}
use Rattle.serial_machine.proofs.States.{comes_from}

-- the unit is answered with that value
abbrev pub Replies : Setup → Name → Now → Now → Bool → Option KeptBecoming → Value → Type 0
Replies setup name old new made becomes v = Does setup name old new (λ s unit. with_unit s name (settled made becomes unit v))

-- the unit is there in the state that is kept
unit_there : (setup : Setup) (name : Name) (before : List ℕ) (old : Now) (s : State) (unit : UnitState) → IsNow setup before old s → named name s.units ≡ Some unit → named name (units_of old.units) ≡ Some unit
unit_there setup name before old s unit at there = subst (λ (t : State). named name t.units ≡ Some unit) (sym at.is) there

-- a change, and an answer to the unit
pub makes : (setup : Setup) (name : Name) (old mid new : Now) (change : Name → State → State) (v : Name → Value) (copied made : Name)
    → Comes setup old mid (change copied) → Replies setup name mid new true None (v made) → ((n : Name) (s : State) → ¬ (name ≡ n) → named name (change n s).units ≡ named name s.units)
    → copied ≡ made → ¬ (name ≡ made) → ((unit : UnitState) → named name (units_of old.units) ≡ Some unit → made ≡ made_by name unit.made)
    → Does setup name old new (λ s unit. with_unit (change (made_by name unit.made) s) name (settled true None unit (v (made_by name unit.made))))
makes setup name old mid new change v copied made comes replies kept same other is before s unit at there =
    subst (λ (n : Name). IsNow setup before new (with_unit (change n s) name (settled true None unit (v n)))) (is unit (unit_there setup name before old s unit at there))
    (replies before (change made s) unit (subst (λ (n : Name). IsNow setup before mid (change n s)) same (comes before s at)) (kept made s other ∙ there))

-- a value that is found is the answer
pub found_done : (setup : Setup) (name : Name) (old new : Now) (look : State → Option Value) (v copied : Value)
    → ((before : List ℕ) → look (state_after before old) ≡ Some v) → copied ≡ v → Replies setup name old new false None copied
    → Tries setup name old new true (λ s unit. gets_if_there s name unit (look s))
found_done setup name old new look v copied found same replies before s unit at there =
    subst (λ (o : Option Value). IsStepped setup before new s (gets_if_there s name unit o) true) (sym (subst (λ (t : State). look t ≡ Some v) at.is (found before)))
    (subst (λ (w : Value). IsNow setup before new (with_unit s name (settled false None unit w))) same (replies before s unit at there))

-- where none is found nothing changes
pub none_found : (setup : Setup) (name : Name) (old : Now) (look : State → Option Value) → ((before : List ℕ) → look (state_after before old) ≡ None)
    → Tries setup name old old false (λ s unit. gets_if_there s name unit (look s))
none_found setup name old look none before s unit at there =
    subst (λ (o : Option Value). IsStepped setup before old s (gets_if_there s name unit o) false) (sym (subst (λ (t : State). look t ≡ None) at.is (none before))) at

-- what rests on the actor of the unit, where that is known
pub by_actor : (setup : Setup) (name : Name) (old new : Now) (row : State → UnitState → Option Name → State) (actor : Option Name)
    → ((unit : UnitState) → named name (units_of old.units) ≡ Some unit → actor ≡ unit.actor) → Does setup name old new (λ s unit. row s unit actor)
    → Does setup name old new (λ s unit. row s unit unit.actor)
by_actor setup name old new row actor is does before s unit at there =
    subst (λ (o : Option Name). IsNow setup before new (row s unit o)) (is unit (unit_there setup name before old s unit at there)) (does before s unit at there)

-- one unit more than the limit is not made
pub not_allowed : (setup : Setup) (name : Name) (old new : Now) (make : UnitState → State → State) → (old.made == setup.limits.units) ≡ true → Comes setup old new (λ s. ended s end.UnitsSpent)
    → Does setup name old new (λ s unit. if_allowed setup s (make unit))
not_allowed setup name old new make full comes before s unit at there =
    subst (λ (b : Bool). IsNow setup before new (if b then ended s end.UnitsSpent else make unit (record s { made = suc s.made })))
    (sym (subst (λ (t : State). (t.made == setup.limits.units) ≡ true) at.is full)) (comes before s at)

pub is_allowed : (setup : Setup) (name : Name) (old new : Now) (make : UnitState → State → State) → (old.made == setup.limits.units) ≡ false
    → Does setup name old new (λ s unit. make unit (record s { made = suc s.made }))
    → Does setup name old new (λ s unit. if_allowed setup s (make unit))
is_allowed setup name old new make more does before s unit at there =
    subst (λ (b : Bool). IsNow setup before new (if b then ended s end.UnitsSpent else make unit (record s { made = suc s.made })))
    (sym (subst (λ (t : State). (t.made == setup.limits.units) ≡ false) at.is more)) (does before s unit at there)

-- the written refs are set
pub refs_over : (setup : Setup) (old new : Now) (writes : Named Value) → new ≡ record old { refs = new.refs } → new.refs.entries ≡ over writes old.refs.entries
    → Comes setup old new (λ s. record s { refs = over writes s.refs })
refs_over setup old new writes others put = comes_from setup old new (λ s. record s { refs = over writes s.refs }) (λ before are. record {
  is = ap (state_after before) others ∙ ap (λ r. record (state_after before old) { refs = r }) put;
  units = subst (λ (n : Now). AreUnits setup n.units) (sym others) are;
})

-- the refs are set, the effects are taken, and the unit is answered
pub commits_done : (setup : Setup) (name : Name) (old mid taken new : Now) (log : Log) (effects : List Effect) (becomes : Option KeptBecoming) (v : Value)
    → Comes setup old mid (λ s. record s { refs = over log.writes s.refs }) → TakesEffects mid None taken becomes (λ s unit. take_effects name effects s unit) → taken.units ≡ old.units
    → effects ≡ log.effects → Replies setup name taken new true becomes v → Does setup name old new (λ s unit. commits s name unit log v)
commits_done setup name old mid taken new log effects becomes v comes takes units same replies before s unit at there =
    let done = takes setup before (record s { refs = over log.writes s.refs }) unit (comes before s at) in
    let still = unit_there setup name before old s unit at there in
    let final = take_effects name effects (record s { refs = over log.writes s.refs }) unit in
    subst (λ (es : List Effect). IsNow setup before new (let ended = take_effects name es (record s { refs = over log.writes s.refs }) unit in gets ended.0 name (with_made ended.1) v)) same
    (subst (λ (u : UnitState). IsNow setup before new (gets final.0 name (with_made u) v)) (sym done.1)
    (replies before final.0 unit done.0
    (subst (λ (t : State). named name t.units ≡ Some unit) done.0.is (ap (λ (us : Named Unit). named name (units_of us)) units ∙ still))))
