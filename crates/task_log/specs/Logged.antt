-- How a task's log is kept.
use Rattle.std.specs.Prelude.{◌≡◌, ◌+◌, ℕ, List, Option, None, Some, length, map, refl}
use Rattle.std.specs.Coded.{Coded, code_by, coded×, coded_list, coded_ℕ}
use Rattle.value_core.specs.contracts.value.Value as value
use Rattle.value_core.specs.declared.value.Value.{Value}
use Rattle.serial_model.specs.contracts.effect.Effect as effect
use Rattle.serial_model.specs.declared.effect.Effect.{Effect}
use Rattle.serial_model.specs.declared.effect.What.{What}
use Rattle.serial_model.specs.Log.{Log}
use Rattle.serial_model.specs.Sends.{effects_to, what_sends}
use Rattle.value_core.specs.Named.{Name, Named, is_among, made_by, named}

-- it is stored as its parts
abbrev pub log_code : Coded Log
log_code =
    code_by (Name × (Named Value × (List Name × (ℕ × (ℕ × List Effect)))))
    (coded× (coded_list coded_ℕ) (coded× (coded_list (coded× (coded_list coded_ℕ) (value.the_row).coded)) (coded× (coded_list (coded_list coded_ℕ)) (coded× coded_ℕ (coded× coded_ℕ (coded_list (effect.the_row).coded))))))
    (λ l. (l.name, (l.writes, (l.joined, (l.made, (l.own, l.effects))))))
    (λ p. record { name = p.0; writes = p.1.0; joined = p.1.1.0; made = p.1.1.1.0; own = p.1.1.1.1.0; effects = p.1.1.1.1.1 })
    (λ _. refl)

-- the mark of an effect: the task that did it, and its number there
abbrev pub mark_of : Effect → Name
mark_of effect = made_by effect.task effect.number

-- the members are the names of the list and no others
abbrev pub HasMembers : List Name → List Name → Type 0
HasMembers members names = (name : Name) → is_among name members ≡ is_among name names

-- the members are the marks of these effects and no others
abbrev pub HasMarks : List Name → List Effect → Type 0
HasMarks members effects = HasMembers members (map mark_of effects)

-- the effect that the task does next
abbrev pub next_effect : Log → What → Effect
next_effect log what = record { task = log.name; number = log.own; what = what }

-- a count, and none where nothing is counted
abbrev pub count_in : Option ℕ → ℕ
count_in None = 0
count_in (Some n) = n

-- how many are counted for a name
abbrev pub count_at : Name → Named ℕ → ℕ
count_at name counts = count_in (named name counts)

-- for each actor as many are counted as the effects send to it
abbrev pub CountsSends : Named ℕ → List Effect → Type 0
CountsSends counts effects = (actor : Name) → count_at actor counts ≡ length (effects_to actor effects)

-- what the effect sends is counted
abbrev pub IsCounted : What → Named ℕ → Named ℕ → Type 0
IsCounted what old new = (actor : Name) → count_at actor new ≡ count_at actor old + length (what_sends actor what)
