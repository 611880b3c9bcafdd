-- What a task of a transaction has done so far.
use Rattle.std.specs.Prelude.{ℕ, ◌+◌, ◌==◌, ◌&&◌, Bool, List, [], ◌∷◌, ◌++◌, fold, if◌then◌else◌}
use Rattle.std.specs.List.{list_any}
use Rattle.value_core.specs.declared.value.Value.{Value as Datum}
use Rattle.serial_model.specs.declared.effect.Effect.{Effect}
use Rattle.serial_model.specs.declared.effect.What.{What}
use Rattle.value_core.specs.Named.{Name, Named, over, same_name, with_name, with_named}

-- Its name; its own writes; the futures that it has joined; how many things it has made, and how many effects are its own;
-- and its effects with those that came by joins, in order.
pub record Log : Type 0 where
  pub name : Name
  pub writes : Named Datum
  pub joined : List Name
  pub made : ℕ
  pub own : ℕ
  pub effects : List Effect

abbrev pub new_log : Name → Log
new_log name = record { name = name; writes = []; joined = []; made = 0; own = 0; effects = [] }

-- an effect of its own, behind the others
abbrev pub with_effect : Log → What → Log
with_effect log what = record log { own = log.own + 1; effects = log.effects ++ record { task = log.name; number = log.own; what = what } ∷ [] }

abbrev pub with_made : Log → Log
with_made log = record log { made = log.made + 1 }

abbrev pub with_write : Log → Name → Datum → Log
with_write log name v = record log { writes = with_named log.writes name v }

-- an effect is known by its task and its number there
abbrev pub is_held : List Effect → Effect → Bool
is_held effects effect = list_any (λ e. same_name e.task effect.task && (e.number == effect.number)) effects

abbrev pub with_missing : List Effect → Effect → List Effect
with_missing effects effect = if is_held effects effect then effects else effects ++ effect ∷ []

-- The merge of a child: its writes prevail, the effects that are not held yet are appended in order, and it counts as
-- joined, with all that it has joined.
abbrev pub merged : Log → Log → Log
merged log child = record log {
  writes = over child.writes log.writes;
  joined = fold with_name (with_name log.joined child.name) child.joined;
  effects = fold with_missing log.effects child.effects;
}
