-- What is known of a whole program while the frames of its nodes are found.
use Rattle.std.specs.Prelude.{◌≡◌, ◌↔◌, ℕ, ◌+◌, ◌-◌, ◌<◌, ◌≤◌, List, [], ◌∷◌, length, get_or, All, Contains, Option, None, Some, IsTrue}
use Rattle.core_syntax.specs.Fits.{function_takes, state_takes}
use Rattle.core_syntax.specs.Table.{Table}
use Rattle.resolved_forms.specs.declared.expr.Looping.{Looping}
use Rattle.resolved_forms.specs.declared.layout.Hidden.{Hidden}
use Rattle.resolved_forms.specs.declared.layout.Layout.{Layout}
use Rattle.resolved_forms.specs.InRange.{Target}
use Rattle.resolved_forms.specs.declared.survey.LoopSurvey.{LoopSurvey}
use Rattle.resolved_forms.specs.declared.survey.Survey.{Survey}
use Rattle.resolved_forms.specs.declared.uses.Uses.{Uses}
use Rattle.program_plan.specs.Frame.{hidden_at, hidden_count}
use Rattle.resolved_forms.specs.Uses.{function_unit}

-- the table that is made, the hidden arguments in it, the globals that each unit reaches, and how many behaviours and
-- globals there are
pub record Setting : Type 0 where
  pub table : Table
  pub layout : Layout
  pub reached : List (List ℕ)
  pub behaviours : ℕ
  pub globals : ℕ

abbrev pub function_hides : Setting → ℕ → Hidden
function_hides w number = hidden_at w.layout.functions number

abbrev pub behaviour_hides : Setting → ℕ → Hidden
behaviour_hides w number = hidden_at w.layout.behaviours number

-- a function of the top level with that number takes so many written arguments, and hides the globals that it reaches
pub record FunctionReady (w : Setting) (number count : ℕ) : Type 0 where
  pub takes : IsTrue (function_takes w.table number (hidden_count (function_hides w number) + count))
  pub reaches : (function_hides w number).globals ≡ get_or w.reached (function_unit w.behaviours number) []
  pub plain : (function_hides w number).levels ≡ []

-- a behaviour with that number has so many state parameters, and hides the globals that it reaches
pub record BehaviourReady (w : Setting) (number count : ℕ) : Type 0 where
  pub takes : IsTrue (state_takes w.table number (hidden_count (behaviour_hides w number) + count))
  pub reaches : (behaviour_hides w number).globals ≡ get_or w.reached number []
  pub plain : (behaviour_hides w number).levels ≡ []

-- the globals have all those that code needs which names this
pub record Covers (w : Setting) (globals : List ℕ) (uses : Uses) : Type 0 where
  pub named : (g : ℕ) → Contains uses.globals g → Contains globals g
  pub through : (unit g : ℕ) → Contains uses.units unit → Contains (get_or w.reached unit []) g → Contains globals g

-- a loop, and what its body names
pub record Entry : Type 0 where
  pub own : Looping
  pub inside : LoopSurvey

-- how many arguments the function of a loop takes
abbrev pub takes_in : Setting → Entry → ℕ
takes_in w entry = hidden_count (function_hides w entry.own.number) + length entry.own.arguments

-- the function of a loop is there, and hides the globals and levels that its body needs
pub record Ready (w : Setting) (entry : Entry) : Type 0 where
  pub takes : IsTrue (function_takes w.table entry.own.number (takes_in w entry))
  pub reaches : (function_hides w entry.own.number).globals ≡ get_or w.reached (function_unit w.behaviours entry.own.number) []
  pub covers : Covers w (function_hides w entry.own.number).globals entry.inside.uses
  pub levels : (level : ℕ) → Contains (function_hides w entry.own.number).levels level ↔ Contains entry.inside.levels level

-- the loops have the numbers from one on, up to an end
abbrev pub Numbered : ℕ → ℕ → List Entry → Type 0
Numbered start end [] = start ≡ end
Numbered start end (entry ∷ entries) = (entry.own.number ≡ start) × Numbered (start + 1) end entries

-- a call from a frame with these hidden values to the function that it belongs to
pub record TargetIs (w : Setting) (hidden : Hidden) (base : ℕ) (target : Target) : Type 0 where
  pub takes : IsTrue (function_takes w.table target.number (hidden_count (function_hides w target.number) + target.takes))
  pub globals : (g : ℕ) → Contains (function_hides w target.number).globals g → Contains hidden.globals g
  pub levels : (level : ℕ) → Contains (function_hides w target.number).levels level → (level < base) × Contains hidden.levels level

abbrev pub TargetReady : Setting → Hidden → ℕ → Option Target → Type 0
TargetReady w hidden base None = Unit {0}
TargetReady w hidden base (Some target) = TargetIs w hidden base target

-- In a frame with these hidden values and the locals from level `base` to `depth`, all is there that code needs which
-- names this and has these loops.
pub record Enough (w : Setting) (hidden : Hidden) (base depth : ℕ) (target : Option Target) (survey : Survey) (entries : List Entry) : Type 0 where
  pub within : base ≤ depth
  pub covers : Covers w hidden.globals survey.uses
  pub levels : (level : ℕ) → Contains survey.levels level → level < base → Contains hidden.levels level
  pub ready : All (Ready w) entries
  pub target_ready : TargetReady w hidden base target

-- how many values are in such a frame
abbrev pub size_in : Hidden → ℕ → ℕ → ℕ
size_in hidden base depth = hidden_count hidden + (depth - base)

-- the globals that code names are among those of the file, in its loops too
pub record Named (w : Setting) (survey : Survey) : Type 0 where
  pub uses : All (λ g. g < w.globals) survey.uses.globals
  pub inside : All (λ loop. All (λ g. g < w.globals) loop.uses.globals) survey.loops
