-- A turn that runs ahead of what it depends on.
use Rattle.std.specs.Prelude.{◌≡◌, ◌==◌, ◌&&◌, ℕ, Bool, ◌+◌, List, [], ◌∷◌, ◌++◌, Option, None, Some, refl}
use Rattle.std.specs.Coded.{Coded, code_by, coded×, coded_list, coded_ℕ}
use Rattle.serial_model.specs.Ahead.{answer_ahead}
use Rattle.serial_model.specs.declared.answer.Answer.{Answer}
use Rattle.serial_model.specs.declared.entry.Entry.{Entry}
use Rattle.serial_model.specs.declared.entry.Entry.TheVariants.{Run, Take}
use Rattle.serial_model.specs.declared.request.Request.{Request}
use Rattle.serial_model.specs.declared.request.Request.TheVariants as request
use Rattle.tentative_turn.specs.contracts.held_effect.HeldEffect as held_effect
use Rattle.tentative_turn.specs.declared.ahead.Ahead.{Ahead}
use Rattle.tentative_turn.specs.declared.ahead.Ahead.TheVariants as ahead
use Rattle.tentative_turn.specs.declared.held_effect.HeldEffect.{HeldEffect}
use Rattle.tentative_turn.specs.declared.held_effect.HeldEffect.TheVariants as held
use Rattle.value_core.specs.Named.{Name, made_by, same_name}

-- its name, its actor, how many things it has made, and the effects that it holds, in the order in which it did them
pub record Turn : Type 0 where
  pub name : Name
  pub actor : Name
  pub made : ℕ
  pub effects : List HeldEffect

-- the turn has that name, is one of that actor, and has made so many things
abbrev pub is_turn : Turn → Name → Name → ℕ → Bool
is_turn turn name actor made = same_name turn.name name && (same_name turn.actor actor && (turn.made == made))

-- it is stored as its parts
abbrev pub turn_code : Coded Turn
turn_code =
    code_by (Name × (Name × (ℕ × List HeldEffect)))
    (coded× (coded_list coded_ℕ) (coded× (coded_list coded_ℕ) (coded× coded_ℕ (coded_list (held_effect.the_row).coded))))
    (λ t. (t.name, (t.actor, (t.made, t.effects))))
    (λ p. record { name = p.0; actor = p.1.0; made = p.1.1.0; effects = p.1.1.1 })
    (λ _. refl)

-- the entry begins a turn of that actor
abbrev pub IsTakeOf : Entry → Name → Type 0
IsTakeOf (Run unit) actor = ⊥
IsTakeOf (Take taker sender) actor = actor ≡ taker

-- the entry begins a turn
abbrev pub IsTake : Entry → Type 0
IsTake (Run unit) = ⊥
IsTake (Take actor sender) = Unit {0}

-- a turn of the entry's actor that has made so many things, and holds that entry alone
pub record IsBegun (take : Entry) (called : Name) (first_made : ℕ) (turn : Turn) : Type 0 where
  pub name : turn.name ≡ called
  pub actor : IsTakeOf take turn.actor
  pub made : turn.made ≡ first_made
  pub effects : turn.effects ≡ held.Take take ∷ []

-- the request begins a transaction
abbrev pub IsDosync : Request → Type 0
IsDosync (request.Dosync body values) = Unit {0}
IsDosync _ = ⊥

-- what the request is answered is looked up: a deref, a ref-set and a join
abbrev pub IsLookUp : Request → Type 0
IsLookUp (request.Deref ref) = Unit {0}
IsLookUp (request.RefSet ref content) = Unit {0}
IsLookUp (request.Join future) = Unit {0}
IsLookUp _ = ⊥

abbrev pub IsMustWait : Ahead → Type 0
IsMustWait (ahead.Answered answer) = ⊥
IsMustWait (ahead.MustWait request) = Unit {0}

-- how many things the request makes: a ref, a task or an actor
abbrev pub things_made : Request → ℕ
things_made (request.NewRef content) = 1
things_made (request.Fork body values) = 1
things_made (request.Spawn behaviour state) = 1
things_made _ = 0

-- what the turn's request is answered, where that needs no look-up
abbrev pub answered_ahead : Turn → Request → Option Answer
answered_ahead turn asked = answer_ahead (Some turn.actor) (made_by turn.name turn.made) asked

-- the turn that also holds the request with its answer, as the last one, and has made what the request makes
abbrev pub with_asked : Turn → Request → Answer → Turn
with_asked turn asked answer =
    record turn { made = turn.made + things_made asked; effects = turn.effects ++ held.Asked asked answer ∷ [] }

-- A turn runs ahead over a request: where there is an answer, it is given and the request is held with it; else the request
-- is handed back and the turn stays.
abbrev pub RunsAhead : Turn → Request → Option Answer → Turn → Ahead → Type 0
RunsAhead old asked None new given = (given ≡ ahead.MustWait asked) × (new ≡ old)
RunsAhead old asked (Some answer) new given = (given ≡ ahead.Answered answer) × (new ≡ with_asked old asked answer)
