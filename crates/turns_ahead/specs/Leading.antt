-- A turn that runs ahead of the history, with what it holds.
use Rattle.std.specs.Prelude.{◌≡◌, ◌+◌, ◌++◌, ◌∷◌, [], ℕ, Bool, List, Option, None, Some, drop, false, true, refl}
use Rattle.std.specs.Coded.{Coded, code_by, coded×, coded_bool, coded_option, coded_ℕ}
use Rattle.serial_model.specs.declared.answer.Answer.{Answer}
use Rattle.serial_model.specs.declared.entry.Entry.{Entry}
use Rattle.serial_model.specs.declared.entry.Entry.TheVariants.{Run, Take}
use Rattle.serial_model.specs.declared.request.Request.{Request}
use Rattle.shared_world.specs.Ahead.{Ahead}
use Rattle.shared_world.specs.rows.Leading.{becomes_after, begun_by, left_after}
use Rattle.tentative_turn.specs.declared.ahead.Ahead.{Ahead as Foretold}
use Rattle.tentative_turn.specs.declared.ahead.Ahead.TheVariants as foretold
use Rattle.tentative_turn.specs.declared.held_effect.HeldEffect.{HeldEffect}
use Rattle.tentative_turn.specs.declared.held_effect.HeldEffect.TheVariants as held
use Rattle.tentative_turn.specs.Turn.{Turn, answered_ahead, things_made, turn_code, with_asked, IsBegun, IsLookUp, IsTakeOf}
use Rattle.turns_ahead.specs.declared.turn_ahead.Left.{Left}
use Rattle.unit_table.specs.contracts.unit.Becoming as becoming_row
use Rattle.unit_table.specs.declared.unit.Becoming.{Becoming}
use Rattle.value_core.specs.Named.{Name}

-- The turn, with the effects that it holds; and where the history left it: how many of its answers it knows, how many things the
-- turn had made, what its actor was to become; and whether it waits until it is definite and holds nothing.
pub record Leading : Type 0 where
  pub turn : Turn
  pub answers : ℕ
  pub made : ℕ
  pub becomes : Option Becoming
  pub waits : Bool

-- it is stored as its parts
abbrev pub leading_code : Coded Leading
leading_code =
    code_by (Turn × (ℕ × (ℕ × (Option Becoming × Bool))))
    (coded× turn_code (coded× coded_ℕ (coded× coded_ℕ (coded× (coded_option (becoming_row.the_row).coded) coded_bool))))
    (λ l. (l.turn, (l.answers, (l.made, (l.becomes, l.waits)))))
    (λ p. record { turn = p.0; answers = p.1.0; made = p.1.1.0; becomes = p.1.1.1.0; waits = p.1.1.1.1 })
    (λ _. refl)

-- the actor that begins a turn by the entry
abbrev pub taker : Entry → Option Name
taker (Take actor sender) = Some actor
taker (Run unit) = None

-- the actor of the turn, where its begin is the first that is held
abbrev pub begins : List HeldEffect → Option Name
begins (held.Take entry ∷ effects) = taker entry
begins _ = None

-- the requests that are held
abbrev pub asked : List HeldEffect → List Request
asked [] = []
asked (held.Take entry ∷ effects) = asked effects
asked (held.Asked r answer ∷ effects) = r ∷ asked effects

-- the request that is the first that is held
abbrev pub first_asked : List HeldEffect → Option Request
first_asked (held.Asked r answer ∷ effects) = Some r
first_asked _ = None

-- all that is held are requests
abbrev pub AreAsked : List HeldEffect → Type 0
AreAsked [] = Unit {0}
AreAsked (held.Take entry ∷ effects) = ⊥
AreAsked (held.Asked r answer ∷ effects) = AreAsked effects

-- but for its begin, which is the first where it is held
abbrev pub IsLine : List HeldEffect → Type 0
IsLine (held.Take entry ∷ effects) = AreAsked effects
IsLine effects = AreAsked effects

-- the turn as it is kept beside its unit
abbrev pub ahead_of : Leading → Ahead
ahead_of l = record { answers = l.answers; made = l.made; becomes = l.becomes; takes = begins l.turn.effects; held = asked l.turn.effects; waits = l.waits }

-- the turn has just begun by that entry, which is held
pub record HasBegun (take : Entry) (called : Name) (l : Leading) : Type 0 where
  pub turn : IsBegun take called 0 l.turn
  pub ahead : (actor : Name) → IsTakeOf take actor → ahead_of l ≡ begun_by actor

-- the request was handed back
abbrev pub hands_back : Foretold → Bool
hands_back (foretold.Answered answer) = false
hands_back (foretold.MustWait back) = true

-- The request was answered and is the last that is held; or it was handed back, and the turn waits.
abbrev pub HasGone : Leading → Request → Leading → Foretold → Type 0
HasGone old r new (foretold.Answered answer) =
    (answered_ahead old.turn r ≡ Some answer) × (new ≡ record old { turn = with_asked old.turn r answer; waits = false }) × (ahead_of new ≡ record (ahead_of old) { held = asked old.turn.effects ++ r ∷ []; waits = false })
HasGone old r new (foretold.MustWait back) = IsLookUp r × (back ≡ r) × (new ≡ record old { waits = true })

-- the first request that was held, and where the history leaves the turn once it is settled; it is the same turn
pub record HasSettled (old : Leading) (r : Request) (new : Leading) : Type 0 where
  pub turn : new.turn ≡ record old.turn { effects = drop 1 old.turn.effects }
  pub rest : List Request
  pub first : asked old.turn.effects ≡ r ∷ rest
  pub left : ahead_of new ≡ left_after (ahead_of old) r rest

-- what the actor becomes: the next, where there is one
abbrev pub becomes_or : Option Becoming → Option Becoming → Option Becoming
becomes_or None before = before
becomes_or (Some next) before = Some next

-- where the history leaves a turn by that request, of whose answers it knew so many, and which had made so many things
pub record IsLeftBy (answers made : ℕ) (r : Request) (left : Left) : Type 0 where
  pub answers_are : left.answers ≡ answers + 1
  pub made_is : left.made ≡ made + things_made r
  pub becomes : (before : Option Becoming) → becomes_or left.becomes before ≡ becomes_after r before

-- where it leaves the turn once the first that this holds is settled, which is a request
pub record IsLeftNext (l : Leading) (left : Left) : Type 0 where
  pub r : Request
  pub answer : Answer
  pub rest : List HeldEffect
  pub first : l.turn.effects ≡ held.Asked r answer ∷ rest
  pub by : IsLeftBy l.answers l.made r left
