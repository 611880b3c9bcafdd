-- The rows of attempts that go on.
use Rattle.std.specs.Prelude.{Contains, List, None, Option, Some, [], length, ◌++◌, ◌∷◌, ◌≡◌, ◌⊎◌}
use Rattle.value_core.specs.Named.{Name}
use Rattle.value_core.specs.declared.value.Value.{Value}
use Rattle.serial_model.specs.State.{Setup}
use Rattle.serial_model.specs.Step.{ended, next_made, next_of}
use Rattle.serial_model.specs.declared.effect.Effect.{Effect}
use Rattle.serial_model.specs.declared.effect.What.TheVariants as what
use Rattle.serial_model.specs.declared.effect.What.{What}
use Rattle.serial_model.specs.declared.halt.Halt.TheVariants as halt
use Rattle.serial_model.specs.declared.request.Request.TheVariants as request
use Rattle.actor_mailbox.specs.declared.message.Message.{Message}
use Rattle.world_model.specs.Message.{tentative}
use Rattle.world_model.specs.StandsFor.{IsEnd}
use Rattle.world_model.specs.World.{Attempt, AttemptEnd, LiveUnit, World, put_or_kept, with_at}

-- a unit at a dosync, without an attempt, and an attempt that has done nothing
pub record Begins (setup : Setup) (w : World) (u : Name) (x : LiveUnit) (tried : Attempt) : Type 0 where
  pub there : w.units u ≡ Some x
  pub none : w.attempts u ≡ None
  pub asks : next_of setup x.now ≡ halt.Ask (request.Dosync tried.body tried.values) tried.at
  pub root : tried.root ≡ next_made u x.now
  pub unfinished : x.now.finished ≡ None
  pub snapshot : tried.snapshot ≡ length w.history
  pub store : tried.store ≡ w.refs
  pub reads : tried.reads ≡ []
  pub joined : tried.joined ≡ []
  pub effects : tried.effects ≡ []
  pub ended : tried.ended ≡ None

-- Began: the unit has that attempt
abbrev pub with_attempt : World → Name → Attempt → World
with_attempt w u tried = record w { attempts = with_at w.attempts u (Some tried) }

-- the attempt with what it has learned
abbrev pub learned : Attempt → List Name → List (Name × Value) → Option AttemptEnd → Attempt
learned tried reads joined ended = record tried { reads = reads; joined = joined; ended = ended }

-- Local: a task has read refs, or was answered with a plain task's value, or the root is at its end. What was read stays read.
pub record Learns (setup : Setup) (w : World) (u : Name) (x : LiveUnit) (tried : Attempt) (reads : List Name) (joined : List (Name × Value)) (ended : Option AttemptEnd) : Type 0 where
  pub there : w.units u ≡ Some x
  pub attempt : w.attempts u ≡ Some tried
  pub stays : (r : Name) → Contains tried.reads r → Contains reads r
  pub over : (f : Name) (v : Value) → Contains joined (f, v)
      → Contains tried.joined (f, v) ⊎ ((y : LiveUnit) × (w.units f ≡ Some y) × (y.takes ≡ None) × (y.from.finished ≡ Some v))
  pub end : IsEnd setup x.now.actor (learned tried reads joined ended) ended

-- the attempt with one effect more
abbrev pub with_done : Attempt → Effect → Attempt
with_done tried e = record tried { effects = tried.effects ++ e ∷ []; ended = None }

-- the mailboxes, once the root has done that
abbrev pub mails_done : World → Name → Attempt → What → Name → List Message
mails_done w u tried (what.Send to args) = put_or_kept w u to (tentative u tried.root args)
mails_done w u tried _ = w.mails

-- the root has one effect more
abbrev pub done_more : World → Name → Attempt → Effect → (Name → List Message) → World
done_more w u tried e mails = record w { attempts = with_at w.attempts u (Some (with_done tried e)); mails = mails }

-- Local: its send, where the effect is one, is put or kept
abbrev pub does_local : World → Name → Attempt → Effect → World
does_local w u tried e = done_more w u tried e (mails_done w u tried e.what)

-- the effects of a step, one after another
abbrev pub local : World → Name → Attempt → List Effect → World
local w u tried [] = w
local w u tried (e ∷ es) = local (does_local w u tried e) u (with_done tried e) es
