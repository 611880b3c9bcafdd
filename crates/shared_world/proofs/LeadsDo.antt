-- What a turn that runs ahead does to the history and to the attempts.
use Rattle.std.proofs.Common.{◌≡◌, ◌∙◌, ◌++◌, ◌∷◌, ◌==◌, [], List, Bool, true, false, Option, None, Some, refl, ap}
use Rattle.std.specs.Prelude.{◌&&◌}
use Rattle.core_syntax.specs.declared.node_id.NodeId.{NodeId}
use Rattle.serial_model.specs.declared.entry.Entry.{Entry}
use Rattle.serial_model.specs.declared.halt.Halt.{Halt}
use Rattle.serial_model.specs.declared.halt.Halt.TheVariants as halt
use Rattle.serial_model.specs.declared.request.Request.{Request}
use Rattle.serial_model.specs.declared.request.Request.TheVariants as request
use Rattle.serial_model.specs.Step.{next_of}
use Rattle.shared_world.specs.Ahead.{Ahead}
use Rattle.shared_world.specs.Counts.{undone_by}
use Rattle.shared_world.specs.declared.given.Given.{Given}
use Rattle.shared_world.specs.declared.given.Given.TheVariants as given
use Rattle.shared_world.specs.Later.{settled_by}
use Rattle.shared_world.specs.rows.Attempts.{BeginsMarked}
use Rattle.shared_world.specs.rows.Leading as lead
use Rattle.shared_world.specs.rows.Leading.{FirstSettles, ForkSettles, GaveLead, GaveTentative, HoldsOn, LeadGives, LeadGoes, LeadSettles, LeadTries, NextSettles, SendsHeld, SettlesBegin, TakeSettlesIfAllowed, WaitsDefinite, is_definite, is_to_settle}
use Rattle.shared_world.specs.rows.Pieces.{EndsBy}
use Rattle.shared_world.specs.Shared.{Shared, unit_state}
use Rattle.task_fork_join.specs.Attempt.{Attempt}
use Rattle.unit_table.specs.declared.mark.Mark.{Mark}
use Rattle.unit_table.specs.declared.mark.Work.{Work}
use Rattle.unit_table.specs.declared.unit.Unit.{Unit}
use Rattle.value_core.specs.declared.value.Value.{Value}
use Rattle.value_core.specs.Named.{Name, named}
use Rattle.value_core.specs.Place.{Spot}

-- an entry is appended; or none is, and no attempt is undone; or an attempt begins
pub data IsLed (old : Shared) (found : Given) (new : Shared) : Type 0 where
  settled : (entry : Entry) → found ≡ given.Settled entry → new.setup ≡ old.setup → new.history ≡ old.history ++ entry ∷ [] → new.attempts ≡ old.attempts → IsLed old found new
  stays : (other : Given) → found ≡ other → settled_by other ≡ [] → ((u : Name) → undone_by u other ≡ 0) → new.setup ≡ old.setup → new.history ≡ old.history → new.attempts ≡ old.attempts → IsLed old found new
  begun : (u : Name) (x : Unit) (m : Mark) (body : NodeId) (values : List Value) (at : Spot) → named u old.attempts ≡ None → BeginsMarked old u x m body values at found new → IsLed old found new

-- what is as it was, for that
record IsSameSo (old base : Shared) : Type 0 where
  setup : base.setup ≡ old.setup
  history : base.history ≡ old.history
  attempts : base.attempts ≡ old.attempts

module _ (old : Shared) (u : Name) (x : Unit) (h : Ahead) (found : Given) (new : Shared) where
  settles-led : (base : Shared) (left : Ahead) (entry : Entry) → IsSameSo old base → LeadSettles base u x left entry found new → IsLed old found new
  settles-led base left entry same g = settled entry g.found_is (ap (λ (s : Shared). s.setup) g.others ∙ same.setup) (ap (λ (s : Shared). s.history) g.others ∙ ap (λ es. es ++ entry ∷ []) same.history) (ap (λ (s : Shared). s.attempts) g.others ∙ same.attempts)

  ends-led : (entry : Entry) (e : _) → EndsBy old entry e found new → IsLed old found new
  ends-led entry e g = settled entry g.found_is (ap (λ (s : Shared). s.setup) g.others) (ap (λ (s : Shared). s.history) g.others) (ap (λ (s : Shared). s.attempts) g.others)

  holds-led : (r : Request) (base : Shared) → IsSameSo old base → HoldsOn base u x h r found new → IsLed old found new
  holds-led r base same g = stays given.Held g.found_is refl (λ v. refl) (ap (λ (s : Shared). s.setup) g.others ∙ same.setup) (ap (λ (s : Shared). s.history) g.others ∙ same.history) (ap (λ (s : Shared). s.attempts) g.others ∙ same.attempts)

  waits-led : WaitsDefinite old u x h found new → IsLed old found new
  waits-led g = stays _ g.found_is refl (λ v. refl) (ap (λ (s : Shared). s.setup) g.others) (ap (λ (s : Shared). s.history) g.others) (ap (λ (s : Shared). s.attempts) g.others)

  abbrev itself : IsSameSo old old
  itself = record { setup = refl; history = refl; attempts = refl }

  sends-led : (to : Name) (args : List Value) (base : Shared) → SendsHeld old u to args base → IsSameSo old base
  sends-led to args base (lead.taken m actor took depends there changed put is) = record { setup = ap (λ (s : Shared). s.setup) is; history = ap (λ (s : Shared). s.history) is; attempts = ap (λ (s : Shared). s.attempts) is }
  sends-led to args base (lead.mailed none mailed put is) = record { setup = ap (λ (s : Shared). s.setup) is; history = ap (λ (s : Shared). s.history) is; attempts = ap (λ (s : Shared). s.attempts) is }

  first-led : (r : Request) (rest : List Request) → FirstSettles old u x h r rest found new → IsLed old found new
  first-led (request.Print text) rest g = settles-led _ _ _ (record { setup = refl; history = refl; attempts = refl }) g
  first-led (request.NewRef v) rest g = settles-led _ _ _ (record { setup = refl; history = refl; attempts = refl }) g.settles
  first-led (request.Deref ref) rest g = absurd g
  first-led (request.RefSet ref v) rest g = absurd g
  first-led (request.Fork body values) rest g = on (old.made == old.setup.limits.units) g
    where
      on : (full : Bool) → ForkSettles old u x h body values rest full found new → IsLed old found new
      on true r = ends-led _ _ r
      on false r = settles-led r.0 _ _ (record { setup = ap (λ (s : Shared). s.setup) r.1.others; history = ap (λ (s : Shared). s.history) r.1.others; attempts = ap (λ (s : Shared). s.attempts) r.1.others }) r.2
  first-led (request.Join future) rest g = absurd g
  first-led (request.Dosync body values) rest g = absurd g
  first-led (request.Spawn behaviour state) rest g = settles-led g.0 _ _ (record { setup = ap (λ (s : Shared). s.setup) g.1.others; history = ap (λ (s : Shared). s.history) g.1.others; attempts = ap (λ (s : Shared). s.attempts) g.1.others }) g.2
  first-led (request.Send to args) rest g = settles-led g.0 _ _ (sends-led to args g.0 g.1) g.2
  first-led (request.Become behaviour state) rest g = settles-led old _ _ itself g
  first-led request.SelfActor rest g = settles-led old _ _ itself g

  begin-led : (a : Name) (g : SettlesBegin old u x h a) (full : Bool) → TakeSettlesIfAllowed old u x h a g.actor g.message full found new → IsLed old found new
  begin-led a g true r = ends-led _ _ r
  begin-led a g false r = settles-led _ _ _ (record { setup = refl; history = refl; attempts = refl }) r.settles

  next-led : (takes : Option Name) (held : List Request) → NextSettles old u x h takes held found new → IsLed old found new
  next-led (Some a) held g = begin-led a g.0 (old.made == old.setup.limits.units) g.1
  next-led None (r ∷ rest) g = first-led r rest g
  next-led None [] g = absurd g

  goes-led : (halted : Halt) → LeadGoes old u x h halted found new → IsLed old found new
  goes-led (halt.Ask (request.Dosync body values) at) g = on (named u old.attempts) refl g
    where
      on : (attempt : Option Attempt) → named u old.attempts ≡ attempt → LeadTries old u x h body values at attempt found new → IsLed old found new
      on None none r = begun u x _ body values at none r
      on (Some tree) is r = absurd r
  goes-led (halt.Ask (request.Deref ref) at) g = waits-led g
  goes-led (halt.Ask (request.RefSet ref v) at) g = waits-led g
  goes-led (halt.Ask (request.Join future) at) g = waits-led g
  goes-led (halt.Ask (request.Print text) at) g = holds-led _ old itself g
  goes-led (halt.Ask (request.NewRef v) at) g = holds-led _ old itself g
  goes-led (halt.Ask (request.Fork body values) at) g = holds-led _ old itself g
  goes-led (halt.Ask (request.Spawn behaviour state) at) g = holds-led _ old itself g
  goes-led (halt.Ask (request.Send to args) at) g = holds-led _ (record old { mails = g.mails; board = g.board }) (record { setup = refl; history = refl; attempts = refl }) g.holds
  goes-led (halt.Ask (request.Become behaviour state) at) g = holds-led _ old itself g
  goes-led (halt.Ask request.SelfActor at) g = holds-led _ old itself g
  goes-led (halt.Value v) g = waits-led g
  goes-led (halt.Fault failed at) g = waits-led g
  goes-led halt.Spent g = waits-led g

  gives-led : (settling : Bool) → LeadGives old u x h settling found new → IsLed old found new
  gives-led true g = next-led h.takes h.held g
  gives-led false g = goes-led (next_of old.setup (unit_state x)) g

pub lead-led : (old : Shared) (name : Name) (claimed : Work) (found : Given) (new : Shared) → GaveLead old name claimed found new → IsLed old found new
lead-led old name claimed found new g = gives-led old name g.unit g.ahead found new (is_definite old.taken g.ahead.takes && is_to_settle claimed) g.gives

pub tentative-led : (old : Shared) (a : Name) (found : Given) (new : Shared) → GaveTentative old a found new → IsLed old found new
tentative-led old a found new g = stays given.Held g.takes.found_is refl (λ v. refl) (ap (λ (s : Shared). s.setup) g.takes.others) (ap (λ (s : Shared). s.history) g.takes.others) (ap (λ (s : Shared). s.attempts) g.takes.others)
