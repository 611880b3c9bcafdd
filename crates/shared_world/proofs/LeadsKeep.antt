-- Whatever a turn that runs ahead comes to, what is kept stands.
use Rattle.std.proofs.Common.{◌≡◌, ◌==◌, Bool, true, false, List, [], ◌∷◌, refl}
use Rattle.std.specs.Prelude.{Option, None, Some, ◌&&◌}
use Rattle.serial_model.specs.declared.halt.Halt.{Halt}
use Rattle.serial_model.specs.declared.halt.Halt.TheVariants as halt
use Rattle.serial_model.specs.declared.request.Request.{Request}
use Rattle.serial_model.specs.declared.request.Request.TheVariants as request
use Rattle.serial_model.specs.Step.{next_of}
use Rattle.shared_world.proofs.Begins.{begins}
use Rattle.shared_world.proofs.Leads.{kept, lead-holds, lead-settles, unfinished, waits-definite}
use Rattle.shared_world.proofs.LeadsFirst.{begin-settles, fork-ends, settles-become, settles-fork, settles-print, settles-ref, settles-self, settles-send, settles-spawn}
use Rattle.shared_world.specs.Ahead.{Ahead}
use Rattle.shared_world.specs.declared.given.Given.{Given}
use Rattle.shared_world.specs.rows.Leading.{FirstSettles, ForkSettles, GaveLead, LeadGives, LeadGoes, LeadTries, NextSettles, is_definite, is_to_settle}
use Rattle.shared_world.specs.Shared.{Shared, unit_state}
use Rattle.shared_world.specs.Stands.{Stands}
use Rattle.task_fork_join.specs.Attempt.{Attempt}
use Rattle.unit_table.specs.Board.{unit_at}
use Rattle.unit_table.specs.declared.mark.Work.{Work}
use Rattle.unit_table.specs.declared.unit.Unit.{Unit}
use Rattle.value_core.specs.Named.{Name, named}

module _ (old : Shared) (st : Stands old) (on_going : old.end ≡ None) (u : Name) (x : Unit) (there : unit_at old.board u ≡ Some x) (h : Ahead) (leads : named u old.aheads ≡ Some h) (found : Given) (new : Shared) where
  first-keeps : (r : Request) (rest : List Request) → h.takes ≡ None → h.held ≡ r ∷ rest → FirstSettles old u x h r rest found new → Stands new
  first-keeps (request.Print text) rest definite held g = lead-settles old st on_going u x there h leads _ _ _ _ (settles-print old st on_going u x there h leads text rest definite held) found new g
  first-keeps (request.NewRef v) rest definite held g = lead-settles old st on_going u x there h leads _ _ _ _ (settles-ref old st on_going u x there h leads v rest definite held) found new g.settles
  first-keeps (request.Deref ref) rest definite held g = absurd g
  first-keeps (request.RefSet ref v) rest definite held g = absurd g
  first-keeps (request.Fork body values) rest definite held g = by (old.made == old.setup.limits.units) refl g
    where
      by : (full : Bool) → (old.made == old.setup.limits.units) ≡ full → ForkSettles old u x h body values rest full found new → Stands new
      by true is r = fork-ends old st on_going u x there h leads body values rest definite held is found new r
      by false is r = lead-settles old st on_going u x there h leads _ _ _ _ (settles-fork old st on_going u x there h leads body values rest definite held is r.0 r.1) found new r.2
  first-keeps (request.Join future) rest definite held g = absurd g
  first-keeps (request.Dosync body values) rest definite held g = absurd g
  first-keeps (request.Spawn behaviour state) rest definite held g =
      lead-settles old st on_going u x there h leads _ _ _ _ (settles-spawn old st on_going u x there h leads behaviour state rest definite held g.0 g.1) found new g.2
  first-keeps (request.Send to args) rest definite held g = lead-settles old st on_going u x there h leads _ _ _ _ (settles-send old st on_going u x there h leads to args rest definite held g.0 g.1) found new g.2
  first-keeps (request.Become behaviour state) rest definite held g = lead-settles old st on_going u x there h leads _ _ _ _ (settles-become old st on_going u x there h leads behaviour state rest definite held) found new g
  first-keeps request.SelfActor rest definite held g = lead-settles old st on_going u x there h leads _ _ _ _ (settles-self old st on_going u x there h leads rest definite held) found new g

  next-keeps : (takes : Option Name) (held : List Request) → h.takes ≡ takes → h.held ≡ held → NextSettles old u x h takes held found new → Stands new
  next-keeps (Some a) held begun is g = begin-settles old st on_going u x there h leads a begun g.0 found new (old.made == old.setup.limits.units) refl g.1
  next-keeps None (r ∷ rest) definite is g = first-keeps r rest definite is g
  next-keeps None [] definite is g = absurd g

  goes-keeps : (halted : Halt) → next_of old.setup (unit_state x) ≡ halted → LeadGoes old u x h halted found new → Stands new
  goes-keeps (halt.Ask (request.Dosync body values) at) asks g = tries (named u old.attempts) refl g
    where
      tries : (attempt : Option Attempt) → named u old.attempts ≡ attempt → LeadTries old u x h body values at attempt found new → Stands new
      tries None none r = begins old st u x on_going (kept old st on_going u x there h leads) (unfinished old st on_going u x there h leads) _ body values at asks none found new r
      tries (Some tree) is r = absurd r
  goes-keeps (halt.Ask (request.Deref ref) at) asks g = waits-definite old st on_going u x there h leads found new g
  goes-keeps (halt.Ask (request.RefSet ref v) at) asks g = waits-definite old st on_going u x there h leads found new g
  goes-keeps (halt.Ask (request.Join future) at) asks g = waits-definite old st on_going u x there h leads found new g
  goes-keeps (halt.Ask (request.Print text) at) asks g = lead-holds old st on_going u x there h leads (request.Print text) at asks found new g
  goes-keeps (halt.Ask (request.NewRef v) at) asks g = lead-holds old st on_going u x there h leads (request.NewRef v) at asks found new g
  goes-keeps (halt.Ask (request.Fork body values) at) asks g = lead-holds old st on_going u x there h leads (request.Fork body values) at asks found new g
  goes-keeps (halt.Ask (request.Spawn behaviour state) at) asks g = lead-holds old st on_going u x there h leads (request.Spawn behaviour state) at asks found new g
  goes-keeps (halt.Ask (request.Send to args) at) asks g = lead-holds old st on_going u x there h leads (request.Send to args) at asks found new g
  goes-keeps (halt.Ask (request.Become behaviour state) at) asks g = lead-holds old st on_going u x there h leads (request.Become behaviour state) at asks found new g
  goes-keeps (halt.Ask request.SelfActor at) asks g = lead-holds old st on_going u x there h leads request.SelfActor at asks found new g
  goes-keeps (halt.Value v) asks g = waits-definite old st on_going u x there h leads found new g
  goes-keeps (halt.Fault failed at) asks g = waits-definite old st on_going u x there h leads found new g
  goes-keeps halt.Spent asks g = waits-definite old st on_going u x there h leads found new g

  gives-keeps : (settles : Bool) → LeadGives old u x h settles found new → Stands new
  gives-keeps true g = next-keeps h.takes h.held refl refl g
  gives-keeps false g = goes-keeps (next_of old.setup (unit_state x)) refl g

-- what a turn that runs ahead comes to
pub lead-keeps : (old new : Shared) (name : Name) (claimed : Work) (found : Given) → Stands old → old.end ≡ None → GaveLead old name claimed found new → Stands new
lead-keeps old new name claimed found st on_going g = gives-keeps old st on_going name g.unit g.there g.ahead g.leads found new (is_definite old.taken g.ahead.takes && is_to_settle claimed) g.gives
