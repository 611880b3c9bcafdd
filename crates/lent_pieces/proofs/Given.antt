-- What pieces come to.
use Rattle.std.proofs.Common.{◌≡◌, ◌∙◌, false, refl, sym, ap, subst, true}
use Rattle.std.specs.Option.{IsSome, option_and_then}
use Rattle.std.specs.Prelude.{Err, IfSome, None, Ok, Option, Result, Some, is_some}
use Rattle.std.specs.declared.alloc.AllocError.{AllocError}
use Rattle.eval_step.specs.Evaluation.{Evaluation}
use Rattle.attempt_steps.proofs.Ended.{rooted-of}
use Rattle.attempt_steps.proofs.Wanting.{same-wanting}
use Rattle.attempt_steps.specs.Tasks.{IsOwned, IsTaskOf}
use Rattle.lent_pieces.specs.declared.giving.Moved.{Moved}
use Rattle.lent_pieces.specs.Giving.{GivesTo, IsMovedOn, IsOpenUnit}
use Rattle.lent_pieces.specs.Giving as gives
use Rattle.world_steps.specs.Kept.{IsUnitOf}
use Rattle.world_steps.specs.Rows.{Comes, IsBodyThere}
use Rattle.actor_turns.specs.Turning.{TurnComes}
use Rattle.serial_model.proofs.evaluation.Carries.{ask-is-there}
use Rattle.serial_model.specs.declared.halt.Halt.{Halt}
use Rattle.serial_model.specs.declared.halt.Halt.TheVariants as halt
use Rattle.serial_model.specs.declared.request.Request.{Request}
use Rattle.serial_model.specs.declared.request.Request.TheVariants as request
use Rattle.serial_model.specs.Carried.{IsThere}
use Rattle.serial_model.specs.Step.{next_of}
use Rattle.shared_world.proofs.Live.{unit-piece}
use Rattle.shared_world.proofs.Steps.{goes-with}
use Rattle.shared_world.specs.declared.given.Given.{Given}
use Rattle.shared_world.specs.Returned.{halt_of}
use Rattle.shared_world.specs.rows.Units.{UnitGives}
use Rattle.shared_world.specs.Shared.{Shared, is_going, kept_machine, machine_in, unit_state}
use Rattle.shared_world.specs.Stands.{IsMachine, Stands}
use Rattle.task_fork_join.specs.Attempt.{Attempt, machine_of}
use Rattle.unit_table.specs.Board.{unit_at}
use Rattle.unit_table.specs.declared.unit.Unit.{Unit}
use Rattle.value_core.specs.Named.{Name, named}
use Rattle.value_core.specs.Place.{Spot}

-- ---- a unit
pub record IsThereUnit (s : Shared) (name : Name) : Type 0 where
  pub x : Unit
  pub there : unit_at s.board name ≡ Some x

pub there-unit : (s : Shared) (name : Name) → IsSome (unit_at s.board name) → IsThereUnit s name
there-unit s name some = on (unit_at s.board name) refl some
  where
    on : (o : Option Unit) → unit_at s.board name ≡ o → IsSome o → IsThereUnit s name
    on None e is = absurd (cc)
    on (Some x) e is = record { x = x; there = e }

-- its machine was moved
pub moved-of : (s : Shared) (name : Name) (moved : Moved) (x : Unit) → unit_at s.board name ≡ Some x → IfSome (kept_machine s name) (λ kept. IsMovedOn s.setup.program kept moved) → IsMovedOn s.setup.program x.machine moved
moved-of s name moved x there is = subst (λ (o : Option Evaluation). IfSome o (λ kept. IsMovedOn s.setup.program kept moved)) (ap (option_and_then (machine_in s name)) (unit-piece s.board name x there)) is

pub unit-of : (s : Shared) (name : Name) (moved : Moved) → IsSome (unit_at s.board name) → IsOpenUnit s.board name → IfSome (kept_machine s name) (λ kept. IsMovedOn s.setup.program kept moved) → IsUnitOf s name moved.machine
unit-of s name moved some not_done is =
    let at = there-unit s name some in
    let on = moved-of s name moved at.x at.there is in record { unit = at.x; there = at.there; same = on.same; of = on.of; unfinished = not_done at.x at.there }

-- it halts where the meaning has it
pub halts-so : (s : Shared) (st : Stands s) (name : Name) (moved : Moved) (x : Unit) → unit_at s.board name ≡ Some x → IsMovedOn s.setup.program x.machine moved → moved.halt ≡ next_of s.setup (unit_state x)
halts-so s st name moved x there on = let is : IsMachine s.setup x.machine = st.machines name x there in on.halts_so ∙ so is
  where
    so : IsMachine s.setup x.machine → halt_of s.setup.program x.machine ≡ next_of s.setup (unit_state x)
    so is = let inside : x.machine.inside ≡ false = is.inside in let fuel : x.machine.fuel ≡ s.setup.limits.fuel = is.fuel in cc

-- a body that it asks for is in the table
pub body-there : (s : Shared) (st : Stands s) (name : Name) (moved : Moved) → IsSome (unit_at s.board name) → IfSome (kept_machine s name) (λ kept. IsMovedOn s.setup.program kept moved) → IsBodyThere s.setup.program moved.halt
body-there s st name moved some is = on moved.halt (halts-so s st name moved at.x at.there (moved-of s name moved at.x at.there is))
  where
    at : IsThereUnit s name
    at = there-unit s name some

    asked-there : (asked : Request) (spot : Spot) → halt.Ask asked spot ≡ next_of s.setup (unit_state at.x) → IsThere s.setup.program false asked
    asked-there asked spot e = ask-is-there s.setup.program st.formed at.x.machine.body at.x.machine.values false at.x.machine.answers s.setup.limits.fuel asked spot (sym e)

    on : (h : Halt) → h ≡ next_of s.setup (unit_state at.x) → IsBodyThere s.setup.program h
    on (halt.Ask (request.Fork body values) spot) e = asked-there (request.Fork body values) spot e
    on (halt.Ask (request.Dosync body values) spot) e = (asked-there (request.Dosync body values) spot e).0
    on (halt.Ask (request.Print text) spot) e = tt
    on (halt.Ask (request.NewRef v) spot) e = tt
    on (halt.Ask (request.Deref ref) spot) e = tt
    on (halt.Ask (request.RefSet ref v) spot) e = tt
    on (halt.Ask (request.Join f) spot) e = tt
    on (halt.Ask (request.Spawn n args) spot) e = tt
    on (halt.Ask (request.Send a args) spot) e = tt
    on (halt.Ask (request.Become n args) spot) e = tt
    on (halt.Ask request.SelfActor spot) e = tt
    on (halt.Value v) e = tt
    on (halt.Fault code spot) e = tt
    on halt.Spent e = tt

pub unit-gave-so : (old new : Shared) (st : Stands old) (name : Name) (moved : Moved) (result : Result Given AllocError) → named name old.aheads ≡ None → IsSome (unit_at old.board name) → IfSome (kept_machine old name) (λ kept. IsMovedOn old.setup.program kept moved)
    → Comes old name moved.halt new result → GivesTo old name new result
unit-gave-so old new st name moved (Err e) level some is r = same-wanting old new name st r
unit-gave-so old new st name moved (Ok found) level some is r = gives.unit (record {
  unit = at.x;
  there = at.there;
  level = level;
  gives = subst (λ h. UnitGives old name at.x h found new) (halts-so old st name moved at.x at.there (moved-of old name moved at.x at.there is)) (r.row at.x at.there);
  claims = r.claims;
})
  where
    at : IsThereUnit old name
    at = there-unit old name some

-- what an actor comes to
pub actor-gave-so : (old new : Shared) (st : Stands old) (name : Name) (result : Result Given AllocError) → TurnComes old name new result → GivesTo old name new result
actor-gave-so old new st name (Err e) r = same-wanting old new name st r
actor-gave-so old new st name (Ok found) r = gives.actor r

-- ---- a task
-- whose machine was moved
pub task-of : (s : Shared) (st : Stands s) → is_going s.end ≡ true → (name owner : Name) (moved : Moved) → IsOwned s name owner → IfSome (kept_machine s name) (λ kept. IsMovedOn s.setup.program kept moved) → IsSome (kept_machine s name)
    → IsTaskOf s owner name moved.machine moved.halt
task-of s st going name owner moved owned is some = on (machine_of tree name) refl (subst (λ (o : Option Evaluation). IfSome o (λ kept. IsMovedOn s.setup.program kept moved)) machine is) (subst IsSome machine some)
  where
    tree : Attempt
    tree = owned.has.tree

    machine : kept_machine s name ≡ machine_of tree name
    machine = ap (option_and_then (machine_in s name)) owned.at.there ∙ ap (option_and_then (λ (t : Attempt). machine_of t name)) (ap (option_and_then (λ u. named u s.attempts)) owned.of ∙ owned.has.attempt)

    on : (o : Option Evaluation) → machine_of tree name ≡ o → IfSome o (λ kept. IsMovedOn s.setup.program kept moved) → IsSome o → IsTaskOf s owner name moved.machine moved.halt
    on None e moved_so some_so = absurd (cc)
    on (Some m) e moved_so some_so = record {
      tree = tree;
      task_in = record {
        mark = owned.at.mark;
        there = owned.at.there;
        of = owned.of;
        unit = owned.has.unit;
        unit_there = owned.has.there;
        attempt = owned.has.attempt;
        among = let with = goes-with tree name m e in ap is_some with.there;
        rooted = rooted-of s st going owner tree owned.has.attempt;
      };
      machine = m;
      kept = e;
      same = moved_so.same;
      program = moved_so.of;
      halts_so = sym moved_so.halts_so;
      asking = moved_so.asks;
    }
