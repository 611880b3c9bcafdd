-- What the root of an attempt sends is put at once or kept: what that leaves as it was.
use Rattle.std.proofs.Common.{◌≡◌, ◌∙◌, Bool, true, false, List, [], ◌∷◌, ◌++◌, append-nil, refl, sym, ap, ap₂, subst}
use Rattle.std.specs.Option.{option_and_then}
use Rattle.std.specs.Prelude.{Option, None, Some, is_some}
use Rattle.actor_mails.specs.Mails.{Mail, mail_at}
use Rattle.eval_step.specs.Evaluation.{Evaluation}
use Rattle.serial_model.specs.declared.effect.Effect.{Effect}
use Rattle.serial_model.specs.declared.effect.What.{What}
use Rattle.serial_model.specs.declared.effect.What.TheVariants as what
use Rattle.serial_model.specs.declared.halt.Halt.{Halt}
use Rattle.serial_model.specs.declared.halt.Halt.TheVariants as halt
use Rattle.serial_model.specs.declared.request.Request.TheVariants as request
use Rattle.serial_model.specs.State.{UnitState}
use Rattle.serial_model.specs.Sends.{effects_to, if_to, what_sends}
use Rattle.shared_world.proofs.ActorPieces.{SameActors, actors-put, roused-same}
use Rattle.shared_world.proofs.Besides.{apart-of}
use Rattle.shared_world.proofs.MarkedActors.{actor-sent, has-last, roused-but}
use Rattle.shared_world.proofs.Marks.{but_actor, marked-actors}
use Rattle.shared_world.proofs.States.{EachMachine, SameStates, machines-put, roused-is, roused-state, states-put}
use Rattle.shared_world.specs.Marks.{AreMarked}
use Rattle.shared_world.specs.Ahead.{Ahead}
use Rattle.shared_world.specs.Returned.{halt_of}
use Rattle.shared_world.specs.rows.Actors.{roused_unless}
use Rattle.shared_world.specs.rows.Sending as row
use Rattle.shared_world.specs.rows.Sending.{Posts, PutOrKept, Send, args_to, send_in, sends_in}
use Rattle.shared_world.specs.rows.Tasks.{StepPosts, outer_of}
use Rattle.shared_world.specs.Shared.{Shared}
use Rattle.shared_world.specs.Stands.{IsMachine}
use Rattle.task_fork_join.specs.Attempt.{Attempt}
use Rattle.task_fork_join.specs.declared.stepped.Stepped.{Stepped}
use Rattle.task_fork_join.specs.declared.task_end.TaskEnd.{TaskEnd}
use Rattle.task_fork_join.specs.Step.{IsStep}
use Rattle.txn_snapshot.specs.SnapshotAnswer.{snapshot_of}
use Rattle.unit_table.specs.Board.{Board, is_unfinished, piece_at, unit_at}
use Rattle.unit_table.specs.declared.mark.Mark.{Mark}
use Rattle.unit_table.specs.declared.piece.Piece.{Piece}
use Rattle.unit_table.specs.declared.piece.Piece.TheVariants as piece
use Rattle.unit_table.specs.Piece.{goes_on, unit_in}
use Rattle.value_core.proofs.NamedLaws.{same_name-equal}
use Rattle.value_core.specs.Named.{Name, named, same_name}
use Rattle.value_core.specs.NameSet.{holds_at}
use Rattle.world_model.proofs.lists.Lists.{flat_map-append}
use Rattle.world_model.specs.Message.{tentative}

-- ---- sends among effects
-- what effects send to an actor is what is sent to it among their sends
pub args-in : (a : Name) (es : List Effect) → args_to a (sends_in es) ≡ effects_to a es
args-in a [] = refl
args-in a (e ∷ es) = flat_map-append (λ (s : Send). if_to a s.0 s.1) (send_in e.what) (sends_in es) ∙ ap₂ (λ xs ys. xs ++ ys) (one e.what) (args-in a es)
  where
    one : (w : What) → args_to a (send_in w) ≡ what_sends a w
    one (what.Send to args) = append-nil (if_to a to args)
    one (what.Bytes text) = refl
    one (what.Spawn name behaviour state) = refl
    one (what.Become behaviour state) = refl

-- the sends of one list of effects and then of another
pub sends-append : (es more : List Effect) → sends_in (es ++ more) ≡ sends_in es ++ sends_in more
sends-append es more = flat_map-append (λ (e : Effect). send_in e.what) es more

-- ---- what stays
-- only the mail and the pieces change; these are the same to the meaning, and to the marks but for actors
pub record IsPosting (old new : Shared) : Type 0 where
  pub but : (mails : Mail) (board : Board) → record new { mails = mails; board = board } ≡ record old { mails = mails; board = board }
  pub states : SameStates old.board new.board
  pub actors : SameActors old.board new.board
  pub machines : EachMachine (IsMachine old.setup) old.board → EachMachine (IsMachine old.setup) new.board
  pub pieces : (n : Name) → but_actor (piece_at new.board n) ≡ but_actor (piece_at old.board n)
  pub marks : AreMarked old → AreMarked new

pub posting-rest : (old new : Shared) → IsPosting old new → new ≡ record old { mails = new.mails; board = new.board }
posting-rest old new is = is.but new.mails new.board

posting-none : (s : Shared) → IsPosting s s
posting-none s = record { but = λ mails board. refl; states = λ q. refl; actors = λ a. refl; machines = λ all. all; pieces = λ n. refl; marks = λ marked. marked }

posting-next : (old mid new : Shared) → IsPosting old mid → IsPosting mid new → IsPosting old new
posting-next old mid new first next = record {
  but = λ mails board. next.but mails board ∙ first.but mails board;
  states = λ q. next.states q ∙ first.states q;
  actors = λ a. next.actors a ∙ first.actors a;
  machines = λ all. subst (λ setup. EachMachine (IsMachine setup) new.board) setup (next.machines (subst (λ setup. EachMachine (IsMachine setup) mid.board) (sym setup) (first.machines all)));
  pieces = λ n. next.pieces n ∙ first.pieces n;
  marks = λ marked. next.marks (first.marks marked);
}
  where
    setup : mid.setup ≡ old.setup
    setup = ap (λ (s : Shared). s.setup) (first.but old.mails old.board)

-- a unit and a task stay, where all but actors does
but-unit : (found : Option Piece) → option_and_then unit_in (but_actor found) ≡ option_and_then unit_in found
but-unit None = refl
but-unit (Some (piece.Unit x)) = refl
but-unit (Some (piece.Task m)) = refl
but-unit (Some (piece.Actor a)) = refl

but-task : (m : Mark) (found : Option Piece) → but_actor found ≡ Some (piece.Task m) → found ≡ Some (piece.Task m)
but-task m None e = e
but-task m (Some (piece.Unit x)) e = e
but-task m (Some (piece.Task k)) e = e
but-task m (Some (piece.Actor a)) e = cc

pub posting-unit : (old new : Shared) → IsPosting old new → (u : Name) → unit_at new.board u ≡ unit_at old.board u
posting-unit old new is u = sym (but-unit (piece_at new.board u)) ∙ ap (option_and_then unit_in) (is.pieces u) ∙ but-unit (piece_at old.board u)

pub posting-task : (old new : Shared) → IsPosting old new → (n : Name) (m : Mark) → piece_at old.board n ≡ Some (piece.Task m) → piece_at new.board n ≡ Some (piece.Task m)
posting-task old new is n m there = but-task m (piece_at new.board n) (is.pieces n ∙ ap but_actor there)

but-open : (found : Option Piece) → holds_at goes_on (but_actor found) ≡ holds_at goes_on found
but-open None = refl
but-open (Some (piece.Unit x)) = refl
but-open (Some (piece.Task m)) = refl
but-open (Some (piece.Actor a)) = refl

-- no unit is finished by it
pub posting-unfinished : (old new : Shared) → IsPosting old new → (n : Name) → is_unfinished new.board n ≡ is_unfinished old.board n
posting-unfinished old new is n = sym (but-open (piece_at new.board n)) ∙ ap (holds_at goes_on) (is.pieces n) ∙ but-open (piece_at old.board n)

pub posting-outer : (old new : Shared) → IsPosting old new → (h : Halt) → outer_of new.board h ≡ outer_of old.board h
posting-outer old new is (halt.Ask (request.Join f) at) = ap (option_and_then (λ (unit : UnitState). unit.finished)) (is.states f)
posting-outer old new is (halt.Ask (request.Print text) at) = refl
posting-outer old new is (halt.Ask (request.NewRef v) at) = refl
posting-outer old new is (halt.Ask (request.Deref ref) at) = refl
posting-outer old new is (halt.Ask (request.RefSet ref v) at) = refl
posting-outer old new is (halt.Ask (request.Fork body values) at) = refl
posting-outer old new is (halt.Ask (request.Dosync body values) at) = refl
posting-outer old new is (halt.Ask (request.Spawn n args) at) = refl
posting-outer old new is (halt.Ask (request.Send a args) at) = refl
posting-outer old new is (halt.Ask (request.Become n args) at) = refl
posting-outer old new is (halt.Ask request.SelfActor at) = refl
posting-outer old new is (halt.Value v) = refl
posting-outer old new is (halt.Fault code at) = refl
posting-outer old new is halt.Spent = refl

-- the step is the same on what is there then
pub posting-step : (old new : Shared) → IsPosting old new → (task : Name) (tree : Attempt) (machine : Evaluation) (moved : Evaluation) (after : Attempt) (went : Stepped)
    → IsStep (snapshot_of old.versions tree.snapshot) task moved (outer_of old.board (halt_of old.setup.program machine)) (halt_of old.setup.program machine) tree after went
    → IsStep (snapshot_of new.versions tree.snapshot) task moved (outer_of new.board (halt_of new.setup.program machine)) (halt_of new.setup.program machine) tree after went
posting-step old new is task tree machine moved after went step =
    subst (λ (k : Shared). IsStep (snapshot_of k.versions tree.snapshot) task moved (outer_of new.board (halt_of k.setup.program machine)) (halt_of k.setup.program machine) tree after went) (sym (posting-rest old new is))
    (subst (λ outer. IsStep (snapshot_of old.versions tree.snapshot) task moved outer (halt_of old.setup.program machine) tree after went) (sym (posting-outer old new is (halt_of old.setup.program machine))) step)

module _ (old : Shared) (u root : Name) (sends : List Send) where
  posted : (to : Name) (args : _) (new : Shared) → row.IsPosted old u root sends to args new → IsPosting old new
  posted to args new p = subst (IsPosting old) (sym p.others) (record {
    but = λ mails board. refl;
    states = states-put to now old.board p.board (roused-state begun (piece_at old.board to)) p.rouses;
    actors = actors-put to now old.board p.board (roused-same begun (piece_at old.board to)) p.rouses;
    machines = λ all. machines-put (IsMachine old.setup) to now old.board p.board (λ z e. all to z (sym (roused-is begun (piece_at old.board to)) ∙ e)) p.rouses all;
    pieces = λ n. pieces n (same_name n to) refl;
    marks = λ marked. marked-actors old (record old { board = p.board; mails = p.mails })
        (actor-sent old marked to p.mails p.board (λ empty. has-last (mail_at old.mails to) (tentative u root args) [] (sym p.mailed.here ∙ empty)) p.mailed.others p.rouses) marked;
  })
    where
      begun : Bool
      begun = is_some (named to old.taken)

      now : Option Piece
      now = roused_unless begun (piece_at old.board to)

      pieces : (n : Name) (c : Bool) → same_name n to ≡ c → but_actor (piece_at p.board n) ≡ but_actor (piece_at old.board n)
      pieces n true e = ap (λ q. but_actor (piece_at p.board q)) (same_name-equal n to e) ∙ ap but_actor p.rouses.here ∙ roused-but begun (piece_at old.board to) ∙ ap (λ q. but_actor (piece_at old.board q)) (sym (same_name-equal n to e))
      pieces n false e = ap but_actor (p.rouses.others n (apart-of n to e))

  -- a send is put or kept
  pub posting-one : (to : Name) (args : _) (new : Shared) → PutOrKept old u root sends to args new → IsPosting old new
  posting-one to args new (row.put p) = posted to args new p
  posting-one to args new (row.keep why same) = subst (IsPosting old) (sym same) (posting-none old)

pub posting : (old : Shared) (u root : Name) (sends more : List Send) (new : Shared) → Posts old u root sends more new → IsPosting old new
posting old u root sends [] new is = subst (IsPosting old) (sym is) (posting-none old)
posting old u root sends (more ∷ rest) new is =
    posting-next old is.0 new (posting-one old u root sends more.0 more.1 is.0 is.1) (posting is.0 u root (sends ++ more ∷ []) rest new is.2)

-- by a step, whatever that ends
pub step-posting : (ended : Option TaskEnd) (ahead : Option Ahead) (old : Shared) (u root : Name) (sends more : List Send) (new : Shared) → StepPosts ended ahead old u root sends more new → IsPosting old new
step-posting None ahead old u root sends more new is = posting old u root sends more new is
step-posting (Some e) (Some h) old u root sends more new is = posting old u root sends more new is
step-posting (Some e) None old u root sends more new is = subst (IsPosting old) (sym is) (posting-none old)
