-- How the marks stay right.
use Rattle.std.proofs.Common.{◌≡◌, ◌∙◌, Bool, true, false, inl, inr, refl, sym, ap, ap₂, subst}
use Rattle.std.specs.Option.{option_and_then, option_map}
use Rattle.std.specs.Prelude.{List, [], ◌∷◌, Option, None, Some}
use Rattle.actor_mailbox.specs.declared.message.Message.{Message}
use Rattle.actor_mails.specs.Mails.{SameMail, mail_at}
use Rattle.serial_model.specs.declared.halt.Halt.TheVariants as halt
use Rattle.serial_model.specs.declared.request.Request.TheVariants as request
use Rattle.serial_model.specs.State.{Setup, UnitState}
use Rattle.serial_model.specs.Step.{next_of}
use Rattle.shared_world.proofs.Besides.{IsWas, WasTask, WasUnit, apart-of, was-actor, was-task, was-unit, task-beside}
use Rattle.shared_world.proofs.States.{beside-same}
use Rattle.shared_world.specs.Marks as marks
use Rattle.shared_world.specs.Marks.{AreMarked, HangsOn, HasMarks, HasPiece, IsRunningAhead, IsTaskPiece, IsToCome, RootSays, TaskSays, UnitSays, UnitWaits}
use Rattle.shared_world.specs.rows.Actors.{actor_mark, has_turn}
use Rattle.shared_world.specs.rows.Leading.{can_settle, settles_next}
use Rattle.shared_world.specs.rows.Pieces.{IsSet}
use Rattle.shared_world.specs.Shared.{Shared, finished_at, finished_by, is_going, unit_state}
use Rattle.task_fork_join.specs.Attempt.{Attempt, end_at}
use Rattle.task_fork_join.specs.declared.task.Task.{Task}
use Rattle.task_fork_join.specs.declared.task_end.TaskEnd.{TaskEnd}
use Rattle.task_fork_join.specs.Joining.{JoinsAt}
use Rattle.unit_table.specs.Board.{Board, SamePieces, piece_at, unit_at}
use Rattle.unit_table.specs.declared.mark.Mark.{Mark}
use Rattle.unit_table.specs.declared.mark.Mark.TheVariants as mark
use Rattle.unit_table.specs.declared.mark.WaitOn.TheVariants as wait
use Rattle.unit_table.specs.declared.mark.Work.TheVariants as work
use Rattle.unit_table.specs.declared.piece.Actor.{Actor}
use Rattle.unit_table.specs.declared.piece.Piece.{Piece}
use Rattle.unit_table.specs.declared.piece.Piece.TheVariants as piece
use Rattle.unit_table.specs.declared.unit.Unit.{Unit as Doing}
use Rattle.unit_table.specs.Piece.{awaited, is_for, says_finished, unit_in}
use Rattle.value_core.proofs.NamedLaws.{same_name-equal}
use Rattle.value_core.specs.Named.{Name, Named, named, same_name}

-- the attempts of a unit have the same root, or it has none
abbrev pub SameRoot : Option Attempt → Option Attempt → Type 0
SameRoot None None = Unit {0}
SameRoot (Some tree) (Some after) = after.root ≡ tree.root
SameRoot _ _ = ⊥

pub same-root : (o : Option Attempt) → SameRoot o o
same-root None = tt
same-root (Some tree) = refl

none-root : (o p : Option Attempt) → SameRoot o p → o ≡ None → p ≡ None
none-root o None is e = refl
none-root None (Some tree) is e = absurd is
none-root (Some tree) (Some after) is e = cc

-- What is kept of a unit beside its piece stays, but for what its attempt did: whether and how it runs ahead.
pub record IsStill (old new : Shared) (u : Name) : Type 0 where
  pub root : SameRoot (named u old.attempts) (named u new.attempts)
  pub ahead : named u new.aheads ≡ named u old.aheads
  pub settles : can_settle new u ≡ can_settle old u

-- so it is where the same message is taken of each actor, and the same runs ahead
pub same-settles : (old new : Shared) (u : Name) → named u new.aheads ≡ named u old.aheads → new.taken ≡ old.taken → can_settle new u ≡ can_settle old u
same-settles old new u ahead taken = ap₂ (λ messages h. settles_next messages h) taken ahead

-- what a unit waits for is still to come
pub unit-waits : (old new : Shared) (u : Name) (x : Doing) (f : Name) → new.setup ≡ old.setup → IsStill old new u → (finished_at old.board f ≡ None → finished_at new.board f ≡ None)
    → UnitWaits old u x f → UnitWaits new u x f
unit-waits old new u x f setup still over (marks.root not_yet tree there is) = on (named u new.attempts) refl (subst (λ o. SameRoot o (named u new.attempts)) there still.root)
  where
    on : (o : Option Attempt) → named u new.attempts ≡ o → SameRoot (Some tree) o → UnitWaits new u x f
    on None e s = absurd s
    on (Some after) e s = marks.root (still.settles ∙ not_yet) after e (s ∙ is)
unit-waits old new u x f setup still over (marks.join level none at asks unfinished) =
    marks.join (still.ahead ∙ level) (none-root (named u old.attempts) (named u new.attempts) still.root none) at (subst (λ (s : Setup). next_of s (unit_state x) ≡ halt.Ask (request.Join f) at) (sym setup) asks) (over unfinished)

-- what a mark says is not finished has no value
pub unfinished-mark : (m : Mark) → says_finished m ≡ false → finished_by m ≡ None
unfinished-mark (mark.Ready work) e = refl
unfinished-mark (mark.Waiting on) e = refl
unfinished-mark mark.Resting e = refl
unfinished-mark (mark.Finished v) e = cc
unfinished-mark mark.Dropped e = refl

-- the mark of a unit that stays says the same
pub unit-again : (old new : Shared) (u : Name) (x : Doing) (m : Mark) → new.setup ≡ old.setup → IsStill old new u
    → ((f : Name) → m ≡ mark.Waiting (wait.Finish f) → finished_at old.board f ≡ None → finished_at new.board f ≡ None) → UnitSays old u x m → UnitSays new u x m
unit-again old new u x (mark.Ready work.Eval) setup still over is = none-root (named u old.attempts) (named u new.attempts) still.root is
unit-again old new u x (mark.Ready work.Settle) setup still over (inl none) = inl (none-root (named u old.attempts) (named u new.attempts) still.root none)
unit-again old new u x (mark.Ready work.Settle) setup still over (inr settles) = inr (still.settles ∙ settles)
unit-again old new u x (mark.Ready work.Begin) setup still over is = absurd is
unit-again old new u x (mark.Waiting (wait.Finish f)) setup still over is = unit-waits old new u x f setup still (over f refl) is
unit-again old new u x (mark.Waiting (wait.Definite t)) setup still over is = (is.0, record { ahead = is.1.ahead; leads = still.ahead ∙ is.1.leads; not_yet = still.settles ∙ is.1.not_yet })
unit-again old new u x mark.Resting setup still over is = absurd is
unit-again old new u x (mark.Finished v) setup still over is = none-root (named u old.attempts) (named u new.attempts) still.root is
unit-again old new u x mark.Dropped setup still over is = absurd is

-- it says the same of a unit that stands where that one stands
pub unit-like : (s : Shared) (u : Name) (x y : Doing) (m : Mark) → unit_state y ≡ unit_state x → UnitSays s u x m → UnitSays s u y m
unit-like s u x y (mark.Ready work.Eval) same is = is
unit-like s u x y (mark.Ready work.Settle) same is = is
unit-like s u x y (mark.Ready work.Begin) same is = absurd is
unit-like s u x y (mark.Waiting (wait.Finish f)) same (marks.root not_yet tree there is) = marks.root not_yet tree there is
unit-like s u x y (mark.Waiting (wait.Finish f)) same (marks.join level none at asks unfinished) = marks.join level none at (ap (next_of s.setup) same ∙ asks) unfinished
unit-like s u x y (mark.Waiting (wait.Definite t)) same is = is
unit-like s u x y mark.Resting same is = absurd is
unit-like s u x y (mark.Finished v) same is = is
unit-like s u x y mark.Dropped same is = absurd is

-- a turn that ran ahead still does, where the same is said of it
pub still-ahead : (old new : Shared) (turn : Name) → named turn new.aheads ≡ named turn old.aheads → IsRunningAhead old turn → IsRunningAhead new turn
still-ahead old new turn same is = record { ahead = is.ahead; leads = same ∙ is.leads }

-- a task joins the same in the same program
pub joins-again : (old new : Shared) → new.setup ≡ old.setup → (t : Task) (f : Name) → JoinsAt old.setup.program t t.stage f → JoinsAt new.setup.program t t.stage f
joins-again old new setup t f is = subst (λ (s : Setup). JoinsAt s.program t t.stage f) (sym setup) is

-- the mark of a task that stays says the same
pub task-again : (old new : Shared) → new.setup ≡ old.setup → (owner : Name) (tasks after : Named Task) (t : Task) (m : Mark) → (m ≡ mark.Waiting (wait.Definite owner) → IsRunningAhead old owner → IsRunningAhead new owner)
    → ((f : Name) → m ≡ mark.Waiting (wait.Finish f) → IsToCome old.board tasks t f → IsToCome new.board after t f) → TaskSays old owner tasks t m → TaskSays new owner after t m
task-again old new setup owner tasks after t (mark.Ready work.Eval) leads still is = is
task-again old new setup owner tasks after t (mark.Ready work.Settle) leads still is = tt
task-again old new setup owner tasks after t (mark.Ready work.Begin) leads still is = absurd is
task-again old new setup owner tasks after t (mark.Waiting (wait.Finish f)) leads still is = record { going = is.going; joins = joins-again old new setup t f is.joins; to_come = still f refl is.to_come }
task-again old new setup owner tasks after t (mark.Waiting (wait.Definite turn)) leads still is = record { going = is.going; own = is.own; leads = leads (ap (λ q. mark.Waiting (wait.Definite q)) is.own) is.leads }
task-again old new setup owner tasks after t mark.Resting leads still is = absurd is
task-again old new setup owner tasks after t (mark.Finished v) leads still is = is
task-again old new setup owner tasks after t mark.Dropped leads still is = absurd is

-- and so does what it waits for, where the tasks of its attempt stay
pub come-again : (b c : Board) (tasks : Named Task) (t : Task) (f : Name) → (finished_at b f ≡ None → finished_at c f ≡ None) → IsToCome b tasks t f → IsToCome c tasks t f
come-again b c tasks t f over (marks.task known child there going) = marks.task known child there going
come-again b c tasks t f over (marks.unit unknown none) = marks.unit unknown (over none)

-- a root that is still to be decided on is so, where the unit that it waits for runs ahead still
pub root-again : (old new : Shared) (owner : Name) (m : Mark) → HangsOn owner m → (m ≡ mark.Waiting (wait.Definite owner) → IsRunningAhead old owner → IsRunningAhead new owner) → RootSays old owner m → RootSays new owner m
root-again old new owner (mark.Ready work) hangs leads is = tt
root-again old new owner (mark.Waiting (wait.Finish f)) hangs leads is = absurd is
root-again old new owner (mark.Waiting (wait.Definite turn)) hangs leads is = leads (ap (λ q. mark.Waiting (wait.Definite q)) (hangs turn refl)) is
root-again old new owner mark.Resting hangs leads is = absurd is
root-again old new owner (mark.Finished v) hangs leads is = absurd is
root-again old new owner mark.Dropped hangs leads is = absurd is

-- the piece of a task, of which the mark is right unless it waits for what ends
pub record IsTaskPieceBut (name : Name) (ends : Bool) (s : Shared) (n : Name) (m : Mark) : Type 0 where
  pub owner : Name
  pub of : named n s.owners ≡ Some owner
  pub tree : Attempt
  pub attempt : named owner s.attempts ≡ Some tree
  pub task : Task
  pub among : named n tree.tasks ≡ Some task
  pub hangs : HangsOn owner m
  pub says : end_at tree ≡ None → (ends ≡ true → m ≡ mark.Waiting (wait.Finish name) → ⊥) → TaskSays s owner tree.tasks task m
  pub decides : (ended : TaskEnd) → end_at tree ≡ Some ended → n ≡ tree.root → RootSays s owner m

-- the mark of each actor is right
abbrev pub ActorsAreMarked : Shared → Type 0
ActorsAreMarked s = (a : Name) (x : Actor) → piece_at s.board a ≡ Some (piece.Actor x) → x.mark ≡ actor_mark (has_turn s.taken a x.state) (mail_at s.mails a)

-- an actor whose mark is right waits for no finish
pub actor-awaits : (name : Name) (busy : Bool) (mail : List Message) → is_for name (awaited (actor_mark busy mail)) ≡ false
actor-awaits name true mail = refl
actor-awaits name false [] = refl
actor-awaits name false (m ∷ ms) = refl

-- All marks are right but that of what stands under the name and, where it ends, those of the tasks that wait for it; and each
-- task of an attempt is a piece.
pub record AreMarkedBut (name : Name) (ends : Bool) (s : Shared) : Type 0 where
  pub units : (u : Name) (x : Doing) → (u ≡ name → ⊥) → unit_at s.board u ≡ Some x → UnitSays s u x x.mark
  pub tasks : (n : Name) (m : Mark) → (n ≡ name → ⊥) → piece_at s.board n ≡ Some (piece.Task m) → IsTaskPieceBut name ends s n m
  pub actors : ActorsAreMarked s
  pub pieces : (u : Name) (tree : Attempt) → named u s.attempts ≡ Some tree → (n : Name) (t : Task) → named n tree.tasks ≡ Some t → HasPiece s u n

-- where the same attempts, pieces and mail are there
pub record IsSameMarked (old new : Shared) : Type 0 where
  pub setup : new.setup ≡ old.setup
  pub attempts : (v : Name) → named v new.attempts ≡ named v old.attempts
  pub owners : new.owners ≡ old.owners
  pub aheads : new.aheads ≡ old.aheads
  pub taken : new.taken ≡ old.taken
  pub pieces : SamePieces old.board new.board
  pub mails : SameMail old.mails new.mails

-- what stands there, where it is no actor
abbrev pub but_actor : Option Piece → Option Piece
but_actor (Some (piece.Actor a)) = None
but_actor found = found

-- where the same attempts, units and tasks are there, and the marks of the actors are right
pub record IsSameButActors (old new : Shared) : Type 0 where
  pub setup : new.setup ≡ old.setup
  pub attempts : (v : Name) → named v new.attempts ≡ named v old.attempts
  pub owners : new.owners ≡ old.owners
  pub aheads : new.aheads ≡ old.aheads
  pub settles : (v : Name) → can_settle new v ≡ can_settle old v
  pub pieces : (n : Name) → but_actor (piece_at new.board n) ≡ but_actor (piece_at old.board n)
  pub actors : ActorsAreMarked new

-- so the same units and tasks are there
unit-but : (found : Option Piece) → option_and_then unit_in (but_actor found) ≡ option_and_then unit_in found
unit-but None = refl
unit-but (Some (piece.Unit x)) = refl
unit-but (Some (piece.Task m)) = refl
unit-but (Some (piece.Actor a)) = refl

pub task-but : (found : Option Piece) (m : Mark) → but_actor found ≡ Some (piece.Task m) → found ≡ Some (piece.Task m)
task-but None m e = e
task-but (Some (piece.Unit x)) m e = e
task-but (Some (piece.Task k)) m e = e
task-but (Some (piece.Actor a)) m e = cc

pub same-unit : (old new : Shared) → IsSameButActors old new → (u : Name) → unit_at new.board u ≡ unit_at old.board u
same-unit old new same u = sym (unit-but (piece_at new.board u)) ∙ ap (option_and_then unit_in) (same.pieces u) ∙ unit-but (piece_at old.board u)

pub same-task : (old new : Shared) → IsSameButActors old new → (n : Name) (m : Mark) → piece_at new.board n ≡ Some (piece.Task m) → piece_at old.board n ≡ Some (piece.Task m)
same-task old new same n m there = task-but (piece_at old.board n) m (sym (same.pieces n) ∙ ap but_actor there)

task-still : (old new : Shared) → IsSameButActors old new → (n : Name) (m : Mark) → piece_at old.board n ≡ Some (piece.Task m) → piece_at new.board n ≡ Some (piece.Task m)
task-still old new same n m there = task-but (piece_at new.board n) m (same.pieces n ∙ ap but_actor there)

same-finished : (old new : Shared) → IsSameButActors old new → (f : Name) → finished_at new.board f ≡ finished_at old.board f
same-finished old new same f = ap (λ o. option_and_then (λ (k : UnitState). k.finished) (option_map unit_state o)) (same-unit old new same f)

task-piece-same : (old new : Shared) (n : Name) (m : Mark) → IsSameButActors old new → IsTaskPiece old n m → IsTaskPiece new n m
task-piece-same old new n m same is = let leads : IsRunningAhead old is.owner → IsRunningAhead new is.owner = still-ahead old new is.owner (ap (named is.owner) same.aheads) in record {
  owner = is.owner;
  of = ap (named n) same.owners ∙ is.of;
  tree = is.tree;
  attempt = same.attempts is.owner ∙ is.attempt;
  task = is.task;
  among = is.among;
  hangs = is.hangs;
  says = λ unended. task-again old new same.setup is.owner is.tree.tasks is.tree.tasks is.task m (λ e. leads) (λ f e. come-again old.board new.board is.tree.tasks is.task f (λ none. same-finished old new same f ∙ none)) (is.says unended);
  decides = λ ended e root. root-again old new is.owner m is.hangs (λ e. leads) (is.decides ended e root);
}

unit-same : (old new : Shared) (u : Name) (x : Doing) → IsSameButActors old new → UnitSays old u x x.mark → UnitSays new u x x.mark
unit-same old new u x same is = unit-again old new u x x.mark same.setup (record {
  root = subst (λ o. SameRoot (named u old.attempts) o) (sym (same.attempts u)) (same-root (named u old.attempts));
  ahead = ap (named u) same.aheads;
  settles = same.settles u;
}) (λ f e none. same-finished old new same f ∙ none) is

has-same : (old new : Shared) (u n : Name) → IsSameButActors old new → HasPiece old u n → HasPiece new u n
has-same old new u n same is = record { mark = is.mark; there = task-still old new same n is.mark is.there; of = ap (named n) same.owners ∙ is.of }

pub marked-actors : (old new : Shared) → IsSameButActors old new → AreMarked old → AreMarked new
marked-actors old new same all = record {
  units = λ u x there. unit-same old new u x same (all.units u x (sym (same-unit old new same u) ∙ there));
  tasks = λ n m there. task-piece-same old new n m same (all.tasks n m (same-task old new same n m there));
  actors = same.actors;
  pieces = λ u tree there n t among. has-same old new u n same (all.pieces u tree (sym (same.attempts u) ∙ there) n t among);
}

pub same-but : (old new : Shared) → IsSameMarked old new → AreMarked old → IsSameButActors old new
same-but old new same all = record {
  setup = same.setup;
  attempts = same.attempts;
  owners = same.owners;
  aheads = same.aheads;
  settles = λ v. same-settles old new v (ap (named v) same.aheads) same.taken;
  pieces = λ n. ap but_actor (same.pieces n);
  actors = λ a x there. all.actors a x (sym (same.pieces a) ∙ there) ∙ sym (ap₂ (λ taken mail. actor_mark (has_turn taken a x.state) mail) same.taken (same.mails a));
}

pub marked-same : (old new : Shared) → IsSameMarked old new → AreMarked old → AreMarked new
marked-same old new same all = marked-actors old new (same-but old new same all) all

pub but-one : (s : Shared) (name : Name) (ends : Bool) → AreMarked s → AreMarkedBut name ends s
but-one s name ends all = record {
  units = λ u x other there. all.units u x there;
  tasks = λ n m other there. let is = all.tasks n m there in record { owner = is.owner; of = is.of; tree = is.tree; attempt = is.attempt; task = is.task; among = is.among; hangs = is.hangs; says = λ unended why. is.says unended; decides = is.decides };
  actors = all.actors;
  pieces = all.pieces;
}

-- so they are where all else but claims and room stays
pub pieces-marks : (old new : Shared) → SamePieces old.board new.board → new ≡ record old { board = new.board } → HasMarks old → HasMarks new
pieces-marks old new same rest marks going = marked-same old new (record {
  setup = ap (λ (s : Shared). s.setup) rest;
  attempts = λ v. ap (λ (s : Shared). named v s.attempts) rest;
  owners = ap (λ (s : Shared). s.owners) rest;
  aheads = ap (λ (s : Shared). s.aheads) rest;
  taken = ap (λ (s : Shared). s.taken) rest;
  pieces = same;
  mails = λ a. ap (λ (s : Shared). mail_at s.mails a) rest;
}) (marks (sym (ap (λ (s : Shared). is_going s.end) rest) ∙ going))

-- What is set under a name: its mark is the one that is set, and is right; no unit is finished by another mark; where it is
-- finished it is the root of no attempt; a turn that ran ahead still does; and a task stays one.
pub record IsRightSet (s new : Shared) (name : Name) (p : Piece) (m : Mark) : Type 0 where
  pub set : IsSet name p m s.board new.board
  pub setup : new.setup ≡ s.setup
  pub attempts : new.attempts ≡ s.attempts
  pub owners : new.owners ≡ s.owners
  pub aheads : (v : Name) → (v ≡ name → ⊥) → named v new.aheads ≡ named v s.aheads
  pub leads : IsRunningAhead s name → IsRunningAhead new name
  pub taken : new.taken ≡ s.taken
  pub mails : SameMail s.mails new.mails
  pub unfinished : says_finished m ≡ false → finished_at new.board name ≡ None
  pub no_root : says_finished m ≡ true → (v : Name) (tree : Attempt) → named v s.attempts ≡ Some tree → tree.root ≡ name → ⊥
  pub stays : (k : Mark) → piece_at s.board name ≡ Some (piece.Task k) → p ≡ piece.Task m
  pub unit : (x : Doing) → p ≡ piece.Unit x → UnitSays new name x x.mark
  pub task : (k : Mark) → p ≡ piece.Task k → IsTaskPiece new name k
  pub actor : (x : Actor) → p ≡ piece.Actor x → x.mark ≡ actor_mark (has_turn new.taken name x.state) (mail_at new.mails name)

module _ (s new : Shared) (name : Name) (p : Piece) (m : Mark) (is : IsRightSet s new name p m) (all : AreMarkedBut name (says_finished m) s) where
  -- elsewhere the same is finished
  over : (f : Name) → (f ≡ name → says_finished m ≡ false) → finished_at s.board f ≡ None → finished_at new.board f ≡ None
  over f why none = on (same_name f name) refl
    where
      on : (c : Bool) → same_name f name ≡ c → finished_at new.board f ≡ None
      on true e = let same : f ≡ name = same_name-equal f name e in ap (finished_at new.board) same ∙ is.unfinished (why same)
      on false e = ap (option_and_then (λ (k : UnitState). k.finished)) (ap (λ q. option_map unit_state (option_and_then unit_in q)) (is.set.others f (apart-of f name e)) ∙ beside-same name m (piece_at s.board f)) ∙ none

  still : (u : Name) → (u ≡ name → ⊥) → IsStill s new u
  still u other = record {
    root = subst (λ o. SameRoot (named u s.attempts) o) (sym (ap (named u) is.attempts)) (same-root (named u s.attempts));
    ahead = is.aheads u other;
    settles = same-settles s new u (is.aheads u other) is.taken;
  }

  units : (u : Name) (z : Doing) (c : Bool) → same_name u name ≡ c → unit_at new.board u ≡ Some z → UnitSays new u z z.mark
  units u z true e there =
      let same : u ≡ name = same_name-equal u name e in
      subst (λ q. UnitSays new q z z.mark) (sym same) (by p refl (sym (ap (option_and_then unit_in) is.set.here) ∙ ap (unit_at new.board) (sym same) ∙ there))
    where
      by : (q : Piece) → p ≡ q → option_and_then unit_in (Some q) ≡ Some z → UnitSays new name z z.mark
      by (piece.Unit y) so e = let same : y ≡ z = cc in is.unit z (so ∙ ap (λ k. piece.Unit k) same)
      by (piece.Task k) so e = cc
      by (piece.Actor a) so e = cc
  units u z false e there = on was.was
    where
      other : u ≡ name → ⊥
      other = apart-of u name e

      was : WasUnit name m (piece_at s.board u) z
      was = was-unit name m (piece_at s.board u) z (sym (ap (option_and_then unit_in) (is.set.others u other)) ∙ there)

      before : UnitSays s u was.unit was.unit.mark
      before = all.units u was.unit other (ap (option_and_then unit_in) was.there)

      on : IsWas name m was.unit.mark z.mark → UnitSays new u z z.mark
      on (inl w) =
          let same : z ≡ was.unit = was.same ∙ ap (λ k. record was.unit { mark = k }) w.0 in
          subst (λ (k : Doing). UnitSays new u k k.mark) (sym same) (unit-again s new u was.unit was.unit.mark is.setup (still u other) (λ f e none. over f (λ here. w.1 (e ∙ ap (λ q. mark.Waiting (wait.Finish q)) here)) none) before)
      on (inr w) = subst (λ k. UnitSays new u z k) (sym w.1) (inl (ap (named u) is.attempts ∙ none (subst (λ k. UnitSays s u was.unit k) w.0 before)))
        where
          none : UnitWaits s u was.unit name → named u s.attempts ≡ None
          none (marks.root not_yet tree at root) = absurd (is.no_root w.2 u tree at root)
          none (marks.join level gone at asks unfinished) = gone

  owner-same : (n : Name) → named n new.owners ≡ named n s.owners
  owner-same n = ap (named n) is.owners

  tasks : (n : Name) (k : Mark) (c : Bool) → same_name n name ≡ c → piece_at new.board n ≡ Some (piece.Task k) → IsTaskPiece new n k
  tasks n k true e there = let same : n ≡ name = same_name-equal n name e in
      let both : Some p ≡ Some (piece.Task k) = sym is.set.here ∙ ap (piece_at new.board) (sym same) ∙ there in
      let so : p ≡ piece.Task k = cc in
      subst (λ q. IsTaskPiece new q k) (sym same) (is.task k so)
  tasks n k false e there = record {
    owner = before.owner;
    of = owner-same n ∙ before.of;
    tree = before.tree;
    attempt = ap (named before.owner) is.attempts ∙ before.attempt;
    task = before.task;
    among = before.among;
    hangs = hangs was.was;
    says = λ unended. on unended was.was;
    decides = λ ended e root. decides ended e root was.was;
  }
    where
      other : n ≡ name → ⊥
      other = apart-of n name e

      was : WasTask name m (piece_at s.board n) k
      was = was-task name m (piece_at s.board n) k (sym (is.set.others n other) ∙ there)

      before : IsTaskPieceBut name (says_finished m) s n was.mark
      before = all.tasks n was.mark other was.there

      leads : (d : Bool) → same_name before.owner name ≡ d → IsRunningAhead s before.owner → IsRunningAhead new before.owner
      leads true e ahead = subst (IsRunningAhead new) (sym (same_name-equal before.owner name e)) (is.leads (subst (IsRunningAhead s) (same_name-equal before.owner name e) ahead))
      leads false e ahead = still-ahead s new before.owner (is.aheads before.owner (apart-of before.owner name e)) ahead

      hangs : IsWas name m was.mark k → HangsOn before.owner k
      hangs (inl w) turn waits = before.hangs turn (sym w.0 ∙ waits)
      hangs (inr w) turn waits = let no : mark.Ready work.Settle ≡ mark.Waiting (wait.Definite turn) = sym w.1 ∙ waits in cc

      decides : (ended : TaskEnd) → end_at before.tree ≡ Some ended → n ≡ before.tree.root → IsWas name m was.mark k → RootSays new before.owner k
      decides ended e root (inl w) = subst (RootSays new before.owner) (sym w.0) (root-again s new before.owner was.mark before.hangs (λ e. leads (same_name before.owner name) refl) (before.decides ended e root))
      decides ended e root (inr w) = subst (RootSays new before.owner) (sym w.1) tt

      on : end_at before.tree ≡ None → IsWas name m was.mark k → TaskSays new before.owner before.tree.tasks before.task k
      on unended (inl w) = subst (λ j. TaskSays new before.owner before.tree.tasks before.task j) (sym w.0)
          (task-again s new is.setup before.owner before.tree.tasks before.tree.tasks before.task was.mark (λ e. leads (same_name before.owner name) refl) (λ f e. come-again s.board new.board before.tree.tasks before.task f (over f (λ here. w.1 (e ∙ ap (λ q. mark.Waiting (wait.Finish q)) here))))
          (before.says unended (λ ends waits. let no : true ≡ false = sym ends ∙ w.1 waits in cc)))
      on unended (inr w) = subst (λ j. TaskSays new before.owner before.tree.tasks before.task j) (sym w.1) tt

  actors : (a : Name) (x : Actor) (c : Bool) → same_name a name ≡ c → piece_at new.board a ≡ Some (piece.Actor x) → x.mark ≡ actor_mark (has_turn new.taken a x.state) (mail_at new.mails a)
  actors a x true e there =
      let same : a ≡ name = same_name-equal a name e in
      let both : Some p ≡ Some (piece.Actor x) = sym is.set.here ∙ ap (piece_at new.board) (sym same) ∙ there in
      let so : p ≡ piece.Actor x = cc in
      is.actor x so ∙ ap (λ q. actor_mark (has_turn new.taken q x.state) (mail_at new.mails q)) (sym same)
  actors a x false e there = all.actors a x (was-actor name m (piece_at s.board a) x plain (sym (is.set.others a (apart-of a name e)) ∙ there)) ∙ sym (ap₂ (λ taken mail. actor_mark (has_turn taken a x.state) mail) is.taken (is.mails a))
    where
      plain : (y : Actor) → piece_at s.board a ≡ Some (piece.Actor y) → is_for name (awaited y.mark) ≡ false
      plain y at = ap (λ k. is_for name (awaited k)) (all.actors a y at) ∙ actor-awaits name (has_turn s.taken a y.state) (mail_at s.mails a)

  pieces : (u n : Name) (c : Bool) → same_name n name ≡ c → HasPiece s u n → HasPiece new u n
  pieces u n true e has = let same : n ≡ name = same_name-equal n name e in record {
    mark = m;
    there = ap (piece_at new.board) same ∙ is.set.here ∙ ap (λ q. Some q) (is.stays has.mark (ap (piece_at s.board) (sym same) ∙ has.there));
    of = owner-same n ∙ has.of;
  }
  pieces u n false e has = let beside = task-beside name m (piece_at s.board n) has.mark has.there in record {
    mark = beside.0;
    there = is.set.others n (apart-of n name e) ∙ beside.1;
    of = owner-same n ∙ has.of;
  }

  pub marked-set : AreMarked new
  marked-set = record {
    units = λ u z there. units u z (same_name u name) refl there;
    tasks = λ n k there. tasks n k (same_name n name) refl there;
    actors = λ a x there. actors a x (same_name a name) refl there;
    pieces = λ u tree there n t among. pieces u n (same_name n name) refl (all.pieces u tree (sym (ap (named u) is.attempts) ∙ there) n t among);
  }
