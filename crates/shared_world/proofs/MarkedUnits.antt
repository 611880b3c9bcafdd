-- How the marks stay right where a unit does something.
use Rattle.std.proofs.Common.{◌≡◌, ◌∙◌, ◌==◌, Bool, true, false, cond, List, [], ◌++◌, refl, suc, sym, ap, ap₂, subst}
use Rattle.std.specs.Option.{option_and_then, option_map}
use Rattle.std.specs.Prelude.{Option, None, Some, ℕ}
use Rattle.actor_mails.specs.Mails.{SameMail, mail_at}
use Rattle.core_syntax.specs.declared.node_id.NodeId.{NodeId}
use Rattle.serial_model.specs.declared.end.End.{End}
use Rattle.serial_model.specs.declared.entry.Entry.{Entry}
use Rattle.serial_model.specs.declared.halt.Halt.{Halt}
use Rattle.serial_model.specs.declared.halt.Halt.TheVariants as halt
use Rattle.serial_model.specs.declared.request.Request.TheVariants as request
use Rattle.serial_model.specs.State.{UnitState}
use Rattle.serial_model.specs.Step.{after_turn, idle, next_made, next_of}
use Rattle.shared_world.proofs.ActorPieces.{actor_of_piece}
use Rattle.shared_world.proofs.Besides.{apart-of}
use Rattle.shared_world.proofs.Live.{no-piece, unit-piece}
use Rattle.shared_world.proofs.MarkedActors.{actor-placed, actor-sent, has-last}
use Rattle.shared_world.proofs.Marks.{AreMarkedBut, IsSameButActors, SameRoot, but-one, but_actor, come-again, root-again, marked-actors, marked-set, same-but, same-root, same-settles, same-task, still-ahead, unfinished-mark, task-again, unit-again}
use Rattle.shared_world.proofs.Standing.{root-in}
use Rattle.shared_world.proofs.States.{unit-set}
use Rattle.shared_world.proofs.Takings.{none-taken, turn-free}
use Rattle.shared_world.proofs.Units.{IsHere, no-attempt}
use Rattle.shared_world.specs.declared.given.Given.{Given}
use Rattle.shared_world.specs.Marks as marks
use Rattle.shared_world.specs.Marks.{AreMarked, HasPiece, IsTaskPiece, UnitSays}
use Rattle.shared_world.specs.rows.Actors.{FinishesTurn, Sends, Spawns, actor_mark, has_turn}
use Rattle.shared_world.specs.rows.Attempts.{BeginsMarked}
use Rattle.shared_world.specs.rows.Leading.{can_settle, settles_next}
use Rattle.shared_world.specs.rows.Pieces.{EndsBy, Settles, mark_after}
use Rattle.shared_world.specs.rows.Units.{Becomes, Derefs, Finishes, Forks, ForksIfAllowed, Joins, Selves, Tries, UnitGives, Waits}
use Rattle.shared_world.specs.Shared.{Shared, actor_of, finished_at, finished_by, is_going, ref_now, state_at, unit_state}
use Rattle.shared_world.specs.Stands.{Stands}
use Rattle.task_fork_join.specs.Attempt.{Attempt}
use Rattle.task_fork_join.specs.declared.task.Task.{Task}
use Rattle.task_fork_join.specs.Joining.{IsGoing}
use Rattle.unit_table.specs.Board.{IsPutAt, piece_at, unit_at}
use Rattle.unit_table.specs.declared.mark.Mark.{Mark}
use Rattle.unit_table.specs.declared.mark.Mark.TheVariants as mark
use Rattle.unit_table.specs.declared.mark.WaitOn.TheVariants as wait
use Rattle.unit_table.specs.declared.mark.Work.TheVariants as work
use Rattle.unit_table.specs.declared.piece.Actor.{Actor}
use Rattle.unit_table.specs.declared.piece.Piece.{Piece}
use Rattle.unit_table.specs.declared.piece.Piece.TheVariants as piece
use Rattle.unit_table.specs.declared.unit.Unit.{Unit as Doing}
use Rattle.unit_table.specs.Piece.{says_finished, unit_in}
use Rattle.value_core.proofs.NamedLaws.{named-with_named, same_name-equal, same_name-itself}
use Rattle.value_core.specs.declared.value.Value.{Value}
use Rattle.value_core.specs.Named.{Name, named, same_name, with_named}
use Rattle.value_core.specs.Place.{Spot}
use Rattle.world_model.specs.Message.{settled as message_settled}

-- a unit asks for no transaction
abbrev AsksElse : Shared → Doing → Type 0
AsksElse old x = (body : NodeId) (values : List Value) (at : Spot) → next_of old.setup (unit_state x) ≡ halt.Ask (request.Dosync body values) at → ⊥

-- the root of an attempt is one of its tasks
pub root-there : (s : Shared) (st : Stands s) → is_going s.end ≡ true → (v : Name) (tree : Attempt) → named v s.attempts ≡ Some tree → (t : Task) × (named tree.root tree.tasks ≡ Some t)
root-there s st going v tree there = root-in s v tree (st.attempts going v tree there)

-- so what is the root of an attempt is a task's piece
pub root-piece : (s : Shared) (st : Stands s) → is_going s.end ≡ true → AreMarked s → (v : Name) (tree : Attempt) → named v s.attempts ≡ Some tree → HasPiece s v tree.root
root-piece s st going all v tree there = let root = root-there s st going v tree there in all.pieces v tree there tree.root root.0 root.1

-- a unit that stands nowhere has no attempt
pub no-attempt-of : (s : Shared) (st : Stands s) → is_going s.end ≡ true → (c : Name) → piece_at s.board c ≡ None → named c s.attempts ≡ None
no-attempt-of s st going c none = on (named c s.attempts) refl
  where
    on : (found : Option Attempt) → named c s.attempts ≡ found → named c s.attempts ≡ None
    on None is = is
    on (Some tree) is = let way = st.attempts going c tree is in let no : None ≡ Some way.unit = sym (no-piece s.board c none) ∙ way.there in cc

-- a unit that can go on is put where nothing stood
module _ (old new : Shared) (all : AreMarked old) (c : Name) (child : Doing) (setup : new.setup ≡ old.setup) (attempts : new.attempts ≡ old.attempts) (owners : new.owners ≡ old.owners)
    (aheads : (v : Name) → (v ≡ c → ⊥) → named v new.aheads ≡ named v old.aheads) (taken : new.taken ≡ old.taken) (mails : SameMail old.mails new.mails)
    (nothing : piece_at old.board c ≡ None) (none : named c old.attempts ≡ None) (ready : child.mark ≡ mark.Ready work.Eval) (put : IsPutAt c (Some (piece.Unit child)) old.board new.board) where
  elsewhere : (n : Name) (p : Piece) → piece_at old.board n ≡ Some p → n ≡ c → ⊥
  elsewhere n p at same = let no : None ≡ Some p = sym nothing ∙ ap (piece_at old.board) (sym same) ∙ at in cc

  over : (f : Name) → finished_at old.board f ≡ None → finished_at new.board f ≡ None
  over f is = on (same_name f c) refl
    where
      on : (b : Bool) → same_name f c ≡ b → finished_at new.board f ≡ None
      on true e = ap (finished_at new.board) (same_name-equal f c e) ∙ ap (λ p. option_and_then (λ (k : UnitState). k.finished) (option_map unit_state (option_and_then unit_in p))) put.here ∙ ap finished_by ready
      on false e = ap (λ p. option_and_then (λ (k : UnitState). k.finished) (option_map unit_state (option_and_then unit_in p))) (put.others f (apart-of f c e)) ∙ is

  attempt-same : (v : Name) → named v new.attempts ≡ named v old.attempts
  attempt-same v = ap (named v) attempts

  units : (v : Name) (x : Doing) (b : Bool) → same_name v c ≡ b → unit_at new.board v ≡ Some x → UnitSays new v x x.mark
  units v x true e at =
      let both : Some child ≡ Some x = sym (ap (unit_at new.board) (same_name-equal v c e) ∙ ap (option_and_then unit_in) put.here) ∙ at in
      let same : child ≡ x = cc in
      subst (λ m. UnitSays new v x m) (sym ready ∙ ap (λ (k : Doing). k.mark) same) (attempt-same v ∙ ap (λ n. named n old.attempts) (same_name-equal v c e) ∙ none)
  units v x false e at = unit-again old new v x x.mark setup (record {
    root = subst (λ o. SameRoot (named v old.attempts) o) (sym (attempt-same v)) (same-root (named v old.attempts));
    ahead = aheads v (apart-of v c e);
    settles = same-settles old new v (aheads v (apart-of v c e)) taken;
  }) (λ f waits. over f)
      (all.units v x (sym (ap (option_and_then unit_in) (put.others v (apart-of v c e))) ∙ at))

  -- an attempt is of another unit
  owns : (v : Name) (tree : Attempt) → named v old.attempts ≡ Some tree → v ≡ c → ⊥
  owns v tree at same = let no : None ≡ Some tree = sym none ∙ ap (λ n. named n old.attempts) (sym same) ∙ at in cc

  tasks : (n : Name) (m : Mark) (b : Bool) → same_name n c ≡ b → piece_at new.board n ≡ Some (piece.Task m) → IsTaskPiece new n m
  tasks n m true e at = let no : Some (piece.Unit child) ≡ Some (piece.Task m) = sym (ap (piece_at new.board) (same_name-equal n c e) ∙ put.here) ∙ at in cc
  tasks n m false e at = let is = all.tasks n m (sym (put.others n (apart-of n c e)) ∙ at) in record {
    owner = is.owner;
    of = ap (named n) owners ∙ is.of;
    tree = is.tree;
    attempt = attempt-same is.owner ∙ is.attempt;
    task = is.task;
    among = is.among;
    hangs = is.hangs;
    says = λ unended. task-again old new setup is.owner is.tree.tasks is.tree.tasks is.task m (λ w. still-ahead old new is.owner (aheads is.owner (owns is.owner is.tree is.attempt))) (λ f waits. come-again old.board new.board is.tree.tasks is.task f (over f)) (is.says unended);
    decides = λ ended e root. root-again old new is.owner m is.hangs (λ w. still-ahead old new is.owner (aheads is.owner (owns is.owner is.tree is.attempt))) (is.decides ended e root);
  }

  actors : (a : Name) (z : Actor) (b : Bool) → same_name a c ≡ b → piece_at new.board a ≡ Some (piece.Actor z) → z.mark ≡ actor_mark (has_turn new.taken a z.state) (mail_at new.mails a)
  actors a z true e at = let no : Some (piece.Unit child) ≡ Some (piece.Actor z) = sym (ap (piece_at new.board) (same_name-equal a c e) ∙ put.here) ∙ at in cc
  actors a z false e at = all.actors a z (sym (put.others a (apart-of a c e)) ∙ at) ∙ sym (ap₂ (λ t mail. actor_mark (has_turn t a z.state) mail) taken (mails a))

  pub marked-put : AreMarked new
  marked-put = record {
    units = λ v x at. units v x (same_name v c) refl at;
    tasks = λ n m at. tasks n m (same_name n c) refl at;
    actors = λ a z at. actors a z (same_name a c) refl at;
    pieces = λ v tree at n t among. let has = all.pieces v tree (sym (attempt-same v) ∙ at) n t among in record {
      mark = has.mark;
      there = put.others n (elsewhere n (piece.Task has.mark) has.there) ∙ has.there;
      of = ap (named n) owners ∙ has.of;
    };
  }

module _ (old : Shared) (st : Stands old) (all : AreMarked old) (u : Name) (x : Doing) (here : IsHere old u (unit_state x)) (at_u : unit_at old.board u ≡ Some x) where
  going : is_going old.end ≡ true
  going = ap is_going here.going

  -- it is no task
  no-task : (k : Mark) → piece_at old.board u ≡ Some (piece.Task k) → ⊥
  no-task k at = let no : Some (piece.Unit x) ≡ Some (piece.Task k) = sym (unit-piece old.board u x at_u) ∙ at in cc

  no-root : (v : Name) (tree : Attempt) → named v old.attempts ≡ Some tree → tree.root ≡ u → ⊥
  no-root v tree there root = let has = root-piece old st going all v tree there in no-task has.mark (ap (piece_at old.board) (sym root) ∙ has.there)

  -- the unit goes on, or is finished
  settled : (base : Shared) (after : UnitState) (found : Given) (new : Shared) → base.setup ≡ old.setup → ((v : Name) → named v base.attempts ≡ named v old.attempts) → AreMarked base → ((k : Mark) → piece_at base.board u ≡ Some (piece.Task k) → ⊥) → named u old.attempts ≡ None
      → Settles base u x after found new → AreMarked new
  settled base after found new setup attempts marked apart none r = marked-set base new u (piece.Unit r.unit) (mark_after after.finished) (record {
    set = r.set;
    setup = ap (λ (s : Shared). s.setup) r.others;
    attempts = ap (λ (s : Shared). s.attempts) r.others;
    owners = ap (λ (s : Shared). s.owners) r.others;
    aheads = λ v other. ap (λ (s : Shared). named v s.aheads) r.others;
    leads = still-ahead base new u (ap (λ (s : Shared). named u s.aheads) r.others);
    taken = ap (λ (s : Shared). s.taken) r.others;
    mails = λ a. ap (λ (s : Shared). mail_at s.mails a) r.others;
    unfinished = λ e. ap (λ p. option_and_then (λ (k : UnitState). k.finished) (option_map unit_state (option_and_then unit_in p))) r.set.here ∙ ap finished_by r.stands.mark ∙ unended after.finished e;
    no_root = λ e v tree there. no-root v tree (sym (attempts v) ∙ there);
    stays = λ k is. absurd (apart k is);
    unit = λ y e. let same : r.unit ≡ y = cc in subst (λ m. UnitSays new u y m) (sym (ap (λ (k : Doing). k.mark) (sym same) ∙ r.stands.mark)) (says y after.finished);
    task = λ k e. cc;
    actor = λ a e. cc;
  }) (but-one base u (says_finished (mark_after after.finished)) marked)
    where
      unended : (o : Option Value) → says_finished (mark_after o) ≡ false → finished_by (mark_after o) ≡ None
      unended None e = refl
      unended (Some v) e = cc

      gone : named u new.attempts ≡ None
      gone = ap (λ (s : Shared). named u s.attempts) r.others ∙ attempts u ∙ none

      says : (y : Doing) (o : Option Value) → UnitSays new u y (mark_after o)
      says y None = gone
      says y (Some v) = gone

  -- what else is kept is the same to the marks, but for actors
  module _ (other : AsksElse old x) where
    none : named u old.attempts ≡ None
    none = on (named u old.attempts) refl
      where
        on : (found : Option Attempt) → named u old.attempts ≡ found → named u old.attempts ≡ None
        on None is = is
        on (Some tree) is = absurd (no-attempt old st u x here other tree is)

    pub goes-on : (base : Shared) (after : UnitState) (found : Given) (new : Shared) → IsSameButActors old base → Settles base u x after found new → AreMarked new
    goes-on base after found new same r = settled base after found new same.setup same.attempts (marked-actors old base same all) (λ k at. no-task k (same-task old base same u k at)) none r

    pub waits : (f : Name) (at : Spot) (found : Given) (new : Shared) → next_of old.setup (unit_state x) ≡ halt.Ask (request.Join f) at → finished_at old.board f ≡ None → Waits old u x f found new → AreMarked new
    waits f at found new asks unfinished r = marked-set old new u (piece.Unit r.marked.unit) (mark.Waiting (wait.Finish f)) (record {
      set = r.marked.set;
      setup = ap (λ (s : Shared). s.setup) r.others;
      attempts = ap (λ (s : Shared). s.attempts) r.others;
      owners = ap (λ (s : Shared). s.owners) r.others;
      aheads = λ v other. ap (λ (s : Shared). named v s.aheads) r.others;
      leads = still-ahead old new u (ap (λ (s : Shared). named u s.aheads) r.others);
      taken = ap (λ (s : Shared). s.taken) r.others;
      mails = λ a. ap (λ (s : Shared). mail_at s.mails a) r.others;
      unfinished = λ e. over u (ap (λ o. option_and_then (λ (k : UnitState). k.finished) o) here.there ∙ here.unfinished);
      no_root = λ e. cc;
      stays = λ k is. absurd (no-task k is);
      unit = λ y e. let same : r.marked.unit ≡ y = cc in subst (λ m. UnitSays new u y m) (sym (ap (λ (k : Doing). k.mark) (sym same) ∙ r.marked.stands.mark))
          (marks.join (ap (λ (s : Shared). named u s.aheads) r.others ∙ here.level) (ap (λ (s : Shared). named u s.attempts) r.others ∙ none) at (ap (λ (s : Shared). next_of s.setup (unit_state y)) r.others ∙ ap (next_of old.setup) (ap unit_state (sym same) ∙ r.marked.stands.state) ∙ asks) (over f unfinished));
      task = λ k e. cc;
      actor = λ a e. cc;
    }) (but-one old u false all)
      where
        over : (q : Name) → finished_at old.board q ≡ None → finished_at new.board q ≡ None
        over q is = ap (λ o. option_and_then (λ (k : UnitState). k.finished) o) (unit-set u r.marked.unit (mark.Waiting (wait.Finish f)) old.board new.board r.marked.set q) ∙ on (same_name q u)
          where
            on : (c : Bool) → option_and_then (λ (k : UnitState). k.finished) (cond c (Some (unit_state r.marked.unit)) (state_at old.board q)) ≡ None
            on true = ap finished_by r.marked.stands.mark
            on false = is

    pub forks : (body : NodeId) (values : List Value) (found : Given) (new : Shared) → Forks old u x body values found new → AreMarked new
    forks body values found new r = settled base _ found new refl (λ v. refl)
        (marked-put old base all (next_made u (unit_state x)) r.child refl refl refl (λ v other. refl) refl (λ a. refl) r.none (no-attempt-of old st going (next_made u (unit_state x)) r.none) r.begins.mark r.put)
        (λ k at. no-task k (sym (r.put.others u (λ same. let no : None ≡ Some (piece.Unit x) = sym r.none ∙ ap (piece_at old.board) (sym same) ∙ unit-piece old.board u x at_u in cc)) ∙ at)) none r.settles
      where
        base : Shared
        base = record old { made = suc old.made; board = r.board }

    pub sends : (to : Name) (args : List Value) (found : Given) (new : Shared) → Sends old u x to args found new → AreMarked new
    sends to args found new r = goes-on (record old { board = r.board; mails = r.mails }) _ found new (actor-sent old all to r.mails r.board (λ empty. has-last (mail_at old.mails to) (message_settled u args) [] (sym r.mailed.here ∙ empty)) r.mailed.others r.rouses) r.settles

    pub spawns : (behaviour : ℕ) (state : List Value) (found : Given) (new : Shared) → Spawns old u x behaviour state found new → AreMarked new
    spawns behaviour state found new r = goes-on (record old { board = r.board }) _ found new (actor-placed old all (next_made u (unit_state x)) (idle behaviour state) r.board (ap but_actor r.none) (none-taken old st (next_made u (unit_state x)) (ap actor_of_piece r.none)) r.put) r.settles

    pub finishes-turn : (a : Name) (v : Value) → (unit_state x).actor ≡ Some a → (found : Given) (new : Shared) → FinishesTurn old u x a v found new → AreMarked new
    finishes-turn a v of found new r = goes-on (record old { board = r.board }) _ found new
        (actor-placed old all a (after_turn (unit_state x).becomes r.actor.state) r.board (ap but_actor r.there) (turn-free old st u a (unit_state x) here.level here.there of here.unfinished) r.freed) r.settles

-- an attempt of a unit begins
module _ (old : Shared) (all : AreMarked old) (u : Name) (x : Doing) (at_u : unit_at old.board u ≡ Some x) (m : Mark) (body : NodeId) (values : List Value) (at : Spot) (none : named u old.attempts ≡ None) (found : Given) (new : Shared)
    (r : BeginsMarked old u x m body values at found new) where
  abbrev root : Name
  root = next_made u (unit_state x)

  abbrev s : Shared
  s = record old { attempts = with_named old.attempts u r.tree; owners = with_named old.owners root u; board = r.board }

  attempt-of : (v : Name) → named v s.attempts ≡ cond (same_name v u) (Some r.tree) (named v old.attempts)
  attempt-of v = named-with_named v u r.tree old.attempts

  owner-of : (n : Name) → named n s.owners ≡ cond (same_name n root) (Some u) (named n old.owners)
  owner-of n = named-with_named n root u old.owners

  begun : (q : Name) → finished_at old.board q ≡ None → finished_at r.board q ≡ None
  begun q is = on (same_name q root) refl
    where
      on : (c : Bool) → same_name q root ≡ c → finished_at r.board q ≡ None
      on true e = ap (finished_at r.board) (same_name-equal q root e) ∙ ap (λ p. option_and_then (λ (k : UnitState). k.finished) (option_map unit_state (option_and_then unit_in p))) r.root.here
      on false e = ap (λ p. option_and_then (λ (k : UnitState). k.finished) (option_map unit_state (option_and_then unit_in p))) (r.root.others q (apart-of q root e)) ∙ is

  begun-units : (v : Name) (z : Doing) (c : Bool) → same_name v root ≡ c → (v ≡ u → ⊥) → unit_at r.board v ≡ Some z → UnitSays s v z z.mark
  begun-units v z true e other is = let no : None ≡ Some z = sym (ap (unit_at r.board) (same_name-equal v root e) ∙ ap (option_and_then unit_in) r.root.here) ∙ is in cc
  begun-units v z false e other is = unit-again old s v z z.mark refl (record {
    root = subst (λ o. SameRoot (named v old.attempts) o) (sym (attempt-of v ∙ apart (same_name v u) refl)) (same-root (named v old.attempts));
    ahead = refl;
    settles = refl;
  }) (λ f waits. begun f)
      (all.units v z (sym (ap (option_and_then unit_in) (r.root.others v (apart-of v root e))) ∙ is))
    where
      apart : (c : Bool) → same_name v u ≡ c → cond c (Some r.tree) (named v old.attempts) ≡ named v old.attempts
      apart true e = absurd (other (same_name-equal v u e))
      apart false e = refl

  abbrev task : Task
  task = r.fresh.new.alone.task

  task-is : (n : Name) → named n r.tree.tasks ≡ cond (same_name n root) (Some task) None
  task-is n = ap (named n) r.fresh.new.alone.tasks_are

  begun-tasks : (n : Name) (m : Mark) (c : Bool) → same_name n root ≡ c → piece_at r.board n ≡ Some (piece.Task m) → IsTaskPiece s n m
  begun-tasks n m true e is = let both : Some (piece.Task (mark.Ready work.Eval)) ≡ Some (piece.Task m) = sym (ap (piece_at r.board) (same_name-equal n root e) ∙ r.root.here) ∙ is in
      let so : mark.Ready work.Eval ≡ m = cc in record {
        owner = u;
        of = owner-of n ∙ ap (λ c. cond c (Some u) (named n old.owners)) e;
        tree = r.tree;
        attempt = attempt-of u ∙ ap (λ c. cond c (Some r.tree) (named u old.attempts)) (same_name-itself u);
        task = task;
        among = task-is n ∙ ap (λ c. cond c (Some task) None) e;
        hangs = λ turn waits. let no : mark.Ready work.Eval ≡ mark.Waiting (wait.Definite turn) = so ∙ waits in cc;
        says = λ unended. subst (λ k. marks.TaskSays s u r.tree.tasks task k) so (subst (λ g. IsGoing g) (sym r.fresh.new.alone.goes) tt);
        decides = λ ended e at_root. subst (marks.RootSays s u) so tt;
      }
  begun-tasks n m false e is = on (same_name before.owner u) refl
    where
      before : IsTaskPiece old n m
      before = all.tasks n m (sym (r.root.others n (apart-of n root e)) ∙ is)

      on : (c : Bool) → same_name before.owner u ≡ c → IsTaskPiece s n m
      on true o = let no : None ≡ Some before.tree = sym none ∙ ap (λ q. named q old.attempts) (sym (same_name-equal before.owner u o)) ∙ before.attempt in cc
      on false o = record {
        owner = before.owner;
        of = owner-of n ∙ ap (λ c. cond c (Some u) (named n old.owners)) e ∙ before.of;
        tree = before.tree;
        attempt = attempt-of before.owner ∙ ap (λ c. cond c (Some r.tree) (named before.owner old.attempts)) o ∙ before.attempt;
        task = before.task;
        among = before.among;
        hangs = before.hangs;
        says = λ unended. task-again old s refl before.owner before.tree.tasks before.tree.tasks before.task m (λ w. still-ahead old s before.owner refl) (λ f waits. come-again old.board r.board before.tree.tasks before.task f (begun f)) (before.says unended);
        decides = λ ended e root. root-again old s before.owner m before.hangs (λ w. still-ahead old s before.owner refl) (before.decides ended e root);
      }

  begun-actors : (a : Name) (z : Actor) (c : Bool) → same_name a root ≡ c → piece_at r.board a ≡ Some (piece.Actor z) → z.mark ≡ actor_mark (has_turn old.taken a z.state) (mail_at old.mails a)
  begun-actors a z true e is = let no : Some (piece.Task (mark.Ready work.Eval)) ≡ Some (piece.Actor z) = sym (ap (piece_at r.board) (same_name-equal a root e) ∙ r.root.here) ∙ is in cc
  begun-actors a z false e is = all.actors a z (sym (r.root.others a (apart-of a root e)) ∙ is)

  begun-pieces : (v : Name) (tree : Attempt) (c : Bool) → same_name v u ≡ c → named v s.attempts ≡ Some tree → (n : Name) (t : Task) → named n tree.tasks ≡ Some t → HasPiece s v n
  begun-pieces v tree true e is n t among = on (same_name n root) refl
    where
      same : r.tree ≡ tree
      same = let both : Some r.tree ≡ Some tree = sym (attempt-of v ∙ ap (λ c. cond c (Some r.tree) (named v old.attempts)) e) ∙ is in cc

      on : (c : Bool) → same_name n root ≡ c → HasPiece s v n
      on true f = record {
        mark = mark.Ready work.Eval;
        there = ap (piece_at r.board) (same_name-equal n root f) ∙ r.root.here;
        of = owner-of n ∙ ap (λ c. cond c (Some u) (named n old.owners)) f ∙ ap (λ q. Some q) (sym (same_name-equal v u e));
      }
      on false f = let no : None ≡ Some t = sym (task-is n ∙ ap (λ c. cond c (Some task) None) f) ∙ ap (λ (a : Attempt). named n a.tasks) same ∙ among in cc
  begun-pieces v tree false e is n t among = record {
    mark = has.mark;
    there = r.root.others n other ∙ has.there;
    of = owner-of n ∙ ap (λ c. cond c (Some u) (named n old.owners)) (differs (same_name n root) refl) ∙ has.of;
  }
    where
      has : HasPiece old v n
      has = all.pieces v tree (sym (attempt-of v ∙ ap (λ c. cond c (Some r.tree) (named v old.attempts)) e) ∙ is) n t among

      other : n ≡ root → ⊥
      other same = let no : None ≡ Some (piece.Task has.mark) = sym r.none ∙ ap (piece_at old.board) (sym same) ∙ has.there in cc

      differs : (c : Bool) → same_name n root ≡ c → same_name n root ≡ false
      differs true f = absurd (other (same_name-equal n root f))
      differs false f = f

  begun-but : AreMarkedBut u false s
  begun-but = record {
    units = λ v z other is. begun-units v z (same_name v root) refl other is;
    tasks = λ n m other is. let so = begun-tasks n m (same_name n root) refl is in record { owner = so.owner; of = so.of; tree = so.tree; attempt = so.attempt; task = so.task; among = so.among; hangs = so.hangs; says = λ unended why. so.says unended; decides = so.decides };
    actors = λ a z is. begun-actors a z (same_name a root) refl is;
    pieces = λ v tree is n t among. begun-pieces v tree (same_name v u) refl is n t among;
  }

  apart-root : u ≡ root → ⊥
  apart-root same = let no : None ≡ Some (piece.Unit x) = sym r.none ∙ ap (piece_at old.board) (sym same) ∙ unit-piece old.board u x at_u in cc

  -- no task stood under its name
  no-task-then : (k : Mark) → piece_at old.board u ≡ Some (piece.Task k) → ⊥
  no-task-then k is = let no : Some (piece.Unit x) ≡ Some (piece.Task k) = sym (unit-piece old.board u x at_u) ∙ is in cc

  -- the unit has the attempt, and its mark is right then
  pub begun-marked : says_finished m ≡ false → (named u new.attempts ≡ Some r.tree → (y : Doing) → UnitSays new u y m) → AreMarked new
  begun-marked unended says = marked-set s new u (piece.Unit r.waits.unit) m (record {
    set = r.waits.set;
    setup = ap (λ (k : Shared). k.setup) r.others;
    attempts = r.attempts;
    owners = r.owners;
    aheads = λ v other. ap (λ (k : Shared). named v k.aheads) r.others;
    leads = still-ahead s new u (ap (λ (k : Shared). named u k.aheads) r.others);
    taken = ap (λ (k : Shared). k.taken) r.others;
    mails = λ a. ap (λ (k : Shared). mail_at k.mails a) r.others;
    unfinished = λ e. ap (λ p. option_and_then (λ (k : UnitState). k.finished) (option_map unit_state (option_and_then unit_in p))) r.waits.set.here ∙ ap finished_by r.waits.stands.mark ∙ unfinished-mark m unended;
    no_root = λ e. let no : true ≡ false = sym e ∙ unended in cc;
    stays = λ k is. absurd (no-task-then k (sym (r.root.others u apart-root) ∙ is));
    unit = λ y e. let same : r.waits.unit ≡ y = cc in subst (λ k. UnitSays new u y k) (sym (ap (λ (k : Doing). k.mark) (sym same) ∙ r.waits.stands.mark)) (says has y);
    task = λ k e. cc;
    actor = λ a e. cc;
  }) (subst (λ c. AreMarkedBut u c s) (sym unended) begun-but)
    where
      has : named u new.attempts ≡ Some r.tree
      has = ap (named u) r.attempts ∙ attempt-of u ∙ ap (λ c. cond c (Some r.tree) (named u old.attempts)) (same_name-itself u)

-- the end of a run says nothing of marks
pub ends-going : (old : Shared) (entry : Entry) (e : End) (found : Given) (new : Shared) → EndsBy old entry e found new → is_going new.end ≡ true → ⊥
ends-going old entry e found new r on_going = let no : false ≡ true = sym (ap (λ (s : Shared). is_going s.end) r.others) ∙ on_going in cc

-- what a unit comes to
module _ (old : Shared) (st : Stands old) (all : AreMarked old) (u : Name) (x : Doing) (here : IsHere old u (unit_state x)) (at_u : unit_at old.board u ≡ Some x) (found : Given) (new : Shared) (on_going : is_going new.end ≡ true) where
  same : IsSameButActors old old
  same = same-but old old (record { setup = refl; attempts = λ v. refl; owners = refl; aheads = refl; taken = refl; pieces = λ n. refl; mails = λ a. refl }) all

  marked-derefs : (v : Option Value) → AsksElse old x → Derefs old u x v found new → AreMarked new
  marked-derefs None other r = absurd r
  marked-derefs (Some v) other r = goes-on old st all u x here at_u other old _ found new same r

  marked-joins : (f : Name) (at : Spot) (v : Option Value) → next_of old.setup (unit_state x) ≡ halt.Ask (request.Join f) at → finished_at old.board f ≡ v → Joins old u x f v found new → AreMarked new
  marked-joins f at None asks is r = waits old st all u x here at_u (λ body values spot e. let no = sym asks ∙ e in cc) f at found new asks is r
  marked-joins f at (Some v) asks is r = goes-on old st all u x here at_u (λ body values spot e. let no = sym asks ∙ e in cc) old _ found new same r

  marked-forks : (body : NodeId) (values : List Value) (at : Spot) (c : Bool) → next_of old.setup (unit_state x) ≡ halt.Ask (request.Fork body values) at → ForksIfAllowed old u x body values c found new → AreMarked new
  marked-forks body values at true asks r = absurd (ends-going old _ _ found new r on_going)
  marked-forks body values at false asks r = forks old st all u x here at_u (λ b vs spot e. let no = sym asks ∙ e in cc) body values found new r

  marked-tries : (body : NodeId) (values : List Value) (at : Spot) (o : Option Attempt) → named u old.attempts ≡ o → Tries old u x body values at o found new → AreMarked new
  marked-tries body values at None is r = begun-marked old all u x at_u (mark.Waiting (wait.Finish (next_made u (unit_state x)))) body values at is found new r refl
      (λ has y. marks.root (ap (λ (s : Shared). can_settle s u) r.others ∙ ap (settles_next old.taken) here.level) r.tree has r.fresh.new.root_is)
  marked-tries body values at (Some tree) is r = absurd r

  marked-becomes : (behaviour : ℕ) (state : List Value) (at : Spot) (o : Option Name) → AsksElse old x → Becomes old u x behaviour state at o found new → AreMarked new
  marked-becomes behaviour state at None other r = absurd (ends-going old _ _ found new r on_going)
  marked-becomes behaviour state at (Some actor) other r = goes-on old st all u x here at_u other old _ found new same r

  marked-selves : (at : Spot) (o : Option Name) → AsksElse old x → Selves old u x at o found new → AreMarked new
  marked-selves at None other r = absurd (ends-going old _ _ found new r on_going)
  marked-selves at (Some actor) other r = goes-on old st all u x here at_u other old _ found new same r

  marked-finishes : (v : Value) (o : Option Name) → actor_of x.kind ≡ o → AsksElse old x → Finishes old u x v o found new → AreMarked new
  marked-finishes v None of other r = goes-on old st all u x here at_u other old _ found new same r
  marked-finishes v (Some actor) of other r = finishes-turn old st all u x here at_u other actor v of found new r

  pub marked-unit : (h : Halt) → next_of old.setup (unit_state x) ≡ h → UnitGives old u x h found new → AreMarked new
  marked-unit (halt.Ask (request.Print text) at) asks r = goes-on old st all u x here at_u (λ b vs spot e. let no = sym asks ∙ e in cc) (record old { bytes = old.bytes ++ text }) _ found new (same-but old _ (record { setup = refl; attempts = λ v. refl; owners = refl; aheads = refl; taken = refl; pieces = λ n. refl; mails = λ a. refl }) all) r
  marked-unit (halt.Ask (request.NewRef v) at) asks r = goes-on old st all u x here at_u (λ b vs spot e. let no = sym asks ∙ e in cc) _ _ found new (same-but old _ (record { setup = refl; attempts = λ v. refl; owners = refl; aheads = refl; taken = refl; pieces = λ n. refl; mails = λ a. refl }) all) r.settles
  marked-unit (halt.Ask (request.Deref ref) at) asks r = marked-derefs (ref_now old.versions ref) (λ b vs spot e. let no = sym asks ∙ e in cc) r
  marked-unit (halt.Ask (request.RefSet ref v) at) asks r = absurd (ends-going old _ _ found new r on_going)
  marked-unit (halt.Ask (request.Fork body values) at) asks r = marked-forks body values at (old.made == old.setup.limits.units) asks r
  marked-unit (halt.Ask (request.Join f) at) asks r = marked-joins f at (finished_at old.board f) asks refl r
  marked-unit (halt.Ask (request.Dosync body values) at) asks r = marked-tries body values at (named u old.attempts) refl r
  marked-unit (halt.Ask (request.Spawn behaviour state) at) asks r = spawns old st all u x here at_u (λ b vs spot e. let no = sym asks ∙ e in cc) behaviour state found new r
  marked-unit (halt.Ask (request.Send to args) at) asks r = sends old st all u x here at_u (λ b vs spot e. let no = sym asks ∙ e in cc) to args found new r
  marked-unit (halt.Ask (request.Become behaviour state) at) asks r = marked-becomes behaviour state at (actor_of x.kind) (λ b vs spot e. let no = sym asks ∙ e in cc) r
  marked-unit (halt.Ask request.SelfActor at) asks r = marked-selves at (actor_of x.kind) (λ b vs spot e. let no = sym asks ∙ e in cc) r
  marked-unit (halt.Value v) asks r = marked-finishes v (actor_of x.kind) refl (λ b vs spot e. let no = sym asks ∙ e in cc) r
  marked-unit (halt.Fault failed at) asks r = absurd (ends-going old _ _ found new r on_going)
  marked-unit halt.Spent asks r = absurd (ends-going old _ _ found new r on_going)
