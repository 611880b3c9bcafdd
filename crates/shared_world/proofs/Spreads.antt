-- Which units are not finished after an answer, which have an attempt, and whose entry is settled.
use Rattle.std.proofs.Common.{◌≡◌, ◌∙◌, ◌⊎◌, inl, inr, true, false, Bool, cond, suc, length, List, [], ◌∷◌, ◌++◌, refl, sym, ap, subst}
use Rattle.std.specs.Option.{option_map}
use Rattle.std.specs.Prelude.{IsSome, Option, None, Some, is_some, not, ◌==◌}
use Rattle.actor_mailbox.specs.declared.message.Message.{Message}
use Rattle.core_syntax.specs.declared.behaviour.Behaviour.{Behaviour}
use Rattle.eval_step.specs.Evaluation.{Evaluation}
use Rattle.ref_store.specs.declared.version.Version.{Version}
use Rattle.ref_store.specs.Store.{committed, versions_of}
use Rattle.ref_store.specs.Version.{newest}
use Rattle.serial_model.specs.declared.actor_state.ActorState.{ActorState}
use Rattle.serial_model.specs.declared.entry.Entry.{Entry}
use Rattle.serial_model.specs.declared.entry.Entry.TheVariants.{Run, Take}
use Rattle.serial_model.specs.declared.halt.Halt.{Halt}
use Rattle.serial_model.specs.declared.halt.Halt.TheVariants as halt
use Rattle.serial_model.specs.declared.request.Request.TheVariants as request
use Rattle.serial_model.specs.Step.{next_made, next_of}
use Rattle.shared_world.proofs.Posting.{IsPosting, step-posting, posting-rest, posting-unfinished}
use Rattle.shared_world.specs.declared.given.Given.{Given}
use Rattle.shared_world.specs.declared.given.Given.TheVariants as given
use Rattle.shared_world.specs.Gave.{GaveTask, GaveUnit}
use Rattle.shared_world.specs.rows.Actors.{acted, roused_unless, spawned}
use Rattle.shared_world.specs.rows.Attempts.{IsWithout, TasksGo}
use Rattle.shared_world.specs.rows.Commits.{definite_if, turns_on}
use Rattle.shared_world.specs.rows.Leading.{mark_settles}
use Rattle.shared_world.specs.rows.Pieces.{Ends, IsSet, Settles, task_gone}
use Rattle.shared_world.specs.rows.Sending.{sends_in}
use Rattle.shared_world.specs.rows.Tasks as row
use Rattle.shared_world.specs.rows.Tasks.{AfterStep, EndGives, IsMarkedTask, Missing, RootGives, StepGives, TaskGives, WaitsForTurn}
use Rattle.shared_world.specs.rows.Turns.{GaveActor, TakesIfAllowed}
use Rattle.shared_world.specs.rows.Undoing.{Aborts, piece_left, root_gone}
use Rattle.shared_world.specs.rows.Units.{Becomes, Derefs, Finishes, ForksIfAllowed, Joins, Selves, Tries, UnitGives}
use Rattle.shared_world.specs.Seen.{done_by_root}
use Rattle.shared_world.specs.rows.Unsettled.{kept_to}
use Rattle.shared_world.specs.Shared.{Shared, actor_of, finished_at, ref_now, tree_with, unit_state}
use Rattle.task_fork_join.specs.Attempt.{Attempt, end_at, machine_of}
use Rattle.task_fork_join.specs.declared.stepped.Stepped.{Stepped}
use Rattle.task_fork_join.specs.declared.stepped.Stepped.TheVariants as stepped_as
use Rattle.task_fork_join.specs.declared.task_end.TaskEnd.{TaskEnd}
use Rattle.task_fork_join.specs.declared.task_end.TaskEnd.TheVariants as end
use Rattle.unit_table.specs.Board.{Board, IsPutAt, SamePieces, is_unfinished, lent_at, piece_at}
use Rattle.unit_table.specs.declared.mark.Mark.{Mark}
use Rattle.unit_table.specs.declared.mark.Mark.TheVariants as mark
use Rattle.unit_table.specs.declared.mark.Work.TheVariants as work
use Rattle.unit_table.specs.declared.piece.Piece.{Piece}
use Rattle.unit_table.specs.declared.piece.Piece.TheVariants as piece
use Rattle.unit_table.specs.declared.unit.Unit.{Unit}
use Rattle.unit_table.specs.Piece.{awaited, beside, goes_on, is_for, says_finished, with_mark, woken}
use Rattle.shared_world.proofs.Besides.{apart-of}
use Rattle.value_core.proofs.NamedLaws.{named-with_named, same_name-equal}
use Rattle.value_core.specs.declared.value.Value.{Value}
use Rattle.value_core.specs.Named.{Name, Named, made_by, named, same_name, with_named}
use Rattle.value_core.specs.NameSet.{holds_at}

-- ---- pieces
woken-open : (u : Name) (p : Piece) → goes_on (woken u p) ≡ true → goes_on p ≡ true
woken-open u (piece.Unit x) is = on x.mark refl is
  where
    on : (m : Mark) → x.mark ≡ m → goes_on (cond (is_for u (awaited m)) (with_mark (piece.Unit x) (mark.Ready work.Settle)) (piece.Unit x)) ≡ true → not (says_finished x.mark) ≡ true
    on (mark.Finished v) e open_so = open_so
    on (mark.Ready w) e open_so = ap (λ k. not (says_finished k)) e
    on (mark.Waiting w) e open_so = ap (λ k. not (says_finished k)) e
    on mark.Resting e open_so = ap (λ k. not (says_finished k)) e
    on mark.Dropped e open_so = ap (λ k. not (says_finished k)) e
woken-open u (piece.Task m) is = on (is_for u (awaited m)) is
  where
    on : (c : Bool) → goes_on (cond c (piece.Task (mark.Ready work.Settle)) (piece.Task m)) ≡ true → false ≡ true
    on true e = e
    on false e = e
woken-open u (piece.Actor a) is = on (is_for u (awaited a.mark)) is
  where
    on : (c : Bool) → goes_on (cond c (with_mark (piece.Actor a) (mark.Ready work.Settle)) (piece.Actor a)) ≡ true → false ≡ true
    on true e = e
    on false e = e

beside-open : (u : Name) (m : Mark) (found : Option Piece) → holds_at goes_on (beside u m found) ≡ true → holds_at goes_on found ≡ true
beside-open u m found = on (says_finished m) found
  where
    on : (c : Bool) (found : Option Piece) → holds_at goes_on (cond c (option_map (woken u) found) found) ≡ true → holds_at goes_on found ≡ true
    on false found is = is
    on true None is = is
    on true (Some p) is = woken-open u p is

roused-open : (begun : Bool) (found : Option Piece) → holds_at goes_on (roused_unless begun found) ≡ true → holds_at goes_on found ≡ true
roused-open true found is = is
roused-open false None is = is
roused-open false (Some (piece.Unit x)) is = is
roused-open false (Some (piece.Task m)) is = is
roused-open false (Some (piece.Actor a)) is = is

gone-open : (c : Bool) (found : Option Piece) → holds_at goes_on (cond c (task_gone found) found) ≡ true → holds_at goes_on found ≡ true
gone-open false found is = is
gone-open true None is = is
gone-open true (Some (piece.Unit x)) is = is
gone-open true (Some (piece.Task m)) is = cc
gone-open true (Some (piece.Actor a)) is = is

-- ---- boards
-- each unit that is not finished was not before
abbrev pub NoneOpens : Board → Board → Type 0
NoneOpens old new = (n : Name) → is_unfinished new n ≡ true → is_unfinished old n ≡ true

none-opens-then : (a b c : Board) → NoneOpens a b → NoneOpens b c → NoneOpens a c
none-opens-then a b c one two n is = one n (two n is)

same-opens : (old new : Board) → SamePieces old new → NoneOpens old new
same-opens old new same n is = ap (holds_at goes_on) (sym (same n)) ∙ is

-- what stands under a name was a unit that is not finished, or is none
set-opens : (u : Name) (p : Piece) (m : Mark) (old new : Board) → IsSet u p m old new → (goes_on p ≡ true → is_unfinished old u ≡ true) → NoneOpens old new
set-opens u p m old new set was n is = on (same_name n u) refl
  where
    on : (c : Bool) → same_name n u ≡ c → is_unfinished old n ≡ true
    on true e =
        let same = same_name-equal n u e in
        subst (λ k. is_unfinished old k ≡ true) (sym same) (was (ap (holds_at goes_on) (sym set.here) ∙ ap (is_unfinished new) (sym same) ∙ is))
    on false e = beside-open u m (piece_at old n) (ap (holds_at goes_on) (sym (set.others n (apart-of n u e))) ∙ is)

put-opens : (a : Name) (found : Option Piece) (old new : Board) → IsPutAt a found old new → (holds_at goes_on found ≡ true → is_unfinished old a ≡ true) → NoneOpens old new
put-opens a found old new put was n is = on (same_name n a) refl
  where
    on : (c : Bool) → same_name n a ≡ c → is_unfinished old n ≡ true
    on true e =
        let same = same_name-equal n a e in
        subst (λ k. is_unfinished old k ≡ true) (sym same) (was (ap (holds_at goes_on) (sym put.here) ∙ ap (is_unfinished new) (sym same) ∙ is))
    on false e = ap (holds_at goes_on) (sym (put.others n (apart-of n a e))) ∙ is

never : {X : Type 0} → false ≡ true → X
never e = absurd (cc)

go-opens : (u : Name) (y : Unit) (tree : Attempt) (old new : Board) → TasksGo u y tree old new → is_unfinished old u ≡ true → NoneOpens old new
go-opens u y tree old new go was n is = on (same_name n u) refl
  where
    on : (c : Bool) → same_name n u ≡ c → is_unfinished old n ≡ true
    on true e = subst (λ k. is_unfinished old k ≡ true) (sym (same_name-equal n u e)) was
    on false e = gone-open (is_some (named n tree.tasks)) (piece_at old n) (ap (holds_at goes_on) (sym (go.others n (apart-of n u e))) ∙ is)

acted-opens : (begun : Bool) (state : Option ActorState) (last mail : List Message) (found : Option Piece) → holds_at goes_on (acted begun state last mail found) ≡ true → holds_at goes_on found ≡ true
acted-opens begun (Some state) last mail found is = never is
acted-opens begun None [] mail found is = is
acted-opens begun None (m ∷ ms) mail found is = roused-open begun found is

-- a turn that has become definite was not finished where it is not
settles-opens : (lent : Bool) (m : Mark) → not (says_finished (mark_settles lent m)) ≡ not (says_finished m)
settles-opens true (mark.Ready work.Eval) = refl
settles-opens false (mark.Ready work.Eval) = refl
settles-opens true (mark.Ready work.Settle) = refl
settles-opens false (mark.Ready work.Settle) = refl
settles-opens true (mark.Ready work.Begin) = refl
settles-opens false (mark.Ready work.Begin) = refl
settles-opens lent (mark.Waiting on) = refl
settles-opens lent mark.Resting = refl
settles-opens lent (mark.Finished v) = refl
settles-opens lent mark.Dropped = refl

definite-opens : (so lent : Bool) (found : Option Piece) → holds_at goes_on (definite_if so lent found) ≡ true → holds_at goes_on found ≡ true
definite-opens false lent found is = is
definite-opens true lent None is = is
definite-opens true lent (Some (piece.Unit x)) is = sym (settles-opens lent x.mark) ∙ is
definite-opens true lent (Some (piece.Task m)) is = is
definite-opens true lent (Some (piece.Actor a)) is = is

-- ---- what an answer spreads
-- An entry that is settled is of that unit. A unit that is not finished was not before, but for the one that is made where an entry is
-- settled and the attempts stay. A unit that has an attempt had one, but for that unit, where no unit is made.
pub record IsSpread (old : Shared) (u made : Name) (found : Given) (new : Shared) : Type 0 where
  pub entry : (e : Entry) → found ≡ given.Settled e → e ≡ Run u
  pub opens : NoneOpens old.board new.board ⊎ ((new.attempts ≡ old.attempts) × ((n : Name) → is_unfinished new.board n ≡ true → (n ≡ made) ⊎ (is_unfinished old.board n ≡ true)))
  pub tries : (v : Name) → IsSome (named v new.attempts) → IsSome (named v old.attempts) ⊎ ((v ≡ u) × NoneOpens old.board new.board)

of-unit : (u : Name) (found : Given) → found ≡ given.Settled (Run u) → (e : Entry) → found ≡ given.Settled e → e ≡ Run u
of-unit u found is e so = let both : given.Settled (Run u) ≡ given.Settled e = sym is ∙ so in cc

same-tries : (old : Shared) (u : Name) (new : Shared) → new.attempts ≡ old.attempts → (v : Name) → IsSome (named v new.attempts) → IsSome (named v old.attempts) ⊎ ((v ≡ u) × NoneOpens old.board new.board)
same-tries old u new same v some = inl (subst (λ (a : Named Attempt). IsSome (named v a)) same some)

module _ (old : Shared) (u : Name) (x : Unit) (was : is_unfinished old.board u ≡ true) (made : Name) (found : Given) (new : Shared) where
  abbrev Spread : Type 0
  Spread = IsSpread old u made found new

  settles-spread : (base : Shared) (after : _) → base.attempts ≡ old.attempts → NoneOpens old.board base.board → is_unfinished base.board u ≡ true → Settles base u x after found new → Spread
  settles-spread base after attempts opens still_open r = record {
    entry = of-unit u found r.found_is;
    opens = inl (none-opens-then old.board base.board new.board opens (set-opens u (piece.Unit r.unit) _ base.board new.board r.set (λ e. still_open)));
    tries = same-tries old u new (ap (λ (s : Shared). s.attempts) r.others ∙ attempts);
  }

  settles-here : (base : Shared) (after : _) → base.attempts ≡ old.attempts → base.board ≡ old.board → Settles base u x after found new → Spread
  settles-here base after attempts board r =
      settles-spread base after attempts (λ n is. subst (λ b. is_unfinished b n ≡ true) board is) (subst (λ b. is_unfinished b u ≡ true) (sym board) was) r

  -- after something was put that is no unit, or what was there
  settles-put : (base : Shared) (after : _) (a : Name) (p : Option Piece) → base.attempts ≡ old.attempts → IsPutAt a p old.board base.board → (holds_at goes_on p ≡ true → is_unfinished old.board a ≡ true)
      → (same_name u a ≡ true → holds_at goes_on p ≡ true) → Settles base u x after found new → Spread
  settles-put base after a p attempts put was_so keeps r = settles-spread base after attempts (put-opens a p old.board base.board put was_so) (on (same_name u a) refl) r
    where
      on : (c : Bool) → same_name u a ≡ c → is_unfinished base.board u ≡ true
      on true e = ap (is_unfinished base.board) (same_name-equal u a e) ∙ ap (holds_at goes_on) put.here ∙ keeps e
      on false e = ap (holds_at goes_on) (put.others u (apart-of u a e)) ∙ was

  ends-spread : (e : _) → Ends old u e found new → Spread
  ends-spread e r = record {
    entry = of-unit u found r.found_is;
    opens = inl (same-opens old.board new.board r.pieces);
    tries = same-tries old u new (ap (λ (s : Shared). s.attempts) r.others);
  }

  -- nothing that is no such unit stands under its name
  not-at : (a : Name) (found : Option Piece) → piece_at old.board a ≡ found → holds_at goes_on found ≡ false → {X : Type 0} → same_name u a ≡ true → X
  not-at a found there shut same = never (sym shut ∙ ap (holds_at goes_on) (sym there) ∙ ap (is_unfinished old.board) (sym (same_name-equal u a same)) ∙ was)

  derefs-spread : (value : Option Value) → Derefs old u x value found new → Spread
  derefs-spread None r = absurd r
  derefs-spread (Some v) r = settles-here old _ refl refl r

  forks-spread : (body : _) (values : _) (full : Bool) → next_made u (unit_state x) ≡ made → ForksIfAllowed old u x body values full found new → Spread
  forks-spread body values true is r = ends-spread _ r
  forks-spread body values false is r = record {
    entry = of-unit u found r.settles.found_is;
    opens = inr (ap (λ (s : Shared). s.attempts) r.settles.others, λ n open_so. at n (opened n open_so) (same_name n (next_made u (unit_state x))) refl);
    tries = same-tries old u new (ap (λ (s : Shared). s.attempts) r.settles.others);
  }
    where
      there : is_unfinished r.board u ≡ true
      there = on (same_name u (next_made u (unit_state x))) refl
        where
          on : (c : Bool) → same_name u (next_made u (unit_state x)) ≡ c → is_unfinished r.board u ≡ true
          on true e = not-at (next_made u (unit_state x)) None r.none refl e
          on false e = ap (holds_at goes_on) (r.put.others u (apart-of u (next_made u (unit_state x)) e)) ∙ was

      opened : NoneOpens r.board new.board
      opened = set-opens u (piece.Unit r.settles.unit) _ r.board new.board r.settles.set (λ e. there)

      at : (n : Name) → is_unfinished r.board n ≡ true → (c : Bool) → same_name n (next_made u (unit_state x)) ≡ c → (n ≡ made) ⊎ (is_unfinished old.board n ≡ true)
      at n open_so true e = inl (same_name-equal n (next_made u (unit_state x)) e ∙ is)
      at n open_so false e = inr (ap (holds_at goes_on) (sym (r.put.others n (apart-of n (next_made u (unit_state x)) e))) ∙ open_so)

  joins-spread : (future : Name) (value : Option Value) → Joins old u x future value found new → Spread
  joins-spread future None r = record {
    entry = λ e so. let no = sym r.found_is ∙ so in cc;
    opens = inl (set-opens u (piece.Unit r.marked.unit) _ old.board new.board r.marked.set (λ e. was));
    tries = same-tries old u new (ap (λ (s : Shared). s.attempts) r.others);
  }
  joins-spread future (Some v) r = settles-here old _ refl refl r

  tries-spread : (body : _) (values : _) (at : _) (attempt : Option Attempt) → Tries old u x body values at attempt found new → Spread
  tries-spread body values at (Some tree) r = absurd r
  tries-spread body values at None r = record {
    entry = λ e so. let no = sym r.found_is ∙ so in cc;
    opens = inl none_opens;
    tries = λ v some. tried v some (same_name v u) refl;
  }
    where
      root : Name
      root = next_made u (unit_state x)

      there : is_unfinished r.board u ≡ true
      there = on (same_name u root) refl
        where
          on : (c : Bool) → same_name u root ≡ c → is_unfinished r.board u ≡ true
          on true e = not-at root None r.none refl e
          on false e = ap (holds_at goes_on) (r.root.others u (apart-of u root e)) ∙ was

      none_opens : NoneOpens old.board new.board
      none_opens = none-opens-then old.board r.board new.board (put-opens root _ old.board r.board r.root (λ e. never e)) (set-opens u (piece.Unit r.waits.unit) _ r.board new.board r.waits.set (λ e. there))

      tried : (v : Name) → IsSome (named v new.attempts) → (c : Bool) → same_name v u ≡ c → IsSome (named v old.attempts) ⊎ ((v ≡ u) × NoneOpens old.board new.board)
      tried v some true e = inr (same_name-equal v u e, none_opens)
      tried v some false e = inl (subst IsSome (ap (named v) r.attempts ∙ named-with_named v u r.tree old.attempts ∙ ap (λ b. cond b (Some r.tree) (named v old.attempts)) e) some)

  spawns-put : (base : Shared) (after : _) (p : Option Piece) → base.attempts ≡ old.attempts → piece_at old.board (next_made u (unit_state x)) ≡ None → IsPutAt (next_made u (unit_state x)) p old.board base.board → holds_at goes_on p ≡ false
      → Settles base u x after found new → Spread
  spawns-put base after p attempts none put shut r =
      settles-put base after (next_made u (unit_state x)) p attempts put (λ e. never (sym shut ∙ e)) (λ e. not-at (next_made u (unit_state x)) None none refl e) r

  sends-put : (base : Shared) (after : _) (to : Name) → base.attempts ≡ old.attempts → IsPutAt to (roused_unless (is_some (named to old.taken)) (piece_at old.board to)) old.board base.board → Settles base u x after found new → Spread
  sends-put base after to attempts put r =
      settles-put base after to _ attempts put (λ e. roused-open (is_some (named to old.taken)) (piece_at old.board to) e)
      (λ e. keeps (is_some (named to old.taken)) (piece_at old.board to) (ap (λ n. holds_at goes_on (piece_at old.board n)) (sym (same_name-equal u to e)) ∙ was)) r
    where
      keeps : (begun : Bool) (found : Option Piece) → holds_at goes_on found ≡ true → holds_at goes_on (roused_unless begun found) ≡ true
      keeps true found is = is
      keeps false None is = is
      keeps false (Some (piece.Unit y)) is = is
      keeps false (Some (piece.Task m)) is = is
      keeps false (Some (piece.Actor a)) is = is

  becomes-spread : (behaviour : _) (state : _) (at : _) (actor : Option Name) → Becomes old u x behaviour state at actor found new → Spread
  becomes-spread behaviour state at None r = ends-spread _ r
  becomes-spread behaviour state at (Some actor) r = settles-here old _ refl refl r

  selves-spread : (at : _) (actor : Option Name) → Selves old u x at actor found new → Spread
  selves-spread at None r = ends-spread _ r
  selves-spread at (Some actor) r = settles-here old _ refl refl r

  finishes-spread : (v : _) (actor : Option Name) → Finishes old u x v actor found new → Spread
  finishes-spread v None r = settles-here old _ refl refl r
  finishes-spread v (Some actor) r =
      settles-put (record old { board = r.board }) _ actor _ refl r.freed (λ e. never e) (λ e. not-at actor (Some (piece.Actor r.actor)) r.there refl e) r.settles

  unit-spread : (h : Halt) → next_made u (unit_state x) ≡ made → UnitGives old u x h found new → Spread
  unit-spread (halt.Ask (request.Print text) at) is r = settles-here (record old { bytes = old.bytes ++ text }) _ refl refl r
  unit-spread (halt.Ask (request.NewRef v) at) is r =
      settles-here (record old { versions = committed old.versions ((next_made u (unit_state x), v) ∷ []) (suc (length old.history)) }) _ refl refl r.settles
  unit-spread (halt.Ask (request.Deref ref) at) is r = derefs-spread (ref_now old.versions ref) r
  unit-spread (halt.Ask (request.RefSet ref v) at) is r = ends-spread _ r
  unit-spread (halt.Ask (request.Fork body values) at) is r = forks-spread body values (old.made == old.setup.limits.units) is r
  unit-spread (halt.Ask (request.Join future) at) is r = joins-spread future (finished_at old.board future) r
  unit-spread (halt.Ask (request.Dosync body values) at) is r = tries-spread body values at (named u old.attempts) r
  unit-spread (halt.Ask (request.Spawn n args) at) is r = spawns-put (record old { board = r.board }) _ _ refl r.none r.put refl r.settles
  unit-spread (halt.Ask (request.Send a args) at) is r = sends-put (record old { board = r.board; mails = r.mails }) _ a refl r.rouses r.settles
  unit-spread (halt.Ask (request.Become n args) at) is r = becomes-spread n args at (actor_of x.kind) r
  unit-spread (halt.Ask request.SelfActor at) is r = selves-spread at (actor_of x.kind) r
  unit-spread (halt.Value v) is r = finishes-spread v (actor_of x.kind) r
  unit-spread (halt.Fault code at) is r = ends-spread _ r
  unit-spread halt.Spent is r = ends-spread _ r

-- what a unit that is not finished comes to
pub gave-unit-spread : (old : Shared) (u : Name) (found : Given) (new : Shared) (g : GaveUnit old u found new) → is_unfinished old.board u ≡ true → IsSpread old u (next_made u (unit_state g.unit)) found new
gave-unit-spread old u found new g was = unit-spread old u g.unit was (next_made u (unit_state g.unit)) found new (next_of old.setup (unit_state g.unit)) refl g.gives

-- ---- what a task comes to
-- An entry that is settled is of that unit, whose attempt the task is of; each unit that is not finished was not before; and each that has
-- an attempt had one.
pub record IsTaskSpread (old : Shared) (u : Name) (found : Given) (new : Shared) : Type 0 where
  pub entry : (e : Entry) → found ≡ given.Settled e → e ≡ Run u
  pub opens : NoneOpens old.board new.board
  pub tries : (v : Name) → IsSome (named v new.attempts) → IsSome (named v old.attempts)

module _ (base : Shared) (u : Name) (x : Unit) (was : is_unfinished base.board u ≡ true) (tree : Attempt) (found : Given) (new : Shared) where
  abbrev TaskSpread : Type 0
  TaskSpread = IsTaskSpread base u found new

  kept-tries : new.attempts ≡ base.attempts → (v : Name) → IsSome (named v new.attempts) → IsSome (named v base.attempts)
  kept-tries same v some = subst (λ (a : Named Attempt). IsSome (named v a)) same some

  gone-tries : IsWithout u base.attempts new.attempts → (v : Name) → IsSome (named v new.attempts) → IsSome (named v base.attempts)
  gone-tries without v some = on (same_name v u) (subst IsSome (without v) some)
    where
      on : (c : Bool) → IsSome (cond c None (named v base.attempts)) → IsSome (named v base.attempts)
      on true none = cc
      on false is = is

  marked-spread : (task : Name) (m : Mark) (mid : Shared) → mid.attempts ≡ base.attempts → NoneOpens base.board mid.board → ((e : Entry) → found ≡ given.Settled e → e ≡ Run u) → IsMarkedTask mid task m new → TaskSpread
  marked-spread task m mid attempts opens entry r = record {
    entry = entry;
    opens = none-opens-then base.board mid.board new.board opens (set-opens task (piece.Task m) m mid.board new.board r.set (λ e. never e));
    tries = kept-tries (ap (λ (s : Shared). s.attempts) r.others ∙ attempts);
  }

  aborts-spread : (ref : Name) (version : _) → Aborts base u x tree ref version found new → TaskSpread
  aborts-spread ref version r = record {
    entry = λ e so. let no = sym r.found_is ∙ so in cc;
    opens = λ n unfinished. opens n unfinished (same_name n u) refl;
    tries = λ v some. left-some (root_gone r.undoes.gone (named v base.attempts)) (named v base.attempts) (subst IsSome (r.undoes.attempts v) some);
  }
    where
      left-some : (c : Bool) (found : Option Attempt) → IsSome (cond c None found) → IsSome found
      left-some true found is = cc
      left-some false found is = is

      left-open : (n : Name) (found : Option Piece) → holds_at goes_on (piece_left base r.undoes.gone new n found) ≡ true → holds_at goes_on found ≡ true
      left-open n None is = is
      left-open n (Some (piece.Unit y)) is = on (r.undoes.gone n) is
        where
          on : (c : Bool) → holds_at goes_on (cond c None (Some (piece.Unit y))) ≡ true → goes_on (piece.Unit y) ≡ true
          on true e = cc
          on false e = e
      left-open n (Some (piece.Task m)) is = on (root_gone r.undoes.gone (tree_with base n)) is
        where
          on : (c : Bool) → holds_at goes_on (cond c None (Some (piece.Task m))) ≡ true → goes_on (piece.Task m) ≡ true
          on true e = cc
          on false e = e
      left-open n (Some (piece.Actor a)) is = is

      opens : (n : Name) → is_unfinished new.board n ≡ true → (c : Bool) → same_name n u ≡ c → is_unfinished base.board n ≡ true
      opens n unfinished true e = ap (is_unfinished base.board) (same_name-equal n u e) ∙ was
      opens n unfinished false e = left-open n (piece_at base.board n) (ap (holds_at goes_on) (sym (r.undoes.pieces.others n (apart-of n u e))) ∙ unfinished)

  task-ends-spread : (e : _) → Ends base u e found new → TaskSpread
  task-ends-spread e r = record {
    entry = of-unit u found r.found_is;
    opens = same-opens base.board new.board r.pieces;
    tries = kept-tries (ap (λ (s : Shared). s.attempts) r.others);
  }

  end-spread : (e : TaskEnd) → EndGives base u x tree e found new → TaskSpread
  end-spread (end.Value v) r = record {
    entry = of-unit u found r.found_is;
    opens = none-opens-then base.board r.board new.board (go-opens u r.unit tree base.board r.board r.goes.tasks was)
        (λ n is. definite-opens (turns_on base tree.root n) (is_some (lent_at base.board n)) (piece_at r.board n)
        (acted-opens (is_some (named n base.taken)) (spawned r.log.log.effects n) (kept_to base u tree n) _ (definite_if (turns_on base tree.root n) (is_some (lent_at base.board n)) (piece_at r.board n)) (ap (holds_at goes_on) (sym (r.acts.pieces n)) ∙ is)));
    tries = gone-tries r.goes.attempts;
  }
  end-spread (end.Fault code at) r = task-ends-spread _ r
  end-spread end.Spent r = task-ends-spread _ r

  waits-spread : (task : Name) → WaitsForTurn base u task found new → TaskSpread
  waits-spread task r = marked-spread task _ base refl (λ n is. is) (λ e so. let no = sym r.found_is ∙ so in cc) r.marked

  root-spread : (task : Name) (e : TaskEnd) → RootGives base u x task tree e found new → TaskSpread
  root-spread task e (row.valid level all r) = end-spread e r
  root-spread task e (row.conflicts level r) = aborts-spread r.ref r.conflict.version r.aborts
  root-spread task e (row.waits r) = waits-spread task r

  missing-spread : (task ref : Name) (version : Option Version) → Missing base u x task tree ref version found new → TaskSpread
  missing-spread task ref None r = waits-spread task r
  missing-spread task ref (Some version) r = aborts-spread ref version.number r

  step-spread : (task : Name) (went : Stepped) → StepGives base u x task tree went found new → TaskSpread
  step-spread task stepped_as.Now r = marked-spread task _ base refl (λ n is. is) (λ e so. let no = sym r.0 ∙ so in cc) r.1
  step-spread task (stepped_as.Forked child) r =
      marked-spread task _ (record base { owners = with_named base.owners child u; board = r.1.board }) refl (put-opens child _ base.board r.1.board r.1.put (λ e. never e)) (λ e so. let no = sym r.0 ∙ so in cc) r.1.steps
  step-spread task (stepped_as.WaitJoin future) r = marked-spread task _ base refl (λ n is. is) (λ e so. let no = sym r.0 ∙ so in cc) r.1
  step-spread task (stepped_as.NotInSnapshot ref) r = missing-spread task ref (newest (versions_of base.versions ref)) r
  step-spread task stepped_as.Finished r = marked-spread task _ base refl (λ n is. is) (λ e so. let no = sym r.0 ∙ so in cc) r.1

  after-spread : (task : Name) (went : Stepped) (ended : Option TaskEnd) → AfterStep base u x task tree went ended found new → TaskSpread
  after-spread task went None r = step-spread task went r
  after-spread task went (Some e) r = root-spread task e r

-- the attempt took a step first
moved-spread : (old mid : Shared) → IsPosting old mid → (u : Name) (after : Attempt) (found : Given) (new : Shared) → IsSome (named u old.attempts) → IsTaskSpread (record mid { attempts = with_named old.attempts u after }) u found new → IsTaskSpread old u found new
moved-spread old mid p u after found new tried is = record {
  entry = is.entry;
  opens = λ n unfinished. sym (posting-unfinished old mid p n) ∙ is.opens n unfinished;
  tries = λ v some. on v (same_name v u) refl (subst IsSome (named-with_named v u after old.attempts) (is.tries v some));
}
  where
    on : (v : Name) (c : Bool) → same_name v u ≡ c → IsSome (cond c (Some after) (named v old.attempts)) → IsSome (named v old.attempts)
    on v true e some = subst (λ n. IsSome (named n old.attempts)) (sym (same_name-equal v u e)) tried
    on v false e some = some

task-spread : (old : Shared) (u : Name) (x : Unit) → is_unfinished old.board u ≡ true → (task : Name) (tree : Attempt) → named u old.attempts ≡ Some tree → (ended : Option TaskEnd) (machine : Option Evaluation) (found : Given) (new : Shared)
    → TaskGives old u x task tree ended machine found new → IsTaskSpread old u found new
task-spread old u x was task tree there None (Some machine) found new r =
    moved-spread old r.mid p u r.by.after found new (subst IsSome (sym there) refl)
    (subst (λ (all : Named Attempt). IsTaskSpread (record r.mid { attempts = with_named all u r.by.after }) u found new) (ap (λ (s : Shared). s.attempts) (posting-rest old r.mid p))
    (after-spread (record r.mid { attempts = with_named r.mid.attempts u r.by.after }) u x (posting-unfinished old r.mid p u ∙ was) r.by.after found new task r.by.went (end_at r.by.after) r.comes))
  where
    p : IsPosting old r.mid
    p = step-posting (end_at r.by.after) (named u old.aheads) old u tree.root (sends_in (done_by_root tree)) (sends_in r.by.more) r.mid r.posts
task-spread old u x was task tree there None None found new r = absurd r
task-spread old u x was task tree there (Some ended) machine found new r = root-spread old u x was tree found new task ended r

-- what a task comes to of the attempt of a unit that is not finished
pub gave-task-spread : (old : Shared) (name : Name) (found : Given) (new : Shared) (g : GaveTask old name found new) → is_unfinished old.board g.owner ≡ true → IsTaskSpread old g.owner found new
gave-task-spread old name found new g was = task-spread old g.owner g.unit was name g.tree g.attempt (end_at g.tree) (machine_of g.tree name) found new g.gives

-- ---- how a turn begins
-- an entry that is settled is no step of a unit, a unit that is not finished was not before but for the turn, and the attempts stay
pub record IsTurnSpread (old : Shared) (made : Name) (found : Given) (new : Shared) : Type 0 where
  pub entry : (e : Entry) → found ≡ given.Settled e → (actor : Name) × ((sender : Name) × (e ≡ Take actor sender))
  pub opens : (n : Name) → is_unfinished new.board n ≡ true → (n ≡ made) ⊎ (is_unfinished old.board n ≡ true)
  pub attempts : new.attempts ≡ old.attempts

of-take : (a sender : Name) (found : Given) → found ≡ given.Settled (Take a sender) → (e : Entry) → found ≡ given.Settled e → (actor : Name) × ((from : Name) × (e ≡ Take actor from))
of-take a sender found is e so = let both : given.Settled (Take a sender) ≡ given.Settled e = sym is ∙ so in (a, (sender, cc))

takes-spread : (old : Shared) (a : Name) (actor : ActorState) (m : Message) (rest : List Message) (behaviour : Behaviour) (full : Bool) (found : Given) (new : Shared) → TakesIfAllowed old a actor m rest behaviour full found new
    → IsTurnSpread old (made_by a actor.turns) found new
takes-spread old a actor m rest behaviour true found new r = record {
  entry = of-take a m.sender found r.found_is;
  opens = λ n is. inr (same-opens old.board new.board r.pieces n is);
  attempts = ap (λ (s : Shared). s.attempts) r.others;
}
takes-spread old a actor m rest behaviour false found new r = record {
  entry = of-take a m.sender found r.found_is;
  opens = λ n is. on n is (same_name n (made_by a actor.turns)) refl;
  attempts = ap (λ (s : Shared). s.attempts) r.others;
}
  where
    on : (n : Name) → is_unfinished new.board n ≡ true → (c : Bool) → same_name n (made_by a actor.turns) ≡ c → (n ≡ made_by a actor.turns) ⊎ (is_unfinished old.board n ≡ true)
    on n is true e = inl (same_name-equal n (made_by a actor.turns) e)
    on n is false e =
        inr (put-opens a _ old.board r.board r.busy (λ k. never k) n (ap (holds_at goes_on) (sym (r.put.others n (apart-of n (made_by a actor.turns) e))) ∙ is))

-- what an actor comes to
pub gave-actor-spread : (old : Shared) (a : Name) (found : Given) (new : Shared) (g : GaveActor old a found new) → IsTurnSpread old (made_by a g.actor.state.turns) found new
gave-actor-spread old a found new g = takes-spread old a g.actor.state g.first g.rest g.can.behaviour (old.made == old.setup.limits.units) found new g.gives
