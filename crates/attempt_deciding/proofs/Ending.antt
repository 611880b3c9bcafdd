-- Claims on what is gone.
use Rattle.std.proofs.Common.{◌≡◌, ◌∙◌, ℕ, Bool, true, false, cond, List, [], ◌∷◌, refl, sym, ap}
use Rattle.std.specs.Option.{option_and_then}
use Rattle.std.specs.Prelude.{None, Option, Some, is_some, not, ◌&&◌, ◌||◌, if◌then◌else◌}
use Rattle.actor_mails.specs.Mails.{mail_at}
use Rattle.attempts_gone.specs.Gone.{GoneEnd, IsFree}
use Rattle.attempt_deciding.specs.Ending.{FoundEnd}
use Rattle.attempt_deciding.specs.TaskAt.{IsTaskIn}
use Rattle.world_steps.proofs.Settling.{claims-end}
use Rattle.serial_model.specs.declared.actor_state.ActorState.{ActorState}
use Rattle.serial_model.specs.declared.effect.Effect.{Effect}
use Rattle.shared_world.proofs.Live.{unit-piece}
use Rattle.shared_world.specs.declared.given.Given.{Given}
use Rattle.shared_world.specs.declared.given.Given.TheVariants as given
use Rattle.shared_world.specs.Dependence.{itself}
use Rattle.shared_world.specs.Gave.{ended_by, gone_with, is_gone}
use Rattle.shared_world.specs.rows.Actors.{acted, roused_unless, spawned}
use Rattle.shared_world.specs.rows.Attempts.{AttemptGoes}
use Rattle.shared_world.specs.rows.Commits.{ActorsAct, definite_if, turns_on}
use Rattle.shared_world.specs.rows.Unsettled.{kept_to}
use Rattle.actor_mailbox.specs.declared.message.Message.{Message}
use Rattle.shared_world.specs.rows.Pieces.{ClaimsEnd, IsSet, but_gone, is_idle, is_task, piece_or_task, task_gone}
use Rattle.shared_world.specs.rows.Tasks.{EndGives, RootGives, conflicts, valid, waits}
use Rattle.shared_world.specs.rows.Undoing.{Aborts, Undoes, piece_left, root_gone}
use Rattle.shared_world.specs.Shared.{Shared, claimed, is_going, tree_with}
use Rattle.task_fork_join.specs.Attempt.{Attempt}
use Rattle.task_fork_join.specs.declared.task_end.TaskEnd.{TaskEnd}
use Rattle.task_fork_join.specs.declared.task_end.TaskEnd.TheVariants as end
use Rattle.unit_table.specs.Board.{Board, IsPutAt, IsUnlent, lent_to, lent_at, marks_ready, piece_at}
use Rattle.unit_table.specs.declared.mark.Mark.{Mark}
use Rattle.unit_table.specs.declared.mark.WaitOn.{WaitOn}
use Rattle.unit_table.specs.declared.piece.Piece.{Piece}
use Rattle.unit_table.specs.declared.piece.Piece.TheVariants as piece
use Rattle.unit_table.specs.declared.unit.Unit.{Unit}
use Rattle.unit_table.specs.Piece.{beside, says_finished, woken}
use Rattle.value_core.proofs.NamedLaws.{same_name-equal, same_name-itself}
use Rattle.value_core.specs.declared.ticket.Ticket.{Ticket}
use Rattle.value_core.specs.Named.{Name, named, same_name}

-- what stands is there still
abbrev pub NoneGone : Board → Board → Type 0
NoneGone old new = (q : Name) → is_some (piece_at old q) ≡ true → is_some (piece_at new q) ≡ true

not-gone : (a b : Bool) → (a ≡ true → b ≡ true) → (a && not b) ≡ false
not-gone false b stays = refl
not-gone true true stays = refl
not-gone true false stays = let no : false ≡ true = stays refl in cc

-- the claims on what is gone end by that answer
abbrev pub EndsGone : Given → Type 0
EndsGone found = (old new : Board) (q : Name) → ended_by found old new q ≡ is_gone old new q

-- so it is where an answer is local, and where it waits
pub local-gone : (found : Given) → found ≡ given.Local → EndsGone found
local-gone found is old new q = ap (λ f. ended_by f old new q) is

pub waiting-gone : (found : Given) (on : WaitOn) → found ≡ given.Waiting on → EndsGone found
waiting-gone found on is old new q = ap (λ f. ended_by f old new q) is

-- where none is gone, the claims on the one end
pub one-ends : (found : Given) → EndsGone found → (task : Name) (old new : Shared) → NoneGone old.board new.board → ClaimsEnd (λ q. same_name q task) old new → ClaimsEnd (gone_with found old.board new.board task) old new
one-ends found gone task old new none ends going ticket = ends going ticket ∙ on (claimed old ticket)
  where
    or-false : (a b : Bool) → b ≡ false → a ≡ (a || b)
    or-false true b e = refl
    or-false false b e = sym e

    on : (o : Option Name) → but_gone (λ q. same_name q task) o ≡ but_gone (gone_with found old.board new.board task) o
    on None = refl
    on (Some q) = ap (λ c. cond c None (Some q)) (or-false (same_name q task) (ended_by found old.board new.board q) (gone old.board new.board q ∙ not-gone (is_some (piece_at old.board q)) (is_some (piece_at new.board q)) (none q)))

-- a piece beside one that is marked is there still
beside-there : (name : Name) (m : Mark) (found : Option Piece) → is_some found ≡ true → is_some (beside name m found) ≡ true
beside-there name m None some = cc
beside-there name m (Some p) some = on (says_finished m)
  where
    on : (c : Bool) → is_some (cond c (Some (woken name p)) (Some p)) ≡ true
    on true = refl
    on false = refl

apart : (q u : Name) → same_name q u ≡ false → q ≡ u → ⊥
apart q u e same = let no : true ≡ false = sym (same_name-itself u) ∙ ap (λ n. same_name n u) (sym same) ∙ e in cc

pub set-keeps : (name : Name) (p : Piece) (m : Mark) (old new : Board) → IsSet name p m old new → NoneGone old new
set-keeps name p m old new set q some = on (same_name q name) refl
  where
    on : (c : Bool) → same_name q name ≡ c → is_some (piece_at new q) ≡ true
    on true e = ap (λ n. is_some (piece_at new n)) (same_name-equal q name e) ∙ ap is_some set.here
    on false e = ap is_some (set.others q (apart q name e)) ∙ beside-there name m (piece_at old q) some

pub put-keeps : (name : Name) (p : Piece) (old new : Board) → IsPutAt name (Some p) old new → NoneGone old new
put-keeps name p old new put q some = on (same_name q name) refl
  where
    on : (c : Bool) → same_name q name ≡ c → is_some (piece_at new q) ≡ true
    on true e = ap (λ n. is_some (piece_at new n)) (same_name-equal q name e) ∙ ap is_some put.here
    on false e = ap is_some (put.others q (apart q name e)) ∙ some

-- the claims of a task that was marked
pub marked-ends : (found : Given) → EndsGone found → (task : Name) (old new : Shared) → new.end ≡ old.end → NoneGone old.board new.board → IsUnlent task old.board new.board → ClaimsEnd (gone_with found old.board new.board task) old new
marked-ends found gone task old new same none unlent = one-ends found gone task old new none (claims-end task old new same unlent)

-- what a claim lends while no end is set
claimed-going : (s : Shared) (ticket : Ticket) → is_going s.end ≡ true → claimed s ticket ≡ lent_to s.board ticket
claimed-going s ticket going = ap (λ g. if g then lent_to s.board ticket else None) going

-- what stood there stands there now where it did in between
abbrev pub StaysThere : Board → Board → Board → Type 0
StaysThere old mid new = (q : Name) → is_some (piece_at old q) ≡ true → is_some (piece_at new q) ≡ is_some (piece_at mid q)

pub stays-itself : (old new : Board) → StaysThere old new new
stays-itself old new q some = refl

-- so it does where actors have acted, and turns are definite
pub acts-stay : (effects : List Effect) (u : Name) (tree : Attempt) (old new : Shared) (board : Board) → ActorsAct effects u tree old board new → StaysThere old.board board new.board
acts-stay effects u tree old new board acts q some =
    ap is_some (acts.pieces q) ∙ on (spawned effects q) (kept_to old u tree q) refl (definite_if (turns_on old tree.root q) lent (piece_at board q)) ∙ definite-there (turns_on old tree.root q) (piece_at board q)
  where
    lent : Bool
    lent = is_some (lent_at old.board q)

    definite-there : (so : Bool) (found : Option Piece) → is_some (definite_if so lent found) ≡ is_some found
    definite-there false found = refl
    definite-there true None = refl
    definite-there true (Some p) = refl

    roused-there : (begun : Bool) (found : Option Piece) → is_some (roused_unless begun found) ≡ is_some found
    roused-there true found = refl
    roused-there false None = refl
    roused-there false (Some p) = refl

    on : (made : Option ActorState) (last : List Message) → spawned effects q ≡ made → (found : Option Piece) → is_some (acted (is_some (named q old.taken)) made last (mail_at new.mails q) found) ≡ is_some found
    on (Some state) last is found = let no : false ≡ true = sym (ap is_some (acts.none q state is)) ∙ some in cc
    on None [] is found = refl
    on None (m ∷ ms) is found = roused-there (is_some (named q old.taken)) found

-- what is gone was gone in between
gone-stays : (old mid new : Board) → StaysThere old mid new → (q : Name) → is_gone old mid q ≡ is_gone old new q
gone-stays old mid new stays q = on (is_some (piece_at old q)) refl
  where
    on : (c : Bool) → is_some (piece_at old q) ≡ c → (c && not (is_some (piece_at mid q))) ≡ (c && not (is_some (piece_at new q)))
    on true is = ap not (sym (stays q is))
    on false is = refl

-- an attempt that goes ends the claims on what is gone
pub goes-end : (old new : Shared) (board : Board) (owner : Name) (y : Unit) (tree : Attempt) → new.end ≡ old.end → IsFree old.board owner → AttemptGoes old owner y tree (record new { board = board }) → StaysThere old.board board new.board
    → ClaimsEnd (piece_or_task old.board owner tree) old new → GoneEnd old new
goes-end old new board owner y tree same free goes stays ends going ticket = ends going ticket ∙ on (claimed old ticket) refl
  where
    old_going : is_going old.end ≡ true
    old_going = sym (ap is_going same) ∙ going

    by : (b : Bool) (p q' : Option Piece) → q' ≡ cond b (task_gone p) p → (b && is_task p) ≡ (is_some p && not (is_some q'))
    by false None q' e = refl
    by false (Some p) q' e = sym (ap (λ k. true && not (is_some k)) e)
    by true None q' e = refl
    by true (Some (piece.Unit x)) q' e = sym (ap (λ k. true && not (is_some k)) e)
    by true (Some (piece.Task m)) q' e = sym (ap (λ k. true && not (is_some k)) e)
    by true (Some (piece.Actor a)) q' e = sym (ap (λ k. true && not (is_some k)) e)

    at : (q : Name) (c : Bool) → same_name q owner ≡ c → claimed old ticket ≡ Some q → cond (c || (is_some (named q tree.tasks) && is_task (piece_at old.board q))) None (Some q) ≡ cond (is_gone old.board new.board q) None (Some q)
    at q true e is = absurd (free ticket (sym (claimed-going old ticket old_going) ∙ is ∙ ap Some (same_name-equal q owner e)))
    at q false e is =
        ap (λ c. cond c None (Some q)) (by (is_some (named q tree.tasks)) (piece_at old.board q) (piece_at board q) (goes.tasks.others q (apart q owner e)) ∙ gone-stays old.board board new.board stays q)

    on : (found : Option Name) → claimed old ticket ≡ found → but_gone (piece_or_task old.board owner tree) found ≡ but_gone (is_gone old.board new.board) found
    on None is = refl
    on (Some q) is = at q (same_name q owner) refl is

-- a task of an attempt that goes is gone
task-goes : (old new : Shared) (owner task : Name) (y : Unit) (tree : Attempt) → IsTaskIn old owner task tree → AttemptGoes old owner y tree new → is_gone old.board new.board task ≡ true
task-goes old new owner task y tree is goes = ap (λ p. is_some p && not (is_some (piece_at new.board task))) is.there ∙ ap (λ p. not (is_some p)) gone
  where
    not_owner : task ≡ owner → ⊥
    not_owner same = let no : Some (piece.Task is.mark) ≡ Some (piece.Unit is.unit) = sym is.there ∙ ap (piece_at old.board) same ∙ unit-piece old.board owner is.unit is.unit_there in cc

    gone : piece_at new.board task ≡ None
    gone = goes.tasks.others task not_owner ∙ ap (λ c. cond c (task_gone (piece_at old.board task)) (piece_at old.board task)) is.among ∙ ap task_gone is.there

-- where the claim on the task ends by an answer, the claims that end by it are all
pub all-end : (found : Given) (old new : Shared) (task : Name) → (is_going new.end ≡ true → ended_by found old.board new.board task ≡ true) → FoundEnd found old new → ClaimsEnd (gone_with found old.board new.board task) old new
all-end found old new task here ends going ticket = ends going ticket ∙ on (claimed old ticket)
  where
    at : (q : Name) (c : Bool) → same_name q task ≡ c → ended_by found old.board new.board q ≡ (c || ended_by found old.board new.board q)
    at q true e = ap (ended_by found old.board new.board) (same_name-equal q task e) ∙ here going
    at q false e = refl

    on : (o : Option Name) → but_gone (ended_by found old.board new.board) o ≡ but_gone (gone_with found old.board new.board task) o
    on None = refl
    on (Some q) = ap (λ c. cond c None (Some q)) (at q (same_name q task) refl)

-- a task of an attempt that is undone is gone
undone-idle : (old new : Shared) (owner task : Name) (x : Unit) (tree : Attempt) → IsTaskIn old owner task tree → Undoes old owner x tree new → is_idle new.board task ≡ true
undone-idle old new owner task x tree is undoes = ap (λ p. not (marks_ready p)) gone
  where
    not_owner : task ≡ owner → ⊥
    not_owner same = let no : Some (piece.Task is.mark) ≡ Some (piece.Unit is.unit) = sym is.there ∙ ap (piece_at old.board) same ∙ unit-piece old.board owner is.unit is.unit_there in cc

    with : tree_with old task ≡ Some tree
    with = ap (option_and_then (λ u. named u old.attempts)) is.of ∙ is.attempt

    gone : piece_at new.board task ≡ None
    gone = undoes.pieces.others task not_owner ∙ ap (piece_left old undoes.gone new task) is.there ∙ ap (λ t. cond (root_gone undoes.gone t) None (Some (piece.Task is.mark))) with
        ∙ ap (λ c. cond c None (Some (piece.Task is.mark))) (undoes.are.all tree.root (itself refl))

-- the claims end of a task whose attempt was undone
pub undone-ends : (old new : Shared) (owner task ref : Name) (version : ℕ) (x : Unit) (tree : Attempt) (found : Given) → IsTaskIn old owner task tree → Aborts old owner x tree ref version found new → FoundEnd found old new
    → ClaimsEnd (gone_with found old.board new.board task) old new
undone-ends old new owner task ref version x tree found is row ends = all-end found old new task (λ going. ap (λ f. ended_by f old.board new.board task) row.found_is ∙ undone-idle old new owner task x tree is row.undoes) ends

-- and of a task whose attempt was decided on
pub decided-ends : (old new : Shared) (owner task : Name) (x : Unit) (tree : Attempt) (ended : TaskEnd) (found : Given) → named owner old.aheads ≡ None → IsTaskIn old owner task tree → RootGives old owner x task tree ended found new → FoundEnd found old new
    → ClaimsEnd (gone_with found old.board new.board task) old new
decided-ends old new owner task x tree ended found level is (waits row) ends = let no : None ≡ Some row.ahead = sym level ∙ row.leads in cc
decided-ends old new owner task x tree ended found level is (conflicts so row) ends = undone-ends old new owner task row.ref row.conflict.version x tree found is row.aborts ends
decided-ends old new owner task x tree ended found level is (valid so all row) ends = all-end found old new task (by ended row) ends
  where
    by : (e : TaskEnd) → EndGives old owner x tree e found new → is_going new.end ≡ true → ended_by found old.board new.board task ≡ true
    by (end.Value v) row going =
        ap (λ f. ended_by f old.board new.board task) row.found_is ∙ sym (gone-stays old.board row.board new.board (acts-stay row.log.log.effects owner tree old new row.board row.acts) task)
        ∙ task-goes old (record new { board = row.board }) owner task row.unit tree is row.goes
    by (end.Fault code at) row going = let no : false ≡ true = sym (ap (λ (s : Shared). is_going s.end) row.others) ∙ going in cc
    by end.Spent row going = let no : false ≡ true = sym (ap (λ (s : Shared). is_going s.end) row.others) ∙ going in cc
