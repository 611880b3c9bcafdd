-- What goes with an attempt and with a turn, step by step.
use Rattle.std.proofs.Common.{◌≡◌, ◌∙◌, ◌+◌, ◌<◌, ◌≤◌, ◌⊎◌, ℕ, Bool, true, false, cond, List, [], ◌∷◌, refl, sym, ap, ap₂, arith}
use Rattle.std.specs.Option.{option_and_then, IfSome}
use Rattle.std.specs.Prelude.{None, Option, Some, ◌&&◌, ◌||◌, is_some}
use Rattle.actor_mails.specs.Mails.{mail_at}
use Rattle.attempt_undoing.specs.Dropping.{IsUnitGone, task_gone_where, unit_gone}
use Rattle.attempt_undoing.specs.Hanging.{Sent}
use Rattle.attempt_undoing.specs.Sends.{ActorsMarked, SendsGone, marked_now}
use Rattle.attempt_undoing.specs.Turns.{TreeGone, TreeGoneOf, TriedGone, TurnGone}
use Rattle.serial_model.specs.declared.effect.Effect.{Effect}
use Rattle.shared_world.proofs.ActorPieces.{not-same}
use Rattle.shared_world.specs.Ahead.{Ahead}
use Rattle.shared_world.specs.rows.Actors.{actor_mark, has_turn}
use Rattle.shared_world.specs.Shared.{Shared}
use Rattle.task_fork_join.specs.Attempt.{Attempt}
use Rattle.task_fork_join.specs.declared.task.Task.{Task}
use Rattle.txn_snapshot.specs.SnapshotTask.{SnapshotTask}
use Rattle.unit_table.specs.Board.{Board, piece_at, unit_at}
use Rattle.unit_table.specs.declared.piece.Actor.{Actor}
use Rattle.unit_table.specs.declared.piece.Piece.{Piece}
use Rattle.unit_table.specs.declared.piece.Piece.TheVariants as piece
use Rattle.unit_table.specs.declared.unit.Unit.{Unit}
use Rattle.unit_table.specs.Piece.{unit_in}
use Rattle.value_core.proofs.NamedLaws.{same_name-equal}
use Rattle.value_core.specs.Named.{Name, Named, named, same_name}

-- ---- the actors that are there were there
-- nothing stands as an actor that did not, and what was taken and the mail are the same
pub record SameActors (old new : Shared) : Type 0 where
  pub pieces : (a : Name) (x : Actor) → piece_at new.board a ≡ Some (piece.Actor x) → piece_at old.board a ≡ Some (piece.Actor x)
  pub taken : new.taken ≡ old.taken
  pub mails : new.mails ≡ old.mails

pub marks-stay : (old new : Shared) → SameActors old new → ActorsMarked old → ActorsMarked new
marks-stay old new same right a x at =
    right a x (same.pieces a x at) ∙ ap₂ (λ messages mail. actor_mark (has_turn messages a x.state) (mail_at mail a)) (sym same.taken) (sym same.mails)

-- a task that goes was no actor
task-was : (c : Bool) (found : Option Piece) (x : Actor) → task_gone_where c found ≡ Some (piece.Actor x) → found ≡ Some (piece.Actor x)
task-was c None x e = e
task-was c (Some (piece.Unit y)) x e = e
task-was true (Some (piece.Task m)) x e = cc
task-was false (Some (piece.Task m)) x e = e
task-was c (Some (piece.Actor y)) x e = e

unit-was : (found : Option Piece) (x : Actor) → unit_gone found ≡ Some (piece.Actor x) → found ≡ Some (piece.Actor x)
unit-was None x e = e
unit-was (Some (piece.Unit y)) x e = cc
unit-was (Some (piece.Task m)) x e = e
unit-was (Some (piece.Actor y)) x e = e

-- the marks are right once the tasks of an attempt are gone
pub tasks-marked : (tree : Attempt) (mid new : Shared) → ((n : Name) → piece_at new.board n ≡ task_gone_where (is_some (named n tree.tasks)) (piece_at mid.board n)) → new.taken ≡ mid.taken → new.mails ≡ mid.mails
    → ActorsMarked mid → ActorsMarked new
tasks-marked tree mid new pieces taken mails right = marks-stay mid new (record {
  pieces = λ a x at. task-was (is_some (named a tree.tasks)) (piece_at mid.board a) x (sym (pieces a) ∙ at);
  taken = taken;
  mails = mails;
}) right

-- and once a unit is
pub unit-marked : (name : Name) (mid new : Shared) → IsUnitGone name mid.board new.board → new.taken ≡ mid.taken → new.mails ≡ mid.mails → ActorsMarked mid → ActorsMarked new
unit-marked name mid new gone taken mails right = marks-stay mid new (record { pieces = λ a x at. by a x at (same_name a name) refl; taken = taken; mails = mails }) right
  where
    by : (a : Name) (x : Actor) → piece_at new.board a ≡ Some (piece.Actor x) → (c : Bool) → same_name a name ≡ c → piece_at mid.board a ≡ Some (piece.Actor x)
    by a x at true e =
        let here : a ≡ name = same_name-equal a name e in
        unit-was (piece_at mid.board a) x (ap (λ n. unit_gone (piece_at mid.board n)) here ∙ sym gone.here ∙ ap (piece_at new.board) (sym here) ∙ at)
    by a x at false e = sym (gone.others a (not-same a name e)) ∙ at

-- ---- what the root of an attempt has done
pub done-of : (found : Option Task) (log : SnapshotTask) (effects : List Effect) → effects ≡ log.log.effects → IfSome found (λ t. log ≡ t.log) → IfSome found (λ t. effects ≡ t.log.log.effects)
done-of None log effects is of = of
done-of (Some t) log effects is of = is ∙ ap (λ (k : SnapshotTask). k.log.effects) of

-- ---- the units that are there were there
-- whether a unit stands under the name
abbrev pub has_unit : Board → Name → Bool
has_unit b n = is_some (unit_at b n)

-- no unit is new
abbrev pub NoNewUnit : Board → Board → Type 0
NoNewUnit old new = (n : Name) → has_unit new n ≡ true → has_unit old n ≡ true

marked-unit : (s : Shared) (n : Name) (found : Option Piece) → is_some (option_and_then unit_in (marked_now s n found)) ≡ true → is_some (option_and_then unit_in found) ≡ true
marked-unit s n None e = e
marked-unit s n (Some (piece.Unit x)) e = e
marked-unit s n (Some (piece.Task m)) e = e
marked-unit s n (Some (piece.Actor x)) e = e

tasks-unit : (c : Bool) (found : Option Piece) → is_some (option_and_then unit_in (task_gone_where c found)) ≡ true → is_some (option_and_then unit_in found) ≡ true
tasks-unit c None e = e
tasks-unit c (Some (piece.Unit x)) e = refl
tasks-unit true (Some (piece.Task m)) e = cc
tasks-unit false (Some (piece.Task m)) e = e
tasks-unit c (Some (piece.Actor x)) e = e

dropped-unit : (found : Option Piece) → is_some (option_and_then unit_in (unit_gone found)) ≡ false
dropped-unit None = refl
dropped-unit (Some (piece.Unit x)) = refl
dropped-unit (Some (piece.Task m)) = refl
dropped-unit (Some (piece.Actor x)) = refl

pub sends-units : (sends : List Sent) (old new : Shared) → SendsGone sends old new → NoNewUnit old.board new.board
sends-units sends old new gone n e = marked-unit new n (piece_at old.board n) (ap (λ f. is_some (option_and_then unit_in f)) (sym (gone.pieces n)) ∙ e)

pub tree-units : (tree : Attempt) (old new : Shared) → TreeGone tree old new → NoNewUnit old.board new.board
tree-units tree old new gone n e = sends-units _ old gone.mid gone.sends n
    (tasks-unit (is_some (named n tree.tasks)) (piece_at gone.mid.board n) (ap (λ f. is_some (option_and_then unit_in f)) (sym (gone.pieces n)) ∙ e))

pub tried-units : (unit : Name) (old new : Shared) → TriedGone unit old new → NoNewUnit old.board new.board
tried-units unit old new gone n e = by (named unit old.attempts) gone.tree
  where
    by : (found : Option Attempt) → TreeGoneOf found (record old { attempts = new.attempts }) new → has_unit old.board n ≡ true
    by None same = ap (λ (k : Shared). has_unit k.board n) (sym same) ∙ e
    by (Some tree) goes = tree-units tree (record old { attempts = new.attempts }) new goes n e

-- where a turn goes its unit is not there, and none is new
pub turn-units : (turn : Name) (h : Ahead) (old new : Shared) → TurnGone turn h old new → NoNewUnit old.board new.board × (has_unit new.board turn ≡ false)
turn-units turn h old new gone = (
  λ n e. sends-units _ old gone.held gone.sends n (tried-units turn gone.held gone.tried gone.attempt n (before n e (same_name n turn) refl)),
  ap (λ f. is_some (option_and_then unit_in f)) gone.unit.here ∙ dropped-unit (piece_at gone.tried.board turn),
)
  where
    before : (n : Name) → has_unit new.board n ≡ true → (c : Bool) → same_name n turn ≡ c → has_unit gone.tried.board n ≡ true
    before n e true is =
        let none : has_unit new.board n ≡ false = ap (has_unit new.board) (same_name-equal n turn is) ∙ ap (λ f. is_some (option_and_then unit_in f)) gone.unit.here ∙ dropped-unit (piece_at gone.tried.board turn) in
        let no : true ≡ false = sym e ∙ none in
        cc
    before n e false is = ap (λ f. is_some (option_and_then unit_in f)) (sym (gone.unit.others n (not-same n turn is))) ∙ e

-- ---- how many of the turns have their unit
abbrev pub count_one : Bool → ℕ
count_one true = 1
count_one false = 0

abbrev pub standing_count : {X : Type 0} → Board → Named X → ℕ
standing_count b [] = 0
standing_count b (e ∷ es) = count_one (has_unit b e.0) + standing_count b es

one-less : (a b : Bool) → (b ≡ true → a ≡ true) → count_one b ≤ count_one a
one-less true true imp = omega arith
one-less true false imp = omega arith
one-less false false imp = omega arith
one-less false true imp = let no : false ≡ true = imp refl in cc

pub none-more : {X : Type 0} (old new : Board) → NoNewUnit old new → (es : Named X) → standing_count new es ≤ standing_count old es
none-more old new less [] = omega arith
none-more old new less (e ∷ es) = let first = one-less (has_unit old e.0) (has_unit new e.0) (less e.0) in let rest = none-more old new less es in omega (arith, first, rest)

-- they are fewer where one of them is no more there
pub one-fewer : {X : Type 0} (old new : Board) → NoNewUnit old new → (q : Name) → has_unit old q ≡ true → has_unit new q ≡ false → (x : X) (es : Named X) → named q es ≡ Some x → standing_count new es < standing_count old es
one-fewer old new less q was now x [] is = cc
one-fewer {X} old new less q was now x (e ∷ es) is = by (same_name q e.0) refl is (λ found. one-fewer old new less q was now x es found)
  where
    by : (c : Bool) → same_name q e.0 ≡ c → cond c (Some e.1) (named q es) ≡ Some x → (named q es ≡ Some x → standing_count new es < standing_count old es)
        → count_one (has_unit new e.0) + standing_count new es < count_one (has_unit old e.0) + standing_count old es
    by true same found later =
        let at : q ≡ e.0 = same_name-equal q e.0 same in
        let before : count_one (has_unit old e.0) ≡ 1 = ap count_one (ap (has_unit old) (sym at) ∙ was) in
        let after : count_one (has_unit new e.0) ≡ 0 = ap count_one (ap (has_unit new) (sym at) ∙ now) in
        let rest = none-more old new less es in
        omega (arith, before, after, rest)
    by false same found later =
        let first = one-less (has_unit old e.0) (has_unit new e.0) (less e.0) in
        let rest = later found in
        omega (arith, first, rest)
