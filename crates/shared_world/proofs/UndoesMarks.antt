-- How the marks stay right where an attempt is undone with all that hangs on it.
use Rattle.std.proofs.Common.{◌≡◌, ◌∙◌, ◌⊎◌, Bool, true, false, cond, inl, inr, refl, sym, ap, subst}
use Rattle.std.specs.Option.{option_and_then}
use Rattle.std.specs.Prelude.{Option, None, Some}
use Rattle.actor_mailbox.specs.Messages.{depends_on}
use Rattle.actor_mails.specs.Mails.{mail_at}
use Rattle.shared_world.proofs.Live.{unit-piece}
use Rattle.shared_world.proofs.ActorPieces.{not-same}
use Rattle.shared_world.proofs.Marks.{ActorsAreMarked, IsStill, SameRoot, come-again, root-again, still-ahead, task-again, unit-again}
use Rattle.shared_world.proofs.Takings.{begun-turn, one-is}
use Rattle.shared_world.proofs.Undoes.{ahead-left, goes, over, root-goes, tree-of-left, tree-stays, tree-was, unit-was, unit-without, true-not-false}
use Rattle.shared_world.specs.Ahead.{Ahead}
use Rattle.shared_world.specs.Laws.{IsTried}
use Rattle.shared_world.specs.Marks.{AreMarked, AreMarkedBeside, HasPiece, IsRunningAhead, IsTaskOf, IsTaskPiece, IsYetToStand, UnitSays}
use Rattle.shared_world.specs.rows.Actors.{actor_mark, has_turn}
use Rattle.shared_world.specs.rows.Leading.{can_settle, is_definite, is_settled, settles_next}
use Rattle.shared_world.specs.rows.Undoing.{Undoes, actor_now, message_left, piece_left, root_gone, tree_left}
use Rattle.shared_world.specs.Seen.{live_with}
use Rattle.shared_world.specs.Shared.{Shared, tree_with}
use Rattle.task_fork_join.specs.Attempt.{Attempt}
use Rattle.task_fork_join.specs.declared.task.Task.{Task}
use Rattle.unit_table.specs.Board.{piece_at, unit_at}
use Rattle.unit_table.specs.declared.mark.Mark.{Mark}
use Rattle.unit_table.specs.declared.piece.Actor.{Actor}
use Rattle.unit_table.specs.declared.piece.Piece.{Piece}
use Rattle.unit_table.specs.declared.piece.Piece.TheVariants as piece
use Rattle.unit_table.specs.declared.unit.Unit.{Unit as Doing}
use Rattle.unit_table.specs.Piece.{unit_in}
use Rattle.value_core.proofs.NamedLaws.{same_name-equal}
use Rattle.value_core.specs.Named.{Name, named, same_name}
use Rattle.world_model.specs.StandsFor.{IsBegunTurn}

-- ---- what was there of a task or an actor that is left
module _ (old new : Shared) (gone : Name → Bool) where
  task-was : (n : Name) (found : Option Piece) (m : Mark) → piece_left old gone new n found ≡ Some (piece.Task m) → (found ≡ Some (piece.Task m)) × (root_gone gone (tree_with old n) ≡ false)
  task-was n None m e = cc
  task-was n (Some (piece.Unit k)) m e = on (gone n) e
    where
      on : (c : Bool) → cond c None (Some (piece.Unit k)) ≡ Some (piece.Task m) → (Some (piece.Unit k) ≡ Some (piece.Task m)) × (root_gone gone (tree_with old n) ≡ false)
      on true e = cc
      on false e = cc
  task-was n (Some (piece.Task k)) m e = on (root_gone gone (tree_with old n)) refl e
    where
      on : (c : Bool) → root_gone gone (tree_with old n) ≡ c → cond c None (Some (piece.Task k)) ≡ Some (piece.Task m) → (Some (piece.Task k) ≡ Some (piece.Task m)) × (root_gone gone (tree_with old n) ≡ false)
      on true left e = cc
      on false left e = (e, left)
  task-was n (Some (piece.Actor a)) m e = cc

  actor-was : (n : Name) (found : Option Piece) (z : Actor) → piece_left old gone new n found ≡ Some (piece.Actor z) → (y : Actor) × (z ≡ actor_now new n y)
  actor-was n None z e = cc
  actor-was n (Some (piece.Unit k)) z e = on (gone n) e
    where
      on : (c : Bool) → cond c None (Some (piece.Unit k)) ≡ Some (piece.Actor z) → (y : Actor) × (z ≡ actor_now new n y)
      on true e = cc
      on false e = cc
  actor-was n (Some (piece.Task k)) z e = on (root_gone gone (tree_with old n)) e
    where
      on : (c : Bool) → cond c None (Some (piece.Task k)) ≡ Some (piece.Actor z) → (y : Actor) × (z ≡ actor_now new n y)
      on true e = cc
      on false e = cc
  actor-was n (Some (piece.Actor y)) z e = let same : actor_now new n y ≡ z = cc in (y, sym same)

module _ (old new : Shared) (u : Name) (x : Doing) (tree : Attempt) (is : IsTried old u x tree) (marked : AreMarkedBeside old u) (r : Undoes old u x tree new) where
  abbrev gone : Name → Bool
  gone = r.gone

  owners : (n : Name) → named n new.owners ≡ named n old.owners
  owners n = ap (λ (s : Shared). named n s.owners) r.others

  -- an attempt that is not gone is there still
  tree-left : (v : Name) (t : Attempt) → named v old.attempts ≡ Some t → gone t.root ≡ false → named v new.attempts ≡ Some t
  tree-left v t there left = r.attempts v ∙ ap (tree_left gone) there ∙ ap (λ c. cond c None (Some t)) left

  -- the unit is no task and no actor
  no-task : (n : Name) (m : Mark) → piece_at new.board n ≡ Some (piece.Task m) → n ≡ u → ⊥
  no-task n m at same = let no : Some (piece.Unit r.pieces.unit) ≡ Some (piece.Task m) = sym r.pieces.here ∙ ap (piece_at new.board) (sym same) ∙ at in cc

  no-actor : (n : Name) (z : Actor) → piece_at new.board n ≡ Some (piece.Actor z) → n ≡ u → ⊥
  no-actor n z at same = let no : Some (piece.Unit r.pieces.unit) ≡ Some (piece.Actor z) = sym r.pieces.here ∙ ap (piece_at new.board) (sym same) ∙ at in cc

  -- ---- units
  -- what a turn took that is left is left
  takes-left : (v a : Name) (h : Ahead) → gone v ≡ false → named v old.aheads ≡ Some h → h.takes ≡ Some a → named a new.taken ≡ named a old.taken
  takes-left v a h left leads takes = r.taken a ∙ ap (message_left gone) there ∙ ap (λ c. cond c None (Some turn.message)) stays ∙ sym there
    where
      turn : IsBegunTurn old.setup is.stands.world.actors is.stands.world.taken v (live_with (Some h) (is.stands.aheads v h leads).unit) a
      turn = begun-turn old is.stands v a h leads takes

      there : named a old.taken ≡ Some turn.message
      there = one-is (named a old.taken) turn.message (sym (is.stands.seen.taken a) ∙ turn.took)

      stays : depends_on gone turn.message ≡ false
      stays = (goes old new u x tree is r).turns a turn.actor turn.message turn.there turn.took ∙ ap gone (sym turn.called) ∙ left

  settles-left : (v : Name) → gone v ≡ false → can_settle new v ≡ can_settle old v
  settles-left v left = ap (settles_next new.taken) (ahead-left old new u x tree is r v left) ∙ on (named v old.aheads) refl
    where
      on : (found : Option Ahead) → named v old.aheads ≡ found → settles_next new.taken found ≡ settles_next old.taken found
      on None e = refl
      on (Some h) e = by h.takes refl
        where
          by : (takes : Option Name) → h.takes ≡ takes → is_definite new.taken takes ≡ is_definite old.taken takes
          by None takes = refl
          by (Some a) takes = ap is_settled (takes-left v a h left e takes)

  still : (v : Name) → (v ≡ u → ⊥) → gone v ≡ false → IsStill old new v
  still v other left = record {
    root = on (named v old.attempts) refl;
    ahead = ahead-left old new u x tree is r v left;
    settles = settles-left v left;
  }
    where
      on : (found : Option Attempt) → named v old.attempts ≡ found → SameRoot found (named v new.attempts)
      on None e = subst (λ o. SameRoot None o) (sym (r.attempts v ∙ ap (tree_left gone) e)) tt
      on (Some t) e = subst (λ o. SameRoot (Some t) o) (sym (tree-left v t e (tree-stays old new u x tree is r v t other left e))) refl

  units : (v : Name) (z : Doing) (c : Bool) → same_name v u ≡ c → unit_at new.board v ≡ Some z → UnitSays new v z z.mark
  units v z true e at =
      let both : Some r.pieces.unit ≡ Some z = sym (ap (unit_at new.board) (same_name-equal v u e) ∙ ap (option_and_then unit_in) r.pieces.here) ∙ at in
      let same : r.pieces.unit ≡ z = cc in
      subst (λ m. UnitSays new v z m) (sym (ap (λ (k : Doing). k.mark) (sym same) ∙ r.pieces.stands.mark)) (inl (ap (λ n. named n new.attempts) (same_name-equal v u e) ∙ unit-without old new u x tree is r))
  units v z false e at =
      let was = unit-was old new u x tree is r v z (not-same v u e) at in
      unit-again old new v z z.mark (ap (λ (s : Shared). s.setup) r.others) (still v (not-same v u e) was.0) (λ f waits. over old new u x tree is r f) (marked.units v z was.1)

  -- ---- tasks
  tasks : (n : Name) (m : Mark) → piece_at new.board n ≡ Some (piece.Task m) → IsTaskPiece new n m
  tasks n m at = by (marked.tasks n m was.0)
    where
      was : (piece_at old.board n ≡ Some (piece.Task m)) × (root_gone gone (tree_with old n) ≡ false)
      was = task-was old new gone n (piece_at old.board n) m (sym (r.pieces.others n (no-task n m at)) ∙ at)

      -- the root of its attempt is not gone
      root-left : (v : Name) (t : Attempt) → named n old.owners ≡ Some v → named v old.attempts ≡ Some t → gone t.root ≡ false
      root-left v t of there = sym (ap (root_gone gone) (ap (option_and_then (λ k. named k old.attempts)) of ∙ there)) ∙ was.1

      by : (IsTaskOf old u n) ⊎ (IsTaskPiece old n m) → IsTaskPiece new n m
      by (inl task) = absurd (true-not-false (gone tree.root) (root-goes old new u x tree is r) (root-left u tree task.of is.attempt))
      by (inr before) = record {
        owner = before.owner;
        of = owners n ∙ before.of;
        tree = before.tree;
        attempt = tree-left before.owner before.tree before.attempt left;
        task = before.task;
        among = before.among;
        hangs = before.hangs;
        says = λ unended. task-again old new (ap (λ (s : Shared). s.setup) r.others) before.owner before.tree.tasks before.tree.tasks before.task m (λ waits. leads)
            (λ f waits. come-again old.board new.board before.tree.tasks before.task f (over old new u x tree is r f)) (before.says unended);
        decides = λ ended e root. root-again old new before.owner m before.hangs (λ waits. leads) (before.decides ended e root);
      }
        where
          left : gone before.tree.root ≡ false
          left = root-left before.owner before.tree before.of before.attempt

          leads : IsRunningAhead old before.owner → IsRunningAhead new before.owner
          leads = still-ahead old new before.owner (ahead-left old new u x tree is r before.owner (tree-of-left old new u x tree is r before.owner before.tree before.attempt left))

  -- ---- actors
  actors : ActorsAreMarked new
  actors a z at =
      let was = actor-was old new gone a (piece_at old.board a) z (sym (r.pieces.others a (no-actor a z at)) ∙ at) in
      ap (λ (k : Actor). k.mark) was.1 ∙ sym (ap (λ (k : Actor). actor_mark (has_turn new.taken a k.state) (mail_at new.mails a)) was.1)

  -- ---- the tasks of the attempts that are left are pieces
  pieces : (v : Name) (t : Attempt) → named v new.attempts ≡ Some t → (n : Name) (k : Task) → named n t.tasks ≡ Some k → HasPiece new v n
  pieces v t at n k among = by (marked.pieces v t was.1 n k among)
    where
      was : (gone t.root ≡ false) × (named v old.attempts ≡ Some t)
      was = tree-was old new u x tree is r v t at

      by : (HasPiece old v n) ⊎ (IsYetToStand old u v n) → HasPiece new v n
      by (inr yet) = let no : None ≡ Some t = sym (unit-without old new u x tree is r) ∙ ap (λ q. named q new.attempts) (sym yet.own) ∙ at in cc
      by (inl has) = record { mark = has.mark; there = r.pieces.others n other ∙ ap (piece_left old gone new n) has.there ∙ ap (λ c. cond c None (Some (piece.Task has.mark))) stays; of = owners n ∙ has.of }
        where
          other : n ≡ u → ⊥
          other same = let no : Some (piece.Unit x) ≡ Some (piece.Task has.mark) = sym (unit-piece old.board u x is.there) ∙ ap (piece_at old.board) (sym same) ∙ has.there in cc

          stays : root_gone gone (tree_with old n) ≡ false
          stays = ap (root_gone gone) (ap (option_and_then (λ q. named q old.attempts)) has.of ∙ was.1) ∙ was.0

  pub undoes-marks : AreMarked new
  undoes-marks = record {
    units = λ v z at. units v z (same_name v u) refl at;
    tasks = tasks;
    actors = actors;
    pieces = pieces;
  }

-- where all marks are right they are so beside the attempt of a unit
pub marked-beside : (s : Shared) (u : Name) → AreMarked s → AreMarkedBeside s u
marked-beside s u all = record {
  units = all.units;
  tasks = λ n m there. inr (all.tasks n m there);
  actors = all.actors;
  pieces = λ v tree there n t among. inl (all.pieces v tree there n t among);
}
