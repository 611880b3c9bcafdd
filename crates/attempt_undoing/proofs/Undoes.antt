-- What hangs on an attempt is gone, and nothing else.
use Rattle.std.proofs.Common.{◌≡◌, ◌∙◌, ◌⊎◌, Bool, true, false, cond, inl, inr, List, [], ◌∷◌, ◌++◌, refl, sym, ap, ap₂, subst}
use Rattle.std.specs.Option.{option_and_then, option_map}
use Rattle.std.specs.Prelude.{None, Option, Some, ◌||◌, is_some, not}
use Rattle.actor_mailbox.specs.declared.message.Message.{Message}
use Rattle.actor_mailbox.specs.Messages.{passes, without}
use Rattle.actor_mails.specs.Mails.{mail_at}
use Rattle.attempt_undoing.proofs.AllGone.{ahead-unit, are-gone, no-root, root-in, root-of-one, sent-found, took-by, turn-unit}
use Rattle.attempt_undoing.proofs.Lists.{or-left, or-one, or-right}
use Rattle.attempt_undoing.proofs.Unwinding.{IsUndoing, any-turned, left_by, task-in}
use Rattle.attempt_undoing.specs.Dropping.{has_task, is_task_in}
use Rattle.attempt_undoing.specs.Hanging.{Sent, goes_with, is_root_in, is_sent, IsAll}
use Rattle.attempt_undoing.specs.Sends.{marked_now}
use Rattle.attempt_undoing.specs.Turns.{StandingLeft}
use Rattle.attempt_undoing.specs.Undoing.{IsReadied}
use Rattle.attempts_gone.proofs.Dropped.{trying-unfinished}
use Rattle.serial_model.specs.State.{UnitState}
use Rattle.shared_world.proofs.Gone.{SeenAs, seen-as}
use Rattle.shared_world.proofs.Hangs.{IsSentBy, no-unit-at, same-unit, sent-by}
use Rattle.shared_world.proofs.Live.{unit-piece}
use Rattle.shared_world.proofs.Undoes.{never-true, true-not-false}
use Rattle.shared_world.specs.Ahead.{Ahead}
use Rattle.shared_world.specs.Dependence as kept
use Rattle.shared_world.specs.Dependence.{AreGone, DependsIn}
use Rattle.shared_world.specs.Marks.{AreMarkedBeside, HasPiece, IsTaskOf, IsTaskPiece, IsYetToStand}
use Rattle.shared_world.specs.rows.Actors.{actor_mark, has_turn}
use Rattle.shared_world.specs.rows.Attempts.{ArePrunedFor}
use Rattle.shared_world.specs.rows.Undoing.{Undoes, message_left, piece_left, root_gone, tree_left}
use Rattle.shared_world.specs.Seen.{live_with, one_or_none}
use Rattle.shared_world.specs.Shared.{Shared, is_going, tree_with, unit_state}
use Rattle.shared_world.specs.Stands.{Stands}
use Rattle.task_fork_join.specs.Attempt.{Attempt}
use Rattle.task_fork_join.specs.declared.task.Task.{Task}
use Rattle.unit_table.specs.Board.{mark_at, piece_at, unit_at}
use Rattle.unit_table.specs.declared.mark.Mark.{Mark}
use Rattle.unit_table.specs.declared.mark.Mark.TheVariants as mark
use Rattle.unit_table.specs.declared.mark.Work.TheVariants as work
use Rattle.unit_table.specs.declared.piece.Actor.{Actor}
use Rattle.unit_table.specs.declared.piece.Piece.{Piece}
use Rattle.unit_table.specs.declared.piece.Piece.TheVariants as piece
use Rattle.unit_table.specs.declared.unit.Unit.{Unit}
use Rattle.unit_table.specs.Piece.{mark_in, marked, unit_in}
use Rattle.value_core.proofs.NamedLaws.{same_name-itself}
use Rattle.value_core.specs.Named.{Name, Named, is_among, named, same_name}
use Rattle.world_model.proofs.lists.Lists.{Each, each-right}
use Rattle.world_model.proofs.records.Ranks.{unit-stays}
use Rattle.world_model.specs.Dependence as on_seen
use Rattle.world_model.specs.Dependence.{DependsOn}
use Rattle.world_model.specs.World.{LiveUnit, World}

same-tests : (a b : Bool) → (a ≡ true → b ≡ true) → (b ≡ true → a ≡ true) → a ≡ b
same-tests true b to back = sym (to refl)
same-tests false true to back = back refl
same-tests false false to back = refl

or-none : (c : Bool) → (c || false) ≡ c
or-none true = refl
or-none false = refl

-- ---- tasks that go
-- a task is among those of one of these units
pub record IsTaskOfOne (s : Shared) (n : Name) (units : List Name) : Type 0 where
  pub unit : Name
  pub one : is_among unit units ≡ true
  pub tree : Attempt
  pub there : named unit s.attempts ≡ Some tree
  pub task : Task
  pub among : named n tree.tasks ≡ Some task

has-it : (n : Name) (found : Option Attempt) → has_task n found ≡ true → (t : Attempt) × (k : Task) × (found ≡ Some t) × (named n t.tasks ≡ Some k)
has-it n None e = cc
has-it n (Some t) e = by (named n t.tasks) refl e
  where
    by : (o : Option Task) → named n t.tasks ≡ o → is_some o ≡ true → (r : Attempt) × (k : Task) × (Some t ≡ Some r) × (named n r.tasks ≡ Some k)
    by None is e = cc
    by (Some k) is e = (t, k, refl, is)

pub task-of-one : (s : Shared) (n : Name) (units : List Name) → is_task_in s.attempts n units ≡ true → IsTaskOfOne s n units
task-of-one s n [] is = cc
task-of-one s n (v ∷ vs) is = by (or-one (has_task n (named v s.attempts)) (is_task_in s.attempts n vs) is) (task-of-one s n vs)
  where
    by : (has_task n (named v s.attempts) ≡ true) ⊎ (is_task_in s.attempts n vs ≡ true) → (is_task_in s.attempts n vs ≡ true → IsTaskOfOne s n vs) → IsTaskOfOne s n (v ∷ vs)
    by (inl first) rest = let h = has-it n (named v s.attempts) first in record { unit = v; one = or-left (same_name v v) (is_among v vs) (same_name-itself v); tree = h.0; there = h.2; task = h.1; among = h.3 }
    by (inr later) rest = let o = rest later in record { unit = o.unit; one = or-right (same_name o.unit v) (is_among o.unit vs) o.one; tree = o.tree; there = o.there; task = o.task; among = o.among }

module _ (s : Shared) (st : Stands s) (on_going : s.end ≡ None) (u : Name) (x : Unit) (tree : Attempt) (at_u : unit_at s.board u ≡ Some x) (own : named u s.attempts ≡ Some tree) (turns : List Name) (sends : List Sent) (all : IsAll s u tree.root turns sends) where
  going : is_going s.end ≡ true
  going = ap is_going on_going

  abbrev w : World
  w = st.world

  abbrev goes : Name → Bool
  goes = goes_with s u turns

  are : AreGone s tree.root goes
  are = are-gone s st going u tree own turns sends all

  seen : SeenAs s w u tree
  seen = seen-as s st going u tree own

  in-seen : (n : Name) → DependsIn s tree.root n → DependsOn w seen.tried.root n
  in-seen n (kept.itself same) = on_seen.itself (same ∙ sym seen.is.root)
  in-seen n (kept.turn a actor m o there took depends called rest) = on_seen.turn a actor m o (st.seen.actors a ∙ there) (st.seen.taken a ∙ ap one_or_none took) depends called (in-seen o rest)
  in-seen n (kept.attempt v t there called rest) = let k = seen-as s st going v t there in on_seen.attempt v k.tried k.there (called ∙ sym k.is.root) (in-seen v rest)

  unit-left : goes u ≡ false
  unit-left = never-true (goes u) (λ e. unit-stays w st.is_world.ranks u seen.tried seen.there (in-seen u (are.only u e)))

  no-turn : is_among u turns ≡ false
  no-turn = never-true (is_among u turns) (λ e. true-not-false (goes u) (or-left (is_among u turns) (is_root_in s u (u ∷ turns)) e) unit-left)

  -- a unit goes where it is one of the turns
  unit-goes : (n : Name) (k : LiveUnit) → w.units n ≡ Some k → goes n ≡ is_among n turns
  unit-goes n k there = ap (λ c. is_among n turns || c) (never-true (is_root_in s n (u ∷ turns)) none) ∙ or-none (is_among n turns)
    where
      none : is_root_in s n (u ∷ turns) ≡ true → ⊥
      none e = let o = root-of-one s n (u ∷ turns) e in no-root s st going u tree own turns sends all n k there o.unit o.tree o.there o.root

  -- and a root where it is that of one of them, or of this unit
  root-goes : (v : Name) (t : Attempt) → named v s.attempts ≡ Some t → goes t.root ≡ is_among v (u ∷ turns)
  root-goes v t there = same-tests (goes t.root) (is_among v (u ∷ turns)) (λ e. to (or-one (is_among t.root turns) (is_root_in s t.root (u ∷ turns)) e))
      (λ e. or-right (is_among t.root turns) (is_root_in s t.root (u ∷ turns)) (root-in s v t (u ∷ turns) e there))
    where
      to : (is_among t.root turns ≡ true) ⊎ (is_root_in s t.root (u ∷ turns) ≡ true) → is_among v (u ∷ turns) ≡ true
      to (inl turn) = absurd (turn-unit s st going u tree own turns sends all t.root turn (no-unit-at s st going v t there))
      to (inr root) =
          let o = root-of-one s t.root (u ∷ turns) root in
          let mine = seen-as s st going v t there in
          let its = seen-as s st going o.unit o.tree o.there in
          subst (λ q. is_among q (u ∷ turns) ≡ true) (same-unit s st o.unit v its.tried mine.tried its.there mine.there (its.is.root ∙ sym o.root ∙ sym mine.is.root)) o.one

  -- what depends on a name was sent under it, and so goes where that does
  sent-goes : (a on : Name) → IsSentBy s on a → is_sent sends a on ≡ goes on
  sent-goes a on by = same-tests (is_sent sends a on) (goes on) (λ e. are.all on (all.found.sends_hang a on e)) (λ e. sent-found s st going u tree own turns sends all a on e by)

  mail-goes : (a : Name) (ms : List Message) → Each (λ (m : Message). (on : Name) → m.depends ≡ Some on → IsSentBy s on a) ms → without (is_sent sends a) ms ≡ without goes ms
  mail-goes a [] each = refl
  mail-goes a (m ∷ ms) each = ap₂ (λ c l. cond (not c) (m ∷ l) l) (same m.depends refl) (mail-goes a ms each.1)
    where
      same : (depends : Option Name) → m.depends ≡ depends → passes (is_sent sends a) depends ≡ passes goes depends
      same None e = refl
      same (Some on) e = sent-goes a on (each.0 on e)

  all-mail : (a : Name) → without (is_sent sends a) (mail_at s.mails a) ≡ without goes (mail_at s.mails a)
  all-mail a = mail-goes a (mail_at s.mails a)
      (subst (Each (λ (m : Message). (on : Name) → m.depends ≡ Some on → IsSentBy s on a)) (st.seen.mails a) (each-right (λ (m : Message). (on : Name) → m.depends ≡ Some on → IsSentBy s on a) (w.taken a) (w.mails a) (sent-by s st going a)))

  taken-goes : (a : Name) (found : Option Message) → named a s.taken ≡ found → message_left (is_sent sends a) found ≡ message_left goes found
  taken-goes a None e = refl
  taken-goes a (Some m) e = ap (λ c. cond c None (Some m)) (same m.depends refl)
    where
      same : (depends : Option Name) → m.depends ≡ depends → passes (is_sent sends a) depends ≡ passes goes depends
      same None f = refl
      same (Some on) f = sent-goes a on (took-by s st going u tree own turns sends all a m e on f)

  -- ---- what is left
  module _ (last : Shared) (way : IsUndoing s (turns ++ u ∷ []) turns sends last) where
    pub unit-last : piece_at last.board u ≡ Some (piece.Unit x)
    unit-last = way.pieces u ∙ ap (λ p. marked_now last u (left_by s.attempts (turns ++ u ∷ []) turns u p)) (unit-piece s.board u x at_u) ∙ ap (λ c. marked_now last u (cond c None (Some (piece.Unit x)))) no-turn

    -- the attempts that are left
    attempts-left : (v : Name) → named v last.attempts ≡ tree_left goes (named v s.attempts)
    attempts-left v = way.attempts v ∙ ap (λ c. cond c None (named v s.attempts)) (any-turned (same_name v) turns u) ∙ by (named v s.attempts) refl
      where
        none : (c : Bool) (found : Option Attempt) → found ≡ None → cond c None found ≡ tree_left goes found
        none true found e = sym (ap (tree_left goes) e)
        none false found e = e ∙ sym (ap (tree_left goes) e)

        by : (found : Option Attempt) → named v s.attempts ≡ found → cond (is_among v (u ∷ turns)) None found ≡ tree_left goes found
        by None e = none (is_among v (u ∷ turns)) None refl
        by (Some t) e = ap (λ c. cond c None (Some t)) (sym (root-goes v t e))

    -- the units that run ahead stand unless they are among the turns
    unit-stands : (v : Name) (y : Unit) → unit_at s.board v ≡ Some y → is_some (unit_at last.board v) ≡ not (is_among v turns)
    unit-stands v y at =
        ap (λ f. is_some (option_and_then unit_in f)) (way.pieces v ∙ ap (λ p. marked_now last v (left_by s.attempts (turns ++ u ∷ []) turns v p)) (unit-piece s.board v y at)) ∙ on (is_among v turns)
      where
        on : (c : Bool) → is_some (option_and_then unit_in (marked_now last v (cond c None (Some (piece.Unit y))))) ≡ not c
        on true = refl
        on false = refl

    -- the turns that run ahead still
    aheads-left : (aheads : Named Ahead) → StandingLeft last.board s.aheads aheads → (v : Name) → named v aheads ≡ cond (goes v) None (named v s.aheads)
    aheads-left aheads standing v = standing v ∙ by (named v s.aheads) refl
      where
        none : (c d : Bool) (found : Option Ahead) → found ≡ None → cond c found None ≡ cond d None found
        none true true found e = e
        none true false found e = refl
        none false true found e = refl
        none false false found e = sym e

        turned : (c : Bool) (h : Ahead) → cond (not c) (Some h) None ≡ cond c None (Some h)
        turned true h = refl
        turned false h = refl

        by : (found : Option Ahead) → named v s.aheads ≡ found → cond (is_some (unit_at last.board v)) found None ≡ cond (goes v) None found
        by None e = none (is_some (unit_at last.board v)) (goes v) None refl
        by (Some h) e =
            let a = st.aheads v h e in
            let k = ahead-unit s st going u tree own turns sends all v h e in
            there (unit_at s.board v) refl a.there ∙ turned (is_among v turns) h ∙ ap (λ c. cond c None (Some h)) (sym (unit-goes v k.0 k.1))
          where
            there : (y : Option Unit) → unit_at s.board v ≡ y → {k : UnitState} → option_map unit_state y ≡ Some k → cond (is_some (unit_at last.board v)) (Some h) None ≡ cond (not (is_among v turns)) (Some h) None
            there None at is = cc
            there (Some y) at is = ap (λ c. cond c (Some h) None) (unit-stands v y at)

    -- ---- the pieces that are left
    module _ (marks : AreMarkedBeside s u) where
      owner-of : (v n : Name) (t : Attempt) (k : Task) (m : Mark) → named v s.attempts ≡ Some t → named n t.tasks ≡ Some k → piece_at s.board n ≡ Some (piece.Task m) → named n s.owners ≡ Some v
      owner-of v n t k m there among at = by (marks.pieces v t there n k among)
        where
          by : (HasPiece s v n) ⊎ (IsYetToStand s u v n) → named n s.owners ≡ Some v
          by (inl has) = has.of
          by (inr yet) = let no : None ≡ Some (piece.Task m) = sym yet.none ∙ at in cc

      same-owner : (v k n : Name) → named n s.owners ≡ Some v → named n s.owners ≡ Some k → v ≡ k
      same-owner v k n first second = let both : Some v ≡ Some k = sym first ∙ second in let one : v ≡ k = cc in one

      -- a task goes with the attempt of its unit
      task-goes : (n : Name) (m : Mark) → piece_at s.board n ≡ Some (piece.Task m) → is_task_in s.attempts n (u ∷ turns) ≡ root_gone goes (tree_with s n)
      task-goes n m at = by (marks.tasks n m at)
        where
          by : (IsTaskOf s u n) ⊎ (IsTaskPiece s n m) → is_task_in s.attempts n (u ∷ turns) ≡ root_gone goes (tree_with s n)
          by (inl of) =
              or-left (has_task n (named u s.attempts)) (is_task_in s.attempts n turns) (ap (has_task n) of.attempt ∙ ap is_some of.among)
              ∙ sym (ap (root_gone goes) (ap (option_and_then (λ q. named q s.attempts)) of.of ∙ own) ∙ root-goes u tree own ∙ or-left (same_name u u) (is_among u turns) (same_name-itself u))
          by (inr before) = same-tests (is_task_in s.attempts n (u ∷ turns)) (is_among before.owner (u ∷ turns)) to back
              ∙ sym (ap (root_gone goes) (ap (option_and_then (λ q. named q s.attempts)) before.of ∙ before.attempt) ∙ root-goes before.owner before.tree before.attempt)
            where
              to : is_task_in s.attempts n (u ∷ turns) ≡ true → is_among before.owner (u ∷ turns) ≡ true
              to e =
                  let o = task-of-one s n (u ∷ turns) e in
                  subst (λ q. is_among q (u ∷ turns) ≡ true) (same-owner o.unit before.owner n (owner-of o.unit n o.tree o.task m o.there o.among at) before.of) o.one

              back : is_among before.owner (u ∷ turns) ≡ true → is_task_in s.attempts n (u ∷ turns) ≡ true
              back e = task-in s before.owner n (u ∷ turns) e (ap (has_task n) before.attempt ∙ ap is_some before.among)

      pieces-left : (n : Name) → piece_at last.board n ≡ piece_left s goes last n (piece_at s.board n)
      pieces-left n = way.pieces n ∙ by (piece_at s.board n) refl
        where
          by : (found : Option Piece) → piece_at s.board n ≡ found → marked_now last n (left_by s.attempts (turns ++ u ∷ []) turns n found) ≡ piece_left s goes last n found
          by None e = refl
          by (Some (piece.Unit y)) e = on (is_among n turns) ∙ ap (λ c. cond c None (Some (piece.Unit y))) (sym (unit-goes n (live_with (named n s.aheads) (unit_state y)) live))
            where
              live : w.units n ≡ Some (live_with (named n s.aheads) (unit_state y))
              live = st.seen.units n ∙ ap (λ f. option_map (live_with (named n s.aheads)) (option_map unit_state (option_and_then unit_in f))) e

              on : (c : Bool) → marked_now last n (cond c None (Some (piece.Unit y))) ≡ cond c None (Some (piece.Unit y))
              on true = refl
              on false = refl
          by (Some (piece.Task m)) e = off (is_task_in s.attempts n (turns ++ u ∷ [])) ∙ ap (λ c. cond c None (Some (piece.Task m))) (any-turned (λ v. has_task n (named v s.attempts)) turns u ∙ task-goes n m e)
            where
              off : (c : Bool) → marked_now last n (cond c None (Some (piece.Task m))) ≡ cond c None (Some (piece.Task m))
              off true = refl
              off false = refl
          by (Some (piece.Actor y)) e = refl

      -- ---- it is undone
      module _ (new : Shared) (last_is : last ≡ record s { board = last.board; mails = last.mails; taken = last.taken; aheads = last.aheads; attempts = last.attempts }) (readied : IsReadied u last.board new.board)
          (standing : StandingLeft last.board s.aheads new.aheads) (new_is : new ≡ record last { versions = new.versions; board = new.board; aheads = new.aheads }) (pruned : ArePrunedFor new.attempts s.versions new.versions) where
        abbrev ready : Unit
        ready = record x { mark = mark.Ready work.Settle }

        attempts : new.attempts ≡ last.attempts
        attempts = ap (λ (k : Shared). k.attempts) new_is

        taken : new.taken ≡ last.taken
        taken = ap (λ (k : Shared). k.taken) new_is

        mails : new.mails ≡ last.mails
        mails = ap (λ (k : Shared). k.mails) new_is

        here : piece_at new.board u ≡ Some (piece.Unit ready)
        here = by readied
          where
            by : IsReadied u last.board new.board → piece_at new.board u ≡ Some (piece.Unit ready)
            by (inl so) = stays so.1
              where
                stays : (mark_at last.board u ≡ Some (mark.Ready work.Settle)) ⊎ (mark_at last.board u ≡ None) → piece_at new.board u ≡ Some (piece.Unit ready)
                stays (inl settles) =
                    let both : Some x.mark ≡ Some (mark.Ready work.Settle) = sym (ap (option_map mark_in) unit-last) ∙ settles in
                    let is : x.mark ≡ mark.Ready work.Settle = cc in
                    ap (λ b. piece_at b u) so.0 ∙ unit-last ∙ ap (λ m. Some (piece.Unit (record x { mark = m }))) is
                stays (inr none) = let no : Some x.mark ≡ None = sym (ap (option_map mark_in) unit-last) ∙ none in cc
            by (inr so) = so.0.here ∙ ap (option_and_then (marked (mark.Ready work.Settle))) unit-last

        beside : (n : Name) → (n ≡ u → ⊥) → piece_at new.board n ≡ piece_at last.board n
        beside n other = by readied
          where
            by : IsReadied u last.board new.board → piece_at new.board n ≡ piece_at last.board n
            by (inl so) = ap (λ b. piece_at b n) so.0
            by (inr so) = so.0.others n other

        -- the marks of the actors are those by what is taken and by the mail afterwards
        same-left : (n : Name) (found : Option Piece) → piece_left s goes last n found ≡ piece_left s goes new n found
        same-left n None = refl
        same-left n (Some (piece.Unit y)) = refl
        same-left n (Some (piece.Task m)) = refl
        same-left n (Some (piece.Actor y)) = ap₂ (λ messages mail. Some (piece.Actor (record y { mark = actor_mark (has_turn messages n y.state) (mail_at mail n) }))) (sym taken) (sym mails)

        abbrev base : Shared
        base = record s { versions = new.versions; board = new.board; mails = last.mails; taken = last.taken; aheads = new.aheads; attempts = last.attempts }

        whole : new ≡ base
        whole = new_is ∙ ap (λ (k : Shared). record k { versions = new.versions; board = new.board; aheads = new.aheads }) last_is

        pub undone-so : Undoes s u x tree new
        undone-so = record {
          gone = goes;
          are = are;
          pieces = record {
            unit = ready;
            stands = record {
              state = ap (λ f. record (unit_state x) { finished = f }) (sym (trying-unfinished s st on_going u x tree at_u own));
              machine = st.machines u x at_u;
              mark = refl;
            };
            here = here;
            others = λ n other. beside n other ∙ pieces-left n ∙ same-left n (piece_at s.board n);
          };
          attempts = λ v. ap (named v) attempts ∙ attempts-left v;
          aheads = aheads-left new.aheads standing;
          taken = λ a. ap (named a) taken ∙ way.taken a ∙ taken-goes a (named a s.taken) refl;
          mails = λ a. ap (λ all. mail_at all a) mails ∙ way.mails a ∙ all-mail a;
          versions = pruned;
          others = whole ∙ sym (ap (λ (k : Shared). record s { versions = k.versions; board = k.board; mails = k.mails; taken = k.taken; aheads = k.aheads; attempts = k.attempts }) whole);
        }
