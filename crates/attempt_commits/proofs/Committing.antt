-- Attempts that commit.
use Rattle.std.proofs.Common.{◌≡◌, ◌∙◌, ℕ, Bool, true, false, cond, suc, length, List, [], ◌∷◌, ◌++◌, refl, sym, ap, ap₂, subst, le_trans}
use Rattle.std.specs.Option.{IsSome, option_and_then, option_map}
use Rattle.std.specs.Prelude.{IfSome, None, Option, Some, is_some, map, ◌&&◌}
use Rattle.actor_mails.specs.Mails.{Mail, mail_at}
use Rattle.eval_step.specs.Evaluation.{Evaluation}
use Rattle.attempts_gone.proofs.Gone.{same_after}
use Rattle.attempts_gone.proofs.Dropped.{claims-go, tasks-go, trying-unfinished, unit-stays}
use Rattle.attempt_commits.proofs.Effects.{acted-so, becoming-or, letters-are}
use Rattle.world_steps.proofs.Settling.{at-unit}
use Rattle.attempt_commits.specs.declared.commits.Gathered.{Gathered}
use Rattle.attempt_commits.specs.Committing.{HasCommitted, HasGathered}
use Rattle.attempt_commits.specs.Deeds.{AreCounted, AreDone, AreVacant, begun, counted, turned, turned_unit}
use Rattle.world_steps.specs.Kept.{IsSameBut, IsUnitOf}
use Rattle.world_steps.specs.Moved.{IsMoved}
use Rattle.attempts_gone.specs.Dropping.{HasAttempt, IsUndone, TasksGone}
use Rattle.ref_store.specs.Store.{committed}
use Rattle.serial_model.specs.declared.actor_state.ActorState.{ActorState}
use Rattle.serial_model.specs.declared.answer.Answer.TheVariants as answer
use Rattle.serial_model.specs.declared.effect.Effect.{Effect}
use Rattle.serial_model.specs.declared.entry.Entry.TheVariants.{Run}
use Rattle.serial_model.specs.Sends.{effects_to}
use Rattle.serial_model.specs.State.{UnitState}
use Rattle.serial_model.specs.Step.{answered, with_made}
use Rattle.shared_world.specs.declared.given.Given.{Given}
use Rattle.shared_world.specs.declared.given.Given.TheVariants as given
use Rattle.shared_world.specs.rows.Actors.{acted, spawned}
use Rattle.shared_world.specs.rows.Attempts.{ArePrunedFor, IsWithout}
use Rattle.shared_world.specs.rows.Commits.{ActorsAct, Commits, begun_of, definite_if, hangs_on, turns_on}
use Rattle.shared_world.specs.rows.Unsettled.{kept_to}
use Rattle.shared_world.specs.Seen.{done_by_root, done_in}
use Rattle.shared_world.specs.Ahead.{Ahead}
use Rattle.shared_world.proofs.Posted.{IsPutFirst, put-first}
use Rattle.shared_world.proofs.Standing.{root-in}
use Rattle.shared_world.proofs.Takings.{taken-by, takes-called}
use Rattle.actor_mailbox.specs.declared.message.Message.{Message}
use Rattle.actor_mailbox.specs.Messages.{settle, settle_one}
use Rattle.attempt_commits.proofs.Settled.{IsSettledTo, settled-to}
use Rattle.attempt_commits.specs.declared.deeds.Deeds.{Deeds}
use Rattle.attempt_commits.specs.Settling.{AreTurns, AreTurnsOf, HasTurn, IsTurnOf, is_with_turn, left_for_mail, letters_to, mail_after, put_last, reached, taken_after, turn_settles}
use Rattle.task_fork_join.specs.declared.task.Task.{Task}
use Rattle.txn_snapshot.specs.SnapshotTask.{SnapshotTask}
use Rattle.unit_table.specs.declared.piece.Piece.{Piece}
use Rattle.value_core.proofs.NamedLaws.{same_name-equal}
use Rattle.value_core.specs.declared.ticket.Ticket.{Ticket}
use Rattle.shared_world.specs.rows.Pieces.{but_gone, is_task, task_gone}
use Rattle.shared_world.specs.Shared.{Shared, actor_of, finished_by, is_going, unit_state}
use Rattle.shared_world.specs.Stands.{Stands}
use Rattle.task_fork_join.specs.Attempt.{Attempt, names_in}
use Rattle.task_fork_join.specs.Stepping.{IsGiven}
use Rattle.unit_table.specs.Board.{AreTied, Board, HasPlace, IsPutAt, IsUnlent, SameClaims, SamePieces, but_for, lent_at, lent_to, piece_at, unit_at}
use Rattle.unit_table.specs.declared.mark.Mark.TheVariants as mark
use Rattle.unit_table.specs.declared.mark.Work.TheVariants as work
use Rattle.unit_table.specs.declared.piece.Piece.TheVariants as piece
use Rattle.unit_table.specs.declared.unit.Unit.{Unit}
use Rattle.unit_table.specs.Piece.{unit_in}
use Rattle.value_core.specs.declared.value.Value.{Value}
use Rattle.value_core.specs.Named.{Name, Named, is_among, made_by, named, same_name}
use Rattle.world_model.specs.Message.{settled}
use Rattle.world_model.specs.rows.Commits.{effects_bytes}

-- what holds of the attempt that is there
pub at-attempt : {X : Type 0} (o : Option X) (P : X → Type 0) (x : X) → o ≡ Some x → IfSome o P → P x
at-attempt {X} o P x there is = subst (λ (found : Option X). IfSome found P) there is

-- tasks that are gone from what is the same but for room
pub tasks-again : (names : List Name) (old base mid : Board) → SamePieces old base → SameClaims old base → TasksGone names base mid → TasksGone names old mid
tasks-again names old base mid same claims gone = record {
  pieces = λ n. gone.pieces n ∙ ap (λ p. cond (is_among n names) (task_gone p) p) (same n);
  claims = λ t. gone.claims t ∙ ap (but_gone (λ q. is_among q names && is_task (piece_at base q))) (claims.to t) ∙ on (lent_to old t);
}
  where
    on : (found : Option Name) → but_gone (λ q. is_among q names && is_task (piece_at base q)) found ≡ but_gone (λ q. is_among q names && is_task (piece_at old q)) found
    on None = refl
    on (Some q) = ap (λ p. cond (is_among q names && is_task p) None (Some q)) (same q)

pub undone-again : (old base : Shared) (u : Name) (left : Named Attempt) (mid : Board) → IsSameBut old base → IsUndone u base.attempts base.board left mid → IsUndone u old.attempts old.board left mid
undone-again old base u left mid same undone = record {
  gone = λ other. undone.gone other ∙ ap (λ (s : Shared). cond (same_name other u) None (named other s.attempts)) same.rest;
  tasks = λ tree there. tasks-again (names_in tree.tasks) old.board base.board mid same.pieces same.claims (undone.tasks tree (ap (λ (s : Shared). named u s.attempts) same.rest ∙ there));
}

-- The attempt of the unit is gone from what is the same but for room.
module _ (old base : Shared) (u : Name) (has : HasAttempt old u) (left : Named Attempt) (mid : Board) (same : IsSameBut old base) (undone : IsUndone u base.attempts base.board left mid) where
  -- the unit is there still
  pub still-there : piece_at mid u ≡ Some (piece.Unit has.unit)
  still-there = unit-stays u has.unit (names_in has.tree.tasks) old.board mid has.there ((undone-again old base u left mid same undone).tasks has.tree has.attempt)

  -- and moves on
  pub moves-on : (machine : Evaluation) (made : ℕ) (new : Board) → IfSome (unit_at mid u) (λ (x : Unit). IsMoved u x machine made (mark.Ready work.Eval) mid new) → IsMoved u has.unit machine made (mark.Ready work.Eval) mid new
  moves-on machine made new set = at-unit mid u (λ (x : Unit). IsMoved u x machine made (mark.Ready work.Eval) mid new) has.unit (ap (option_and_then unit_in) still-there) set

  pub moved-there : (machine : Evaluation) (made : ℕ) (new : Board) → IfSome (unit_at mid u) (λ (x : Unit). IsMoved u x machine made (mark.Ready work.Eval) mid new) → IsSome (unit_at new u)
  moved-there machine made new set = subst IsSome (sym (ap (option_and_then unit_in) (moves-on machine made new set).set.here)) refl

  pub tasks-gone : TasksGone (names_in has.tree.tasks) base.board mid
  tasks-gone = undone.tasks has.tree (ap (λ (s : Shared). named u s.attempts) same.rest ∙ has.attempt)

-- where an actor is to begin nothing stands still, and there is a place, once tasks are gone and a unit has moved
pub vacant-after : (actors : Named ActorState) (names : List Name) (u : Name) (x : Unit) (machine : Evaluation) (made : ℕ) (base mid new : Board) → AreVacant actors base → TasksGone names base mid → ((a : Name) → HasPlace base a → HasPlace mid a)
    → piece_at mid u ≡ Some (piece.Unit x) → IsMoved u x machine made (mark.Ready work.Eval) mid new → AreVacant actors new
vacant-after actors names u x machine made base mid new vacant gone places there moved a some = record {
  none = moved.set.others a other ∙ none;
  place = moved.places a (places a (vacant a some).place);
}
  where
    still : (c : Bool) → cond c (task_gone None) None ≡ None
    still true = refl
    still false = refl

    none : piece_at mid a ≡ None
    none = gone.pieces a ∙ ap (λ p. cond (is_among a names) (task_gone p) p) (vacant a some).none ∙ still (is_among a names)

    other : a ≡ u → ⊥
    other same = let no : None ≡ Some (piece.Unit x) = sym none ∙ ap (piece_at mid) same ∙ there in cc

-- what is lent no more, before claims that stayed
unlent-before : (name : Name) (old mid new : Board) → IsUnlent name old mid → SameClaims mid new → IsUnlent name old new
unlent-before name old mid new is same = record {
  here = same.lent name ∙ is.here;
  others = λ other ne. same.lent other ∙ is.others other ne;
  to = λ claim. same.to claim ∙ is.to claim;
  later = λ slot. let one = is.later slot in let two = same.later slot in le_trans one two;
}

-- what is no task and not the unit is lent as it was, once tasks are gone and the unit has moved
lent-stays : (old mid new : Board) (u q : Name) (names : List Name) → AreTied old → AreTied new → (q ≡ u → ⊥) → is_task (piece_at old q) ≡ false → TasksGone names old mid → IsUnlent u mid new → lent_at new q ≡ lent_at old q
lent-stays old mid new u q names tied tied_now other no_task gone unlent = on (lent_at old q) refl (lent_at new q) refl
  where
    -- a claim on it lends it still
    forth : (claim : Ticket) → lent_to old claim ≡ Some q → lent_to new claim ≡ Some q
    forth claim is =
        unlent.to claim ∙ ap (but_for u) (gone.claims claim ∙ ap (but_gone (λ k. is_among k names && is_task (piece_at old k))) is ∙ left (is_among q names)) ∙ by (same_name q u) refl
      where
        left : (c : Bool) → but_gone (λ k. is_among k names && is_task (piece_at old k)) (Some q) ≡ Some q
        left c = ap (λ t. cond (is_among q names && t) None (Some q)) no_task ∙ none (is_among q names)
          where
            none : (k : Bool) → cond (k && false) None (Some q) ≡ Some q
            none true = refl
            none false = refl

        by : (c : Bool) → same_name q u ≡ c → but_for u (Some q) ≡ Some q
        by true e = absurd (other (same_name-equal q u e))
        by false e = ap (λ c. cond c None (Some q)) e

    -- and one that does now did
    back : (claim : Ticket) → lent_to new claim ≡ Some q → lent_to old claim ≡ Some q
    back claim is = gone-of (lent_to old claim) (sym (gone.claims claim) ∙ unlent-of (lent_to mid claim) (sym (unlent.to claim) ∙ is))
      where
        unlent-of : (o : Option Name) → but_for u o ≡ Some q → o ≡ Some q
        unlent-of None e = cc
        unlent-of (Some k) e = by (same_name k u) e
          where
            by : (c : Bool) → cond c None (Some k) ≡ Some q → Some k ≡ Some q
            by true e = cc
            by false e = e

        gone-of : (o : Option Name) → but_gone (λ k. is_among k names && is_task (piece_at old k)) o ≡ Some q → o ≡ Some q
        gone-of None e = cc
        gone-of (Some k) e = by (is_among k names && is_task (piece_at old k)) e
          where
            by : (c : Bool) → cond c None (Some k) ≡ Some q → Some k ≡ Some q
            by true e = cc
            by false e = e

    on : (o : Option Ticket) → lent_at old q ≡ o → (p : Option Ticket) → lent_at new q ≡ p → lent_at new q ≡ lent_at old q
    on (Some claim) is p now = tied_now.lends claim q (forth claim (tied.lent claim q is)) ∙ sym is
    on None is (Some claim) now = let no : None ≡ Some claim = sym is ∙ tied.lends claim q (back claim (tied_now.lent claim q now)) in cc
    on None is None now = now ∙ sym is

-- where messages are counted there is a count
counted-some : (d : Deeds) (a : Name) → AreCounted d → (letters_to a d.letters.items ≡ [] → ⊥) → IsSome (named a d.counts.entries)
counted-some d a counts some = on (named a d.counts.entries) refl (counts a)
  where
    none-is : (ms : List Message) → 0 ≡ length ms → ms ≡ []
    none-is [] e = refl
    none-is (m ∷ ms) e = cc

    on : (o : Option ℕ) → named a d.counts.entries ≡ o → counted o ≡ length (letters_to a d.letters.items) → IsSome o
    on None e is = absurd (some (none-is (letters_to a d.letters.items) is))
    on (Some n) e is = refl

-- the turn of an actor whose begin is held is that alone
turn-of : (s : Shared) (st : Stands s) (a : Name) (m : Message) (turns : Named Name) → named a s.taken ≡ Some m → HasTurn s.board turns a → IsTurnOf turns (begun_of s.aheads) a
turn-of s st a m turns taken has =
    let by = taken-by s st a m has.begun.actor taken has.begun.there in
    let called = has.begun.called in
    record {
      turn = has.turn;
      there = has.there;
      own = ap (λ n. option_and_then (λ (h : Ahead). h.takes) (named n s.aheads)) called ∙ ap (option_and_then (λ (h : Ahead). h.takes)) by.leads ∙ by.takes;
      only = λ q is. only q (named q s.aheads) refl is ∙ sym called;
    }
  where
    only : (q : Name) (o : Option Ahead) → named q s.aheads ≡ o → option_and_then (λ (h : Ahead). h.takes) o ≡ Some a → q ≡ made_by a has.begun.actor.turns
    only q None e is = cc
    only q (Some h) e is = takes-called s st q a h has.begun.actor e is has.begun.there

-- what is done stays so where the same stands and the same is lent
pub done-still : (u on : Name) (turns : Named Name) (d : Deeds) (taken now : Named Message) (mails after : Mail) (old mid new : Board) → AreDone u on turns d taken now mails after old mid
    → SamePieces mid new → SameClaims mid new → AreDone u on turns d taken now mails after old new
done-still u on turns d taken now mails after old mid new done pieces claims = record {
  board = done.board;
  unit = done.unit;
  reached = done.reached;
  settled = done.settled;
  pieces = λ a. pieces a ∙ done.pieces a;
  turned = done.turned;
  claims = same_after old mid new done.claims claims;
}

-- The attempt is gone, the unit has moved on, and what the effects do to actors is done.
module _ (old new : Shared) (mid settled_board : Board) (left : Named Attempt) (u : Name) (moved machine : Evaluation) (v : Value) (made number : ℕ) (g : Gathered) (found : Given) (st : Stands old) (going : old.end ≡ None)
    (undone : IsUndone u old.attempts old.board left mid) (is : IsUnitOf old u moved) (given_so : IsGiven moved (answer.Value v) machine) (has : (tree : Attempt) → named u old.attempts ≡ Some tree → HasGathered u tree g)
    (made_so : (x : Unit) → unit_at old.board u ≡ Some x → made ≡ suc x.made) (number_so : number ≡ suc (length old.history)) (pruned : ArePrunedFor left (committed old.versions g.writes.items number) new.versions)
    (found_is : found ≡ given.Settled (Run u)) (set : IfSome (unit_at mid u) (λ (x : Unit). IsMoved u x machine made (mark.Ready work.Eval) mid settled_board))
    (vacant : (a : Name) → IsSome (named a g.deeds.actors.entries) → piece_at old.board a ≡ None) (turn_names : Named Name) (begun_turns : AreTurns g.root g.deeds.counts.entries old.taken old.board turn_names)
    (tied : AreTied old.board) (tied_now : AreTied settled_board) (level : named u old.aheads ≡ None) (done : AreDone u g.root turn_names g.deeds old.taken new.taken old.mails new.mails settled_board new.board)
    (others : new ≡ record old { history = old.history ++ Run u ∷ []; versions = new.versions; attempts = left; bytes = old.bytes ++ g.text.items; board = new.board; mails = new.mails; taken = new.taken }) where
  left_is : new.attempts ≡ left
  left_is = ap (λ (s : Shared). s.attempts) others

  module _ (x : Unit) (tree : Attempt) (there : unit_at old.board u ≡ Some x) (attempt : named u old.attempts ≡ Some tree) where
    same_unit : is.unit ≡ x
    same_unit = let both : Some is.unit ≡ Some x = sym is.there ∙ there in cc

    moves : IsMoved u x machine made (mark.Ready work.Eval) mid settled_board
    moves = at-unit mid u (λ (y : Unit). IsMoved u y machine made (mark.Ready work.Eval) mid settled_board) x
        (ap (option_and_then unit_in) (unit-stays u x (names_in tree.tasks) old.board mid there (undone.tasks tree attempt))) set

    gathered : HasGathered u tree g
    gathered = has tree attempt

    abbrev effects : List Effect
    effects = gathered.log.log.effects

    abbrev settled_unit : Unit
    settled_unit = record x { machine = machine; made = made; mark = mark.Ready work.Eval }

    abbrev unit : Unit
    unit = turned_unit g.deeds.becomes settled_unit

    turns : IsPutAt u (Some (piece.Unit unit)) settled_board done.board
    turns = at-unit settled_board u (λ (y : Unit). IsPutAt u (Some (piece.Unit (turned_unit g.deeds.becomes y))) settled_board done.board) settled_unit (ap (option_and_then unit_in) moves.set.here) done.unit

    state : unit_state unit ≡ answered (with_made (turned g.deeds.becomes (unit_state x))) v
    state = λ i. record { actor = actor_of x.kind; body = body i; values = values i; answers = answers i; made = made_so x there i; becomes = becoming-or g.deeds.becomes x.becomes i; finished = sym unfinished i }
      where
        body : machine.body ≡ x.machine.body
        body = given_so.same.body ∙ is.same.task.body ∙ ap (λ (y : Unit). y.machine.body) same_unit

        values : machine.values ≡ x.machine.values
        values = given_so.same.values ∙ is.same.task.values ∙ ap (λ (y : Unit). y.machine.values) same_unit

        answers : machine.answers ≡ x.machine.answers ++ answer.Value v ∷ []
        answers = given_so.answers ∙ ap (λ given. given ++ answer.Value v ∷ []) (is.same.answers ∙ ap (λ (y : Unit). y.machine.answers) same_unit)

        unfinished : finished_by x.mark ≡ None
        unfinished = trying-unfinished old st going u x tree there attempt

    -- ---- what was sent
    abbrev root : Name
    root = tree.root

    root_is : g.root ≡ root
    root_is = gathered.root

    -- what the root has done
    root_task : (t : Task) × (named tree.root tree.tasks ≡ Some t)
    root_task = root-in old u tree (st.attempts (ap is_going going) u tree attempt)

    same_done : effects ≡ done_by_root tree
    same_done = ap (λ (l : SnapshotTask). l.log.effects) (subst (λ o. IfSome o (λ (k : Task). gathered.log ≡ k.log)) root_task.1 gathered.done.root) ∙ sym (ap done_in root_task.1)

    sent_to : (a : Name) → letters_to a g.deeds.letters.items ≡ map (settled u) (effects_to a effects)
    sent_to a = letters-are u effects g.deeds gathered.deeds a

    first : (a : Name) → IsPutFirst old st (ap is_going going) u tree attempt level a
    first a = put-first old st (ap is_going going) u tree attempt level a

    -- it comes to this
    comes : (a : Name) → IsSettledTo u root (effects_to a effects) (first a).rest (named a old.taken) (mail_at old.mails a)
    comes a = settled-to u root (effects_to a effects) (first a).first (first a).rest (named a old.taken) (mail_at old.mails a) (ap (effects_to a) same_done ∙ (first a).whole) (first a).put

    taken_so : (a : Name) → named a new.taken ≡ option_map (settle_one (same_name root)) (named a old.taken)
    taken_so a = done.settled.taken_so a ∙ ap₂ (λ n ms. taken_after n ms (named a old.taken)) root_is (sent_to a) ∙ (comes a).taken_is

    mails_so : (a : Name) → mail_at new.mails a ≡ settle (same_name root) (mail_at old.mails a ++ kept_to old u tree a)
    mails_so a =
        done.settled.mailed a ∙ ap₂ (λ n ms. mail_after n (left_for_mail n (named a old.taken) ms) (mail_at old.mails a)) root_is (sent_to a) ∙ (comes a).mail_is
        ∙ ap (λ ms. settle (same_name root) (mail_at old.mails a ++ ms)) (sym (first a).kept)

    -- ---- the turns
    -- whether a message to the actor of a turn is settled with that turn
    with_turn : (a : Name) → is_with_turn g.root (named a old.taken) (letters_to a g.deeds.letters.items) ≡ hangs_on root (named a old.taken)
    with_turn a = ap₂ (λ n ms. is_with_turn n (named a old.taken) ms) root_is (sent_to a) ∙ (comes a).turn_is

    turns_of : AreTurnsOf g.root g.deeds.letters.items old.taken turn_names (begun_of old.aheads)
    turns_of a is = turn-of old st a (there_is (named a old.taken) hangs).0 turn_names (there_is (named a old.taken) hangs).1 has_it
      where
        hangs : hangs_on g.root (named a old.taken) ≡ true
        hangs = ap (λ n. hangs_on n (named a old.taken)) root_is ∙ sym (with_turn a) ∙ is

        there_is : (o : Option Message) → hangs_on g.root o ≡ true → (m : Message) × (o ≡ Some m)
        there_is None so = cc
        there_is (Some m) so = (m, refl)

        has_it : HasTurn old.board turn_names a
        has_it = begun_turns a hangs (counted-some g.deeds a gathered.deeds.counts (is-some (letters_to a g.deeds.letters.items) is))
          where
            is-some : (ms : List Message) → is_with_turn g.root (named a old.taken) ms ≡ true → ms ≡ [] → ⊥
            is-some [] so none = cc
            is-some (m ∷ ms) so none = cc

    settles_so : (q : Name) → turn_settles g.root old.taken g.deeds.letters.items (begun_of old.aheads q) ≡ turns_on old root q
    settles_so q = of (begun_of old.aheads q)
      where
        of : (o : Option Name) → turn_settles g.root old.taken g.deeds.letters.items o ≡ hangs_on root (option_and_then (λ a. named a old.taken) o)
        of None = refl
        of (Some a) = with_turn a

    -- a turn that is definite now is lent as it was
    lent_so : (q : Name) → turns_on old root q ≡ true → is_some (lent_at done.board q) ≡ is_some (lent_at old.board q)
    lent_so q is = ap is_some (done.turned.lent q ∙ unlent_same)
      where
        leads : (h : Ahead) × (named q old.aheads ≡ Some h)
        leads = of (named q old.aheads) refl is
          where
            of : (o : Option Ahead) → named q old.aheads ≡ o → hangs_on root (option_and_then (λ a. named a old.taken) (option_and_then (λ (h : Ahead). h.takes) o)) ≡ true → (h : Ahead) × (named q old.aheads ≡ Some h)
            of None e so = cc
            of (Some h) e so = (h, e)

        other : q ≡ u → ⊥
        other same = let no : None ≡ Some leads.0 = sym level ∙ ap (λ n. named n old.aheads) (sym same) ∙ leads.1 in cc

        no_task : is_task (piece_at old.board q) ≡ false
        no_task = of (piece_at old.board q) (st.aheads q leads.0 leads.1).there
          where
            of : (o : Option Piece) → option_map unit_state (option_and_then unit_in o) ≡ Some (st.aheads q leads.0 leads.1).unit → is_task o ≡ false
            of None e = cc
            of (Some (piece.Unit y)) e = refl
            of (Some (piece.Task k)) e = cc
            of (Some (piece.Actor a)) e = cc

        unlent_same : lent_at settled_board q ≡ lent_at old.board q
        unlent_same = lent-stays old.board mid settled_board u q (names_in tree.tasks) tied tied_now other no_task (undone.tasks tree attempt) moves.unlent

    -- ---- the actors act
    made_at : (a : Name) → named a g.deeds.actors.entries ≡ spawned effects a
    made_at a = gathered.deeds.actors a

    acts : ActorsAct effects u tree old done.board new
    acts = record {
      none = λ a actor is. vacant a (subst IsSome (sym (made_at a ∙ is)) refl);
      pieces = λ q.
          done.pieces q
          ∙ ap₂ (λ made found. begun made (mail_at new.mails q) found) (made_at q) (done.settled.pieces (begun_of old.aheads) turns_of q)
          ∙ ap (λ ms. begun (spawned effects q) (mail_at new.mails q) (reached (is_some (named q old.taken)) ms (definite_if (turn_settles g.root old.taken g.deeds.letters.items (begun_of old.aheads q)) (is_some (lent_at done.board q)) (piece_at done.board q))))
          (ap₂ (λ n ms. put_last n (left_for_mail n (named q old.taken) ms) (mail_at old.mails q)) root_is (sent_to q) ∙ (comes q).last_is)
          ∙ acted-so u root (is_some (named q old.taken)) (spawned effects q) (first q).rest (mail_at new.mails q) (definite_if (turn_settles g.root old.taken g.deeds.letters.items (begun_of old.aheads q)) (is_some (lent_at done.board q)) (piece_at done.board q))
          ∙ ap₂ (λ ms found. acted (is_some (named q old.taken)) (spawned effects q) ms (mail_at new.mails q) found) (sym (first q).kept) (definite_so q (turns_on old root q) refl);
    }
      where
        definite_so : (q : Name) (c : Bool) → turns_on old root q ≡ c
            → definite_if (turn_settles g.root old.taken g.deeds.letters.items (begun_of old.aheads q)) (is_some (lent_at done.board q)) (piece_at done.board q) ≡ definite_if (turns_on old root q) (is_some (lent_at old.board q)) (piece_at done.board q)
        definite_so q true e = ap₂ (λ c l. definite_if c l (piece_at done.board q)) (settles_so q) (lent_so q e)
        definite_so q false e = ap (λ c. definite_if c (is_some (lent_at done.board q)) (piece_at done.board q)) (settles_so q ∙ e) ∙ sym (ap (λ c. definite_if c (is_some (lent_at old.board q)) (piece_at done.board q)) e)

    pub row-so : Commits old u x tree v found new
    row-so = record {
      found_is = found_is;
      log = gathered.log;
      done = gathered.done;
      unit = unit;
      stands = record {
        state = state ∙ ap (λ (k : UnitState). answered (with_made k) v) (gathered.deeds.becomes (unit_state x));
        machine = let kept = st.machines u x there in record {
          inside = given_so.same.inside ∙ is.same.task.inside ∙ ap (λ (y : Unit). y.machine.inside) same_unit ∙ kept.inside;
          fuel = given_so.same.fuel ∙ is.same.task.fuel ∙ ap (λ (y : Unit). y.machine.fuel) same_unit ∙ kept.fuel;
          of = given_so.of old.setup.program is.of;
        };
        mark = refl;
      };
      board = done.board;
      goes = record {
        attempts = subst (λ (a : Named Attempt). IsWithout u old.attempts a) (sym left_is) undone.gone;
        tasks = tasks-go u x unit tree old.board mid done.board there (undone.tasks tree attempt) turns.here (λ other ne. turns.others other ne ∙ moves.set.others other ne);
      };
      acts = acts;
      sends = record { taken = taken_so; mails = mails_so };
      versions = subst (λ (a : Named Attempt). ArePrunedFor a (committed old.versions gathered.log.log.writes (suc (length old.history))) new.versions) (sym left_is)
          (subst (λ n. ArePrunedFor left (committed old.versions gathered.log.log.writes n) new.versions) number_so
          (subst (λ ws. ArePrunedFor left (committed old.versions ws number) new.versions) gathered.writes pruned));
      others = others ∙ ap (λ b. record old { history = old.history ++ Run u ∷ []; versions = new.versions; attempts = left; bytes = old.bytes ++ b; board = new.board; mails = new.mails; taken = new.taken }) gathered.text
          ∙ ap (λ a. record old { history = old.history ++ Run u ∷ []; versions = new.versions; attempts = a; bytes = old.bytes ++ effects_bytes effects; board = new.board; mails = new.mails; taken = new.taken }) (sym left_is);
    }

  pub committed-so : HasCommitted old u v new found
  committed-so = record {
    row = λ x tree there attempt. row-so x tree there attempt;
    claims = λ tree attempt.
        claims-go u tree old new mid (ap (λ (s : Shared). s.end) others) (undone.tasks tree attempt) (unlent-before u mid settled_board new.board (moves is.unit tree is.there attempt).unlent done.claims);
  }
