-- How the marks stay right where a turn runs ahead of the history.
use Rattle.std.proofs.Common.{◌≡◌, ◌∙◌, ◌⊎◌, Bool, true, false, cond, [], ◌∷◌, ◌++◌, inl, inr, refl, sym, ap, ap₂, subst}
use Rattle.std.specs.Option.{option_and_then, option_map}
use Rattle.std.specs.Prelude.{Option, None, Some}
use Rattle.actor_mailbox.specs.declared.message.Message.{Message}
use Rattle.actor_mails.specs.Mails.{mail_at}
use Rattle.serial_model.specs.State.{UnitState}
use Rattle.shared_world.proofs.Besides.{apart-of}
use Rattle.shared_world.proofs.Leads.{beside-unit}
use Rattle.shared_world.proofs.Live.{unit-piece}
use Rattle.shared_world.proofs.Marks.{AreMarkedBut, IsStill, IsTaskPieceBut, but-one, come-again, marked-set, root-again, SameRoot, same-root, same-settles, still-ahead, task-again, unfinished-mark, unit-again}
use Rattle.shared_world.specs.Ahead.{Ahead}
use Rattle.shared_world.specs.declared.given.Given.{Given}
use Rattle.shared_world.specs.Marks as marks
use Rattle.shared_world.specs.Marks.{AreMarked, HangsOn, HasPiece, IsRunningAhead, IsTaskPiece, RootSays, TaskSays, UnitSays}
use Rattle.shared_world.specs.rows.Actors.{actor_mark, has_turn}
use Rattle.shared_world.specs.rows.Leading.{HoldsOn, IsChanged, LeadSettles, WaitsDefinite, beside_left, can_settle, is_definite, leads_on, mark_ahead, mark_definite, mark_left, settles_next}
use Rattle.shared_world.specs.rows.Pieces.{IsSet}
use Rattle.shared_world.specs.Shared.{Shared, finished_at, finished_by, unit_state}
use Rattle.task_fork_join.specs.Attempt.{Attempt}
use Rattle.serial_model.specs.declared.entry.Entry.{Entry}
use Rattle.serial_model.specs.declared.request.Request.{Request}
use Rattle.unit_table.specs.Board.{Board, IsPutAt, piece_at, unit_at}
use Rattle.unit_table.specs.declared.mark.Mark.{Mark}
use Rattle.unit_table.specs.declared.mark.Mark.TheVariants as mark
use Rattle.unit_table.specs.declared.mark.WaitOn.TheVariants as wait
use Rattle.unit_table.specs.declared.mark.Work.TheVariants as work
use Rattle.unit_table.specs.declared.piece.Actor.{Actor}
use Rattle.unit_table.specs.declared.piece.Piece.{Piece}
use Rattle.unit_table.specs.declared.piece.Piece.TheVariants as piece
use Rattle.unit_table.specs.declared.unit.Unit.{Unit as Doing}
use Rattle.unit_table.specs.Piece.{says_finished, unit_in, woken}
use Rattle.value_core.proofs.NamedLaws.{same_name-equal, same_name-itself}
use Rattle.value_core.specs.Named.{Name, Named, named, same_name}

-- what a name has that was changed
pub changed-here : {X : Type 0} (u : Name) (found : Option X) (old new : Named X) → IsChanged u found old new → named u new ≡ found
changed-here {X} u found old new is = is u ∙ ap (λ c. cond c found (named u old)) (same_name-itself u)

pub changed-others : {X : Type 0} (u : Name) (found : Option X) (old new : Named X) → IsChanged u found old new → (v : Name) → (v ≡ u → ⊥) → named v new ≡ named v old
changed-others {X} u found old new is v other = on (same_name v u) refl
  where
    on : (c : Bool) → same_name v u ≡ c → named v new ≡ named v old
    on true e = absurd (other (same_name-equal v u e))
    on false e = is v ∙ ap (λ c. cond c found (named v old)) e

-- a piece that was put is set, where its mark says that nothing is finished
put-set : (u : Name) (p : Piece) (m : Mark) (old new : Board) → says_finished m ≡ false → IsPutAt u (Some p) old new → IsSet u p m old new
put-set u p m old new unended put = record {
  here = put.here;
  others = λ v other. put.others v other ∙ sym (ap (λ c. cond c (option_map (woken u) (piece_at old v)) (piece_at old v)) unended);
}

-- a turn that settles what it holds is not finished, nor is one that waits or evaluates
pub open-ahead : (c : Bool) (m : Mark) → says_finished m ≡ false → says_finished (mark_ahead c m) ≡ false
open-ahead true m unended = refl
open-ahead false m unended = unended

-- what stood beside a turn, once it holds nothing any more: a task is ready, or as it was and does not wait for that turn
record WasBeside (u : Name) (o : Option Ahead) (found : Option Piece) (m : Mark) : Type 0 where
  before : Mark
  there : found ≡ Some (piece.Task before)
  is : ((m ≡ before) × (o ≡ None → before ≡ mark.Waiting (wait.Definite u) → ⊥)) ⊎ (m ≡ mark.Ready work.Settle)

definite-or : (u : Name) (m : Mark) → ((mark_definite u m ≡ m) × (m ≡ mark.Waiting (wait.Definite u) → ⊥)) ⊎ (mark_definite u m ≡ mark.Ready work.Settle)
definite-or u (mark.Ready w) = inl (refl, λ e. cc)
definite-or u (mark.Waiting (wait.Finish f)) = inl (refl, λ e. cc)
definite-or u (mark.Waiting (wait.Definite t)) = on (same_name t u) refl
  where
    on : (c : Bool) → same_name t u ≡ c
        → ((cond c (mark.Ready work.Settle) (mark.Waiting (wait.Definite t)) ≡ mark.Waiting (wait.Definite t)) × (mark.Waiting (wait.Definite t) ≡ mark.Waiting (wait.Definite u) → ⊥)) ⊎ (cond c (mark.Ready work.Settle) (mark.Waiting (wait.Definite t)) ≡ mark.Ready work.Settle)
    on true e = inr refl
    on false e = inl (refl, λ waits. apart-of t u e (let same : t ≡ u = cc in same))
definite-or u mark.Resting = inl (refl, λ e. cc)
definite-or u (mark.Finished v) = inl (refl, λ e. cc)
definite-or u mark.Dropped = inl (refl, λ e. cc)

was-beside : (u : Name) (o : Option Ahead) (found : Option Piece) (m : Mark) → beside_left u o found ≡ Some (piece.Task m) → WasBeside u o found m
was-beside u (Some h) found m e = record { before = m; there = e; is = inl (refl, λ none. cc) }
was-beside u None None m e = cc
was-beside u None (Some (piece.Unit x)) m e = cc
was-beside u None (Some (piece.Actor a)) m e = cc
was-beside u None (Some (piece.Task k)) m e = let same : mark_definite u k ≡ m = cc in record { before = k; there = refl; is = by None (definite-or u k) same }
  where
    by : (o : Option Ahead) → ((mark_definite u k ≡ k) × (k ≡ mark.Waiting (wait.Definite u) → ⊥)) ⊎ (mark_definite u k ≡ mark.Ready work.Settle) → mark_definite u k ≡ m
        → ((m ≡ k) × (o ≡ None → k ≡ mark.Waiting (wait.Definite u) → ⊥)) ⊎ (m ≡ mark.Ready work.Settle)
    by o (inl stays) same = inl (sym same ∙ stays.0, λ none. stays.1)
    by o (inr ready) same = inr (sym same ∙ ready)

task-left : (u : Name) (o : Option Ahead) (found : Option Piece) (k : Mark) → found ≡ Some (piece.Task k) → (m : Mark) × (beside_left u o found ≡ Some (piece.Task m))
task-left u (Some h) found k is = (k, is)
task-left u None found k is = (mark_definite u k, ap (beside_left u None) is)

-- an actor stood there as it is
actor-left : (u : Name) (o : Option Ahead) (found : Option Piece) (z : Actor) → beside_left u o found ≡ Some (piece.Actor z) → found ≡ Some (piece.Actor z)
actor-left u (Some h) found z e = e
actor-left u None None z e = cc
actor-left u None (Some (piece.Unit x)) z e = cc
actor-left u None (Some (piece.Task m)) z e = cc
actor-left u None (Some (piece.Actor a)) z e = e

-- a turn whose begin is not held is definite
definite-left : (taken : Named Message) (h : Ahead) → h.takes ≡ None → is_definite taken h.takes ≡ true
definite-left taken h none = ap (is_definite taken) none

module _ (old : Shared) (u : Name) (x : Doing) (at_u : unit_at old.board u ≡ Some x) (h : Ahead) (leads : named u old.aheads ≡ Some h) (unfinished : (unit_state x).finished ≡ None) where
  -- the turn stands there, and is no task
  pub turn-no-task : (k : Mark) → piece_at old.board u ≡ Some (piece.Task k) → ⊥
  turn-no-task k at = let no : Some (piece.Unit x) ≡ Some (piece.Task k) = sym (unit-piece old.board u x at_u) ∙ at in cc

  -- it can settle what it holds where it is definite
  pub settles-so : can_settle old u ≡ is_definite old.taken h.takes
  settles-so = ap (settles_next old.taken) leads

  -- The turn is put with a mark that is right, and all else is as in the base.
  turn-put : (base new : Shared) (y : Doing) (m : Mark) → AreMarked base → y.mark ≡ m → says_finished m ≡ false → IsPutAt u (Some (piece.Unit y)) base.board new.board → new ≡ record base { board = new.board; aheads = new.aheads }
      → ((v : Name) → (v ≡ u → ⊥) → named v new.aheads ≡ named v base.aheads) → IsRunningAhead new u → ((k : Mark) → piece_at base.board u ≡ Some (piece.Task k) → ⊥) → ((z : Doing) → UnitSays new u z m) → AreMarked new
  turn-put base new y m marked is_m unended put others aheads leads_now apart says = marked-set base new u (piece.Unit y) m (record {
    set = put-set u (piece.Unit y) m base.board new.board unended put;
    setup = ap (λ (s : Shared). s.setup) others;
    attempts = ap (λ (s : Shared). s.attempts) others;
    owners = ap (λ (s : Shared). s.owners) others;
    aheads = aheads;
    leads = λ before. leads_now;
    taken = ap (λ (s : Shared). s.taken) others;
    mails = λ a. ap (λ (s : Shared). mail_at s.mails a) others;
    unfinished = λ e. ap (λ p. option_and_then (λ (k : UnitState). k.finished) (option_map unit_state (option_and_then unit_in p))) put.here ∙ ap finished_by is_m ∙ unfinished-mark m unended;
    no_root = λ e. let no : true ≡ false = sym e ∙ unended in cc;
    stays = λ k at. absurd (apart k at);
    unit = λ z e. let same : y ≡ z = cc in subst (λ k. UnitSays new u z k) (sym (ap (λ (k : Doing). k.mark) (sym same) ∙ is_m)) (says z);
    task = λ k e. cc;
    actor = λ a e. cc;
  }) (but-one base u (says_finished m) marked)

  -- ---- it waits until it is definite
  pub waits-marked : AreMarked old → (found : Given) (new : Shared) → WaitsDefinite old u x h found new → AreMarked new
  waits-marked marked found new r = turn-put old new r.unit (mark_ahead (is_definite old.taken h.takes) (mark.Waiting (wait.Definite u))) marked r.stands.mark (open-ahead (is_definite old.taken h.takes) (mark.Waiting (wait.Definite u)) refl)
      r.put r.others (changed-others u (Some (record h { waits = true })) old.aheads new.aheads r.aheads) (record { ahead = record h { waits = true }; leads = leads_now }) turn-no-task (λ z. says z (is_definite old.taken h.takes) refl)
    where
      leads_now : named u new.aheads ≡ Some (record h { waits = true })
      leads_now = changed-here u (Some (record h { waits = true })) old.aheads new.aheads r.aheads

      settles : can_settle new u ≡ is_definite old.taken h.takes
      settles = ap₂ settles_next (ap (λ (s : Shared). s.taken) r.others) leads_now

      says : (z : Doing) (c : Bool) → is_definite old.taken h.takes ≡ c → UnitSays new u z (mark_ahead c (mark.Waiting (wait.Definite u)))
      says z true is = inr (settles ∙ is)
      says z false is = (refl, record { ahead = record h { waits = true }; leads = leads_now; not_yet = settles ∙ is })

  -- ---- it holds one effect more
  pub holds-marked : named u old.attempts ≡ None → (r : Request) (base : Shared) → AreMarked base → base.attempts ≡ old.attempts → ((k : Mark) → piece_at base.board u ≡ Some (piece.Task k) → ⊥) → (found : Given) (new : Shared) → HoldsOn base u x h r found new → AreMarked new
  holds-marked none r base marked attempts apart found new g = turn-put base new g.unit (mark_ahead (is_definite base.taken h.takes) (mark.Ready work.Eval)) marked g.stands.mark (open-ahead (is_definite base.taken h.takes) (mark.Ready work.Eval) refl)
      g.put g.others (changed-others u (Some (record h { held = h.held ++ r ∷ []; waits = false })) base.aheads new.aheads g.aheads)
      (record { ahead = record h { held = h.held ++ r ∷ []; waits = false }; leads = changed-here u (Some (record h { held = h.held ++ r ∷ []; waits = false })) base.aheads new.aheads g.aheads }) apart (λ z. says z (is_definite base.taken h.takes))
    where
      gone : named u new.attempts ≡ None
      gone = ap (λ (s : Shared). named u s.attempts) g.others ∙ ap (named u) attempts ∙ none

      says : (z : Doing) (c : Bool) → UnitSays new u z (mark_ahead c (mark.Ready work.Eval))
      says z true = inl gone
      says z false = gone

  -- ---- what it holds first is settled
  module _ (base : Shared) (marked : AreMarkedBut u false base) (left : Ahead) (definite : (k : Ahead) → leads_on left ≡ Some k → k.takes ≡ None) (apart : (k : Mark) → piece_at base.board u ≡ Some (piece.Task k) → ⊥) (entry : Entry) (found : Given) (new : Shared)
      (g : LeadSettles base u x left entry found new) where
    setup : new.setup ≡ base.setup
    setup = ap (λ (s : Shared). s.setup) g.others

    attempts : (v : Name) → named v new.attempts ≡ named v base.attempts
    attempts v = ap (λ (s : Shared). named v s.attempts) g.others

    taken : new.taken ≡ base.taken
    taken = ap (λ (s : Shared). s.taken) g.others

    leads_now : named u new.aheads ≡ leads_on left
    leads_now = changed-here u (leads_on left) base.aheads new.aheads g.aheads

    -- another unit is as it was
    unit-beside : (v : Name) → (v ≡ u → ⊥) → unit_at new.board v ≡ unit_at base.board v
    unit-beside v other = ap (option_and_then unit_in) (g.beside v other) ∙ beside-unit u (leads_on left) (piece_at base.board v)

    over : (f : Name) → finished_at base.board f ≡ None → finished_at new.board f ≡ None
    over f none = on (same_name f u) refl
      where
        on : (c : Bool) → same_name f u ≡ c → finished_at new.board f ≡ None
        on true e = ap (finished_at new.board) (same_name-equal f u e) ∙ ap (λ p. option_and_then (λ (k : UnitState). k.finished) (option_map unit_state (option_and_then unit_in p))) g.here ∙ ap (λ (k : UnitState). k.finished) g.stands.state ∙ unfinished
        on false e = ap (λ o. option_and_then (λ (k : UnitState). k.finished) (option_map unit_state o)) (unit-beside f (apart-of f u e)) ∙ none

    still : (v : Name) → (v ≡ u → ⊥) → IsStill base new v
    still v other = record {
      root = subst (λ o. SameRoot (named v base.attempts) o) (sym (attempts v)) (same-root (named v base.attempts));
      ahead = ahead;
      settles = same-settles base new v ahead taken;
    }
      where
        ahead : named v new.aheads ≡ named v base.aheads
        ahead = changed-others u (leads_on left) base.aheads new.aheads g.aheads v other

    -- the mark of the turn
    says : (z : Doing) (o : Option Ahead) (tree : Option Attempt) (waited : Bool) → leads_on left ≡ o → named u base.attempts ≡ tree → UnitSays new u z (mark_left o tree waited)
    says z (Some k) tree waited is at = inr (ap₂ settles_next taken (leads_now ∙ is) ∙ definite-left base.taken k (definite k is))
    says z None (Some tree) waited is at = marks.root (ap (settles_next new.taken) (leads_now ∙ is)) tree (attempts u ∙ at) refl
    says z None None true is at = inl (attempts u ∙ at)
    says z None None false is at = attempts u ∙ at

    units : (v : Name) (z : Doing) (c : Bool) → same_name v u ≡ c → unit_at new.board v ≡ Some z → UnitSays new v z z.mark
    units v z true e at =
        let both : Some g.unit ≡ Some z = sym (ap (unit_at new.board) (same_name-equal v u e) ∙ ap (option_and_then unit_in) g.here) ∙ at in
        let same : g.unit ≡ z = cc in
        subst (λ q. UnitSays new q z z.mark) (sym (same_name-equal v u e))
        (subst (λ k. UnitSays new u z k) (sym (ap (λ (k : Doing). k.mark) (sym same) ∙ g.stands.mark)) (says z (leads_on left) (named u base.attempts) left.waits refl refl))
    units v z false e at = unit-again base new v z z.mark setup (still v (apart-of v u e)) (λ f waits. over f) (marked.units v z (apart-of v u e) (sym (unit-beside v (apart-of v u e)) ∙ at))

    no-task-now : (k : Mark) → piece_at new.board u ≡ Some (piece.Task k) → ⊥
    no-task-now k at = let no : Some (piece.Unit g.unit) ≡ Some (piece.Task k) = sym g.here ∙ at in cc

    tasks : (n : Name) (m : Mark) → (n ≡ u → ⊥) → piece_at new.board n ≡ Some (piece.Task m) → IsTaskPiece new n m
    tasks n m other at = record {
      owner = before.owner;
      of = ap (λ (s : Shared). named n s.owners) g.others ∙ before.of;
      tree = before.tree;
      attempt = attempts before.owner ∙ before.attempt;
      task = before.task;
      among = before.among;
      hangs = hangs was.is;
      says = λ unended. by was.is (before.says unended (λ e. cc));
      decides = λ ended e root. decides was.is (before.decides ended e root);
    }
      where
        was : WasBeside u (leads_on left) (piece_at base.board n) m
        was = was-beside u (leads_on left) (piece_at base.board n) m (sym (g.beside n other) ∙ at)

        before : IsTaskPieceBut u false base n was.before
        before = marked.tasks n was.before other was.there

        hangs : ((m ≡ was.before) × (leads_on left ≡ None → was.before ≡ mark.Waiting (wait.Definite u) → ⊥)) ⊎ (m ≡ mark.Ready work.Settle) → HangsOn before.owner m
        hangs (inl same) turn waits = before.hangs turn (sym same.0 ∙ waits)
        hangs (inr ready) turn waits = let no : mark.Ready work.Settle ≡ mark.Waiting (wait.Definite turn) = sym ready ∙ waits in cc

        -- its turn still runs ahead, where it waits for that
        leads-still : (o : Option Ahead) (c : Bool) → leads_on left ≡ o → same_name before.owner u ≡ c → (o ≡ None → before.owner ≡ u → ⊥) → IsRunningAhead base before.owner → IsRunningAhead new before.owner
        leads-still (Some k) true is e why ahead = record { ahead = k; leads = ap (λ q. named q new.aheads) (same_name-equal before.owner u e) ∙ leads_now ∙ is }
        leads-still None true is e why ahead = absurd (why refl (same_name-equal before.owner u e))
        leads-still o false is e why ahead = still-ahead base new before.owner (changed-others u (leads_on left) base.aheads new.aheads g.aheads before.owner (apart-of before.owner u e)) ahead

        leads-waits : (leads_on left ≡ None → was.before ≡ mark.Waiting (wait.Definite u) → ⊥) → was.before ≡ mark.Waiting (wait.Definite before.owner) → IsRunningAhead base before.owner → IsRunningAhead new before.owner
        leads-waits why waits = leads-still (leads_on left) (same_name before.owner u) refl refl (λ none mine. why none (waits ∙ ap (λ q. mark.Waiting (wait.Definite q)) mine))

        decides : ((m ≡ was.before) × (leads_on left ≡ None → was.before ≡ mark.Waiting (wait.Definite u) → ⊥)) ⊎ (m ≡ mark.Ready work.Settle) → RootSays base before.owner was.before → RootSays new before.owner m
        decides (inl same) is = subst (RootSays new before.owner) (sym same.0) (root-again base new before.owner was.before before.hangs (leads-waits same.1) is)
        decides (inr ready) is = subst (RootSays new before.owner) (sym ready) tt

        by : ((m ≡ was.before) × (leads_on left ≡ None → was.before ≡ mark.Waiting (wait.Definite u) → ⊥)) ⊎ (m ≡ mark.Ready work.Settle) → TaskSays base before.owner before.tree.tasks before.task was.before → TaskSays new before.owner before.tree.tasks before.task m
        by (inl same) is = subst (λ k. TaskSays new before.owner before.tree.tasks before.task k) (sym same.0)
            (task-again base new setup before.owner before.tree.tasks before.tree.tasks before.task was.before
            (leads-waits same.1)
            (λ f e. come-again base.board new.board before.tree.tasks before.task f (over f)) is)
        by (inr ready) is = subst (λ k. TaskSays new before.owner before.tree.tasks before.task k) (sym ready) tt

    actors : (a : Name) (z : Actor) → piece_at new.board a ≡ Some (piece.Actor z) → z.mark ≡ actor_mark (has_turn new.taken a z.state) (mail_at new.mails a)
    actors a z at =
        marked.actors a z (actor-left u (leads_on left) (piece_at base.board a) z (sym (g.beside a other) ∙ at))
        ∙ sym (ap₂ (λ t mail. actor_mark (has_turn t a z.state) mail) taken (ap (λ (s : Shared). mail_at s.mails a) g.others))
      where
        other : a ≡ u → ⊥
        other same = let no : Some (piece.Unit g.unit) ≡ Some (piece.Actor z) = sym g.here ∙ ap (piece_at new.board) (sym same) ∙ at in cc

    pieces : (v n : Name) → HasPiece base v n → HasPiece new v n
    pieces v n has = record { mark = now.0; there = g.beside n other ∙ now.1; of = ap (λ (s : Shared). named n s.owners) g.others ∙ has.of }
      where
        other : n ≡ u → ⊥
        other same = apart has.mark (ap (piece_at base.board) (sym same) ∙ has.there)

        now : (m : Mark) × (beside_left u (leads_on left) (piece_at base.board n) ≡ Some (piece.Task m))
        now = task-left u (leads_on left) (piece_at base.board n) has.mark has.there

    pub settles-marked : AreMarked new
    settles-marked = record {
      units = λ v z at. units v z (same_name v u) refl at;
      tasks = λ n m at. tasks n m (λ same. no-task-now m (ap (piece_at new.board) (sym same) ∙ at)) at;
      actors = actors;
      pieces = λ v tree at n t among. pieces v n (marked.pieces v tree (sym (attempts v) ∙ at) n t among);
    }
