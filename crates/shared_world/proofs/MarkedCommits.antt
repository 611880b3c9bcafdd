-- How the marks stay right where an attempt commits: actors are made and roused, and turns are definite.
use Rattle.std.proofs.Common.{◌≡◌, ◌∙◌, Bool, true, false, cond, List, [], ◌∷◌, ◌++◌, append-nil, refl, sym, ap, ap₂, subst}
use Rattle.std.specs.Option.{option_and_then, option_map}
use Rattle.std.specs.Prelude.{◌||◌, Option, None, Some, is_some}
use Rattle.actor_mailbox.specs.declared.message.Message.{Message}
use Rattle.actor_mailbox.specs.Messages.{definite, depends_on, settle, settle_one}
use Rattle.actor_mails.specs.Mails.{mail_at}
use Rattle.serial_model.specs.declared.actor_state.ActorState.{ActorState}
use Rattle.serial_model.specs.declared.effect.Effect.{Effect}
use Rattle.serial_model.specs.State.{UnitState}
use Rattle.shared_world.proofs.Effects.{acted-unit, piece-state, unless_made}
use Rattle.shared_world.proofs.MarkedActors.{NoneTaken, put-mark, roused-but, rouses-right}
use Rattle.shared_world.proofs.MarkedAheads.{says-definite, settles-actor, settles-task, settles-unit}
use Rattle.shared_world.proofs.Marks.{IsStill, SameRoot, but_actor, come-again, root-again, same-root, still-ahead, task-again, task-but, unit-again}
use Rattle.shared_world.specs.Ahead.{Ahead}
use Rattle.shared_world.specs.Marks.{AreMarked, IsTaskPiece, UnitSays}
use Rattle.shared_world.specs.rows.Actors.{acted, actor_mark, has_turn, spawned}
use Rattle.shared_world.specs.rows.Commits.{ActorsAct, SendsSettle, definite_if, hangs_on, turns_on}
use Rattle.shared_world.specs.rows.Leading.{can_settle, is_definite, is_settled, settles_next, settles_now}
use Rattle.shared_world.specs.rows.Unsettled.{kept_to}
use Rattle.shared_world.specs.Shared.{Shared, finished_at, state_at}
use Rattle.task_fork_join.specs.Attempt.{Attempt}
use Rattle.unit_table.specs.Board.{lent_at, piece_at, unit_at}
use Rattle.unit_table.specs.declared.mark.Mark.{Mark}
use Rattle.unit_table.specs.declared.piece.Actor.{Actor}
use Rattle.unit_table.specs.declared.piece.Piece.{Piece}
use Rattle.unit_table.specs.declared.piece.Piece.TheVariants as piece
use Rattle.unit_table.specs.declared.unit.Unit.{Unit as Doing}
use Rattle.unit_table.specs.Piece.{unit_in}
use Rattle.value_core.specs.Named.{Name, Named, named, same_name}

-- ---- mail that is settled
-- it is empty where it was
mark-settled : (test : Name → Bool) (begun : Bool) (ms : List Message) → actor_mark begun (settle test ms) ≡ actor_mark begun ms
mark-settled test true ms = refl
mark-settled test false [] = refl
mark-settled test false (m ∷ ms) = refl

not-settled-away : (test : Name → Bool) (before : List Message) (m : Message) (ms : List Message) → settle test (before ++ m ∷ ms) ≡ [] → ⊥
not-settled-away test [] m ms e = cc
not-settled-away test (first ∷ rest) m ms e = cc

-- ---- actors that are made and roused
-- where an actor is made nothing stood; elsewhere a unit and a task stay
acted-but : (begun : Bool) (made : Option ActorState) (last mail : List Message) (found : Option Piece) → ((state : ActorState) → made ≡ Some state → but_actor found ≡ None) → but_actor (acted begun made last mail found) ≡ but_actor found
acted-but begun (Some state) last mail found none = sym (none state refl)
acted-but begun None [] mail found none = refl
acted-but begun None (m ∷ ms) mail found none = roused-but begun found

-- the mark of an actor that was made, or roused by what came last
acted-mark : (test : Name → Bool) (begun : Bool) (made : Option ActorState) (last before mail : List Message) (found : Option Piece) (z : Actor) → ((x : Actor) → found ≡ Some (piece.Actor x) → x.mark ≡ actor_mark (begun || x.state.busy) before)
    → ((state : ActorState) → made ≡ Some state → begun ≡ false) → mail ≡ settle test (before ++ last) → acted begun made last mail found ≡ Some (piece.Actor z) → z.mark ≡ actor_mark (begun || z.state.busy) mail
acted-mark test begun (Some state) last before mail found z right fresh is e = put-mark begun (record { state = state; mark = actor_mark state.busy mail }) z mail e (ap (λ b. actor_mark (b || state.busy) mail) (sym (fresh state refl)))
acted-mark test begun None [] before mail found z right fresh is e =
    right z e ∙ sym (mark-settled test (begun || z.state.busy) before) ∙ ap (actor_mark (begun || z.state.busy)) (ap (settle test) (sym (append-nil before)) ∙ sym is)
acted-mark test begun None (m ∷ ms) before mail found z right fresh is e = rouses-right begun before mail found z right (λ none. not-settled-away test before m ms (sym is ∙ none)) e

-- ---- turns that are definite now
-- a turn on no message that is settled now is as definite as it was
still-definite : (test : Name → Bool) (o : Option Message) → ((m : Message) → o ≡ Some m → depends_on test m ≡ false) → is_settled (option_map (settle_one test) o) ≡ is_settled o
still-definite test None not = refl
still-definite test (Some m) not = on (depends_on test m) (not m refl)
  where
    on : (c : Bool) → c ≡ false → is_settled (Some (cond c (definite m) m)) ≡ is_settled (Some m)
    on false e = refl
    on true e = cc

now-definite : (test : Name → Bool) (m : Message) → depends_on test m ≡ true → is_settled (Some (settle_one test m)) ≡ true
now-definite test m is = on (depends_on test m) is
  where
    on : (c : Bool) → c ≡ true → is_settled (Some (cond c (definite m) m)) ≡ true
    on true e = refl
    on false e = cc

-- What the effects of a transaction do to actors, and its sends to turns: all else is the same to the marks.
module _ (u : Name) (effects : List Effect) (tree : Attempt) (base s new : Shared) (marked : AreMarked s) (setup : new.setup ≡ s.setup) (attempts : new.attempts ≡ s.attempts) (owners : new.owners ≡ s.owners) (aheads : new.aheads ≡ s.aheads) (led : s.aheads ≡ base.aheads)
    (taken : s.taken ≡ base.taken) (mails : s.mails ≡ base.mails) (acts : ActorsAct effects u tree base s.board new) (sends : SendsSettle u tree base new) (none : (a : Name) → piece_at base.board a ≡ None → piece_at s.board a ≡ None) (none_taken : NoneTaken base) where
  abbrev test : Name → Bool
  test = same_name tree.root

  abbrev begun : Name → Bool
  begun a = is_some (named a base.taken)

  abbrev so : Name → Bool
  so a = turns_on base tree.root a

  abbrev lent : Name → Bool
  lent a = is_some (lent_at base.board a)

  abbrev then_it : Name → Option Piece
  then_it a = definite_if (so a) (lent a) (piece_at s.board a)

  definite-none : (c l : Bool) (found : Option Piece) → found ≡ None → but_actor (definite_if c l found) ≡ None
  definite-none false l found e = ap but_actor e
  definite-none true l found e = ap (λ f. but_actor (option_map (settles_now l) f)) e

  same-but : (a : Name) → but_actor (piece_at new.board a) ≡ but_actor (then_it a)
  same-but a = ap but_actor (acts.pieces a)
      ∙ acted-but (begun a) (spawned effects a) (kept_to base u tree a) (mail_at new.mails a) (then_it a) (λ state made. definite-none (so a) (lent a) (piece_at s.board a) (none a (acts.none a state made)))

  -- ---- units
  ahead-of : (v : Name) → named v new.aheads ≡ named v base.aheads
  ahead-of v = ap (named v) (aheads ∙ led)

  can-now : (v : Name) → so v ≡ true → can_settle new v ≡ true
  can-now v is = by (named v base.aheads) refl is
    where
      taken-now : (a : Name) (o : Option Message) → named a base.taken ≡ o → hangs_on tree.root o ≡ true → is_settled (named a new.taken) ≡ true
      taken-now a None e hangs = cc
      taken-now a (Some m) e hangs = ap is_settled (sends.taken a ∙ ap (option_map (settle_one test)) e) ∙ now-definite test m hangs

      of : (h : Ahead) (takes : Option Name) → hangs_on tree.root (option_and_then (λ a. named a base.taken) takes) ≡ true → is_definite new.taken takes ≡ true
      of h None e = refl
      of h (Some a) e = taken-now a (named a base.taken) refl e

      by : (found : Option Ahead) → named v base.aheads ≡ found → hangs_on tree.root (option_and_then (λ a. named a base.taken) (option_and_then (λ (h : Ahead). h.takes) found)) ≡ true → can_settle new v ≡ true
      by None e hangs = cc
      by (Some h) e hangs = ap (settles_next new.taken) (ahead-of v ∙ e) ∙ of h h.takes hangs

  can-same : (v : Name) → so v ≡ false → can_settle new v ≡ can_settle s v
  can-same v is = by (named v base.aheads) refl is
    where
      not-of : (o : Option Message) → hangs_on tree.root o ≡ false → (m : Message) → o ≡ Some m → depends_on test m ≡ false
      not-of None e m at = cc
      not-of (Some k) e m at = let same : k ≡ m = cc in subst (λ (j : Message). depends_on test j ≡ false) same e

      of : (takes : Option Name) → hangs_on tree.root (option_and_then (λ a. named a base.taken) takes) ≡ false → is_definite new.taken takes ≡ is_definite s.taken takes
      of None e = refl
      of (Some a) e = ap is_settled (sends.taken a) ∙ still-definite test (named a base.taken) (not-of (named a base.taken) e) ∙ ap (λ (t : Named Message). is_settled (named a t)) (sym taken)

      by : (found : Option Ahead) → named v base.aheads ≡ found → hangs_on tree.root (option_and_then (λ a. named a base.taken) (option_and_then (λ (h : Ahead). h.takes) found)) ≡ false → can_settle new v ≡ can_settle s v
      by None e not = ap (settles_next new.taken) (ahead-of v ∙ e) ∙ sym (ap (settles_next s.taken) (ap (named v) led ∙ e))
      by (Some h) e not = ap (settles_next new.taken) (ahead-of v ∙ e) ∙ of h.takes not ∙ sym (ap (settles_next s.taken) (ap (named v) led ∙ e))

  still : (v : Name) → so v ≡ false → IsStill s new v
  still v not = record {
    root = subst (λ o. SameRoot (named v s.attempts) o) (sym (ap (named v) attempts)) (same-root (named v s.attempts));
    ahead = ap (named v) aheads;
    settles = can-same v not;
  }

  over : (f : Name) → finished_at s.board f ≡ None → finished_at new.board f ≡ None
  over f unfinished = ap (option_and_then (λ (k : UnitState). k.finished)) (piece-state effects u tree base new s.board acts f) ∙ on (spawned effects f)
    where
      on : (made : Option ActorState) → option_and_then (λ (k : UnitState). k.finished) (unless_made made (state_at s.board f)) ≡ None
      on None = unfinished
      on (Some state) = refl

  unit-was : (v : Name) (z : Doing) → unit_at new.board v ≡ Some z → option_and_then unit_in (then_it v) ≡ Some z
  unit-was v z at = acted-unit (begun v) (spawned effects v) (kept_to base u tree v) (mail_at new.mails v) (then_it v) z (sym (ap (option_and_then unit_in) (acts.pieces v)) ∙ at)

  units : (v : Name) (z : Doing) (c : Bool) → so v ≡ c → option_and_then unit_in (definite_if c (lent v) (piece_at s.board v)) ≡ Some z → UnitSays new v z z.mark
  units v z true is at =
      let was = settles-unit (lent v) (piece_at s.board v) z at in
      subst (λ k. UnitSays new v z k) (sym (ap (λ (k : Doing). k.mark) was.2)) (says-definite s new v was.0 z (lent v) (can-now v is) (λ none. ap (named v) attempts ∙ none) was.0.mark (marked.units v was.0 was.1))
  units v z false is at = unit-again s new v z z.mark setup (still v is) (λ f waits. over f) (marked.units v z at)

  -- ---- tasks
  task-was : (n : Name) (m : Mark) → piece_at new.board n ≡ Some (piece.Task m) → piece_at s.board n ≡ Some (piece.Task m)
  task-was n m at = on (so n) (task-but (then_it n) m (sym (same-but n) ∙ ap but_actor at))
    where
      on : (c : Bool) → definite_if c (lent n) (piece_at s.board n) ≡ Some (piece.Task m) → piece_at s.board n ≡ Some (piece.Task m)
      on false e = e
      on true e = settles-task (lent n) (piece_at s.board n) m e

  task-stays : (n : Name) (m : Mark) → piece_at s.board n ≡ Some (piece.Task m) → piece_at new.board n ≡ Some (piece.Task m)
  task-stays n m at = task-but (piece_at new.board n) m (same-but n ∙ on (so n))
    where
      on : (c : Bool) → but_actor (definite_if c (lent n) (piece_at s.board n)) ≡ Some (piece.Task m)
      on false = ap but_actor at
      on true = ap (λ f. but_actor (option_map (settles_now (lent n)) f)) at

  tasks : (n : Name) (m : Mark) → IsTaskPiece s n m → IsTaskPiece new n m
  tasks n m is = record {
    owner = is.owner;
    of = ap (named n) owners ∙ is.of;
    tree = is.tree;
    attempt = ap (named is.owner) attempts ∙ is.attempt;
    task = is.task;
    among = is.among;
    hangs = is.hangs;
    says = λ unended. task-again s new setup is.owner is.tree.tasks is.tree.tasks is.task m (λ e. still-ahead s new is.owner (ap (named is.owner) aheads)) (λ f e. come-again s.board new.board is.tree.tasks is.task f (over f)) (is.says unended);
    decides = λ ended e root. root-again s new is.owner m is.hangs (λ waits. still-ahead s new is.owner (ap (named is.owner) aheads)) (is.decides ended e root);
  }

  -- ---- actors
  was-actor : (a : Name) (c : Bool) (x : Actor) → definite_if c (lent a) (piece_at s.board a) ≡ Some (piece.Actor x) → piece_at s.board a ≡ Some (piece.Actor x)
  was-actor a false x e = e
  was-actor a true x e = settles-actor (lent a) (piece_at s.board a) x e

  taken-same : (a : Name) → is_some (named a new.taken) ≡ begun a
  taken-same a = ap is_some (sends.taken a) ∙ on (named a base.taken)
    where
      on : (o : Option Message) → is_some (option_map (settle_one test) o) ≡ is_some o
      on None = refl
      on (Some m) = refl

  actors : (a : Name) (z : Actor) → piece_at new.board a ≡ Some (piece.Actor z) → z.mark ≡ actor_mark (has_turn new.taken a z.state) (mail_at new.mails a)
  actors a z there =
      acted-mark test (begun a) (spawned effects a) (kept_to base u tree a) (mail_at base.mails a) (mail_at new.mails a) (then_it a) z
      (λ x at. marked.actors a x (was-actor a (so a) x at) ∙ ap₂ (λ t ms. actor_mark (has_turn t a x.state) (mail_at ms a)) taken mails) (λ state made. ap is_some (none_taken a (acts.none a state made))) (sends.mails a) (sym (acts.pieces a) ∙ there)
      ∙ ap (λ b. actor_mark (b || z.state.busy) (mail_at new.mails a)) (sym (taken-same a))

  pub commits-marked : AreMarked new
  commits-marked = record {
    units = λ v z at. units v z (so v) refl (unit-was v z at);
    tasks = λ n m at. tasks n m (marked.tasks n m (task-was n m at));
    actors = actors;
    pieces = λ v some at n t among. let has = marked.pieces v some (sym (ap (named v) attempts) ∙ at) n t among in record {
      mark = has.mark;
      there = task-stays n has.mark has.there;
      of = ap (named n) owners ∙ has.of;
    };
  }
