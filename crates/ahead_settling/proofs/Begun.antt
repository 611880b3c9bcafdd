-- Turns whose begin is settled.
use Rattle.std.proofs.Common.{◌≡◌, arith, ◌∙◌, ◌==◌, ◌++◌, ◌∷◌, ◌||◌, [], ℕ, Bool, true, false, cond, List, refl, sym, ap, subst, suc}
use Rattle.std.proofs.lemmas.Bool.Decides.{nat_tests}
use Rattle.std.specs.Option.{IfSome, IsSome, option_and_then, option_map}
use Rattle.std.specs.Prelude.{Err, IfOk, None, Ok, OnOk, Option, Result, Some, is_some}
use Rattle.std.specs.declared.alloc.AllocError.{AllocError}
use Rattle.actor_mailbox.specs.declared.message.Message.{Message}
use Rattle.actor_mails.specs.Mails.{mail_at}
use Rattle.ahead_settling.proofs.First.{none-out, same-but, still-same, there-still, waiters-then}
use Rattle.ahead_settling.proofs.Lefts.{left-from, left-settles}
use Rattle.ahead_settling.specs.Beginning.{BeginSettled, HasBegunAhead, IsNextTurn, IsTakeEntry}
use Rattle.ahead_settling.specs.declared.leaving.StillAhead.{StillAhead}
use Rattle.ahead_settling.specs.First.{IsOpen}
use Rattle.ahead_settling.specs.Leaving.{HasLeft, IsLeft, LeavesAs, WaitersAmong}
use Rattle.serial_model.specs.declared.actor_state.ActorState.{ActorState}
use Rattle.serial_model.specs.declared.end.End.TheVariants as ending
use Rattle.serial_model.specs.declared.entry.Entry.{Entry}
use Rattle.serial_model.specs.declared.entry.Entry.TheVariants.{Take}
use Rattle.shared_world.proofs.Leads as leads
use Rattle.shared_world.specs.Ahead.{Ahead}
use Rattle.shared_world.specs.declared.given.Given.{Given}
use Rattle.shared_world.specs.Marks.{AreMarked}
use Rattle.shared_world.specs.rows.Actors.{actor_mark}
use Rattle.shared_world.specs.rows.Leading.{IsChanged, LeadSettles, SettlesBegin, TakeSettles, TakeSettlesIfAllowed}
use Rattle.shared_world.specs.rows.Pieces.{ClaimsEnd, EndsBy}
use Rattle.shared_world.specs.Shared.{Shared}
use Rattle.unit_table.specs.Board.{Board, IsPutAt, IsUnlent, SameClaims, actor_at, mark_at, piece_at, unit_at}
use Rattle.unit_table.specs.declared.mark.Mark.{Mark}
use Rattle.unit_table.specs.declared.mark.Mark.TheVariants as mark
use Rattle.unit_table.specs.declared.piece.Actor.{Actor}
use Rattle.unit_table.specs.declared.piece.Piece.{Piece}
use Rattle.unit_table.specs.declared.piece.Piece.TheVariants as piece
use Rattle.unit_table.specs.declared.unit.Unit.{Unit}
use Rattle.unit_table.specs.Piece.{actor_in, mark_in}
use Rattle.value_core.specs.Named.{Name, Named, made_by, named, same_name}
use Rattle.world_model.specs.rows.Turns.{busy_with}
use Rattle.world_steps.proofs.Acting.{apart-from, unit-apart}
use Rattle.world_steps.proofs.Settling.{claims-end, unlent-after}

-- ---- the actor of the turn
-- an actor of that state stands there, and rests
record RestsThere (b : Board) (a : Name) (state : ActorState) : Type 0 where
  actor : Actor
  there : piece_at b a ≡ Some (piece.Actor actor)
  state_is : actor.state ≡ state
  rests : actor.mark ≡ mark.Resting

-- the actor of a turn whose begin is held rests
rests-there : (s : Shared) (a : Name) (m : Message) (state : ActorState) → AreMarked s → named a s.taken ≡ Some m → actor_at s.board a ≡ Some state → RestsThere s.board a state
rests-there s a m state marked took there = on (piece_at s.board a) refl there
  where
    on : (found : Option Piece) → piece_at s.board a ≡ found → option_and_then actor_in found ≡ Some state → RestsThere s.board a state
    on None is so = cc
    on (Some (piece.Unit x)) is so = cc
    on (Some (piece.Task k)) is so = cc
    on (Some (piece.Actor z)) is so = record {
      actor = z;
      there = is;
      state_is = (let both : Some z.state ≡ Some state = so in cc);
      rests = marked.actors a z is ∙ ap (λ (o : Option Message). actor_mark (is_some o || z.state.busy) (mail_at s.mails a)) took;
    }

-- the begin of a turn that is held, where its message is settled and it is the next one of the actor
begins-so : (old : Shared) (u a : Name) (x : Unit) (h : Ahead) (entry : Entry) (busy : ActorState) → AreMarked old → (t : IsTakeEntry old.taken a entry) → (n : IsNextTurn old.board u a busy) → SettlesBegin old u x h a
begins-so old u a x h entry busy marked t n =
    let at = rests-there old a t.message n.actor marked t.took n.there in
    record { message = t.message; took = t.took; definite = t.entry_of.definite; actor = at.actor; there = at.there; called = n.called ∙ ap (λ (k : ActorState). made_by a k.turns) (sym at.state_is) }

-- ---- what the turn comes to
pub begun-so : (old new : Shared) (u a : Name) (busy : ActorState) (board : Board) (taken : Named Message) (units : ℕ) (after : Named Ahead) (entry : Entry) (still : StillAhead) (found : Given)
    → IsOpen old u → AreMarked old → IsTakeEntry old.taken a entry → IsNextTurn old.board u a busy → units ≡ suc old.made
    → IfSome (mark_at old.board a) (λ k. IsPutAt a (Some (piece.Actor (record { state = busy; mark = k }))) old.board board) → SameClaims old.board board → ((q : Name) → named q taken ≡ cond (same_name q a) None (named q old.taken))
    → ((h : Ahead) → named u old.aheads ≡ Some h → IsLeft u (record h { takes = None }) old.aheads after still)
    → LeavesAs (record old { board = board; taken = taken; made = units; aheads = after }) u still entry new found → IsUnlent u board new.board → new.end ≡ old.end → HasBegunAhead old u a new found
unfolding begins-so rests-there
begun-so old new u a busy board taken units after entry still found opened marked t n units_are put kept takes left leaves unlent same_end = record {
  row = λ x h there leading is. (
    begins-so old u a x h entry busy marked t n,
    record {
      board = board;
      busy = put_busy;
      taken = taken;
      takes = takes;
      settles = settles x h there leading;
    },
  );
  claims = claims-end u old new same_end (unlent-after u old.board board new.board kept unlent);
}
  where
    at : RestsThere old.board a n.actor
    at = rests-there old a t.message n.actor marked t.took n.there

    put_at : IsPutAt a (Some (piece.Actor (record { state = busy; mark = at.actor.mark }))) old.board board
    put_at = subst (λ o. IfSome o (λ k. IsPutAt a (Some (piece.Actor (record { state = busy; mark = k }))) old.board board)) (ap (option_map mark_in) at.there) put

    put_busy : IsPutAt a (Some (piece.Actor (record { state = busy_with at.actor.state; mark = mark.Resting }))) old.board board
    put_busy = record {
      here = put_at.here ∙ ap (λ k. Some (piece.Actor (record { state = k; mark = at.actor.mark }))) (n.busy_is ∙ ap busy_with (sym at.state_is)) ∙ ap (λ k. Some (piece.Actor (record { state = busy_with at.actor.state; mark = k }))) at.rests;
      others = put_at.others;
    }

    base : Shared
    base = record old { board = board; taken = taken; made = suc old.made }

    settles : (x : Unit) (h : Ahead) → unit_at old.board u ≡ Some x → named u old.aheads ≡ Some h → LeadSettles base u x (record h { takes = None }) (Take a t.message.sender) found new
    settles x h there leading =
        let leaves_base : LeavesAs (record base { aheads = after }) u still (Take a t.message.sender) new found =
        subst (λ e. LeavesAs (record base { aheads = after }) u still e new found) t.entry_of.entry_is (subst (λ k. LeavesAs (record old { board = board; taken = taken; made = k; aheads = after }) u still entry new found) units_are leaves) in
        let is_left : HasLeft base u (record h { takes = None }) (Take a t.message.sender) new found = left-from base after u (record h { takes = None }) still (Take a t.message.sender) new found (left h leading) leaves_base in
        left-settles base new u x x (record h { takes = None }) (Take a t.message.sender) found is_left (unit-apart old.board board a _ u x (apart-from old.board a u x (Some (piece.Actor at.actor)) there at.there refl) there put_at) refl
        (leads.unfinished old opened.stands opened.going u x there h leading) (opened.stands.machines u x there)

-- a number is found to be the one that it is
pub same-number : (m n : ℕ) → m ≡ n → (m == n) ≡ true
same-number m n same = grind (arith, nat_tests)

-- the limit allows no unit more
pub begin-full : (old mid new : Shared) (u a : Name) (entry told : Entry) (busy : ActorState) (found : Given) → mid ≡ old → AreMarked old → IsTakeEntry old.taken a entry → IsNextTurn old.board u a busy → told ≡ entry → (old.made == old.setup.limits.units) ≡ true
    → EndsBy mid told ending.UnitsSpent found new → BeginSettled old u a new found
unfolding begins-so
begin-full old mid new u a entry told busy found mid_is marked t n told_is full r = record {
  row = λ x h there leading is. let g = begins-so old u a x h entry busy marked t n in (g, subst (λ c. TakeSettlesIfAllowed old u x h a g.actor g.message c found new) (sym full) ends);
  claims = none-out (λ q. same_name q u) old new ending.UnitsSpent (ap (λ (s : Shared). s.end) r.others);
}
  where
    ends : EndsBy old (Take a t.message.sender) ending.UnitsSpent found new
    ends = subst (λ e. EndsBy old e ending.UnitsSpent found new) (told_is ∙ t.entry_of.entry_is) (subst (λ (s : Shared). EndsBy s told ending.UnitsSpent found new) mid_is r)

-- the limit allows the turn
pub begin-room : (old mid new : Shared) (u a : Name) (found : Given) → mid ≡ old → (old.made == old.setup.limits.units) ≡ false → HasBegunAhead mid u a new found → BeginSettled old u a new found
begin-room old mid new u a found mid_is room begun =
    let r : HasBegunAhead old u a new found = subst (λ (s : Shared). HasBegunAhead s u a new found) mid_is begun in
    record {
      row = λ x h there leading is. let both = r.row x h there leading is in (both.0, subst (λ c. TakeSettlesIfAllowed old u x h a both.0.actor both.0.message c found new) (sym room) both.1);
      claims = r.claims;
    }

-- ---- the unit is there still, and what waits for it are tasks of its attempt
pub begun-there : (old : Shared) (u a : Name) (entry : Entry) (busy : ActorState) (board : Board) → IsOpen old u → AreMarked old → IsTakeEntry old.taken a entry → IsNextTurn old.board u a busy
    → IfSome (mark_at old.board a) (λ k. IsPutAt a (Some (piece.Actor (record { state = busy; mark = k }))) old.board board) → IsSome (unit_at board u)
begun-there old u a entry busy board opened marked t n put =
    let at = rests-there old a t.message n.actor marked t.took n.there in
    there-still old u board opened (λ y there. still-same board u y (unit-apart old.board board a _ u y (apart-from old.board a u y (Some (piece.Actor at.actor)) there at.there refl) there
    (subst (λ o. IfSome o (λ k. IsPutAt a (Some (piece.Actor (record { state = busy; mark = k }))) old.board board)) (ap (option_map mark_in) at.there) put)))

pub begun-waiters : (old : Shared) (u a : Name) (entry : Entry) (busy : ActorState) (board : Board) → IsOpen old u → AreMarked old → IsTakeEntry old.taken a entry → IsNextTurn old.board u a busy
    → IfSome (mark_at old.board a) (λ k. IsPutAt a (Some (piece.Actor (record { state = busy; mark = k }))) old.board board) → WaitersAmong board u (named u old.attempts)
begun-waiters old u a entry busy board opened marked t n put =
    let at = rests-there old a t.message n.actor marked t.took n.there in
    waiters-then old old old u a _ board opened (same-but old) refl (λ m e. let no : piece.Actor (record { state = busy; mark = at.actor.mark }) ≡ piece.Task m = e in cc)
    (subst (λ o. IfSome o (λ k. IsPutAt a (Some (piece.Actor (record { state = busy; mark = k }))) old.board board)) (ap (option_map mark_in) at.there) put)

-- the turn is the next one of the actor
pub next-turn : (b : Board) (u a : Name) (state : ActorState) (result : Result ActorState AllocError) → actor_at b a ≡ Some state → OnOk result (u ≡ made_by a state.turns) → IfOk result (λ busy. busy ≡ busy_with state) → IfOk result (IsNextTurn b u a)
next-turn b u a state (Err e) there called busy = tt
next-turn b u a state (Ok k) there called busy = record { actor = state; there = there; called = called; busy_is = busy }

-- what holds anyhow holds where the call succeeds
pub on-ok-so : {X E P : Type 0} (r : Result X E) → P → OnOk r P
on-ok-so (Ok x) p = p
on-ok-so (Err e) p = tt
