-- Where all units of the state are finished: with a unit that is kept unfinished, or for an actor with mail, something can be done.
use Rattle.std.proofs.Common.{◌≡◌, ◌∙◌, Bool, true, false, cond, List, [], ◌∷◌, ◌++◌, map, refl, sym, ap, subst}
use Rattle.std.specs.Option.{IsSome, option_and_then, option_map, unwrap_or}
use Rattle.std.specs.Prelude.{◌||◌, Option, None, Some, is_some, not}
use Rattle.actor_mailbox.specs.declared.message.Message.{Message}
use Rattle.actor_mailbox.specs.Messages.{from, is_from}
use Rattle.actor_mails.specs.Mails.{mail_at}
use Rattle.serial_model.specs.declared.actor_state.ActorState.{ActorState}
use Rattle.serial_model.specs.State.{State, UnitState}
use Rattle.serial_model.specs.Step.{queue_of}
use Rattle.shared_world.proofs.Leading.{now-kept}
use Rattle.shared_world.specs.Marks.{AreMarked}
use Rattle.shared_world.specs.rows.Actors.{actor_mark}
use Rattle.shared_world.specs.Seen.{live_with, one_or_none}
use Rattle.shared_world.specs.Shared.{Shared, finished_by, unit_state}
use Rattle.shared_world.specs.Stands.{Stands}
use Rattle.unit_table.specs.Board.{is_unfinished, marks_ready, piece_at}
use Rattle.unit_table.specs.declared.mark.Mark.{Mark}
use Rattle.unit_table.specs.declared.mark.Mark.TheVariants as mark
use Rattle.unit_table.specs.declared.piece.Piece.{Piece}
use Rattle.unit_table.specs.declared.piece.Piece.TheVariants as piece
use Rattle.unit_table.specs.declared.piece.Actor.{Actor}
use Rattle.unit_table.specs.declared.unit.Unit.{Unit as Doing}
use Rattle.unit_table.specs.Piece.{actor_in, goes_on, says_finished, says_ready, unit_in}
use Rattle.value_core.proofs.NamedLaws.{Each, same_name-itself}
use Rattle.value_core.specs.declared.value.Value.{Value}
use Rattle.value_core.specs.Named.{Name, Named, made_by, named}
use Rattle.value_core.specs.NameSet.{holds_at}
use Rattle.world_model.specs.Message.{settled}
use Rattle.world_model.specs.StandsFor.{QueueStands, TakenStands}
use Rattle.world_model.specs.World.{LiveUnit, World, line, sends}
use Rattle.world_progress.proofs.Begun.{HoldsBegin, begun-works, level-done, sender-begun}
use Rattle.world_progress.proofs.Now.{kept-live, no-value, now, sound, stands}
use Rattle.world_progress.specs.Progress.{HasWork}

-- a mark that is not finished has no value
no-mark : (m : Mark) → not (says_finished m) ≡ true → finished_by m ≡ None
no-mark (mark.Ready work) is = refl
no-mark (mark.Waiting on) is = refl
no-mark mark.Resting is = refl
no-mark (mark.Finished v) is = cc
no-mark mark.Dropped is = refl

-- a message behind others is one of its sender's
behind-them : (front : List Message) (m : Message) (ms : List Message) → from m.sender (front ++ m ∷ ms) ≡ [] → ⊥
behind-them [] m ms is = let some : m ∷ from m.sender ms ≡ [] = sym (ap (λ c. cond c (m ∷ from m.sender ms) (from m.sender ms)) (same_name-itself m.sender)) ∙ is in cc
behind-them (x ∷ xs) m ms is = on (is_from m.sender x) is (behind-them xs m ms)
  where
    on : (b : Bool) → cond b (x ∷ from m.sender (xs ++ m ∷ ms)) (from m.sender (xs ++ m ∷ ms)) ≡ [] → (from m.sender (xs ++ m ∷ ms) ≡ [] → ⊥) → ⊥
    on true e rest = cc
    on false e rest = rest e

module _ (s : Shared) (st : Stands s) (marks : AreMarked s) (over : Each (λ u (unit : UnitState). IsSome unit.finished) (now s st).units) where
  abbrev w : World
  w = st.world

  abbrev N : State
  N = now s st

  -- with a turn whose begin is held something can be done
  works : (u : Name) → HoldsBegin w u → HasWork s
  works u b = begun-works s st over marks u b

  -- ---- a unit that is kept unfinished is a turn whose begin is held
  pub unfinished-works : (u : Name) → is_unfinished s.board u ≡ true → HasWork s
  unfinished-works u is = on (piece_at s.board u) refl is
    where
      by : (x : Doing) → piece_at s.board u ≡ Some (piece.Unit x) → finished_by x.mark ≡ None → (y : LiveUnit) → live_with (named u s.aheads) (unit_state x) ≡ y → (takes : Option Name) → y.takes ≡ takes → HasWork s
      by x there still y same None level =
          let live = kept-live s st u (unit_state x) (ap (λ p. option_map unit_state (option_and_then unit_in p)) there) ∙ ap Some same in
          no-value y.now.finished
          (ap (λ (z : LiveUnit). z.now.finished) (sym same) ∙ ap (λ (k : UnitState). k.finished) (now-kept (named u s.aheads) (unit_state x)) ∙ still)
          (level-done s st over u y live level).1
      by x there still y same (Some a) takes =
          let live = kept-live s st u (unit_state x) (ap (λ p. option_map unit_state (option_and_then unit_in p)) there) ∙ ap Some same in works u (record { turn = y; there = live; actor = a; takes = takes })

      on : (found : Option Piece) → piece_at s.board u ≡ found → holds_at goes_on found ≡ true → HasWork s
      on None there e = cc
      on (Some (piece.Unit x)) there e =
          by x there (no-mark x.mark e) (live_with (named u s.aheads) (unit_state x)) refl (live_with (named u s.aheads) (unit_state x)).takes refl
      on (Some (piece.Task m)) there e = cc
      on (Some (piece.Actor a)) there e = cc

  -- ---- an actor with mail
  module _ (a : Name) (m : Message) (ms : List Message) (mail : mail_at s.mails a ≡ m ∷ ms) where
    -- it can begin a turn, unless it has one whose begin is held
    actor-works : (x : Actor) → piece_at s.board a ≡ Some (piece.Actor x) → named a N.actors ≡ Some x.state → HasWork s
    actor-works x there state = on (named a s.taken) refl
      where
        -- no turn of the state goes on
        idle : x.state.busy ≡ true → ⊥
        idle busy =
            let turn = (sound s st).made.busy a x.state state busy in
            no-value turn.unit.finished turn.unfinished (over (made_by a turn.number) turn.unit turn.there)

        free : named a s.taken ≡ None → (busy : Bool) → x.state.busy ≡ busy → HasWork s
        free none true busy = absurd (idle busy)
        free none false busy = record {
          name = a;
          ready = ap marks_ready there
              ∙ ap says_ready (marks.actors a x there ∙ ap (λ found. actor_mark (is_some found || x.state.busy) (mail_at s.mails a)) none ∙ ap (λ b. actor_mark b (mail_at s.mails a)) busy ∙ ap (actor_mark false) mail);
        }

        on : (found : Option Message) → named a s.taken ≡ found → HasWork s
        on None none = free none x.state.busy refl
        on (Some taken) is =
            let its = subst (TakenStands w.actors w.units a) (st.seen.taken a ∙ ap one_or_none is) ((stands s st).turns a) in
            works (made_by a its.actor.turns) (record { turn = its.turn; there = its.begun; actor = a; takes = its.takes })

    -- it is there where a message of the queues is for it
    there-works : (state : ActorState) → named a N.actors ≡ Some state → HasWork s
    there-works state there = on (piece_at s.board a) refl (sym (st.seen.actors a) ∙ (stands s st).actors a ∙ there)
      where
        on : (found : Option Piece) → piece_at s.board a ≡ found → option_and_then actor_in (piece_at s.board a) ≡ Some state → HasWork s
        on None is e = let no : None ≡ Some state = sym (ap (option_and_then actor_in) is) ∙ e in cc
        on (Some (piece.Unit x)) is e = let no : None ≡ Some state = sym (ap (option_and_then actor_in) is) ∙ e in cc
        on (Some (piece.Task k)) is e = let no : None ≡ Some state = sym (ap (option_and_then actor_in) is) ∙ e in cc
        on (Some (piece.Actor x)) is e =
            let both : Some x.state ≡ Some state = sym (ap (option_and_then actor_in) is) ∙ e in
            let same : x.state ≡ state = cc in actor-works x is (there ∙ ap Some (sym same))

    -- the actor of a queue is there
    queue-actor : (q : List Value) (qs : List (List Value)) → queue_of N.queues a m.sender ≡ q ∷ qs → IsSome (named a N.actors)
    queue-actor q qs waits = on (named a N.queues) refl
      where
        on : (found : Option (Named (List (List Value)))) → named a N.queues ≡ found → IsSome (named a N.actors)
        on None is = let no : [] ≡ q ∷ qs = sym (ap (λ o. unwrap_or (option_and_then (named m.sender) o) []) is) ∙ waits in cc
        on (Some queues) is = ((sound s st).scoped.each_queue a queues is).actor

    -- so for one that has such a message something can be done
    queued-works : IsSome (named a N.actors) → HasWork s
    queued-works some = on (named a N.actors) refl some
      where
        on : (found : Option ActorState) → named a N.actors ≡ found → IsSome found → HasWork s
        on None is none = absurd (cc)
        on (Some state) is some = there-works state is

    -- the first message is in a queue, or is one that its sender holds
    pub mail-works : HasWork s
    mail-works = on (queue_of N.queues a m.sender) refl at.put refl
      where
        at : QueueStands m.sender (line w a) (sends w m.sender a) (queue_of N.queues a m.sender)
        at = (stands s st).queues a m.sender

        lined : from m.sender (line w a) ≡ [] → ⊥
        lined none = behind-them (w.taken a) m ms (sym (ap (λ mails. from m.sender (w.taken a ++ mails)) (st.seen.mails a ∙ mail)) ∙ none)

        on : (queue : List (List Value)) → queue_of N.queues a m.sender ≡ queue → (put : List Message) → at.put ≡ put → HasWork s
        on (q ∷ qs) is put e = queued-works (queue-actor q qs is)
        on [] is [] e = absurd (lined (at.stands ∙ ap (λ queue. map (settled m.sender) queue ++ at.put) is ∙ e))
        on [] is (p ∷ ps) e = works m.sender (sender-begun s st over m.sender a (λ none.
            let no : [] ≡ p ∷ (ps ++ at.kept) = sym none ∙ at.whole ∙ ap (λ put. put ++ at.kept) e in cc))
