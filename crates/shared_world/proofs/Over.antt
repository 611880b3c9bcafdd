-- When the run is over: where no end is set, exactly where each unit is finished and nobody has mail.
use Rattle.std.proofs.Common.{◌≡◌, ◌∙◌, false, List, [], ◌∷◌, ◌++◌, map, refl, sym, ap, ap₂, subst}
use Rattle.std.specs.Option.{IsSome, option_and_then, option_map, unwrap_or}
use Rattle.std.specs.Prelude.{None, Option, Some, cond, not, ◌↔◌}
use Rattle.actor_mailbox.specs.declared.message.Message.{Message}
use Rattle.actor_mailbox.specs.Messages.{from}
use Rattle.actor_mails.specs.Mails.{NoMail, mail_at}
use Rattle.serial_model.proofs.runs.Firsts.{quiet-is-still}
use Rattle.serial_model.proofs.runs.Stuck.{nothing-waits}
use Rattle.serial_model.proofs.tasks.TaskKeeps.{transactions-keep}
use Rattle.serial_model.specs.declared.end.End.{End}
use Rattle.serial_model.specs.declared.end.End.TheVariants.{Done}
use Rattle.serial_model.specs.Laws.{IsQuiet}
use Rattle.serial_model.specs.Replay as over
use Rattle.serial_model.specs.Replay.{IsOver, replay}
use Rattle.serial_model.specs.State.{State, UnitState}
use Rattle.serial_model.specs.Step.{queue_of}
use Rattle.shared_world.proofs.Leading.{now-kept}
use Rattle.shared_world.proofs.Live.{unit-piece}
use Rattle.shared_world.proofs.Quiet.{AreDone, IsDone, empty-queue, line-queue, no-taken, no-value, quiet-done, state-done}
use Rattle.shared_world.specs.Ahead.{Ahead}
use Rattle.shared_world.specs.Rest.{AreFinished, IsAtRest}
use Rattle.shared_world.specs.Seen.{live_with}
use Rattle.shared_world.specs.Shared.{Shared, finished_by, state_at, unit_state}
use Rattle.shared_world.specs.Stands.{Stands}
use Rattle.unit_table.specs.Board.{piece_at, unit_at}
use Rattle.unit_table.specs.declared.mark.Mark.{Mark}
use Rattle.unit_table.specs.declared.mark.Mark.TheVariants as mark
use Rattle.unit_table.specs.declared.unit.Unit.{Unit}
use Rattle.unit_table.specs.declared.piece.Piece.{Piece}
use Rattle.unit_table.specs.declared.piece.Piece.TheVariants as piece
use Rattle.unit_table.specs.Piece.{goes_on, says_finished, unit_in}
use Rattle.value_core.proofs.NamedLaws.{same_name-itself}
use Rattle.value_core.specs.declared.value.Value.{Value}
use Rattle.value_core.specs.Named.{Name, named}
use Rattle.value_core.specs.NameSet.{holds_at}
use Rattle.world_model.specs.Message.{settled}
use Rattle.world_model.specs.World.{LiveUnit, World}

-- a unit that is finished has its value
has-value : (m : Mark) → not (says_finished m) ≡ false → IsSome (finished_by m)
has-value (mark.Ready work) is = cc
has-value (mark.Waiting on) is = cc
has-value mark.Resting is = cc
has-value (mark.Finished v) is = refl
has-value mark.Dropped is = cc

is-finished : (m : Mark) → IsSome (finished_by m) → not (says_finished m) ≡ false
is-finished (mark.Ready work) is = cc
is-finished (mark.Waiting on) is = cc
is-finished mark.Resting is = cc
is-finished (mark.Finished v) is = refl
is-finished mark.Dropped is = cc

-- where no sender has messages, none are there
none-from : (ms : List Message) → ((sender : Name) → from sender ms ≡ []) → ms ≡ []
none-from [] none = refl
none-from (m ∷ ms) none = let some : m ∷ from m.sender ms ≡ [] = sym (ap (λ b. cond b (m ∷ from m.sender ms) (from m.sender ms)) (same_name-itself m.sender)) ∙ none m.sender in cc

module _ (s : Shared) (st : Stands s) where
  abbrev w : World
  w = st.world

  -- the state that the history replays to
  abbrev pub now : State
  now = st.is_world.state

  pub replays-here : replay s.setup s.history ≡ Some now
  replays-here = subst (λ entries. replay s.setup entries ≡ Some now) st.seen.history st.is_world.replays

  -- it has the end that is set
  pub end-same : now.end ≡ s.end
  end-same = sym st.is_world.stands.end ∙ st.seen.end

  -- ---- what is finished
  -- a unit that is kept, as it is seen
  seen-kept : (u : Name) (k : UnitState) → state_at s.board u ≡ Some k → w.units u ≡ Some (live_with (named u s.aheads) k)
  seen-kept u k there = st.seen.units u ∙ ap (option_map (live_with (named u s.aheads))) there

  value-of : AreFinished s.board → (u : Name) (k : UnitState) → state_at s.board u ≡ Some k → IsSome k.finished
  value-of all u k there = on (unit_at s.board u) refl there
    where
      on : (found : Option Unit) → unit_at s.board u ≡ found → option_map unit_state found ≡ Some k → IsSome k.finished
      on None is e = cc
      on (Some x) is e = let same : unit_state x ≡ k = cc in subst (λ (k : UnitState). IsSome k.finished) same (has-value x.mark (sym (ap (holds_at goes_on) (unit-piece s.board u x is)) ∙ all u))

  -- where each unit is finished none runs ahead
  finished-done : AreFinished s.board → AreDone w
  finished-done all u x there = on (state_at s.board u) refl
    where
      by : (k : UnitState) → state_at s.board u ≡ Some k → (h : Option Ahead) → named u s.aheads ≡ h → x ≡ live_with h k → IsDone x
      by k is None level same = record {
        takes = ap (λ (y : LiveUnit). y.takes) same;
        held = ap (λ (y : LiveUnit). y.held) same;
        finished = subst (λ (y : LiveUnit). IsSome y.now.finished) (sym same) (value-of all u k is);
      }
      by k is (Some h) leads same =
          let going = st.aheads u h leads in
          no-value going.unit.finished going.unfinished (value-of all u going.unit going.there)

      on : (found : Option UnitState) → state_at s.board u ≡ found → IsDone x
      on None is = let no : None ≡ Some x = sym (st.seen.units u ∙ ap (option_map (live_with (named u s.aheads))) is) ∙ there in cc
      on (Some k) is = by k is (named u s.aheads) refl (let both : Some x ≡ Some (live_with (named u s.aheads) k) = sym there ∙ seen-kept u k is in cc)

  done-finished : AreDone w → AreFinished s.board
  done-finished done u = on (piece_at s.board u) refl
    where
      on : (found : Option Piece) → piece_at s.board u ≡ found → holds_at goes_on found ≡ false
      on None is = refl
      on (Some (piece.Unit x)) is =
          let kept : state_at s.board u ≡ Some (unit_state x) = ap (λ p. option_map unit_state (option_and_then unit_in p)) is in
          is-finished x.mark (subst (λ (k : UnitState). IsSome k.finished) (now-kept (named u s.aheads) (unit_state x)) (done u (live_with (named u s.aheads) (unit_state x)) (seen-kept u (unit_state x) kept)).finished)
      on (Some (piece.Task m)) is = refl
      on (Some (piece.Actor a)) is = refl

  -- ---- messages
  -- those of a sender are its queue
  mail-is-queue : AreDone w → (a u : Name) → from u (mail_at s.mails a) ≡ map (settled u) (queue_of now.queues a u)
  mail-is-queue done a u =
      ap (from u) (sym (ap₂ (λ taken mails. taken ++ mails) (no-taken s.setup w now st.is_world.stands done a) (st.seen.mails a)))
      ∙ line-queue s.setup w now st.is_world.stands done a u

  no-queue : AreDone w → NoMail s.mails → (a u : Name) → queue_of now.queues a u ≡ []
  no-queue done none a u = empty (queue_of now.queues a u) (sym (ap (from u) (none a)) ∙ mail-is-queue done a u)
    where
      empty : (queue : List (List Value)) → [] ≡ map (settled u) queue → queue ≡ []
      empty [] is = refl
      empty (m ∷ ms) is = cc

  -- ---- the end
  rest-quiet : IsAtRest s → IsQuiet now
  rest-quiet rest = record {
    units = λ u unit there. state-done s.setup w now st.is_world.stands done u unit there;
    queues = λ a mail there u queue found. sym (ap (λ o. unwrap_or (option_and_then (named u) o) []) there ∙ ap (λ o. unwrap_or o []) found) ∙ no-queue done rest.mail a u;
  }
    where
      done : AreDone w
      done = finished-done rest.units

  quiet-rest : IsQuiet now → IsAtRest s
  quiet-rest quiet = record {
    units = done-finished done;
    mail = λ a. none-from (mail_at s.mails a) (λ u. mail-is-queue done a u ∙ ap (map (settled u)) (empty-queue now.queues quiet.queues a u));
  }
    where
      done : AreDone w
      done = quiet-done s.setup w now st.is_world.stands st.is_world.ranks quiet

  -- where every unit is finished and nobody has mail, the state is over
  pub rest-over : s.end ≡ None → IsAtRest s → IsOver s.setup now Done
  rest-over going rest = over.still (end-same ∙ going) (quiet-is-still s.setup now (rest-quiet rest))

  -- and where it is over they are, and nobody has
  pub over-rest : (end : End) → s.end ≡ None → IsOver s.setup now end → IsAtRest s
  over-rest end going (over.set ends) = let no : None ≡ Some end = sym going ∙ sym end-same ∙ ends in cc
  over-rest end going (over.still still_going none) = quiet-rest (nothing-waits transactions-keep s.setup st.formed w.history now st.is_world.replays still_going none)

  -- its end is Done then
  pub over-done : (end : End) → s.end ≡ None → IsOver s.setup now end → end ≡ Done
  over-done end going (over.set ends) = let no : None ≡ Some end = sym going ∙ sym end-same ∙ ends in cc
  over-done end going (over.still still_going none) = refl

  one-state : (state : State) → replay s.setup s.history ≡ Some state → state ≡ now
  one-state state replays = one state now (sym replays ∙ replays-here)
    where
      one : (a b : State) → Some a ≡ Some b → a ≡ b
      one a b e = cc

  -- the state of the replay has the end that is set
  pub state-end : (state : State) → replay s.setup s.history ≡ Some state → state.end ≡ s.end
  state-end state replays = ap (λ (t : State). t.end) (one-state state replays) ∙ end-same

  -- while no end is set it is over exactly where every unit is finished and nobody has mail
  pub over-at-rest : (state : State) → replay s.setup s.history ≡ Some state → s.end ≡ None → (end : End) → IsOver s.setup state end ↔ (IsAtRest s × (end ≡ Done))
  over-at-rest state replays going end = (
    λ over. let at = subst (λ t. IsOver s.setup t end) (one-state state replays) over in (over-rest end going at, over-done end going at),
    λ rest. subst (λ t. IsOver s.setup t end) (sym (one-state state replays)) (subst (IsOver s.setup now) (sym rest.1) (rest-over going rest.0)),
  )
