-- The turn that one thread begins next.
use Rattle.std.proofs.Common.{◌≡◌, ◌∙◌, inl, inr, Bool, true, false, cond, List, [], ◌∷◌, ◌++◌, map, refl, sym, ap, ap₂, subst}
use Rattle.std.specs.declared.cmp.Ordering.TheVariants.{Less}
use Rattle.std.specs.Option.{IsSome, option_map}
use Rattle.std.specs.Prelude.{None, Option, Some, not}
use Rattle.actor_mailbox.specs.declared.message.Message.{Message}
use Rattle.actor_mailbox.specs.BySender.{SendersRise}
use Rattle.actor_mailbox.specs.Messages.{from}
use Rattle.actor_mails.specs.Mails.{Mail, mail_at}
use Rattle.lent_pieces.specs.Giving.{IsOpenUnit}
use Rattle.run_end.proofs.First.{HasQueue, message-first, queued, take-first, units-none}
use Rattle.run_end.proofs.Turns.{not-behind, open-unit, sound-here}
use Rattle.run_end.specs.InTurn.{IsDue, IsDueTurn, IsInTurn, IsUpTo}
use Rattle.serial_model.specs.declared.entry.Entry.TheVariants.{Take}
use Rattle.serial_model.specs.State.{UnitState}
use Rattle.serial_model.specs.Step.{queue_of}
use Rattle.shared_world.proofs.ActorPieces.{unit-no-actor}
use Rattle.shared_world.proofs.Live.{state-there, unit-piece}
use Rattle.shared_world.proofs.Over.{end-same, now}
use Rattle.shared_world.proofs.Quiet.{AreDone, IsDone, line-queue, no-taken, state-done}
use Rattle.shared_world.specs.Ahead.{Ahead}
use Rattle.shared_world.specs.Rest.{AreFinished}
use Rattle.shared_world.specs.Seen.{live_with}
use Rattle.shared_world.specs.Shared.{Shared, finished_by, state_at, unit_state}
use Rattle.shared_world.specs.Stands.{Stands}
use Rattle.unit_table.specs.Board.{actor_at, unit_at}
use Rattle.unit_table.specs.declared.mark.Mark.{Mark}
use Rattle.unit_table.specs.declared.mark.Mark.TheVariants as mark
use Rattle.unit_table.specs.declared.unit.Unit.{Unit}
use Rattle.unit_table.specs.Piece.{goes_on, says_finished}
use Rattle.value_core.proofs.NamedLaws.{same_name-equal, same_name-itself}
use Rattle.value_core.specs.declared.value.Value.{Value}
use Rattle.value_core.specs.Name.{after_cmp}
use Rattle.value_core.specs.NameOrder.{after_cmp_total}
use Rattle.value_core.specs.Named.{Name, named, same_name}
use Rattle.value_core.specs.NameSet.{holds_at}
use Rattle.world_model.specs.Message.{settled}

some-same : {X : Type 0} (x y : X) → Some x ≡ Some y → x ≡ y
some-same x y e = cc

-- ---- senders
up-to-then : (a b c : Name) → IsUpTo a b → IsUpTo b c → IsUpTo a c
up-to-then a b c (inl one) two = subst (λ n. IsUpTo n c) (sym one) two
up-to-then a b c (inr one) (inl two) = inr (subst (λ n. after_cmp a n ≡ Less) two one)
up-to-then a b c (inr one) (inr two) = inr (after_cmp_total.trans a b c one two)

-- where senders rise, the first is up to each
first-sender : (m : Message) (rest : List Message) → SendersRise (m ∷ rest) → (u : Name) → (from u (m ∷ rest) ≡ [] → ⊥) → IsUpTo m.sender u
first-sender m [] rises u some = on (same_name u m.sender) refl
  where
    on : (b : Bool) → same_name u m.sender ≡ b → IsUpTo m.sender u
    on true is = inl (sym (same_name-equal u m.sender is))
    on false is = absurd (some (ap (λ b. cond b (m ∷ []) []) is))
first-sender m (n ∷ more) rises u some = on (same_name u m.sender) refl (first-sender n more rises.1 u)
  where
    none-behind : same_name u m.sender ≡ false → from u (n ∷ more) ≡ [] → from u (m ∷ n ∷ more) ≡ []
    none-behind other none = ap (λ b. cond b (m ∷ from u (n ∷ more)) (from u (n ∷ more))) other ∙ none

    on : (b : Bool) → same_name u m.sender ≡ b → ((from u (n ∷ more) ≡ [] → ⊥) → IsUpTo n.sender u) → IsUpTo m.sender u
    on true is behind = inl (sym (same_name-equal u m.sender is))
    on false is behind = up-to-then m.sender n.sender u (not-behind m.sender n.sender rises.0) (behind (λ none. some (none-behind is none)))

-- the messages of the first sender are some
from-first : (m : Message) (rest : List Message) → from m.sender (m ∷ rest) ≡ m ∷ from m.sender rest
from-first m rest = ap (λ b. cond b (m ∷ from m.sender rest) (from m.sender rest)) (same_name-itself m.sender)

-- ---- who has mail
-- a message waits for the actor
pub record HasMail (mails : Mail) (actor : Name) : Type 0 where
  pub message : Message
  pub rest : List Message
  pub is : mail_at mails actor ≡ message ∷ rest

mail-some : (mails : Mail) (a : Name) → (mail_at mails a ≡ [] → ⊥) → HasMail mails a
mail-some mails a some = on (mail_at mails a) refl
  where
    on : (mail : List Message) → mail_at mails a ≡ mail → HasMail mails a
    on [] none = absurd (some none)
    on (m ∷ rest) is = record { message = m; rest = rest; is = is }

-- ---- where each unit is finished
module _ (s : Shared) (st : Stands s) (all : AreFinished s.board) where
  -- each has its value
  has-value : (u : Name) (x : Unit) → unit_at s.board u ≡ Some x → IsSome (finished_by x.mark)
  has-value u x there = on x.mark (sym (ap (holds_at goes_on) (unit-piece s.board u x there)) ∙ all u)
    where
      on : (m : Mark) → not (says_finished m) ≡ false → IsSome (finished_by m)
      on (mark.Ready work) is = cc
      on (mark.Waiting w) is = cc
      on mark.Resting is = cc
      on (mark.Finished v) is = refl
      on mark.Dropped is = cc

  none-open : {Q : Type 0} (u : Name) (k : UnitState) → state_at s.board u ≡ Some k → k.finished ≡ None → Q
  none-open {Q} u k there unfinished = on (unit_at s.board u) refl
    where
      some : (v : Option Value) → v ≡ None → IsSome v → Q
      some None e is = absurd (cc)
      some (Some v) e is = absurd (cc)

      same : (x : Unit) → Some (unit_state x) ≡ Some k → unit_state x ≡ k
      same x e = cc

      on : (found : Option Unit) → unit_at s.board u ≡ found → Q
      on None is = let no : None ≡ Some k = sym (ap (option_map unit_state) is) ∙ there in absurd (cc)
      on (Some x) is =
          some (finished_by x.mark) (ap (λ (y : UnitState). y.finished) (same x (sym (ap (option_map unit_state) is) ∙ there)) ∙ unfinished) (has-value u x is)

  -- none runs ahead, and none holds anything
  all-done : AreDone st.world
  all-done u x there = on (unit_at s.board u) refl (named u s.aheads) refl (sym (st.seen.units u) ∙ there)
    where
      by : (y : Unit) → unit_at s.board u ≡ Some y → live_with None (unit_state y) ≡ x → IsDone x
      by y is same = subst IsDone same (record { takes = refl; held = refl; finished = has-value u y is })

      on : (found : Option Unit) → unit_at s.board u ≡ found → (h : Option Ahead) → named u s.aheads ≡ h → option_map (live_with (named u s.aheads)) (state_at s.board u) ≡ Some x → IsDone x
      on found is (Some h) leads e = let ahead = st.aheads u h leads in none-open u ahead.unit ahead.there ahead.unfinished
      on None is None level e = let no : None ≡ Some x = sym (ap (λ k. option_map (live_with (named u s.aheads)) (option_map unit_state k)) is) ∙ e in absurd (cc)
      on (Some y) is None level e =
          let seen : Some (live_with None (unit_state y)) ≡ Some x =
          sym (ap (λ h. option_map (live_with h) (option_map unit_state (unit_at s.board u))) level ∙ ap (λ k. option_map (live_with None) (option_map unit_state k)) is) ∙ e in
          by y is (some-same (live_with None (unit_state y)) x seen)

  -- the messages of a sender are its queue
  same-mail : (a u : Name) → from u (mail_at s.mails a) ≡ map (settled u) (queue_of (now s st).queues a u)
  same-mail a u =
      ap (from u) (sym (ap₂ (λ taken mails. taken ++ mails) (no-taken s.setup st.world (now s st) st.is_world.stands all-done a) (st.seen.mails a)))
      ∙ line-queue s.setup st.world (now s st) st.is_world.stands all-done a u

  -- a sender whose message waits in the state has one in the mail
  queue-mail : (a u : Name) → HasQueue (now s st).queues a u → from u (mail_at s.mails a) ≡ [] → ⊥
  queue-mail a u has none = has (empty (queue_of (now s st).queues a u) (sym none ∙ same-mail a u))
    where
      empty : (queue : List (List Value)) → [] ≡ map (settled u) queue → queue ≡ []
      empty [] is = refl
      empty (m ∷ ms) is = cc

  -- the first message of a mail waits in the state
  mail-queue : (a : Name) (h : HasMail s.mails a) → HasQueue (now s st).queues a h.message.sender
  mail-queue a h none =
      let no : h.message ∷ from h.message.sender h.rest ≡ [] =
      sym (from-first h.message h.rest)
      ∙ sym (ap (from h.message.sender) h.is)
      ∙ same-mail a h.message.sender
      ∙ ap (map (settled h.message.sender)) none in
      cc

  -- who has mail is an actor
  pub mailed-actor : (a : Name) → HasMail s.mails a → IsSome (actor_at s.board a)
  mailed-actor a h =
      let q = queued (now s st).queues a h.message.sender (mail-queue a h) in
      subst IsSome (sym (st.is_world.stands.actors a) ∙ st.seen.actors a) ((sound-here s st).scoped.each_queue a q.mail q.at).actor

  -- and no unit
  pub mailed-open : (a : Name) → HasMail s.mails a → IsOpenUnit s.board a
  mailed-open a h x there = absurd (none (actor_at s.board a) (unit-no-actor s.board a (unit_state x) (state-there s.board a x there)) (mailed-actor a h))
    where
      none : {X : Type 0} (found : Option X) → found ≡ None → IsSome found → ⊥
      none None e some = cc
      none (Some y) e some = cc

-- where it is due and a unit, it is not finished
pub due-open : (s : Shared) → Stands s → (name : Name) → IsDue s name → IsOpenUnit s.board name
due-open s st name (inl opened) = open-unit s.board name opened
due-open s st name (inr turn) = mailed-open s st turn.finished name (mail-some s.mails name turn.mailed.there)

-- a turn that is due is in turn
pub take-in-turn : (s : Shared) (st : Stands s) → s.end ≡ None → (actor : Name) → IsDueTurn s actor → (m : Message) (rest : List Message) → mail_at s.mails actor ≡ m ∷ rest → IsInTurn (now s st) (Take actor m.sender)
take-in-turn s st going actor due m rest is =
    take-first (now s st) (end-same s st ∙ going) (Take actor m.sender)
    (units-none (now s st).units (sound-here s st).ordered.unit_names (state-done s.setup st.world (now s st) st.is_world.stands (all-done s st due.finished)))
    (message-first (now s st).queues (sound-here s st).ordered.queue_names (λ a mail there. ((sound-here s st).scoped.each_queue a mail there).rises) actor m.sender
    (mail-queue s st due.finished actor (record { message = m; rest = rest; is = is }))
    (λ other u has. not-behind actor other (due.mailed.first other (λ none. queue-mail s st due.finished other u has (ap (from u) none))))
    (λ u has. first-sender m rest (subst SendersRise is due.rises) u (λ none. queue-mail s st due.finished actor u has (ap (from u) is ∙ none))))
