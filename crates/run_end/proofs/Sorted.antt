-- The mail of an actor that is sorted by sender leaves what is kept standing.
use Rattle.std.proofs.Common.{◌≡◌, ◌∙◌, ◌⊎◌, inl, inr, Bool, true, false, List, [], ◌∷◌, ◌++◌, length, le_refl, refl, sym, ap, subst}
use Rattle.std.specs.Ordering.{is_gt}
use Rattle.actor_mailbox.specs.declared.message.Message.{Message}
use Rattle.actor_mailbox.specs.BySender.{IsBySender}
use Rattle.actor_mailbox.specs.Messages.{from, is_from}
use Rattle.actor_mails.specs.Firsts.{IsFirstWithMail}
use Rattle.actor_mails.specs.Mails.{Mail, SameMailBut, mail_at}
use Rattle.run_end.proofs.Ends.{level-same}
use Rattle.run_end.proofs.Turns.{turns-none}
use Rattle.run_end.specs.Finishing.{GoesOn}
use Rattle.run_end.specs.InTurn.{IsDueTurn}
use Rattle.run_end.specs.Sorted.{IsSorted}
use Rattle.serial_model.specs.Step.{queue_of}
use Rattle.shared_world.proofs.Few.{few-same}
use Rattle.shared_world.proofs.Marks.{marked-actors}
use Rattle.shared_world.proofs.Standing.{under-way}
use Rattle.shared_world.specs.Few.{KeepsFew}
use Rattle.shared_world.specs.Marks.{HasMarks}
use Rattle.shared_world.specs.Rest.{AreFinished}
use Rattle.shared_world.specs.rows.Actors.{actor_mark, has_turn}
use Rattle.shared_world.specs.Shared.{Shared}
use Rattle.shared_world.specs.Stands.{Stands}
use Rattle.unit_table.specs.Board.{is_unfinished}
use Rattle.value_core.proofs.NamedLaws.{same_or_not}
use Rattle.value_core.specs.Name.{after_cmp}
use Rattle.value_core.specs.Named.{Name}
use Rattle.world_model.proofs.lists.Lists.{filter-append}
use Rattle.world_model.specs.IsWorld.{IsWorld}
use Rattle.world_model.specs.StandsFor.{QueueStands}
use Rattle.world_model.specs.World.{World, line, sends}

module _ (actor : Name) (old : Shared) (mails : Mail) (mail : IsBySender (mail_at old.mails actor) (mail_at mails actor)) (others : SameMailBut actor old.mails mails) where
  abbrev sorted : Shared
  sorted = record old { mails = mails }

  -- each sender's messages are the same
  from-same : (a u : Name) → from u (mail_at mails a) ≡ from u (mail_at old.mails a)
  from-same a u = on (same_or_not a actor)
    where
      on : (a ≡ actor) ⊎ ¬ (a ≡ actor) → from u (mail_at mails a) ≡ from u (mail_at old.mails a)
      on (inl same) = ap (λ n. from u (mail_at mails n)) same ∙ mail.same u ∙ sym (ap (λ n. from u (mail_at old.mails n)) same)
      on (inr other) = ap (from u) (others a other)

  -- and who had mail has mail
  empty-same : (busy : Bool) (one two : List Message) → length one ≡ length two → actor_mark busy one ≡ actor_mark busy two
  empty-same true one two same = refl
  empty-same false [] [] same = refl
  empty-same false [] (m ∷ ms) same = cc
  empty-same false (m ∷ ms) [] same = cc
  empty-same false (m ∷ ms) (n ∷ ns) same = refl

  mark-same : (busy : Bool) (a : Name) → actor_mark busy (mail_at old.mails a) ≡ actor_mark busy (mail_at mails a)
  mark-same busy a = on (same_or_not a actor)
    where
      on : (a ≡ actor) ⊎ ¬ (a ≡ actor) → actor_mark busy (mail_at old.mails a) ≡ actor_mark busy (mail_at mails a)
      on (inl same) =
          ap (λ n. actor_mark busy (mail_at old.mails n)) same
          ∙ empty-same busy (mail_at old.mails actor) (mail_at mails actor) (sym mail.length)
          ∙ sym (ap (λ n. actor_mark busy (mail_at mails n)) same)
      on (inr other) = ap (actor_mark busy) (sym (others a other))

  module _ (st : Stands old) where
    abbrev w : World
    w = st.world

    abbrev seen_sorted : World
    seen_sorted = record w { mails = λ a. mail_at mails a }

    line-same : (a u : Name) → from u (line seen_sorted a) ≡ from u (line w a)
    line-same a u =
        filter-append (is_from u) (w.taken a) (mail_at mails a)
        ∙ ap (λ ms. from u (w.taken a) ++ ms) (from-same a u ∙ ap (from u) (sym (st.seen.mails a)))
        ∙ sym (filter-append (is_from u) (w.taken a) (w.mails a))

    queue-stands : (a u : Name) → QueueStands u (line seen_sorted a) (sends seen_sorted u a) (queue_of st.is_world.state.queues a u)
    queue-stands a u =
        let at = st.is_world.stands.queues a u in record {
          put = at.put;
          kept = at.kept;
          whole = at.whole;
          stands = line-same a u ∙ at.stands;
        }

    world-sorted : IsWorld old.setup seen_sorted
    world-sorted = record {
      state = st.is_world.state;
      replays = st.is_world.replays;
      stands = record {
        refs = st.is_world.stands.refs;
        units = st.is_world.stands.units;
        actors = st.is_world.stands.actors;
        queues = queue-stands;
        attempts = st.is_world.stands.attempts;
        bytes = st.is_world.stands.bytes;
        made = st.is_world.stands.made;
        end = st.is_world.stands.end;
        turns = st.is_world.stands.turns;
      };
      snapshots = st.is_world.snapshots;
      ranks = st.is_world.ranks;
    }

    stands-sorted : Stands sorted
    stands-sorted = record {
      formed = st.formed;
      world = seen_sorted;
      is_world = world-sorted;
      seen = record {
        history = st.seen.history;
        refs = st.seen.refs;
        units = st.seen.units;
        actors = st.seen.actors;
        taken = st.seen.taken;
        mails = λ a. refl;
        attempts = st.seen.attempts;
        bytes = st.seen.bytes;
        made = st.seen.made;
        end = st.seen.end;
      };
      machines = st.machines;
      attempts = λ going v tree there. under-way old sorted v tree refl refl (λ r. refl) (λ f v is. is) (le_refl (length old.history)) (st.attempts going v tree there);
      numbers = st.numbers;
      aheads = st.aheads;
    }

  marks-sorted : HasMarks old → HasMarks sorted
  marks-sorted marks going =
      let all = marks going in
      marked-actors old sorted (record {
        setup = refl;
        attempts = λ v. refl;
        owners = refl;
        aheads = refl;
        settles = λ v. refl;
        pieces = λ n. refl;
        actors = λ a x there. all.actors a x there ∙ mark-same (has_turn old.taken a x.state) a;
      }) all

  goes-sorted : Stands old → GoesOn old sorted
  goes-sorted st = record {
    stands = stands-sorted st;
    marks = marks-sorted;
    few = few-same old sorted refl refl;
    turns = turns-none old sorted refl refl;
    claims = λ none. none;
    level = level-same old sorted refl refl;
  }

-- what is kept goes on, where the mail of an actor is sorted
pub sorted-goes : (actor : Name) (old new : Shared) → Stands old → IsSorted actor old new → GoesOn old new
sorted-goes actor old new st is = subst (GoesOn old) (sym is.rest) (goes-sorted actor old new.mails is.mail is.others st)

pub sorted-stands : (actor : Name) (old new : Shared) → Stands old → IsSorted actor old new → Stands new
sorted-stands actor old new st is = (sorted-goes actor old new st is).stands

pub sorted-marks : (actor : Name) (old new : Shared) → IsSorted actor old new → HasMarks old → HasMarks new
sorted-marks actor old new is = subst (λ s. HasMarks old → HasMarks s) (sym is.rest) (marks-sorted actor old new.mails is.mail is.others)

pub sorted-few : (actor : Name) (old new : Shared) → IsSorted actor old new → KeepsFew old → KeepsFew new
sorted-few actor old new is = few-same old new (ap (λ (s : Shared). s.versions) is.rest) (ap (λ (s : Shared). s.attempts) is.rest)

-- its turn is due, where each unit is finished and it is the first that has mail
pub sorted-due : (actor : Name) (old new : Shared) → IsSorted actor old new → AreFinished old.board → IsFirstWithMail old.mails actor → IsDueTurn new actor
sorted-due actor old new is all mailed = record {
  finished = λ u. ap (λ (s : Shared). is_unfinished s.board u) is.rest ∙ all u;
  mailed = record {
    there = λ none. mailed.there (none-there (mail_at old.mails actor) (sym is.mail.length ∙ ap length none));
    first = λ other some. first other some (same_or_not other actor);
  };
  rises = is.mail.rises;
}
  where
    none-there : (mail : List Message) → length mail ≡ 0 → mail ≡ []
    none-there [] e = refl
    none-there (m ∷ rest) e = cc

    first : (other : Name) → ¬ (mail_at new.mails other ≡ []) → (other ≡ actor) ⊎ ¬ (other ≡ actor) → is_gt (after_cmp actor other) ≡ false
    first other some (inl same) = ap (λ n. is_gt (after_cmp actor n)) same ∙ mailed.first actor mailed.there
    first other some (inr apart) = mailed.first other (λ none. some (is.others other apart ∙ none))
