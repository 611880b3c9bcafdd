-- What an actor comes to that begins its turn ahead of the history.
use Rattle.std.proofs.Common.{◌≡◌, ◌∙◌, ℕ, cond, ◌++◌, refl, sym, ap, subst}
use Rattle.std.specs.BTreeMap.{BTreeMap}
use Rattle.std.specs.Prelude.{None, Some}
use Rattle.actor_mails.specs.Mails.{IsMailed, mail_at}
use Rattle.actor_turns.specs.declared.turns.Turning.{Turning}
use Rattle.actor_turns.specs.Leading.{HasBegunAhead, HasNoted, HasRoomFor}
use Rattle.actor_turns.specs.Turning.{IsAtFront, IsDueAhead, IsTurning, turn_of}
use Rattle.serial_model.specs.State.{new_unit}
use Rattle.shared_world.specs.Ahead.{Ahead}
use Rattle.shared_world.specs.declared.given.Given.{Given}
use Rattle.shared_world.specs.rows.Leading.{GaveTentative, IsChanged, TakesAhead, begun_by}
use Rattle.shared_world.specs.Shared.{Shared}
use Rattle.turns_ahead.specs.Leading.{Leading, ahead_of}
use Rattle.unit_table.specs.Board.{IsPutAt, piece_at}
use Rattle.unit_table.specs.declared.mark.Mark.TheVariants as mark
use Rattle.unit_table.specs.declared.piece.Piece.TheVariants as piece
use Rattle.value_core.proofs.NamedLaws.{named-with_named}
use Rattle.value_core.proofs.NamedViews.{each_as-with_named}
use Rattle.value_core.specs.Named.{Name, Named, each_as, made_by, named, same_name, with_named}
use Rattle.world_steps.proofs.Settling.{claims-end, unlent-after}
use Rattle.world_steps.specs.declared.kept.Kept.{Kept}
use Rattle.world_steps.specs.Kept.{IsSameBut, shared_of}

-- what is noted under the name of a turn is seen there
pub noted-ahead : (es : Named Leading) (turn key : Name) (l : Leading) (h : Ahead) (old : Named Ahead) → key ≡ turn → ahead_of l ≡ h → each_as ahead_of es ≡ old → IsChanged turn (Some h) old (each_as ahead_of (with_named es key l))
noted-ahead es turn key l h old is_key is_ahead before other =
    ap (named other) (each_as-with_named ahead_of key l es) ∙ named-with_named other key (ahead_of l) (each_as ahead_of es)
    ∙ ap (λ k. cond (same_name other k) (Some (ahead_of l)) (named other (each_as ahead_of es))) is_key
    ∙ ap (λ k. cond (same_name other turn) (Some k) (named other (each_as ahead_of es))) is_ahead
    ∙ ap (λ n. cond (same_name other turn) (Some h) (named other n)) before

-- the turn is noted, where there is room for it
pub noted-so : (old : Shared) (k : Kept) (a turn : Name) (map : BTreeMap Name Leading) (begun : BTreeMap ℕ Name) → IsSameBut old (shared_of k) → HasRoomFor a turn k → IsChanged turn (Some (begun_by a)) (each_as ahead_of k.aheads.entries) (each_as ahead_of map.entries)
    → HasNoted old a turn (record k { aheads = map; begun = begun })
noted-so old k a turn map begun same room changed = record {
  same = record { pieces = same.pieces; claims = same.claims; rest = ap (λ (s : Shared). record s { aheads = old.aheads }) same.rest };
  aheads = subst (λ es. IsChanged turn (Some (begun_by a)) es (each_as ahead_of map.entries)) (ap (λ (s : Shared). s.aheads) same.rest) changed;
  room = record { none = room.none; place = room.place; item_place = room.item_place };
}

-- the turn begins that is noted
pub taken-ahead : (old new : Shared) (k : Kept) (a : Name) (t : Turning) (found : Given) → (due : IsDueAhead old a) → ((front : IsAtFront old a) → IsTurning old a front.actor.state front.first front.can.behaviour t) → HasNoted old a t.name k
    → HasBegunAhead (shared_of k) a t new found → GaveTentative old a found new
taken-ahead old new k a t found due turns noted begun = record {
  actor = front.actor;
  there = front.there;
  first = front.first;
  rest = front.rest;
  mail = front.mail;
  idle = front.can.idle;
  free = front.can.free;
  tentative = due.tentative;
  behaviour = front.can.behaviour;
  behaves = front.can.behaves;
  takes = takes;
  claims = claims-end a old new (ap (λ (s : Shared). s.end) others) (unlent-after a old.board k.units new.board noted.same.claims begun.unlent);
}
  where
    front : IsAtFront old a
    front = due.front

    turning : IsTurning old a front.actor.state front.first front.can.behaviour t
    turning = turns front

    k_is : shared_of k ≡ record old { board = k.units; aheads = (shared_of k).aheads }
    k_is = ap (λ (s : Shared). record s { aheads = (shared_of k).aheads }) noted.same.rest

    others : new ≡ record old { board = new.board; mails = new.mails; taken = new.taken; aheads = new.aheads }
    others =
        begun.others ∙ ap (λ (s : Shared). record s { board = new.board; mails = new.mails; taken = new.taken }) k_is
        ∙ ap (λ n. record old { board = new.board; mails = new.mails; taken = new.taken; aheads = n }) (sym (ap (λ (s : Shared). s.aheads) begun.others))

    mail_same : (q : Name) → mail_at (shared_of k).mails q ≡ mail_at old.mails q
    mail_same q = ap (λ (s : Shared). mail_at s.mails q) k_is

    mailed : IsMailed a front.rest (shared_of k).mails new.mails
    mailed = begun.mailed front.first front.rest (mail_same a ∙ front.mail)

    rests : IsPutAt a (Some (piece.Actor (record front.actor { mark = mark.Resting }))) k.units begun.board
    rests = begun.rests front.actor (noted.same.pieces a ∙ front.there)

    takes : TakesAhead old a front.actor.state front.first front.rest front.can.behaviour found new
    takes = record {
      found_is = begun.found_is;
      none = sym (noted.same.pieces _) ∙ subst (λ n. piece_at k.units n ≡ None) turning.name_is noted.room.none;
      turn = turn_of t.name t.actor t.machine;
      begins = record {
        state = λ i. record (new_unit (Some a) front.can.behaviour.body (front.actor.state.state ++ front.first.args)) { actor = Some (turning.actor_is i); body = turning.body i; values = turning.values i; answers = turning.answers i };
        machine = turning.machine;
        mark = refl;
      };
      board = begun.board;
      rests = record { here = rests.here; others = λ q ne. rests.others q ne ∙ noted.same.pieces q };
      put = subst (λ n. IsPutAt n (Some (piece.Unit (turn_of t.name t.actor t.machine))) begun.board new.board) turning.name_is begun.put;
      mailed = record { here = mailed.here; others = λ q ne. mailed.others q ne ∙ mail_same q };
      taken = λ other. begun.taken front.first front.rest (mail_same a ∙ front.mail) other ∙ ap (λ (s : Shared). cond (same_name other a) (Some front.first) (named other s.taken)) k_is;
      aheads = subst (λ n. IsChanged n (Some (begun_by a)) old.aheads new.aheads) turning.name_is
          (λ other. ap (λ (s : Shared). named other s.aheads) begun.others ∙ noted.aheads other);
      others = others;
    }
