-- What an actor comes to that begins its turn.
use Rattle.std.proofs.Common.{◌≡◌, ◌∙◌, ◌==◌, Bool, false, true, cond, List, [], ◌∷◌, ◌++◌, refl, sym, ap, subst, suc}
use Rattle.std.specs.Option.{option_and_then}
use Rattle.std.specs.Prelude.{None, Option, Some, if◌then◌else◌}
use Rattle.actor_mails.specs.Mails.{IsMailed, mail_at}
use Rattle.serial_model.specs.declared.end.End.{End}
use Rattle.serial_model.specs.declared.end.End.TheVariants as ending
use Rattle.serial_model.specs.declared.entry.Entry.{Entry}
use Rattle.serial_model.specs.declared.entry.Entry.TheVariants.{Take}
use Rattle.serial_model.specs.State.{UnitState, new_unit}
use Rattle.shared_world.specs.declared.given.Given.{Given}
use Rattle.shared_world.specs.declared.given.Given.TheVariants as given
use Rattle.shared_world.specs.rows.Pieces.{ClaimsEnd, EndsBy, but_gone}
use Rattle.shared_world.specs.rows.Turns.{GaveActor, Takes, TakesIfAllowed}
use Rattle.shared_world.specs.Shared.{Shared, claimed, is_going}
use Rattle.unit_table.specs.Board.{IsPutAt, but_for, lent_to, piece_at}
use Rattle.unit_table.specs.declared.mark.Mark.TheVariants as mark
use Rattle.unit_table.specs.declared.piece.Piece.TheVariants as piece
use Rattle.value_core.specs.Named.{Name, made_by, same_name}
use Rattle.world_steps.proofs.Forking.{claims-again}
use Rattle.actor_turns.specs.declared.turns.Turning.{Turning}
use Rattle.world_steps.specs.Kept.{IsSameBut}
use Rattle.actor_turns.specs.Turning.{HasBegunTurn, IsAtFront, IsDue, IsTurning, turn_of}

-- at an end no claim is out
none-out : (gone : Name → Bool) (old new : Shared) (e : End) → new.end ≡ Some e → ClaimsEnd gone old new
none-out gone old new e is going ticket = let no : false ≡ true = sym (ap is_going is) ∙ going in cc

-- the limit allows no turn more
pub spent-turn : (old mid new : Shared) (a : Name) (entry : Entry) (found : Given) → mid ≡ old → (due : IsDue old a) → entry ≡ Take a due.front.first.sender → (old.made == old.setup.limits.units) ≡ true
    → EndsBy mid entry ending.UnitsSpent found new → GaveActor old a found new
spent-turn old mid new a entry found mid_is due entry_is full r = record {
  actor = due.front.actor;
  there = due.front.there;
  first = due.front.first;
  rest = due.front.rest;
  mail = due.front.mail;
  can = record { idle = due.front.can.idle; free = due.front.can.free; definite = due.definite; behaviour = due.front.can.behaviour; behaves = due.front.can.behaves };
  gives = subst (λ c. TakesIfAllowed old a due.front.actor.state due.front.first due.front.rest due.front.can.behaviour c found new) (sym full) ends;
  claims = none-out (λ q. same_name q a) old new ending.UnitsSpent (ap (λ (s : Shared). s.end) ends.others);
}
  where
    ends : EndsBy old (Take a due.front.first.sender) ending.UnitsSpent found new
    ends = subst (λ e. EndsBy old e ending.UnitsSpent found new) entry_is (subst (λ (s : Shared). EndsBy s entry ending.UnitsSpent found new) mid_is r)

-- the turn begins
pub begun-turn : (old mid roomy new : Shared) (a : Name) (entry : Entry) (t : Turning) (found : Given) → mid ≡ old → IsSameBut mid roomy → ((due : IsDue old a) → entry ≡ Take a due.front.first.sender)
    → ((front : IsAtFront mid a) → IsTurning mid a front.actor.state front.first front.can.behaviour t) → IsDue old a → piece_at roomy.board t.name ≡ None → (old.made == old.setup.limits.units) ≡ false
    → HasBegunTurn roomy a entry t new found → GaveActor old a found new
begun-turn old mid roomy new a entry t found mid_is same entries turns due none room r = record {
  actor = due.front.actor;
  there = due.front.there;
  first = due.front.first;
  rest = due.front.rest;
  mail = due.front.mail;
  can = record { idle = due.front.can.idle; free = due.front.can.free; definite = due.definite; behaviour = due.front.can.behaviour; behaves = due.front.can.behaves };
  gives = subst (λ c. TakesIfAllowed old a due.front.actor.state due.front.first due.front.rest due.front.can.behaviour c found new) (sym room) takes;
  claims = λ going ticket. claims-again (λ q. same_name q a) old roomy new same_old ends going ticket;
}
  where
    same_old : IsSameBut old roomy
    same_old = subst (λ (s : Shared). IsSameBut s roomy) mid_is same

    turning : IsTurning old a due.front.actor.state due.front.first due.front.can.behaviour t
    turning = (subst (λ (s : Shared). (f : IsAtFront s a) → IsTurning s a f.actor.state f.first f.can.behaviour t) mid_is turns) due.front

    ends : ClaimsEnd (λ q. same_name q a) roomy new
    ends going ticket = on roomy.end (sym (ap (λ (s : Shared). is_going s.end) r.others) ∙ going)
      where
        but : (found_name : Option Name) → but_for a found_name ≡ but_gone (λ q. same_name q a) found_name
        but None = refl
        but (Some other) = refl

        on : (end : Option End) → is_going end ≡ true → claimed new ticket ≡ but_gone (λ q. same_name q a) (if is_going end then lent_to roomy.board ticket else None)
        on end is =
            ap (λ g. if g then lent_to new.board ticket else None) going ∙ r.unlent.to ticket ∙ but (lent_to roomy.board ticket)
            ∙ ap (λ g. but_gone (λ q. same_name q a) (if g then lent_to roomy.board ticket else None)) (sym is)

    mail_same : (q : Name) → mail_at roomy.mails q ≡ mail_at old.mails q
    mail_same q = ap (λ (s : Shared). mail_at s.mails q) same_old.rest

    mailed : IsMailed a due.front.rest roomy.mails new.mails
    mailed = r.mailed due.front.first due.front.rest (mail_same a ∙ due.front.mail)

    entry_is : entry ≡ Take a due.front.first.sender
    entry_is = entries due

    takes : Takes old a due.front.actor.state due.front.first due.front.rest due.front.can.behaviour found new
    takes = record {
      found_is = r.found_is ∙ ap given.Settled entry_is;
      none = sym (same_old.pieces _) ∙ subst (λ n. piece_at roomy.board n ≡ None) turning.name_is none;
      turn = turn_of t.name t.actor t.machine;
      begins = record {
        state = λ i. record (new_unit (Some a) due.front.can.behaviour.body (due.front.actor.state.state ++ due.front.first.args)) { actor = Some (turning.actor_is i); body = turning.body i; values = turning.values i; answers = turning.answers i };
        machine = turning.machine;
        mark = refl;
      };
      board = r.board;
      busy = record { here = r.busy.here ∙ ap (λ k. Some (piece.Actor (record { state = k; mark = mark.Resting }))) turning.busy; others = λ other ne. r.busy.others other ne ∙ same_old.pieces other };
      put = subst (λ n. IsPutAt n (Some (piece.Unit (turn_of t.name t.actor t.machine))) r.board new.board) turning.name_is r.put;
      mailed = record { here = mailed.here; others = λ q ne. mailed.others q ne ∙ mail_same q };
      others = r.others ∙ ap (λ (s : Shared). record s { history = s.history ++ entry ∷ []; board = new.board; mails = new.mails; made = t.units }) same_old.rest
          ∙ ap (λ e. record old { history = old.history ++ e ∷ []; board = new.board; mails = new.mails; made = t.units }) entry_is
          ∙ ap (λ n. record old { history = old.history ++ Take a due.front.first.sender ∷ []; board = new.board; mails = new.mails; made = n }) turning.units;
    }
