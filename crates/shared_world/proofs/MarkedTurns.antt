-- How the marks stay right where an actor begins a turn.
use Rattle.std.proofs.Common.{◌≡◌, ◌∙◌, ◌==◌, Bool, true, false, refl, sym, ap}
use Rattle.std.specs.Prelude.{◌||◌, None, Some, is_some}
use Rattle.actor_mails.specs.Mails.{mail_at}
use Rattle.shared_world.proofs.MarkedActors.{actor-put, put-mark}
use Rattle.shared_world.proofs.MarkedUnits.{ends-going, marked-put, no-attempt-of}
use Rattle.shared_world.proofs.Marks.{but_actor, marked-actors}
use Rattle.shared_world.specs.declared.given.Given.{Given}
use Rattle.shared_world.specs.Marks.{AreMarked}
use Rattle.shared_world.specs.rows.Actors.{actor_mark}
use Rattle.shared_world.specs.rows.Turns.{GaveActor, Takes, TakesIfAllowed}
use Rattle.shared_world.specs.Shared.{Shared, is_going}
use Rattle.shared_world.specs.Stands.{Stands}
use Rattle.unit_table.specs.Board.{piece_at}
use Rattle.unit_table.specs.declared.mark.Mark.TheVariants as mark
use Rattle.unit_table.specs.declared.piece.Piece.TheVariants as piece
use Rattle.value_core.specs.Named.{Name, made_by, named}
use Rattle.world_model.specs.rows.Turns.{busy_with}

module _ (old : Shared) (st : Stands old) (all : AreMarked old) (going : is_going old.end ≡ true) (a : Name) (found : Given) (new : Shared) (g : GaveActor old a found new) where
  abbrev turn : Name
  turn = made_by a g.actor.state.turns

  -- the actor is busy, and its turn can go on
  takes : Takes old a g.actor.state g.first g.rest g.can.behaviour found new → AreMarked new
  takes r = marked-put busy new busy-marked turn r.turn (ap (λ (s : Shared). s.setup) r.others) (ap (λ (s : Shared). s.attempts) r.others) (ap (λ (s : Shared). s.owners) r.others) (λ v other. ap (λ (s : Shared). named v s.aheads) r.others) (ap (λ (s : Shared). s.taken) r.others) (λ b. refl) nothing (no-attempt-of old st going turn r.none) r.begins.mark r.put
    where
      busy : Shared
      busy = record old { board = r.board; mails = new.mails }

      busy-marked : AreMarked busy
      busy-marked = marked-actors old busy (actor-put a (Some (piece.Actor (record { state = busy_with g.actor.state; mark = mark.Resting }))) old busy (record {
        setup = refl;
        attempts = refl;
        owners = refl;
        aheads = refl;
        settles = λ v. refl;
        put = r.busy;
        but = sym (ap but_actor g.there);
        right = λ x e. put-mark (is_some (named a old.taken)) (record { state = busy_with g.actor.state; mark = mark.Resting }) x (mail_at new.mails a) e (ap (λ found. actor_mark (is_some found || true) (mail_at new.mails a)) (sym g.can.free));
        taken = λ b other. refl;
        mails = r.mailed.others;
      }) all) all

      nothing : piece_at r.board turn ≡ None
      nothing = r.busy.others turn (λ same. let no : None ≡ Some (piece.Actor g.actor) = sym r.none ∙ ap (piece_at old.board) same ∙ g.there in cc) ∙ r.none

  pub marked-turn : is_going new.end ≡ true → AreMarked new
  marked-turn on_going = on (old.made == old.setup.limits.units) g.gives
    where
      on : (c : Bool) → TakesIfAllowed old a g.actor.state g.first g.rest g.can.behaviour c found new → AreMarked new
      on true r = absurd (ends-going old _ _ found new r on_going)
      on false r = takes r
