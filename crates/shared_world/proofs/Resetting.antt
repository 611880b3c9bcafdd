-- Where everything is back where the history left it, what is kept stands.
use Rattle.std.proofs.Common.{◌≡◌, ◌∙◌, suc, true, length, [], ◌++◌, refl, sym, ap, ap₂, subst}
use Rattle.std.specs.Option.{option_and_then, option_map}
use Rattle.std.specs.Prelude.{Option, None, Some}
use Rattle.actor_mailbox.specs.Messages.{without}
use Rattle.actor_mails.specs.Mails.{mail_at}
use Rattle.ref_store.proofs.StoreLaws.{above_pruned}
use Rattle.ref_store.specs.declared.version.Version.{Version}
use Rattle.shared_world.proofs.ActorPieces.{actor_of_piece}
use Rattle.shared_world.proofs.States.{state_of}
use Rattle.shared_world.specs.Ahead.{Ahead}
use Rattle.shared_world.specs.rows.Resetting.{LeadBack, PieceBack, Resets, ResetsStand, UnitBack, mark_anew}
use Rattle.shared_world.specs.Seen.{AttemptSeen, live_with, one_or_none}
use Rattle.shared_world.specs.Shared.{Shared, finished_by, unit_state}
use Rattle.shared_world.specs.Stands.{IsMachine, Stands}
use Rattle.task_fork_join.specs.Attempt.{Attempt}
use Rattle.unit_table.specs.Board.{piece_at, unit_at}
use Rattle.unit_table.specs.declared.mark.Mark.{Mark}
use Rattle.unit_table.specs.declared.mark.Mark.TheVariants as mark
use Rattle.unit_table.specs.declared.piece.Piece.{Piece}
use Rattle.unit_table.specs.declared.piece.Piece.TheVariants as piece
use Rattle.unit_table.specs.declared.unit.Unit.{Unit}
use Rattle.unit_table.specs.Piece.{unit_in}
use Rattle.value_core.specs.Named.{Name, named}
use Rattle.world_model.proofs.Kept.{gave-keeps}
use Rattle.world_model.specs.Gave as row
use Rattle.world_model.specs.rows.Undone.{reset, reset_unit}
use Rattle.world_model.specs.World.{World, still}

-- a unit is finished with that mark where it was
pub anew-finished : (tried : Option Attempt) (m : Mark) → finished_by (mark_anew tried m) ≡ finished_by m
anew-finished None m = refl
anew-finished (Some tree) (mark.Ready what) = refl
anew-finished (Some tree) (mark.Waiting on) = refl
anew-finished (Some tree) mark.Resting = refl
anew-finished (Some tree) (mark.Finished v) = refl
anew-finished (Some tree) mark.Dropped = refl

module _ (old new : Shared) (st : Stands old) (r : Resets old new) where
  abbrev w : World
  w = st.world

  -- where it stands then, with that mark
  anew : (x : Unit) (tried : Option Attempt) → unit_state (record x { mark = mark_anew tried x.mark }) ≡ unit_state x
  anew x tried = ap (λ f. record (unit_state x) { finished = f }) (anew-finished tried x.mark)

  -- ---- the units
  -- a unit that runs ahead, as it is seen then
  lead-seen : (x : Unit) (h : Ahead) (takes : Option Name) (now : Option Piece) → h.takes ≡ takes → LeadBack old.setup x h takes now → reset_unit (Some (live_with (Some h) (unit_state x))) ≡ option_map (live_with None) (state_of now)
  lead-seen x h None now is back = rw is (ap (λ k. Some (still k)) (sym back.stands.state) ∙ sym (ap (λ p. option_map (live_with None) (state_of p)) back.there))
  lead-seen x h (Some a) now is back = rw is (sym (ap (λ p. option_map (live_with None) (state_of p)) back))

  unit-seen : (x : Unit) (h : Option Ahead) (tried : Option Attempt) (now : Option Piece) → UnitBack old.setup x h tried now
      → reset_unit (Some (live_with h (unit_state x))) ≡ option_map (live_with None) (state_of now)
  unit-seen x (Some h) tried now back = lead-seen x h h.takes now refl back
  unit-seen x None tried now back = ap (λ k. Some (still k)) (sym (anew x tried)) ∙ sym (ap (λ p. option_map (live_with None) (state_of p)) back)

  piece-seen : (u : Name) (found now : Option Piece) → piece_at old.board u ≡ found → PieceBack old u found now → reset_unit (option_map (live_with (named u old.aheads)) (state_of found)) ≡ option_map (live_with None) (state_of now)
  piece-seen u None now is back = sym (ap (λ p. option_map (live_with None) (state_of p)) back)
  piece-seen u (Some (piece.Unit x)) now is back = unit-seen x (named u old.aheads) (named u old.attempts) now back
  piece-seen u (Some (piece.Task m)) now is back = sym (ap (λ p. option_map (live_with None) (state_of p)) back)
  piece-seen u (Some (piece.Actor a)) now is back = sym (ap (λ p. option_map (live_with None) (state_of p)) back)

  units : (u : Name) → reset_unit (w.units u) ≡ option_map (live_with (named u new.aheads)) (state_of (piece_at new.board u))
  units u = ap reset_unit (st.seen.units u) ∙ piece-seen u (piece_at old.board u) (piece_at new.board u) refl (r.pieces u) ∙ sym (ap (λ h. option_map (live_with h) (state_of (piece_at new.board u))) (r.aheads u))

  -- ---- the actors
  no-lead : (x : Unit) (h : Ahead) (takes : Option Name) (now : Option Piece) → LeadBack old.setup x h takes now → actor_of_piece now ≡ None
  no-lead x h None now back = ap actor_of_piece back.there
  no-lead x h (Some a) now back = ap actor_of_piece back

  no-actor : (x : Unit) (h : Option Ahead) (tried : Option Attempt) (now : Option Piece) → UnitBack old.setup x h tried now → actor_of_piece now ≡ None
  no-actor x (Some h) tried now back = no-lead x h h.takes now back
  no-actor x None tried now back = ap actor_of_piece back

  actor-same : (u : Name) (found now : Option Piece) → PieceBack old u found now → actor_of_piece now ≡ actor_of_piece found
  actor-same u None now back = ap actor_of_piece back
  actor-same u (Some (piece.Unit x)) now back = no-actor x (named u old.aheads) (named u old.attempts) now back
  actor-same u (Some (piece.Task m)) now back = ap actor_of_piece back
  actor-same u (Some (piece.Actor a)) now back = ap actor_of_piece back

  -- ---- the machines
  lead-machine : (x z : Unit) (h : Ahead) (takes : Option Name) (now : Option Piece) → LeadBack old.setup x h takes now → option_and_then unit_in now ≡ Some z → IsMachine old.setup z.machine
  lead-machine x z h None now back there = let both : Some back.unit ≡ Some z = sym (ap (option_and_then unit_in) back.there) ∙ there in let same : back.unit ≡ z = cc in subst (λ (k : Unit). IsMachine old.setup k.machine) same back.stands.machine
  lead-machine x z h (Some a) now back there = let no : None ≡ Some z = sym (ap (option_and_then unit_in) back) ∙ there in cc

  unit-machine : (u : Name) (x z : Unit) (h : Option Ahead) (tried : Option Attempt) (now : Option Piece) → unit_at old.board u ≡ Some x → UnitBack old.setup x h tried now → option_and_then unit_in now ≡ Some z → IsMachine old.setup z.machine
  unit-machine u x z (Some h) tried now is back there = lead-machine x z h h.takes now back there
  unit-machine u x z None tried now is back there =
      let both : Some (record x { mark = mark_anew tried x.mark }) ≡ Some z = sym (ap (option_and_then unit_in) back) ∙ there in
      let same : record x { mark = mark_anew tried x.mark } ≡ z = cc in
      subst (λ (k : Unit). IsMachine old.setup k.machine) same (st.machines u x is)

  machine : (u : Name) (z : Unit) (found now : Option Piece) → piece_at old.board u ≡ found → PieceBack old u found now → option_and_then unit_in now ≡ Some z → IsMachine old.setup z.machine
  machine u z None now is back there = let no : None ≡ Some z = sym (ap (option_and_then unit_in) back) ∙ there in cc
  machine u z (Some (piece.Unit x)) now is back there = unit-machine u x z (named u old.aheads) (named u old.attempts) now (ap (option_and_then unit_in) is) back there
  machine u z (Some (piece.Task m)) now is back there = let no : None ≡ Some z = sym (ap (option_and_then unit_in) back) ∙ there in cc
  machine u z (Some (piece.Actor a)) now is back there = let no : None ≡ Some z = sym (ap (option_and_then unit_in) back) ∙ there in cc

  -- ---- what is left
  none-taken : (a : Name) → [] ≡ one_or_none (named a new.taken)
  none-taken a = sym (ap one_or_none (r.taken a))

  mails : (a : Name) → without (λ on. true) (w.taken a ++ w.mails a) ≡ mail_at new.mails a
  mails a = ap (without (λ on. true)) (ap₂ (λ taken mail. taken ++ mail) (st.seen.taken a) (st.seen.mails a)) ∙ sym (r.mails a)

  pub stands-reset : Stands new
  stands-reset = subst Stands (sym r.others) (record {
    formed = st.formed;
    world = reset w;
    is_world = gave-keeps old.setup st.formed w (reset w) None st.is_world row.resets;
    seen = record {
      history = st.seen.history;
      refs = λ q. st.seen.refs q ∙ sym (ap (option_map (λ (k : Version). k.value)) (r.versions.pruned q).newest_stays);
      units = units;
      actors = λ a. st.seen.actors a ∙ sym (actor-same a (piece_at old.board a) (piece_at new.board a) (r.pieces a));
      taken = none-taken;
      mails = mails;
      attempts = λ on u. subst (λ found. AttemptSeen new.versions found None) (sym (r.attempts u)) tt;
      bytes = st.seen.bytes;
      made = st.seen.made;
      end = st.seen.end;
    };
    machines = λ u z there. machine u z (piece_at old.board u) (piece_at new.board u) refl (r.pieces u) there;
    attempts = λ on u tree there. let no : None ≡ Some tree = sym (r.attempts u) ∙ there in cc;
    numbers = above_pruned r.versions.live old.versions new.versions r.versions.pruned (suc (length old.history)) st.numbers;
    aheads = λ u h leads. let no : None ≡ Some h = sym (r.aheads u) ∙ leads in cc;
  })

pub resets-stand : ResetsStand
resets-stand old new st r = stands-reset old new st r
