-- An attempt that is undone with all that hangs on it leaves what is kept standing.
use Rattle.std.proofs.Common.{◌≡◌, ◌∙◌, ◌≤◌, suc, Bool, true, false, cond, length, le_refl, [], ◌∷◌, refl, sym, ap, ap₂, subst}
use Rattle.std.specs.Option.{option_and_then, option_map}
use Rattle.std.specs.Prelude.{Option, None, Some, not}
use Rattle.actor_mailbox.specs.declared.message.Message.{Message}
use Rattle.actor_mailbox.specs.Messages.{depends_on, without}
use Rattle.ref_store.proofs.StoreLaws.{above_pruned}
use Rattle.serial_model.specs.State.{State, UnitState}
use Rattle.shared_world.proofs.ActorPieces.{actor_of_piece, not-same, unit-no-actor}
use Rattle.shared_world.proofs.Gone.{SeenAs, seen-as}
use Rattle.shared_world.proofs.Hangs.{made-so, no-unit-at, same-unit, seen-tree, turn-there}
use Rattle.shared_world.proofs.Leading.{ahead-still, finished-is-level, level-there, seen-again}
use Rattle.shared_world.proofs.Live.{state-there}
use Rattle.shared_world.proofs.Standing.{Grows, under-way}
use Rattle.shared_world.proofs.States.{EachMachine, state_of}
use Rattle.shared_world.proofs.Takings.{one-is}
use Rattle.shared_world.proofs.Versions.{now-kept, reads-kept}
use Rattle.shared_world.specs.Counts.{age_of, began_on}
use Rattle.shared_world.specs.Dependence as kept
use Rattle.shared_world.specs.Dependence.{DependsIn}
use Rattle.shared_world.specs.Laws.{IsTried}
use Rattle.shared_world.specs.rows.Undoing.{Undoes, message_left, piece_left, root_gone, tree_left}
use Rattle.shared_world.specs.Seen.{AttemptSeen, live_at, live_with, one_or_none}
use Rattle.shared_world.specs.Shared.{Shared, finished_at, state_at, tree_with, unit_state}
use Rattle.shared_world.specs.Stands.{IsMachine, Stands}
use Rattle.task_fork_join.specs.Attempt.{Attempt}
use Rattle.unit_table.specs.Board.{actor_at, piece_at, unit_at}
use Rattle.unit_table.specs.declared.piece.Piece.{Piece}
use Rattle.unit_table.specs.declared.piece.Piece.TheVariants as piece
use Rattle.unit_table.specs.declared.unit.Unit.{Unit}
use Rattle.unit_table.specs.Piece.{unit_in}
use Rattle.value_core.proofs.NamedLaws.{same_name-equal}
use Rattle.value_core.specs.Named.{Name, named, same_name}
use Rattle.world_model.proofs.Kept.{gave-keeps}
use Rattle.world_model.proofs.records.Ranks.{unit-stays}
use Rattle.world_model.proofs.rows.Aborts.{is-gone}
use Rattle.world_model.proofs.rows.Undone.{IsGone}
use Rattle.world_model.specs.Dependence as seen_as
use Rattle.world_model.specs.Dependence.{DependsOn}
use Rattle.world_model.specs.Gave as row
use Rattle.world_model.specs.rows.Undone.{Aborts, undone, unless_gone}
use Rattle.world_model.specs.World as world
use Rattle.world_model.specs.World.{LiveUnit, World, still}

-- what is not so is not
pub never-true : (b : Bool) → (b ≡ true → ⊥) → b ≡ false
never-true true never = absurd (never refl)
never-true false never = refl

pub true-not-false : (b : Bool) → b ≡ true → b ≡ false → ⊥
true-not-false b is never = let both : true ≡ false = sym is ∙ never in cc

-- ---- what is left of one piece, attempt or message
module _ (old new : Shared) (gone : Name → Bool) where
  -- a unit that is not gone is left as it was, and one that is gone is not
  left-unit : (q : Name) (found : Option Piece) → gone q ≡ false → option_and_then unit_in (piece_left old gone new q found) ≡ option_and_then unit_in found
  left-unit q None e = refl
  left-unit q (Some (piece.Unit k)) e = ap (λ c. option_and_then unit_in (cond c None (Some (piece.Unit k)))) e
  left-unit q (Some (piece.Task m)) e = on (root_gone gone (tree_with old q))
    where
      on : (c : Bool) → option_and_then unit_in (cond c None (Some (piece.Task m))) ≡ None
      on true = refl
      on false = refl
  left-unit q (Some (piece.Actor a)) e = refl

  unit-gone : (q : Name) (found : Option Piece) → gone q ≡ true → option_and_then unit_in (piece_left old gone new q found) ≡ None
  unit-gone q None e = refl
  unit-gone q (Some (piece.Unit k)) e = ap (λ c. option_and_then unit_in (cond c None (Some (piece.Unit k)))) e
  unit-gone q (Some (piece.Task m)) e = on (root_gone gone (tree_with old q))
    where
      on : (c : Bool) → option_and_then unit_in (cond c None (Some (piece.Task m))) ≡ None
      on true = refl
      on false = refl
  unit-gone q (Some (piece.Actor a)) e = refl

  -- each actor is left, but for its mark
  left-actor : (q : Name) (found : Option Piece) → actor_of_piece (piece_left old gone new q found) ≡ actor_of_piece found
  left-actor q None = refl
  left-actor q (Some (piece.Unit k)) = on (gone q)
    where
      on : (c : Bool) → actor_of_piece (cond c None (Some (piece.Unit k))) ≡ None
      on true = refl
      on false = refl
  left-actor q (Some (piece.Task m)) = on (root_gone gone (tree_with old q))
    where
      on : (c : Bool) → actor_of_piece (cond c None (Some (piece.Task m))) ≡ None
      on true = refl
      on false = refl
  left-actor q (Some (piece.Actor a)) = refl

  -- a message that is left is the first and only one that is
  one-left : (found : Option Message) → without gone (one_or_none found) ≡ one_or_none (message_left gone found)
  one-left None = refl
  one-left (Some m) = on (depends_on gone m)
    where
      on : (c : Bool) → cond (not c) (m ∷ []) [] ≡ one_or_none (cond c None (Some m))
      on true = refl
      on false = refl

-- what is left was there
pub left-was : {X : Type 0} (c : Bool) (found : Option X) (x : X) → cond c None found ≡ Some x → (c ≡ false) × (found ≡ Some x)
left-was true found x e = cc
left-was false found x e = (refl, e)

module _ (old new : Shared) (u : Name) (x : Unit) (tree : Attempt) (is : IsTried old u x tree) (r : Undoes old u x tree new) where
  abbrev w : World
  w = is.stands.world

  abbrev now : State
  now = is.stands.is_world.state

  abbrev gone : Name → Bool
  gone = r.gone

  seen : SeenAs old w u tree
  seen = seen-as old is.stands is.going u tree is.attempt

  -- ---- what hangs on the root, as what is kept and as the world that is seen in it
  in-kept : (n : Name) → DependsOn w seen.tried.root n → DependsIn old tree.root n
  in-kept n (seen_as.itself same) = kept.itself (same ∙ seen.is.root)
  in-kept n (seen_as.turn a actor m o there took depends called rest) =
      kept.turn a actor m o (sym (is.stands.seen.actors a) ∙ there) (one-is (named a old.taken) m (sym (is.stands.seen.taken a) ∙ took)) depends called (in-kept o rest)
  in-kept n (seen_as.attempt v tried there called rest) = let t = seen-tree old is.stands is.going v tried there in kept.attempt v t.0 t.1 (called ∙ t.2.root) (in-kept v rest)

  in-seen : (n : Name) → DependsIn old tree.root n → DependsOn w seen.tried.root n
  in-seen n (kept.itself same) = seen_as.itself (same ∙ sym seen.is.root)
  in-seen n (kept.turn a actor m o there took depends called rest) = seen_as.turn a actor m o (is.stands.seen.actors a ∙ there) (is.stands.seen.taken a ∙ ap one_or_none took) depends called (in-seen o rest)
  in-seen n (kept.attempt v t there called rest) = let s = seen-as old is.stands is.going v t there in seen_as.attempt v s.tried s.there (called ∙ sym s.is.root) (in-seen v rest)

  aborts : Aborts w u seen.tried gone
  aborts = record { attempt = seen.there; all = λ n d. r.are.all n (in-kept n d); only = λ n e. in-seen n (r.are.only n e) }

  pub goes : IsGone w gone
  goes = is-gone old.setup w now u seen.tried gone is.stands.is_world.stands (made-so old is.stands) aborts

  pub root-goes : gone tree.root ≡ true
  root-goes = r.are.all tree.root (kept.itself refl)

  pub unit-left : gone u ≡ false
  unit-left = never-true (gone u) (λ e. unit-stays w is.stands.is_world.ranks u seen.tried seen.there (in-seen u (r.are.only u e)))

  -- ---- whose attempt is gone
  -- the attempt of another unit is gone only with that
  pub tree-stays : (v : Name) (t : Attempt) → (v ≡ u → ⊥) → gone v ≡ false → named v old.attempts ≡ Some t → gone t.root ≡ false
  tree-stays v t other left there = never-true (gone t.root) (λ e. by (in-seen t.root (r.are.only t.root e)))
    where
      s : SeenAs old w v t
      s = seen-as old is.stands is.going v t there

      by : DependsOn w seen.tried.root t.root → ⊥
      by (seen_as.itself same) = other (same-unit old is.stands v u s.tried seen.tried s.there seen.there (s.is.root ∙ same))
      by (seen_as.turn a actor m o at took depends called rest) =
          turn-there old is.stands a actor m at took (ap w.units (sym called) ∙ no-unit-at old is.stands is.going v t there)
      by (seen_as.attempt k tried at called rest) =
          true-not-false (gone v) (ap gone (same-unit old is.stands v k s.tried tried s.there at (s.is.root ∙ called)) ∙ aborts.all k rest) left

  -- an attempt that is left is that of a unit that is left
  pub tree-of-left : (v : Name) (t : Attempt) → named v old.attempts ≡ Some t → gone t.root ≡ false → gone v ≡ false
  tree-of-left v t there left =
      let s = seen-as old is.stands is.going v t there in
      never-true (gone v) (λ e. true-not-false (gone t.root) (ap gone (sym s.is.root) ∙ goes.attempts v s.tried s.there e) left)

  pub tree-was : (v : Name) (t : Attempt) → named v new.attempts ≡ Some t → (gone t.root ≡ false) × (named v old.attempts ≡ Some t)
  tree-was v t there =
      let was = left-was (root_gone gone (named v old.attempts)) (named v old.attempts) t (sym (r.attempts v) ∙ there) in
      (sym (ap (root_gone gone) was.1) ∙ was.0, was.1)

  pub unit-without : named u new.attempts ≡ None
  unit-without = r.attempts u ∙ ap (tree_left gone) is.attempt ∙ ap (λ c. cond c None (Some tree)) root-goes

  -- ---- the pieces, as the meaning sees them
  pub state-left : (q : Name) → gone q ≡ false → state_at new.board q ≡ state_at old.board q
  state-left q left = on (same_name q u) refl
    where
      on : (c : Bool) → same_name q u ≡ c → state_at new.board q ≡ state_at old.board q
      on true e =
          let at_u : q ≡ u = same_name-equal q u e in
          ap (state_at new.board) at_u ∙ ap state_of r.pieces.here ∙ ap (λ k. Some k) r.pieces.stands.state ∙ sym (ap (state_at old.board) at_u ∙ state-there old.board u x is.there)
      on false e = ap state_of (r.pieces.others q (not-same q u e)) ∙ ap (option_map unit_state) (left-unit old new gone q (piece_at old.board q) left)

  pub state-gone : (q : Name) → gone q ≡ true → state_at new.board q ≡ None
  state-gone q e = ap state_of (r.pieces.others q (λ same. true-not-false (gone u) (ap gone (sym same) ∙ e) unit-left)) ∙ ap (option_map unit_state) (unit-gone old new gone q (piece_at old.board q) e)

  actors : (a : Name) → actor_at new.board a ≡ actor_at old.board a
  actors a = on (same_name a u) refl
    where
      on : (c : Bool) → same_name a u ≡ c → actor_at new.board a ≡ actor_at old.board a
      on true e =
          let at_u : a ≡ u = same_name-equal a u e in
          ap (actor_at new.board) at_u ∙ ap actor_of_piece r.pieces.here ∙ sym (ap (actor_at old.board) at_u ∙ unit-no-actor old.board u (unit_state x) (state-there old.board u x is.there))
      on false e = ap actor_of_piece (r.pieces.others a (not-same a u e)) ∙ left-actor old new gone a (piece_at old.board a)

  -- a unit that is there was there, unless it is the one of the attempt
  pub unit-was : (q : Name) (z : Unit) → (q ≡ u → ⊥) → unit_at new.board q ≡ Some z → (gone q ≡ false) × (unit_at old.board q ≡ Some z)
  unit-was q z other there = on (gone q) refl
    where
      on : (c : Bool) → gone q ≡ c → (gone q ≡ false) × (unit_at old.board q ≡ Some z)
      on true e = let no : None ≡ Some z = sym (ap (option_and_then unit_in) (r.pieces.others q other) ∙ unit-gone old new gone q (piece_at old.board q) e) ∙ there in cc
      on false e = (e, sym (ap (option_and_then unit_in) (r.pieces.others q other) ∙ left-unit old new gone q (piece_at old.board q) e) ∙ there)

  machines : EachMachine (IsMachine old.setup) new.board
  machines q z there = on (same_name q u) refl
    where
      on : (c : Bool) → same_name q u ≡ c → IsMachine old.setup z.machine
      on true e =
          let both : Some r.pieces.unit ≡ Some z = sym (ap (unit_at new.board) (same_name-equal q u e) ∙ ap (option_and_then unit_in) r.pieces.here) ∙ there in
          let same : r.pieces.unit ≡ z = cc in
          subst (λ (k : Unit). IsMachine old.setup k.machine) same r.pieces.stands.machine
      on false e = is.stands.machines q z (unit-was q z (not-same q u e) there).1

  -- a unit that is finished is not gone
  grows : Grows (finished_at old.board) (finished_at new.board)
  grows f v fin = on (state_at old.board f) refl
    where
      on : (found : Option UnitState) → state_at old.board f ≡ found → finished_at new.board f ≡ Some v
      on None e = let no : None ≡ Some v = sym (ap (option_and_then (λ (k : UnitState). k.finished)) e) ∙ fin in cc
      on (Some k) e =
          let left = goes.units f (still k) (level-there old is.stands f k (finished-is-level old is.stands f v fin) e) refl in
          ap (option_and_then (λ (k : UnitState). k.finished)) (state-left f left) ∙ fin

  pub over : (f : Name) → finished_at old.board f ≡ None → finished_at new.board f ≡ None
  over f none = on (gone f) refl
    where
      on : (c : Bool) → gone f ≡ c → finished_at new.board f ≡ None
      on true e = ap (option_and_then (λ (k : UnitState). k.finished)) (state-gone f e)
      on false e = ap (option_and_then (λ (k : UnitState). k.finished)) (state-left f e) ∙ none

  -- ---- what runs ahead
  pub ahead-left : (v : Name) → gone v ≡ false → named v new.aheads ≡ named v old.aheads
  ahead-left v left = r.aheads v ∙ ap (λ c. cond c None (named v old.aheads)) left

  -- ---- what is seen
  units : (q : Name) (c : Bool) → gone q ≡ c → cond c None (w.units q) ≡ live_at new q
  units q true e = sym (ap (option_map (live_with (named q new.aheads))) (state-gone q e))
  units q false e = is.stands.seen.units q ∙ sym (ap₂ (λ h k. option_map (live_with h) k) (ahead-left q e) (state-left q e))

  tried-seen : (v : Name) (found : Option Attempt) (tried : Option world.Attempt) → named v old.attempts ≡ found → AttemptSeen old.versions found tried → AttemptSeen new.versions (tree_left gone found) (unless_gone gone tried)
  tried-seen v None None e saw = tt
  tried-seen v None (Some tried) e saw = absurd saw
  tried-seen v (Some t) None e saw = absurd saw
  tried-seen v (Some t) (Some tried) e saw = subst (λ c. AttemptSeen new.versions (tree_left gone (Some t)) (cond c None (Some tried))) (ap gone (sym saw.root)) (by (gone t.root) refl)
    where
      by : (c : Bool) → gone t.root ≡ c → AttemptSeen new.versions (cond c None (Some t)) (cond c None (Some tried))
      by true left = tt
      by false left = seen-again old.versions new.versions (Some t) (Some tried)
          (λ k same q. reads-kept new.attempts old.versions new.versions r.versions v k (r.attempts v ∙ ap (tree_left gone) e ∙ ap (λ c. cond c None (Some t)) left ∙ same) q) saw

  abbrev after : Shared
  after = record old { versions = new.versions; board = new.board; mails = new.mails; taken = new.taken; aheads = new.aheads; attempts = new.attempts }

  pub undoes-keeps : Stands new
  undoes-keeps = subst Stands (sym r.others) (record {
    formed = is.stands.formed;
    world = undone w gone;
    is_world = gave-keeps old.setup is.stands.formed w (undone w gone) None is.stands.is_world (row.aborts u seen.tried gone aborts);
    seen = record {
      history = is.stands.seen.history;
      refs = λ q. is.stands.seen.refs q ∙ sym (now-kept new.attempts old.versions new.versions r.versions q);
      units = λ q. units q (gone q) refl;
      actors = λ a. is.stands.seen.actors a ∙ sym (actors a);
      taken = λ a. ap (without gone) (is.stands.seen.taken a) ∙ one-left old new gone (named a old.taken) ∙ ap one_or_none (sym (r.taken a));
      mails = λ a. ap (without gone) (is.stands.seen.mails a) ∙ sym (r.mails a);
      attempts = λ going v. subst (λ f. AttemptSeen new.versions f (unless_gone gone (w.attempts v))) (sym (r.attempts v)) (tried-seen v (named v old.attempts) (w.attempts v) refl (is.stands.seen.attempts is.going v));
      bytes = is.stands.seen.bytes;
      made = is.stands.seen.made;
      end = is.stands.seen.end;
    };
    machines = machines;
    attempts = λ going v t there.
        let was = tree-was v t there in
        under-way old after v t refl (state-left v (tree-of-left v t was.1 was.0)) (reads-kept new.attempts old.versions new.versions r.versions v t there) grows (le_refl (length old.history)) (is.stands.attempts is.going v t was.1);
    numbers = above_pruned r.versions.live old.versions new.versions r.versions.pruned (suc (length old.history)) is.stands.numbers;
    aheads = λ v h leads.
        let was = left-was (gone v) (named v old.aheads) h (sym (r.aheads v) ∙ leads) in
        ahead-still old.board new.board v h (state-left v was.0) (is.stands.aheads v h was.1);
  })

  -- ---- on how many entries attempts began
  pub undoes-ages : (v : Name) → age_of old v ≤ age_of new v
  undoes-ages v = subst (λ (after : Shared). age_of old v ≤ began_on (length after.history) (named v new.attempts)) (sym r.others)
      (subst (λ found. age_of old v ≤ began_on (length old.history) found) (sym (r.attempts v)) (by (named v old.attempts) refl))
    where
      by : (found : Option Attempt) → named v old.attempts ≡ found → began_on (length old.history) found ≤ began_on (length old.history) (tree_left gone found)
      by None e = le_refl (length old.history)
      by (Some t) e = on (gone t.root)
        where
          on : (c : Bool) → t.snapshot ≤ began_on (length old.history) (cond c None (Some t))
          on true = (is.stands.attempts is.going v t e).within
          on false = le_refl t.snapshot
