-- An attempt that is gone, with its tasks, leaves what is kept standing.
use Rattle.std.proofs.Common.{◌≡◌, ◌∙◌, Bool, true, false, cond, List, refl, sym, ap, subst}
use Rattle.std.specs.Option.{option_and_then, option_map}
use Rattle.std.specs.Prelude.{Option, None, Some, is_some}
use Rattle.ref_store.specs.declared.version.Version.{Version}
use Rattle.serial_model.specs.State.{UnitState}
use Rattle.shared_world.proofs.ActorPieces.{SameActors, actor_of_piece, gone-actor, not-same, unit-no-actor}
use Rattle.shared_world.proofs.Live.{state-there}
use Rattle.shared_world.proofs.States.{EachMachine, gone-same}
use Rattle.shared_world.proofs.Versions.{now-kept, reads-kept}
use Rattle.shared_world.specs.rows.Attempts.{ArePrunedFor, IsWithout, TasksGo}
use Rattle.shared_world.specs.rows.Pieces.{task_gone}
use Rattle.shared_world.specs.Seen.{AttemptSeen, IsSeenAttempt}
use Rattle.shared_world.specs.Shared.{Shared, is_going, ref_now, state_at, unit_state}
use Rattle.shared_world.specs.Stands.{Stands}
use Rattle.task_fork_join.specs.Attempt.{Attempt}
use Rattle.txn_snapshot.specs.SnapshotAnswer.{snapshot_of}
use Rattle.unit_table.specs.Board.{Board, actor_at, piece_at, unit_at}
use Rattle.unit_table.specs.declared.piece.Piece.{Piece}
use Rattle.unit_table.specs.declared.piece.Piece.TheVariants as piece
use Rattle.unit_table.specs.declared.unit.Unit.{Unit}
use Rattle.unit_table.specs.Piece.{unit_in}
use Rattle.value_core.proofs.NamedLaws.{same_name-equal, same_name-itself}
use Rattle.value_core.specs.Named.{Name, Named, named, same_name}
use Rattle.world_model.specs.World as world
use Rattle.world_model.specs.World.{LiveUnit, World, line}
use Rattle.eval_step.specs.Evaluation.{Evaluation}

-- the pieces, as the meaning sees them, once the tasks are gone
pub go-same : (u : Name) (x y : Unit) (tree : Attempt) (old new : Board) → unit_at old u ≡ Some x → TasksGo u y tree old new → (after : UnitState) → unit_state y ≡ after
    → (q : Name) → state_at new q ≡ cond (same_name q u) (Some after) (state_at old q)
go-same u x y tree old new there go after is q = on (same_name q u) refl
  where
    on : (c : Bool) → same_name q u ≡ c → state_at new q ≡ cond c (Some after) (state_at old q)
    on true e = ap (state_at new) (same_name-equal q u e) ∙ ap (λ f. option_map unit_state (option_and_then unit_in f)) go.here ∙ ap (λ k. Some k) is
    on false e =
        ap (λ f. option_map unit_state (option_and_then unit_in f)) (go.others q (λ same. let no : true ≡ false = sym (same_name-itself u) ∙ ap (λ n. same_name n u) (sym same) ∙ e in cc))
        ∙ gone-same (piece_at old q) (is_some (named q tree.tasks))

-- and as actors
pub go-actors : (u : Name) (x y : Unit) (tree : Attempt) (old new : Board) → unit_at old u ≡ Some x → TasksGo u y tree old new → SameActors old new
go-actors u x y tree old new there go q = on (same_name q u) refl
  where
    on : (c : Bool) → same_name q u ≡ c → actor_at new q ≡ actor_at old q
    on true e =
        let is : q ≡ u = same_name-equal q u e in
        ap (actor_at new) is ∙ ap actor_of_piece go.here ∙ sym (ap (actor_at old) is ∙ unit-no-actor old u (unit_state x) (state-there old u x there))
    on false e = ap actor_of_piece (go.others q (not-same q u e)) ∙ gone-actor (piece_at old q) (is_some (named q tree.tasks))

pub go-machines : (P : Evaluation → Type 0) (u : Name) (y : Unit) (tree : Attempt) (old new : Board) → P y.machine → TasksGo u y tree old new → EachMachine P old → EachMachine P new
go-machines P u y tree old new is go all q z there = on (same_name q u) refl
  where
    left : (found : Option Piece) (c : Bool) → option_and_then unit_in (cond c (task_gone found) found) ≡ Some z → option_and_then unit_in found ≡ Some z
    left found false e = e
    left None true e = e
    left (Some (piece.Unit k)) true e = e
    left (Some (piece.Task m)) true e = cc
    left (Some (piece.Actor a)) true e = e

    on : (c : Bool) → same_name q u ≡ c → P z.machine
    on true e = let both : Some y ≡ Some z = sym (ap (unit_at new) (same_name-equal q u e) ∙ ap (option_and_then unit_in) go.here) ∙ there in let same : y ≡ z = cc in subst (λ (k : Unit). P k.machine) same is
    on false e =
        all q z (left (piece_at old q) (is_some (named q tree.tasks))
        (sym (ap (option_and_then unit_in) (go.others q (λ same. let no : true ≡ false = sym (same_name-itself u) ∙ ap (λ n. same_name n u) (sym same) ∙ e in cc))) ∙ there))

-- an attempt that is seen
pub record SeenAs (old : Shared) (w : World) (u : Name) (tree : Attempt) : Type 0 where
  pub tried : world.Attempt
  pub there : w.attempts u ≡ Some tried
  pub is : IsSeenAttempt old.versions tree tried

pub seen-as : (old : Shared) (st : Stands old) → is_going old.end ≡ true → (u : Name) (tree : Attempt) → named u old.attempts ≡ Some tree → SeenAs old st.world u tree
seen-as old st going u tree there = on (st.world.attempts u) refl (subst (λ f. AttemptSeen old.versions f (st.world.attempts u)) there (st.seen.attempts going u))
  where
    on : (found : Option world.Attempt) → st.world.attempts u ≡ found → AttemptSeen old.versions (Some tree) found → SeenAs old st.world u tree
    on None is seen = absurd seen
    on (Some tried) is seen = record { tried = tried; there = is; is = seen }

-- the attempts that stay, where the versions are pruned for them
module _ (old : Shared) (st : Stands old) (going : is_going old.end ≡ true) (u : Name) (attempts : Named Attempt) (gone : IsWithout u old.attempts attempts) where
  pub stayed : (v : Name) (tree : Attempt) → named v attempts ≡ Some tree → (v ≡ u → ⊥) × (named v old.attempts ≡ Some tree)
  stayed v tree there = on (same_name v u) refl (sym (gone v) ∙ there)
    where
      on : (c : Bool) → same_name v u ≡ c → cond c None (named v old.attempts) ≡ Some tree → (v ≡ u → ⊥) × (named v old.attempts ≡ Some tree)
      on true e is = cc
      on false e is = ((λ same. let no : true ≡ false = sym (same_name-itself u) ∙ ap (λ n. same_name n u) (sym same) ∙ e in cc), is)

  pub reads-stay : (before versions : Named (List Version)) → ArePrunedFor attempts before versions → (v : Name) (tree : Attempt) → named v attempts ≡ Some tree
      → (r : Name) → snapshot_of versions tree.snapshot r ≡ snapshot_of before tree.snapshot r
  reads-stay = reads-kept attempts

  pub now-stays : (before versions : Named (List Version)) → ArePrunedFor attempts before versions → (r : Name) → ref_now versions r ≡ ref_now before r
  now-stays = now-kept attempts

  -- what is seen of the attempts that stay
  pub seen-stay : (before versions : Named (List Version)) → ((v : Name) (tree : Attempt) → named v attempts ≡ Some tree → (r : Name) → snapshot_of before tree.snapshot r ≡ snapshot_of old.versions tree.snapshot r)
      → ArePrunedFor attempts before versions → (tried : Name → Option world.Attempt) → ((v : Name) → (v ≡ u → ⊥) → tried v ≡ st.world.attempts v) → tried u ≡ None
      → (v : Name) → AttemptSeen versions (named v attempts) (tried v)
  seen-stay before versions same pruned tried others here v = on (same_name v u) refl
    where
      again : (found : Option Attempt) (t : Option world.Attempt) → named v attempts ≡ found → AttemptSeen old.versions found t → AttemptSeen versions found t
      again None None is seen = seen
      again None (Some t) is seen = seen
      again (Some tree) None is seen = seen
      again (Some tree) (Some t) is seen = record {
        root = seen.root;
        snapshot = seen.snapshot;
        store = λ r. seen.store r ∙ sym (reads-stay before versions pruned v tree is r ∙ same v tree is r);
        reads = seen.reads;
        joined = seen.joined;
        effects = seen.effects;
        ended = seen.ended;
      }

      on : (c : Bool) → same_name v u ≡ c → AttemptSeen versions (named v attempts) (tried v)
      on true e =
          subst (λ f. AttemptSeen versions f (tried v)) (sym (gone v ∙ ap (λ c. cond c None (named v old.attempts)) e))
          (subst (λ t. AttemptSeen versions None t) (sym (ap tried (same_name-equal v u e) ∙ here)) tt)
      on false e =
          let other : v ≡ u → ⊥ = λ same. let no : true ≡ false = sym (same_name-itself u) ∙ ap (λ n. same_name n u) (sym same) ∙ e in cc in
          let is : named v attempts ≡ named v old.attempts = gone v ∙ ap (λ c. cond c None (named v old.attempts)) e in
          subst (λ t. AttemptSeen versions (named v attempts) t) (sym (others v other))
          (again (named v attempts) (st.world.attempts v) refl (subst (λ f. AttemptSeen old.versions f (st.world.attempts v)) (sym is) (st.seen.attempts going v)))
