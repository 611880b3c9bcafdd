-- How what is kept stands on, where parts of it change.
use Rattle.std.proofs.Common.{◌≡◌, ◌∙◌, ◌≤◌, ℕ, suc, length, length-append, append-nil, le_refl, Bool, true, false, cond, List, [], ◌∷◌, ◌++◌, refl, sym, ap, subst, arith}
use Rattle.std.specs.Option.{IsSome, option_and_then, option_map, option_or}
use Rattle.std.specs.Prelude.{Option, None, Some, is_some}
use Rattle.actor_mails.specs.Mails.{Mail, SameMail, mail_at}
use Rattle.core_syntax.specs.WellFormed.{IsWellFormed}
use Rattle.ref_store.proofs.StoreLaws.{versions_committed, written}
use Rattle.ref_store.proofs.VersionLaws.{late_at, newest_push}
use Rattle.ref_store.specs.declared.version.Version.{Version}
use Rattle.ref_store.specs.Store.{IsAbove, committed, version_of, versions_of}
use Rattle.ref_store.specs.Version.{newest}
use Rattle.serial_model.specs.declared.end.End.{End}
use Rattle.serial_model.specs.declared.entry.Entry.{Entry}
use Rattle.serial_model.specs.declared.halt.Halt.TheVariants as halt
use Rattle.serial_model.specs.declared.request.Request.TheVariants as request
use Rattle.serial_model.specs.Standing.{Start}
use Rattle.serial_model.specs.State.{Setup, UnitState}
use Rattle.serial_model.specs.Step.{next_of}
use Rattle.shared_world.proofs.ActorPieces.{SameActors, same-pieces-actors}
use Rattle.shared_world.proofs.Leading.{ahead-still, seen-again, seen-same}
use Rattle.shared_world.specs.Ahead.{Ahead}
use Rattle.shared_world.specs.Seen.{AttemptSeen, live_at, one_or_none}
use Rattle.shared_world.specs.Shared.{Shared, finished_at, is_going, ref_now, state_at}
use Rattle.shared_world.specs.Stands.{IsAheadAt, IsMachine, IsUnderWay, Stands, start_of}
use Rattle.shared_world.proofs.States.{EachMachine, SameStates, machines-same, same-pieces}
use Rattle.task_fork_join.specs.Attempt.{Attempt, tasks_of, tree_task}
use Rattle.task_fork_join.specs.declared.task.Task.{Task}
use Rattle.task_fork_join.specs.Running.{IsRun}
use Rattle.txn_snapshot.specs.SnapshotAnswer.{snapshot_of}
use Rattle.unit_table.specs.Board.{Board, SamePieces, actor_at}
use Rattle.value_core.proofs.NamedViews.{named-each_as}
use Rattle.value_core.specs.declared.value.Value.{Value}
use Rattle.value_core.specs.Named.{Name, Named, Rises, named, same_name}
use Rattle.value_core.specs.Place.{Spot}
use Rattle.world_model.specs.IsWorld.{IsWorld}
use Rattle.world_model.specs.rows.Endings.{ended_by}
use Rattle.world_model.specs.World.{World, with_at}

-- what is finished stays finished
abbrev pub Grows : (Name → Option Value) → (Name → Option Value) → Type 0
Grows old new = (f : Name) (v : Value) → old f ≡ Some v → new f ≡ Some v

-- an attempt runs on, where the refs read the same and no less is finished
pub runs-on : (start : Start) (at : Spot) (base more finished over : Name → Option Value) (tree : Attempt) → ((r : Name) → more r ≡ base r) → Grows finished over
    → IsRun start at base finished tree → IsRun start at more over tree
runs-on start at base more finished over tree same grows is = record {
  runs = record {
    formed = is.runs.formed;
    rooted = is.runs.rooted;
    stand = λ around agrees. is.runs.stand around (record {
      program = agrees.program;
      fuel = agrees.fuel;
      actor = agrees.actor;
      store = λ r among. agrees.store r among ∙ same r;
      finished_so = λ f v e. agrees.finished_so f v (grows f v e);
    });
  };
  members = is.members;
  read_there = λ r among. subst IsSome (sym (same r)) (is.read_there r among);
  root = is.root;
  actor = is.actor;
  fuel = is.fuel;
  escape = is.escape;
}

-- an attempt is under way still
pub under-way : (old new : Shared) (u : Name) (tree : Attempt) → new.setup ≡ old.setup → state_at new.board u ≡ state_at old.board u
    → ((r : Name) → snapshot_of new.versions tree.snapshot r ≡ snapshot_of old.versions tree.snapshot r) → Grows (finished_at old.board) (finished_at new.board)
    → length old.history ≤ length new.history → IsUnderWay old u tree → IsUnderWay new u tree
under-way old new u tree setup state reads grows longer is = record {
  unit = is.unit;
  there = state ∙ is.there;
  body = is.body;
  values = is.values;
  at = is.at;
  asks = subst (λ (of : Setup). next_of of is.unit ≡ halt.Ask (request.Dosync is.body is.values) is.at) (sym setup) is.asks;
  runs = runs-on (start_of new.setup u is.unit is.body is.values) is.at (snapshot_of old.versions tree.snapshot) (snapshot_of new.versions tree.snapshot) (finished_at old.board) (finished_at new.board) tree reads grows
      (subst (λ (of : Setup). IsRun (start_of of u is.unit is.body is.values) is.at (snapshot_of old.versions tree.snapshot) (finished_at old.board) tree) (sym setup) is.runs);
  within = omega (arith, longer, is.within);
}

-- the root of an attempt is one of its tasks
pub root-in : (s : Shared) (u : Name) (tree : Attempt) → IsUnderWay s u tree → (t : Task) × (named tree.root tree.tasks ≡ Some t)
root-in s u tree way = on (named tree.root tree.tasks) refl
  where
    rooted : is_some (named tree.root (tasks_of tree.tasks)) ≡ true
    rooted = ap (λ n. is_some (named n (tasks_of tree.tasks))) way.runs.root ∙ way.runs.runs.rooted

    on : (found : Option Task) → named tree.root tree.tasks ≡ found → (t : Task) × (named tree.root tree.tasks ≡ Some t)
    on (Some t) is = (t, is)
    on None is = let no : false ≡ true = sym (ap is_some (named-each_as tree_task tree.root tree.tasks ∙ ap (option_map tree_task) is)) ∙ rooted in cc

-- the refs now are those after as many entries as there are
pub now-is-newest : (n : ℕ) (versions : Named (List Version)) → IsAbove (suc n) versions → (r : Name) → snapshot_of versions n r ≡ ref_now versions r
now-is-newest n versions above r = ap (option_map (λ (v : Version). v.value)) (late_at n (versions_of versions r) (λ k d in_range. let below = above r k d in_range in omega (arith, below)))

-- where no version is newer than a number, none is newer than the next
pub above-next : (n : ℕ) (versions : Named (List Version)) → IsAbove n versions → IsAbove (suc n) versions
above-next n versions above r k d in_range = let below = above r k d in_range in omega (arith, below)

-- what is read now, after a commit: what was written, or else what was read
pub ref-committed : (versions : Named (List Version)) (writes : Named Value) (number : ℕ) → Rises writes → (r : Name) → ref_now (committed versions writes number) r ≡ option_or (named r writes) (ref_now versions r)
ref-committed versions writes number rises r = ap (λ vs. option_map (λ (v : Version). v.value) (newest vs)) (versions_committed versions writes number rises r) ∙ on (named r writes)
  where
    on : (o : Option Value) → option_map (λ (v : Version). v.value) (newest (versions_of versions r ++ written number o)) ≡ option_or o (ref_now versions r)
    on None = ap (λ vs. option_map (λ (v : Version). v.value) (newest vs)) (append-nil (versions_of versions r))
    on (Some v) = ap (option_map (λ (v : Version). v.value)) (newest_push (versions_of versions r) (version_of number v))

-- a new version is what is read now
pub one-version : (old : Shared) (st : Stands old) (n : Name) (v : Value) (r : Name) → with_at st.world.refs n (Some v) r ≡ ref_now (committed old.versions ((n, v) ∷ []) (suc (length old.history))) r
one-version old st n v r = on (same_name r n) (ref-committed old.versions ((n, v) ∷ []) (suc (length old.history)) tt r)
  where
    on : (c : Bool) → ref_now (committed old.versions ((n, v) ∷ []) (suc (length old.history))) r ≡ option_or (cond c (Some v) None) (ref_now old.versions r)
        → cond c (Some v) (st.world.refs r) ≡ ref_now (committed old.versions ((n, v) ∷ []) (suc (length old.history))) r
    on true e = sym e
    on false e = st.seen.refs r ∙ sym e

-- pieces, boxes of mail and owners change, and the meaning sees the same
stands-on : (old : Shared) → Stands old → (b : Board) (mails : Mail) (owners : Named Name) → SameStates old.board b → SameActors old.board b → EachMachine (IsMachine old.setup) b → SameMail old.mails mails
    → Stands (record old { board = b; mails = mails; owners = owners })
stands-on old st b mails owners same actors machines mail = record {
  formed = st.formed;
  world = st.world;
  is_world = st.is_world;
  seen = record {
    history = st.seen.history;
    refs = st.seen.refs;
    units = λ q. seen-same old st b q (same q);
    actors = λ a. st.seen.actors a ∙ sym (actors a);
    taken = st.seen.taken;
    mails = λ a. st.seen.mails a ∙ sym (mail a);
    attempts = st.seen.attempts;
    bytes = st.seen.bytes;
    made = st.seen.made;
    end = st.seen.end;
  };
  machines = machines;
  attempts = λ going v tree there. under-way old (record old { board = b; mails = mails; owners = owners }) v tree refl (same v) (λ r. refl) (λ f v is. ap (option_and_then (λ (unit : UnitState). unit.finished)) (same f) ∙ is) (le_refl (length old.history)) (st.attempts going v tree there);
  numbers = st.numbers;
  aheads = λ u h is. ahead-still old.board b u h (same u) (st.aheads u h is);
}

-- pieces that the meaning sees as those that were there
pub same-states : (old : Shared) → Stands old → (b : Board) → SameStates old.board b → SameActors old.board b → EachMachine (IsMachine old.setup) b → Stands (record old { board = b })
same-states old st b same actors machines = stands-on old st b old.mails old.owners same actors machines (λ a. refl)

-- what is owned by whom is nothing to the meaning
pub owners-say-nothing : (old : Shared) (owners : Named Name) → Stands old → Stands (record old { owners = owners })
owners-say-nothing old owners st = stands-on old st old.board old.mails owners (λ q. refl) (λ a. refl) st.machines (λ a. refl)

-- nor are boxes that hold the same mail
pub same-mails : (old : Shared) → Stands old → (mails : Mail) → SameMail old.mails mails → Stands (record old { mails = mails })
same-mails old st mails same = stands-on old st old.board mails old.owners (λ q. refl) (λ a. refl) st.machines same

-- the run ends: of attempts nothing is said any more
pub ended : (old : Shared) → (st : Stands old) → (entry : Entry) (e : End) (b : Board) → SamePieces old.board b → IsWorld old.setup (ended_by st.world entry e)
    → Stands (record old { history = old.history ++ entry ∷ []; end = Some e; board = b })
ended old st entry e b same is_world = record {
  formed = st.formed;
  world = ended_by st.world entry e;
  is_world = is_world;
  seen = record {
    history = ap (λ h. h ++ entry ∷ []) st.seen.history;
    refs = st.seen.refs;
    units = λ q. seen-same old st b q (same-pieces old.board b same q);
    actors = λ a. st.seen.actors a ∙ sym (same-pieces-actors old.board b same a);
    taken = st.seen.taken;
    mails = st.seen.mails;
    attempts = λ going v. cc;
    bytes = st.seen.bytes;
    made = st.seen.made;
    end = refl;
  };
  machines = machines-same (IsMachine old.setup) old.board b same st.machines;
  attempts = λ going v tree there. cc;
  numbers = λ r k d in_range. let long = length-append old.history (entry ∷ []) in let below = st.numbers r k d in_range in omega (arith, long, below);
  aheads = λ u h is. ahead-still old.board b u h (same-pieces old.board b same u) (st.aheads u h is);
}

-- What is so of what is kept after an answer that leaves the attempts as they are, beside the world that is seen in it.
pub record IsNext (old : Shared) (st : Stands old) (new : Shared) (w2 : World) : Type 0 where
  pub setup : new.setup ≡ old.setup
  pub is_world : IsWorld old.setup w2
  pub history : w2.history ≡ new.history
  pub longer : length old.history ≤ length new.history
  pub refs : (r : Name) → w2.refs r ≡ ref_now new.versions r
  pub units : (q : Name) → w2.units q ≡ live_at new q
  pub actors : (a : Name) → w2.actors a ≡ actor_at new.board a
  pub taken : (a : Name) → w2.taken a ≡ one_or_none (named a new.taken)
  pub mails : (a : Name) → w2.mails a ≡ mail_at new.mails a
  pub attempts : new.attempts ≡ old.attempts
  pub tried : (v : Name) → w2.attempts v ≡ st.world.attempts v
  pub bytes : w2.bytes ≡ new.bytes
  pub made : w2.made ≡ new.made
  pub end : w2.end ≡ new.end
  pub going : new.end ≡ old.end
  pub machines : EachMachine (IsMachine old.setup) new.board
  pub stay : (v : Name) (tree : Attempt) → named v old.attempts ≡ Some tree → state_at new.board v ≡ state_at old.board v
  pub grows : Grows (finished_at old.board) (finished_at new.board)
  pub reads : (v : Name) (tree : Attempt) → named v old.attempts ≡ Some tree → (r : Name) → snapshot_of new.versions tree.snapshot r ≡ snapshot_of old.versions tree.snapshot r
  pub numbers : IsAbove (suc (length new.history)) new.versions
  pub aheads : (u : Name) (h : Ahead) → named u new.aheads ≡ Some h → IsAheadAt new.board u h

pub stands-next : (old : Shared) (st : Stands old) (new : Shared) (w2 : World) → IsNext old st new w2 → Stands new
stands-next old st new w2 is = record {
  formed = subst (λ (of : Setup). IsWellFormed of.program) (sym is.setup) st.formed;
  world = w2;
  is_world = subst (λ (of : Setup). IsWorld of w2) (sym is.setup) is.is_world;
  seen = record {
    history = is.history;
    refs = is.refs;
    units = is.units;
    actors = is.actors;
    taken = is.taken;
    mails = is.mails;
    attempts = λ going v. subst (λ all. AttemptSeen new.versions (named v all) (w2.attempts v)) (sym is.attempts)
        (subst (AttemptSeen new.versions (named v old.attempts)) (sym (is.tried v)) (seen-again old.versions new.versions (named v old.attempts) (st.world.attempts v) (is.reads v) (st.seen.attempts (went going) v)));
    bytes = is.bytes;
    made = is.made;
    end = is.end;
  };
  machines = subst (λ (of : Setup). EachMachine (IsMachine of) new.board) (sym is.setup) is.machines;
  attempts = λ going v tree there.
      let before = sym (ap (named v) is.attempts) ∙ there in
      under-way old new v tree is.setup (is.stay v tree before) (is.reads v tree before) is.grows is.longer (st.attempts (went going) v tree before);
  numbers = is.numbers;
  aheads = is.aheads;
}
  where
    went : is_going new.end ≡ true → is_going old.end ≡ true
    went going = ap is_going (sym is.going) ∙ going
