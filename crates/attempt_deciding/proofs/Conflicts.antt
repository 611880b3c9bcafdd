-- Attempts that are undone for a ref that they have read.
use Rattle.std.proofs.Common.{◌≡◌, ◌∙◌, ◌<◌, ◌≤◌, List, [], ◌∷◌, ap, arith, length, refl, subst, sym}
use Rattle.std.proofs.lemmas.List.Elements.{All-get_or, All-head, All-tail}
use Rattle.std.proofs.lemmas.Option.{get_or_from_slice_get, slice_get_within}
use Rattle.std.specs.List.{slice_get}
use Rattle.std.specs.Option.{IfSome, option_or}
use Rattle.std.specs.Prelude.{All, None, Option, Some}
use Rattle.attempt_commits.proofs.Committing.{at-attempt}
use Rattle.attempt_deciding.specs.Deciding.{IsToDecide, IsValidated}
use Rattle.attempt_deciding.specs.Undoing.{FindsToUndo, HasConflicted, IsAborted}
use Rattle.attempt_undoing.specs.declared.undoing.Undone.{Undone}
use Rattle.attempt_undoing.specs.Undoing.{UndoneFrom}
use Rattle.ref_store.specs.declared.version.Version.{Version}
use Rattle.ref_store.specs.Store.{versions_of}
use Rattle.ref_store.specs.Version.{newest}
use Rattle.shared_world.specs.declared.given.Given.{Given}
use Rattle.shared_world.specs.declared.given.Given.TheVariants as given
use Rattle.shared_world.specs.Gave.{ended_by}
use Rattle.shared_world.specs.rows.Pieces.{ClaimsEnd}
use Rattle.shared_world.specs.Shared.{Shared}
use Rattle.task_fork_join.specs.Attempt.{Attempt}
use Rattle.txn_commit.specs.Conflict.{IsFirstConflict, IsUnchanged}
use Rattle.txn_commit.specs.declared.conflict.Conflict.{Conflict}
use Rattle.value_core.specs.Named.{Name, Named, named}

-- what holds of all versions holds of the newest
of-newest : (P : Version → Type 0) (all : List Version) (v : Version) → All P all → newest all ≡ Some v → P v
of-newest P [] v hold is = let no : None ≡ Some v = is in cc
of-newest P (w ∷ ws) v hold is = on (newest ws) refl is (of-newest P ws v (All-tail P w ws hold))
  where
    on : (found : Option Version) → newest ws ≡ found → option_or found (Some w) ≡ Some v → (newest ws ≡ Some v → P v) → P v
    on None none first rest = let one : w ≡ v = cc in subst P one (All-head P w ws hold)
    on (Some u) some found rest = rest (some ∙ found)

-- where no ref that was read has a version above the snapshot, none is the first
none-first : (versions : Named (List Version)) (tree : Attempt) → All (IsUnchanged versions tree.snapshot) tree.reads → (c : Conflict) → IsFirstConflict tree.reads versions tree.snapshot c → ⊥
none-first versions tree all c first =
    let changed = first.changed in
    let unchanged : IsUnchanged versions tree.snapshot first.read = subst (IsUnchanged versions tree.snapshot) (get_or_from_slice_get tree.reads c.index first.read first.read first.place)
    (All-get_or (IsUnchanged versions tree.snapshot) tree.reads c.index first.read (slice_get_within tree.reads c.index first.read first.place) all) in
    let below : changed.version.number ≤ tree.snapshot = of-newest (λ v. v.number ≤ tree.snapshot) (versions_of versions first.read) changed.version unchanged changed.newest in
    omega (arith, below, changed.number_is, changed.above)

-- where the root of the attempt is at its end, and its unit stands where the history left it, the first of the refs that it has read and
-- that has a version above its snapshot tells
pub found-changed : (s : Shared) (task owner : Name) → named task s.owners ≡ Some owner → IsToDecide s task owner → (found : Option Conflict) → IfSome (named owner s.attempts) (λ tree. IsValidated s.versions tree found) → FindsToUndo s task found
found-changed s task owner of ends (Some c) valid = record {
  mark = ends.task_at.mark;
  there = ends.task_at.there;
  owner = owner;
  of = of;
  tree = ends.ended_at.tree;
  attempt = ends.ended_at.attempt;
  ended = ends.ended_at.ended;
  at_end = ends.ended_at.at_end;
  level = ends.level;
  first = at-attempt (named owner s.attempts) (λ (t : Attempt). IsValidated s.versions t (Some c)) ends.ended_at.tree ends.ended_at.attempt valid;
}
found-changed s task owner of ends None valid = λ c to.
    let owners : Some to.owner ≡ Some owner = sym to.of ∙ of in
    let one : owner ≡ to.owner = cc in
    let attempt : named owner s.attempts ≡ Some to.tree = ap (λ n. named n s.attempts) one ∙ to.attempt in
    none-first s.versions to.tree (at-attempt (named owner s.attempts) (λ (t : Attempt). IsValidated s.versions t None) to.tree attempt valid) c to.first

-- the ref in the conflict's place is there
pub within-reads : (owner : Name) (attempts : Named Attempt) (versions : Named (List Version)) (items : List Name) (c : Conflict) (tree : Attempt) → named owner attempts ≡ Some tree → IfSome (named owner attempts) (λ t. items ≡ t.reads)
    → IsFirstConflict tree.reads versions tree.snapshot c → c.index < length items
within-reads owner attempts versions items c tree attempt reads first =
    let same : items ≡ tree.reads = at-attempt (named owner attempts) (λ (t : Attempt). items ≡ t.reads) tree attempt reads in
    slice_get_within items c.index first.read (ap (λ names. slice_get names c.index) same ∙ first.place)

-- it is told as the reason
pub has-conflicted : (old new : Shared) (owner : Name) (c : Conflict) (undone : Undone) (found : Given) → UndoneFrom old owner new undone → IsAborted undone.unit undone.reads.items c found → HasConflicted old owner c new found
has-conflicted old new owner c undone found from told = record {
  row = λ x tree there attempt.
      let reads : undone.reads.items ≡ tree.reads = at-attempt (named owner old.attempts) (λ (t : Attempt). undone.reads.items ≡ t.reads) tree attempt from.reads in
      record {
        ref = told.ref;
        ref_is = ap (λ names. slice_get names c.index) (sym reads) ∙ told.ref_is;
        aborts = record {
          found_is = told.found_is ∙ ap (λ u. given.Aborted u told.ref c.version) from.unit;
          undoes = from.undone x tree there attempt;
        };
      };
  claims = subst (λ (f : Given). ClaimsEnd (ended_by f old.board new.board) old new) (sym told.found_is) from.claims;
}
