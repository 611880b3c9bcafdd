-- What the root of an attempt sends by a step, as the step is seen and as it is taken.
use Rattle.std.proofs.Common.{◌≡◌, ◌∙◌, ◌++◌, ◌∷◌, ◌⊎◌, ℕ, true, inl, inr, length, take, drop, List, [], refl, sym, ap, subst, arith}
use Rattle.std.proofs.lemmas.List.{drop_all}
use Rattle.std.specs.Option.{IsSome, option_and_then}
use Rattle.std.specs.Prelude.{None, Option, Some, is_some}
use Rattle.attempt_sends.specs.Putting.{ArePosted}
use Rattle.attempt_steps.specs.Tasks.{HasPosted, StepPosted}
use Rattle.serial_model.specs.declared.effect.Effect.{Effect}
use Rattle.shared_world.proofs.Marks.{but_actor}
use Rattle.shared_world.proofs.Posting.{IsPosting, posting, posting-rest, posting-task, posting-unit, step-posting}
use Rattle.shared_world.specs.Ahead.{Ahead}
use Rattle.shared_world.specs.rows.Actors.{roused_unless}
use Rattle.shared_world.specs.rows.Sending as row
use Rattle.shared_world.specs.rows.Sending.{Posts, PutOrKept, Send, sends_in}
use Rattle.shared_world.specs.rows.Tasks.{StepPosts}
use Rattle.shared_world.specs.Seen.{done_by_root}
use Rattle.shared_world.specs.Shared.{Shared}
use Rattle.task_fork_join.specs.Attempt.{Attempt, end_at}
use Rattle.task_fork_join.specs.declared.task_end.TaskEnd.{TaskEnd}
use Rattle.unit_table.specs.Board.{Board, SameClaims, SamePieces, actor_at, piece_at}
use Rattle.unit_table.specs.declared.piece.Piece.{Piece}
use Rattle.unit_table.specs.declared.piece.Piece.TheVariants as piece
use Rattle.unit_table.specs.Piece.{actor_in}
use Rattle.value_core.specs.Named.{Name, Named, named}
use Rattle.world_model.proofs.lists.Lists.{drop-left}
use Rattle.world_steps.proofs.Settling.{same-claims}

-- the first of two lists
pub take-left : {X : Type 0} (xs ys : List X) → take (length xs) (xs ++ ys) ≡ xs
take-left [] ys = refl
take-left (x ∷ xs) ys = ap (λ l. x ∷ l) (take-left xs ys)

-- ---- whatever attempts there are
one-beside : (s : Shared) (u root : Name) (sends : List Send) (to : Name) (args : _) (new : Shared) (attempts : Named Attempt) → PutOrKept s u root sends to args new
    → PutOrKept (record s { attempts = attempts }) u root sends to args (record new { attempts = attempts })
one-beside s u root sends to args new attempts (row.keep why same) = row.keep why (ap (λ (k : Shared). record k { attempts = attempts }) same)
one-beside s u root sends to args new attempts (row.put p) = row.put (record {
  actor = p.actor;
  there = p.there;
  none_kept = p.none_kept;
  mails = p.mails;
  mailed = p.mailed;
  board = p.board;
  rouses = p.rouses;
  others = ap (λ (k : Shared). record k { attempts = attempts }) p.others;
})

posts-beside : (s : Shared) (u root : Name) (sends more : List Send) (new : Shared) (attempts : Named Attempt) → Posts s u root sends more new → Posts (record s { attempts = attempts }) u root sends more (record new { attempts = attempts })
posts-beside s u root sends [] new attempts is = ap (λ (k : Shared). record k { attempts = attempts }) is
posts-beside s u root sends (m ∷ more) new attempts is = (
  record is.0 { attempts = attempts },
  one-beside s u root sends m.0 m.1 is.0 attempts is.1,
  posts-beside is.0 u root (sends ++ m ∷ []) more new attempts is.2,
)

pub step-beside : (ended : Option TaskEnd) (ahead : Option Ahead) (s : Shared) (u root : Name) (sends more : List Send) (new : Shared) (attempts : Named Attempt) → StepPosts ended ahead s u root sends more new
    → StepPosts ended ahead (record s { attempts = attempts }) u root sends more (record new { attempts = attempts })
step-beside None ahead s u root sends more new attempts is = posts-beside s u root sends more new attempts is
step-beside (Some e) (Some h) s u root sends more new attempts is = posts-beside s u root sends more new attempts is
step-beside (Some e) None s u root sends more new attempts is = ap (λ (k : Shared). record k { attempts = attempts }) is

-- ---- on what is the same but for room
-- it is posted there too, and that is the same but for room
pub record IsPostedAgain (old new : Shared) (Post : Shared → Type 0) : Type 0 where
  pub on : Shared
  pub post : Post on
  pub same : SamePieces on.board new.board
  pub claims : SameClaims on.board new.board
  pub rest : new ≡ record on { board = new.board }

-- nothing is posted
none-again : (old : Shared) (b : Board) (new : Shared) (Post : Shared → Type 0) → SamePieces old.board b → SameClaims old.board b → Post old → new ≡ record old { board = b } → IsPostedAgain old new Post
none-again old b new Post same claims post is = record {
  on = old;
  post = post;
  same = λ n. ap (λ (s : Shared). piece_at s.board n) is ∙ same n;
  claims = subst (λ (s : Shared). SameClaims old.board s.board) (sym is) claims;
  rest = is ∙ ap (λ c. record old { board = c }) (sym (ap (λ (s : Shared). s.board) is));
}

posts-again : (old : Shared) (b : Board) (u root : Name) (sends more : List Send) (new : Shared) → SamePieces old.board b → SameClaims old.board b → Posts (record old { board = b }) u root sends more new → IsPostedAgain old new (Posts old u root sends more)
posts-again old b u root sends [] new same claims is = none-again old b new (Posts old u root sends []) same claims refl is
posts-again old b u root sends (m ∷ more) new same claims is = by is.1 (λ unchanged. posts-again old b u root (sends ++ m ∷ []) more new same claims (subst (λ (s : Shared). Posts s u root (sends ++ m ∷ []) more new) unchanged is.2))
  where
    by : PutOrKept (record old { board = b }) u root sends m.0 m.1 is.0 → (is.0 ≡ record old { board = b } → IsPostedAgain old new (Posts old u root (sends ++ m ∷ []) more)) → IsPostedAgain old new (Posts old u root sends (m ∷ more))
    by (row.put p) rest = record {
      on = new;
      post = (
        is.0,
        row.put (record {
          actor = p.actor;
          there = ap (option_and_then actor_in) (sym (same m.0)) ∙ p.there;
          none_kept = p.none_kept;
          mails = p.mails;
          mailed = p.mailed;
          board = p.board;
          rouses = record { here = p.rouses.here ∙ ap (roused_unless (is_some (named m.0 old.taken))) (same m.0); others = λ n other. p.rouses.others n other ∙ same n };
          others = p.others;
        }),
        is.2,
      );
      same = λ n. refl;
      claims = same-claims new.board;
      rest = refl;
    }
    by (row.keep why unchanged) rest = let later = rest unchanged in record {
      on = later.on;
      post = (old, row.keep (kept why) refl, later.post);
      same = later.same;
      claims = later.claims;
      rest = later.rest;
    }
      where
        kept : (actor_at b m.0 ≡ None) ⊎ (row.kept_by old u root sends m.0 ≡ [] → ⊥) → (actor_at old.board m.0 ≡ None) ⊎ (row.kept_by old u root sends m.0 ≡ [] → ⊥)
        kept (inl none) = inl (ap (option_and_then actor_in) (sym (same m.0)) ∙ none)
        kept (inr some) = inr some

pub step-again : (ended : Option TaskEnd) (ahead : Option Ahead) (old : Shared) (b : Board) (u root : Name) (sends more : List Send) (new : Shared) → SamePieces old.board b → SameClaims old.board b → StepPosts ended ahead (record old { board = b }) u root sends more new
    → IsPostedAgain old new (StepPosts ended ahead old u root sends more)
step-again None ahead old b u root sends more new same claims is = posts-again old b u root sends more new same claims is
step-again (Some e) (Some h) old b u root sends more new same claims is = posts-again old b u root sends more new same claims is
step-again (Some e) None old b u root sends more new same claims is = none-again old b new (λ s. s ≡ old) same claims refl is

-- ---- what a step adds
-- The root had done so much, and has done more.
module _ (tree : Attempt) (before : ℕ) (done more : List Effect) (whole : done_by_root tree ≡ done ++ more) (so_much : before ≡ length done) where
  pub first-done : take before (done_by_root tree) ≡ done
  first-done = ap (λ n. take n (done_by_root tree)) so_much ∙ ap (take (length done)) whole ∙ take-left done more

  pub then-done : drop before (done_by_root tree) ≡ more
  then-done = ap (λ n. drop n (done_by_root tree)) so_much ∙ ap (drop (length done)) whole ∙ drop-left done more

pub drop-none : {X : Type 0} (n : ℕ) (xs : List X) → length xs ≡ n → drop n xs ≡ []
drop-none n xs is = ap (λ k. drop k xs) (sym is) ∙ drop_all (length xs) xs (omega arith)

-- where it has done no more, nothing is posted
pub quiet-posts : (s : Shared) (owner : Name) (before : ℕ) → ((tree : Attempt) → named owner s.attempts ≡ Some tree → length (done_by_root tree) ≡ before) → StepPosted s owner before s
quiet-posts s owner before quiet tree there = on (end_at tree) (named owner s.aheads)
  where
    none : sends_in (drop before (done_by_root tree)) ≡ []
    none = ap sends_in (drop-none before (done_by_root tree) (quiet tree there))

    posts : Posts s owner tree.root (sends_in (take before (done_by_root tree))) (sends_in (drop before (done_by_root tree))) s
    posts = subst (λ more. Posts s owner tree.root (sends_in (take before (done_by_root tree))) more s) (sym none) refl

    on : (ended : Option TaskEnd) (ahead : Option Ahead) → StepPosts ended ahead s owner tree.root (sends_in (take before (done_by_root tree))) (sends_in (drop before (done_by_root tree))) s
    on None ahead = posts
    on (Some e) (Some h) = posts
    on (Some e) None = refl

-- the root of the attempt is there
abbrev pub IsRooted : Shared → Name → Type 0
IsRooted s owner = (tree : Attempt) → named owner s.attempts ≡ Some tree → IsSome (named tree.root tree.tasks)

-- where the root is not at its end what it has sent is posted
pub open-posts : (s : Shared) (owner : Name) (before : ℕ) (new : Shared) → ((tree : Attempt) → named owner s.attempts ≡ Some tree → end_at tree ≡ None) → IsRooted s owner → ArePosted s owner before new → StepPosted s owner before new
open-posts s owner before new unended rooted posts tree there =
    subst (λ e. StepPosts e (named owner s.aheads) s owner tree.root (sends_in (take before (done_by_root tree))) (sends_in (drop before (done_by_root tree))) new) (sym (unended tree there)) (posts tree there (rooted tree there))

-- and where its unit runs ahead
pub ahead-posts : (s : Shared) (owner : Name) (before : ℕ) (new : Shared) (ahead : Ahead) → named owner s.aheads ≡ Some ahead → IsRooted s owner → ArePosted s owner before new → StepPosted s owner before new
ahead-posts s owner before new ahead leads rooted posts tree there =
    subst (λ h. StepPosts (end_at tree) h s owner tree.root (sends_in (take before (done_by_root tree))) (sends_in (drop before (done_by_root tree))) new) (sym leads) (on (end_at tree))
  where
    on : (ended : Option TaskEnd) → StepPosts ended (Some ahead) s owner tree.root (sends_in (take before (done_by_root tree))) (sends_in (drop before (done_by_root tree))) new
    on None = posts tree there (rooted tree there)
    on (Some e) = posts tree there (rooted tree there)

-- where its unit stands where the history left it, and the root is at its end, nothing is
pub level-posts : (s : Shared) (owner : Name) (before : ℕ) → named owner s.aheads ≡ None → ((tree : Attempt) → named owner s.attempts ≡ Some tree → is_some (end_at tree) ≡ true) → StepPosted s owner before s
level-posts s owner before level ended tree there =
    subst (λ h. StepPosts (end_at tree) h s owner tree.root (sends_in (take before (done_by_root tree))) (sends_in (drop before (done_by_root tree))) s) (sym level) (on (end_at tree) (ended tree there))
  where
    on : (o : Option TaskEnd) → is_some o ≡ true → StepPosts o None s owner tree.root (sends_in (take before (done_by_root tree))) (sends_in (drop before (done_by_root tree))) s
    on None is = cc
    on (Some e) is = refl

-- ---- what stays
there-but : (found other : Option Piece) → but_actor found ≡ but_actor other → option_and_then actor_in found ≡ option_and_then actor_in other → is_some found ≡ is_some other
there-but None None is actor = refl
there-but None (Some (piece.Unit x)) is actor = cc
there-but None (Some (piece.Task m)) is actor = cc
there-but None (Some (piece.Actor a)) is actor = cc
there-but (Some (piece.Unit x)) None is actor = cc
there-but (Some (piece.Task m)) None is actor = cc
there-but (Some (piece.Actor a)) None is actor = cc
there-but (Some p) (Some q) is actor = refl

-- what stands there stands there still
pub posting-there : (old new : Shared) → IsPosting old new → (n : Name) → is_some (piece_at new.board n) ≡ is_some (piece_at old.board n)
posting-there old new is n = there-but (piece_at new.board n) (piece_at old.board n) (is.pieces n) (is.actors n)

-- what the root of an attempt that is there has sent is posted
pub posted-so : (s : Shared) (owner : Name) (tree : Attempt) (before : ℕ) (new : Shared) → named owner s.attempts ≡ Some tree → IsSome (named tree.root tree.tasks) → ArePosted s owner before new → IsPosting s new
posted-so s owner tree before new there rooted posts = posting s owner tree.root (sends_in (take before (done_by_root tree))) (sends_in (drop before (done_by_root tree))) new (posts tree there rooted)

pub step-posted-so : (s : Shared) (owner : Name) (tree : Attempt) (before : ℕ) (new : Shared) → named owner s.attempts ≡ Some tree → StepPosted s owner before new → IsPosting s new
step-posted-so s owner tree before new there posts =
    step-posting (end_at tree) (named owner s.aheads) s owner tree.root (sends_in (take before (done_by_root tree))) (sends_in (drop before (done_by_root tree))) new (posts tree there)
