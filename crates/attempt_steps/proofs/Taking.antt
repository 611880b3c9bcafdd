-- Steps of tasks, and what comes of them.
use Rattle.std.proofs.Common.{◌≡◌, ◌∙◌, Bool, true, false, ℕ, cond, length, refl, sym, ap, subst}
use Rattle.std.specs.Option.{IsSome, option_map}
use Rattle.std.specs.Prelude.{if◌then◌else◌, Err, IfOk, IfSome, None, Ok, OnErr, OnOk, Option, Result, Some, is_err, is_some}
use Rattle.std.specs.declared.alloc.AllocError.{AllocError}
use Rattle.eval_step.specs.Evaluation.{Evaluation}
use Rattle.attempt_commits.proofs.Committing.{at-attempt}
use Rattle.attempt_steps.proofs.Wanting.{same-itself}
use Rattle.world_steps.specs.Kept.{IsSameBut}
use Rattle.attempt_deciding.proofs.Ending.{NoneGone, decided-ends, local-gone, marked-ends, put-keeps, set-keeps, undone-ends, waiting-gone}
use Rattle.attempt_steps.proofs.Again.{gone-again}
use Rattle.attempt_steps.proofs.Posted.{IsRooted, ahead-posts, level-posts, open-posts, posted-so, posting-there, quiet-posts}
use Rattle.attempt_sends.specs.Putting.{ArePosted}
use Rattle.shared_world.proofs.Posting.{IsPosting, posting-rest, posting-task}
use Rattle.shared_world.specs.declared.given.Given.TheVariants as given
use Rattle.shared_world.specs.Seen.{done_by_root}
use Rattle.attempt_steps.specs.declared.tasks.Child.{Child}
use Rattle.attempt_commits.specs.Committing.{IsTrying}
use Rattle.attempts_gone.specs.Dropping.{HasAttempt}
use Rattle.attempt_deciding.specs.Deciding.{DecidedOr}
use Rattle.attempt_steps.specs.Tasks as tasks
use Rattle.attempt_deciding.specs.TaskAt.{IsTaskAt, IsTaskIn}
use Rattle.attempt_steps.specs.Tasks.{ComesAfter, DecidedOrWaits, DecidesOr, GoesOnOr, HasCome, HasDecidedAt, HasDoneNoMore, HasForkedTask, HasRoomFor, HasStepped, IsOfStep, IsReadied, IsRoomFor, MissesOr, StepPosted, TaskMarked, TaskWaits, is_onward}
use Rattle.attempt_steps.specs.Waiting.{EndWaitsOr, HasWaited, TurnWaitsOr}
use Rattle.attempt_deciding.specs.Undoing.{HasAborted}
use Rattle.ref_store.specs.declared.version.Version.{Version}
use Rattle.ref_store.specs.Store.{versions_of}
use Rattle.ref_store.specs.Version.{newest}
use Rattle.serial_model.specs.declared.halt.Halt.{Halt}
use Rattle.shared_world.specs.declared.given.Given.{Given}
use Rattle.shared_world.specs.Gave.{gone_with}
use Rattle.shared_world.specs.rows.Pieces.{ClaimsEnd}
use Rattle.shared_world.specs.Ahead.{Ahead}
use Rattle.shared_world.specs.rows.Tasks.{AfterStep, Missing, StepGives, WaitsForTurn, waits}
use Rattle.shared_world.specs.rows.Undoing.{Aborts}
use Rattle.task_fork_join.specs.Stepping.{is_missing}
use Rattle.world_steps.specs.declared.kept.Kept.{Kept}
use Rattle.shared_world.specs.Shared.{Shared, claimed, is_going}
use Rattle.shared_world.specs.Stands.{Stands}
use Rattle.task_fork_join.specs.Attempt.{Attempt, end_at}
use Rattle.task_fork_join.specs.declared.stepped.Stepped.{Stepped}
use Rattle.task_fork_join.specs.declared.stepped.Stepped.TheVariants as stepped
use Rattle.task_fork_join.specs.declared.task_end.TaskEnd.{TaskEnd}
use Rattle.task_fork_join.specs.Step.{IsStep}
use Rattle.txn_snapshot.specs.SnapshotAnswer.{snapshot_of}
use Rattle.unit_table.specs.Board.{SameClaims, but_for, lent_to, piece_at, unit_at}
use Rattle.unit_table.specs.declared.mark.Mark.TheVariants as mark
use Rattle.unit_table.specs.declared.mark.Work.{Work}
use Rattle.unit_table.specs.declared.mark.Work.TheVariants as work
use Rattle.unit_table.specs.declared.unit.Unit.{Unit}
use Rattle.value_core.proofs.NamedLaws.{same_name-equal}
use Rattle.value_core.specs.declared.ticket.Ticket.{Ticket}
use Rattle.value_core.specs.declared.value.Value.{Value}
use Rattle.value_core.specs.declared.value.Value.TheVariants as value
use Rattle.value_core.specs.Named.{Name, Named, named, same_name, with_named}

pub on-err : {X E : Type 0} (r : Result X E) {A B : Type 0} → (A → B) → OnErr r A → OnErr r B
on-err (Ok x) f is = tt
on-err (Err e) f is = f is

-- the attempt that is written through has taken the step
pub has-stepped : (owner task : Name) (moved : Evaluation) (outer : Option Value) (h : Halt) (versions : Named _) (old new : Named Attempt) (tree after : Attempt) (result : Result Stepped AllocError)
    → named owner old ≡ Some tree → new ≡ with_named old owner after → IfOk result (λ went. IsStep (snapshot_of versions tree.snapshot) task moved outer h tree after went)
    → IfOk result (λ went. IfSome (named owner old) (λ t. HasStepped (snapshot_of versions t.snapshot) owner task moved outer h t old new went))
has-stepped owner task moved outer h versions old new tree after (Err e) there put step = tt
has-stepped owner task moved outer h versions old new tree after (Ok went) there put step =
    subst (λ (o : Option Attempt). IfSome o (λ t. HasStepped (snapshot_of versions t.snapshot) owner task moved outer h t old new went)) (sym there) (record { after = after; put = put; step = step })

-- a task of an attempt that is there
pub record HasTask (s : Shared) (owner task : Name) : Type 0 where
  pub tree : Attempt
  pub is : IsTaskIn s owner task tree

pub has-task : (s : Shared) (owner task : Name) → IfSome (named owner s.attempts) (IsTaskIn s owner task) → IsSome (named owner s.attempts) → HasTask s owner task
has-task s owner task at there = on (named owner s.attempts) at there
  where
    on : (o : Option Attempt) → IfSome o (IsTaskIn s owner task) → IsSome o → HasTask s owner task
    on None at is = absurd (cc)
    on (Some tree) at is = record { tree = tree; is = at }

-- the root of its attempt is there
pub rooted-by : (s : Shared) (owner task : Name) → HasTask s owner task → IsRooted s owner
rooted-by s owner task has tree there = let both : Some has.tree ≡ Some tree = sym has.is.attempt ∙ there in let same : has.tree ≡ tree = cc in subst (λ (t : Attempt). IsSome (named t.root t.tasks)) same has.is.rooted

-- a task stands there still once that is posted
pub posted-task : (s : Shared) (owner task : Name) (before : ℕ) (new : Shared) → HasTask s owner task → ArePosted s owner before new → IsTaskAt new.board task
posted-task s owner task before new has posts = record {
  mark = has.is.mark;
  there = posting-task s new (posted-so s owner has.tree before new has.is.attempt has.is.rooted posts) task has.is.mark has.is.there;
}

-- whether it is or not
pub posted-or-same : {X E : Type 0} (result : Result X E) (s : Shared) (owner task : Name) (before : ℕ) (new : Shared) → HasTask s owner task → OnOk result (ArePosted s owner before new) → OnErr result (new ≡ s) → IsTaskAt new.board task
posted-or-same (Ok x) s owner task before new has posts same = posted-task s owner task before new has posts
posted-or-same (Err e) s owner task before new has posts same = record { mark = has.is.mark; there = ap (λ (k : Shared). piece_at k.board task) same ∙ has.is.there }

-- a task of an attempt is of a unit that has one
pub has-attempt : (s : Shared) (owner task : Name) → HasTask s owner task → HasAttempt s owner
has-attempt s owner task has = record { unit = has.is.unit; there = has.is.unit_there; tree = has.tree; attempt = has.is.attempt }

-- it is the newest, which the snapshot does not have
pub missed : (old new : Shared) (owner task ref : Name) (number : ℕ) (found : Given) → HasTask old owner task → Some number ≡ option_map (λ (v : Version). v.number) (newest (versions_of old.versions ref))
    → HasAborted old owner ref number new found → MissesOr old owner task ref new (Ok found)
missed old new owner task ref number found has is r = record {
  row = λ x tree there attempt. on (newest (versions_of old.versions ref)) is x tree (r.row x tree there attempt);
  claims = undone-ends old new owner task ref number has.is.unit has.tree found has.is (r.row has.is.unit has.tree has.is.unit_there has.is.attempt) r.claims;
}
  where
    on : (v : Option Version) → Some number ≡ option_map (λ (w : Version). w.number) v → (x : Unit) (tree : Attempt) → Aborts old owner x tree ref number found new → Missing old owner x task tree ref v found new
    on None is x tree row = cc
    on (Some version) is x tree row = let same : number ≡ version.number = cc in subst (λ n. Aborts old owner x tree ref n found new) same row

-- a turn that runs ahead is there
record IsLeading (s : Shared) (owner : Name) : Type 0 where
  ahead : Ahead
  leads : named owner s.aheads ≡ Some ahead

leading : (s : Shared) (owner : Name) → true ≡ is_some (named owner s.aheads) → IsLeading s owner
leading s owner is = on (named owner s.aheads) refl is
  where
    on : (o : Option Ahead) → named owner s.aheads ≡ o → true ≡ is_some o → IsLeading s owner
    on None e so = cc
    on (Some ahead) e so = record { ahead = ahead; leads = e }

waited : (old new : Shared) (owner task : Name) (found : Given) → true ≡ is_some (named owner old.aheads) → HasWaited old owner task new found → WaitsForTurn old owner task found new
waited old new owner task found ahead r = let is = leading old owner ahead in record { ahead = is.ahead; leads = is.leads; found_is = r.found_is; marked = r.marked.marked }

waited-ends : (old new : Shared) (owner task : Name) (found : Given) → HasWaited old owner task new found → ClaimsEnd (gone_with found old.board new.board task) old new
waited-ends old new owner task found r = marked-ends found (waiting-gone found _ r.found_is) task old new (ap (λ (s : Shared). s.end) r.marked.marked.others) (set-keeps task _ _ old.board new.board r.marked.marked.set) r.marked.unlent

-- the store has no version of the ref, and the task waits for its turn
pub missed-waits : (old new : Shared) (owner task ref : Name) (result : Result Given AllocError) → true ≡ is_some (named owner old.aheads) → None ≡ option_map (λ (v : Version). v.number) (newest (versions_of old.versions ref)) → TurnWaitsOr old owner task new result
    → MissesOr old owner task ref new result
missed-waits old new owner task ref (Err e) ahead is r = r
missed-waits old new owner task ref (Ok found) ahead is r = record {
  row = λ x tree there attempt. on (newest (versions_of old.versions ref)) is x tree;
  claims = waited-ends old new owner task found r;
}
  where
    on : (v : Option Version) → None ≡ option_map (λ (w : Version). w.number) v → (x : Unit) (tree : Attempt) → Missing old owner x task tree ref v found new
    on None is x tree = waited old new owner task found ahead r
    on (Some version) is x tree = cc

-- no claim ends by what is posted
posted-claims : (old posted : Shared) → IsPosting old posted → SameClaims old.board posted.board → (t : Ticket) → claimed posted t ≡ claimed old t
posted-claims old posted is claims t =
    ap (λ g. if g then lent_to posted.board t else None) (ap (λ (s : Shared). is_going s.end) (posting-rest old posted is)) ∙ ap (λ (l : Option Name). if is_going old.end then l else None) (claims.to t)

-- what ends of the claims once that is posted, ends
posted-ends : (found : Given) (old posted new : Shared) (task : Name) → IsPosting old posted → SameClaims old.board posted.board → ClaimsEnd (gone_with found posted.board new.board task) posted new → ClaimsEnd (gone_with found old.board new.board task) old new
posted-ends found old posted new task is claims ends = gone-again found old posted new task (posting-there old posted is) (posted-claims old posted is claims) ends

-- the root is at its end, and the task waits for its turn
pub decided-after : (old new : Shared) (owner task : Name) (before : ℕ) (result : Result Given AllocError) → HasTask old owner task → true ≡ is_some (named owner old.aheads) → EndWaitsOr old owner task before new result → DecidesOr old owner task before new result
decided-after old new owner task before (Err e) has ahead r = r
decided-after old new owner task before (Ok found) has ahead r = λ tree ended attempt is_ended. record {
  posted = r.posted;
  posts = ahead-posts old owner before r.posted lead.ahead lead.leads (rooted-by old owner task has) r.is_posted.posts;
  row = λ x t e there at is. waits (waited r.posted new owner task found (ap (λ h. is_some h) (sym lead.leads ∙ sym (ap (λ (s : Shared). named owner s.aheads) (posting-rest old r.posted posts)))) r.waited);
  claims = posted-ends found old r.posted new task posts r.is_posted.claims (waited-ends r.posted new owner task found r.waited);
}
  where
    lead : IsLeading old owner
    lead = leading old owner ahead

    posts : IsPosting old r.posted
    posts = posted-so old owner has.tree before r.posted has.is.attempt has.is.rooted r.is_posted.posts

-- it was decided on
pub decided-at : (old new : Shared) (owner task : Name) (before : ℕ) (result : Result Given AllocError) → IsTrying old owner → HasTask old owner task → DecidedOr old owner new result → DecidesOr old owner task before new result
decided-at old new owner task before (Err e) trying has r = r
decided-at old new owner task before (Ok found) trying has r = λ tree ended attempt is_ended. record {
  posted = old;
  posts = level-posts old owner before trying.level (λ t at. ap (λ (k : Attempt). is_some (end_at k)) (same-tree at attempt) ∙ ap is_some is_ended);
  row = r.row task;
  claims =
      let is : IsTaskIn old owner task tree = subst (IsTaskIn old owner task) (same-tree has.is.attempt attempt) has.is in
      decided-ends old new owner task is.unit tree ended found trying.level is (r.row task is.unit tree ended is.unit_there attempt is_ended) r.claims;
}
  where
    same-tree : {a b : Attempt} → named owner old.attempts ≡ Some a → named owner old.attempts ≡ Some b → a ≡ b
    same-tree {a} {b} one two = let both : Some a ≡ Some b = sym one ∙ two in cc

-- what a mark leaves that says the task is ready
readied : (w : Work) (old mid new : Shared) (task : Name) → IsSameBut old mid → TaskMarked mid task (mark.Ready w) new → IsReadied w old task new
readied w old mid new task same marked = record {
  marked = record {
    set = record { here = marked.marked.set.here; others = λ other ne. marked.marked.set.others other ne ∙ same.pieces other };
    others = marked.marked.others ∙ ap (λ (s : Shared). record s { board = new.board }) same.rest;
  };
  claims = λ ticket free. marked.unlent.to ticket ∙ ap (but_for task) (same.claims.to ticket) ∙ on (lent_to old.board ticket) free;
}
  where
    by : (q : Name) (c : Bool) → same_name q task ≡ c → (Some q ≡ Some task → ⊥) → cond c None (Some q) ≡ Some q
    by q true e free = absurd (free (ap Some (same_name-equal q task e)))
    by q false e free = refl

    on : (found : Option Name) → (found ≡ Some task → ⊥) → but_for task found ≡ found
    on None free = refl
    on (Some q) free = by q (same_name q task) refl free

-- a decision that found no memory leaves the task ready to settle
pub decided-waits : (old mid new : Shared) (owner task : Name) (before : ℕ) (result : Result Given AllocError) → is_err result ≡ true → DecidesOr old owner task before mid result → TaskMarked mid task (mark.Ready work.Settle) new
    → DecidedOrWaits old owner task before new result
decided-waits old mid new owner task before (Ok found) err decided marked = cc
decided-waits old mid new owner task before (Err e) err same marked = readied work.Settle old mid new task same marked

some-end : (o : Option TaskEnd) → true ≡ is_some o → (P : Option TaskEnd → Type 0) → ((e : TaskEnd) → o ≡ Some e → P (Some e)) → P o
some-end None is P all = cc
some-end (Some e) is P all = all e refl

no-end : (o : Option TaskEnd) → false ≡ is_some o → (P : Option TaskEnd → Type 0) → P None → P o
no-end None is P none = none
no-end (Some e) is P none = cc

-- the root is at its end
pub after-ended : (old new : Shared) (owner task : Name) (before : ℕ) (went : Stepped) (result : Result Given AllocError) → HasTask old owner task → IfSome (named owner old.attempts) (λ tree. true ≡ is_some (end_at tree)) → DecidedOrWaits old owner task before new result
    → ComesAfter old owner task before went new result
after-ended old new owner task before went (Err e) has ended r = tasks.settles ended r
after-ended old new owner task before went (Ok found) has ended r = on (end_at has.tree) refl (at-attempt (named owner old.attempts) (λ (t : Attempt). true ≡ is_some (end_at t)) has.tree has.is.attempt ended)
  where
    on : (o : Option TaskEnd) → end_at has.tree ≡ o → true ≡ is_some o → HasCome old owner task before went new found
    on None e is = cc
    on (Some e) is_ended is = record {
      posted = came.posted;
      posts = came.posts;
      row = λ x tree there attempt.
          some-end (end_at tree) (at-attempt (named owner old.attempts) (λ (t : Attempt). true ≡ is_some (end_at t)) tree attempt ended) (λ o. AfterStep came.posted owner x task tree went o found new) (λ k so. came.row x tree k there attempt so);
      claims = came.claims;
    }
      where
        came : HasDecidedAt old owner task before new found
        came = r has.tree e has.is.attempt is_ended

-- It is not.
module _ (old : Shared) (owner task : Name) (before : ℕ) (went : Stepped) (has : HasTask old owner task) (going : IfSome (named owner old.attempts) (λ tree. false ≡ is_some (end_at tree))) where
  unended : (tree : Attempt) → named owner old.attempts ≡ Some tree → end_at tree ≡ None
  unended tree attempt = no-end (end_at tree) (at-attempt (named owner old.attempts) (λ (t : Attempt). false ≡ is_some (end_at t)) tree attempt going) (λ o. o ≡ None) refl

  -- then a step comes to that
  came : (posted new : Shared) (found : Given) → StepPosted old owner before posted → ((x : Unit) (tree : Attempt) → unit_at old.board owner ≡ Some x → named owner old.attempts ≡ Some tree → StepGives posted owner x task tree went found new)
      → ClaimsEnd (gone_with found old.board new.board task) old new → HasCome old owner task before went new found
  came posted new found posts gives claims = record {
    posted = posted;
    posts = posts;
    row = λ x tree there attempt. subst (λ e. AfterStep posted owner x task tree went e found new) (sym (unended tree attempt)) (gives x tree there attempt);
    claims = claims;
  }

  -- where nothing is sent
  quiet : IfSome (named owner old.attempts) (HasDoneNoMore before went) → is_onward went ≡ false → StepPosted old owner before old
  quiet done still = quiet-posts old owner before (λ tree attempt. at-attempt (named owner old.attempts) (HasDoneNoMore before went) tree attempt done (unended tree attempt) still)

  -- where something is
  posting : (new : Shared) → ArePosted old owner before new → IsPosting old new
  posting new posts = posted-so old owner has.tree before new has.is.attempt has.is.rooted posts

  -- it goes on
  pub after-goes : (new : Shared) (result : Result Given AllocError) → went ≡ stepped.Now → GoesOnOr old owner task before new result → ComesAfter old owner task before went new result
  after-goes new (Err e) is r = tasks.goes is (readied work.Eval old old new task (same-itself old) r)
  after-goes new (Ok found) is r = came r.posted new found (open-posts old owner before r.posted unended (rooted-by old owner task has) r.is_posted.posts)
      (λ x tree there attempt. subst (λ w. StepGives r.posted owner x task tree w found new) (sym is) (r.found_is, r.marked.marked))
      (posted-ends found old r.posted new task (posting r.posted r.is_posted.posts) r.is_posted.claims
      (marked-ends found (local-gone found r.found_is) task r.posted new (ap (λ (s : Shared). s.end) r.marked.marked.others) (set-keeps task _ _ r.posted.board new.board r.marked.marked.set) r.marked.unlent))

  -- the task waits
  pub after-waits : (new : Shared) (future : Name) (result : Result Given AllocError) → went ≡ stepped.WaitJoin future → TaskWaits old owner task future before new result → ComesAfter old owner task before went new result
  after-waits new future (Err e) is r = tasks.again future is (readied work.Eval old old new task (same-itself old) r)
  after-waits new future (Ok found) is r = came r.posted new found (open-posts old owner before r.posted unended (rooted-by old owner task has) r.is_posted.posts)
      (λ x tree there attempt. subst (λ w. StepGives r.posted owner x task tree w found new) (sym is) (r.found_is, r.marked.marked))
      (posted-ends found old r.posted new task (posting r.posted r.is_posted.posts) r.is_posted.claims
      (marked-ends found (waiting-gone found _ r.found_is) task r.posted new (ap (λ (s : Shared). s.end) r.marked.marked.others) (set-keeps task _ _ r.posted.board new.board r.marked.marked.set) r.marked.unlent))

  -- the snapshot does not have the ref
  pub after-misses : (new : Shared) (ref : Name) (result : Result Given AllocError) → IfSome (named owner old.attempts) (HasDoneNoMore before went) → went ≡ stepped.NotInSnapshot ref → MissesOr old owner task ref new result
      → ComesAfter old owner task before went new result
  after-misses new ref (Err e) done is r = tasks.misses (ap is_missing is) r
  after-misses new ref (Ok found) done is r = came old new found (quiet done (ap is_onward is)) (λ x tree there attempt. subst (λ w. StepGives old owner x task tree w found new) (sym is) (r.row x tree there attempt)) r.claims

  -- the task forks
  pub after-forks : (new : Shared) (future : Name) (found : Given) → IfSome (named owner old.attempts) (HasDoneNoMore before went) → went ≡ stepped.Forked future → HasForkedTask old owner task future new found → ComesAfter old owner task before went new (Ok found)
  after-forks new future found done is r = came old new found (quiet done (ap is_onward is)) (λ x tree there attempt. subst (λ w. StepGives old owner x task tree w found new) (sym is) (r.found_is, r.forked))
      (marked-ends found (local-gone found r.found_is) task old new (ap (λ (s : Shared). s.end) r.forked.steps.others) none r.unlent)
    where
      none : NoneGone old.board new.board
      none q some = set-keeps task _ _ r.forked.board new.board r.forked.steps.set q (put-keeps future _ old.board r.forked.board r.forked.put q some)

  -- the task is finished
  pub after-finishes : (new : Shared) → IfSome (named owner old.attempts) (HasDoneNoMore before went) → went ≡ stepped.Finished → TaskMarked old task (mark.Finished value.Nil) new → ComesAfter old owner task before went new (Ok given.Local)
  after-finishes new done is r = came old new given.Local (quiet done (ap is_onward is)) (λ x tree there attempt. subst (λ w. StepGives old owner x task tree w given.Local new) (sym is) (refl, r.marked))
      (marked-ends given.Local (local-gone given.Local refl) task old new (ap (λ (s : Shared). s.end) r.marked.others) (set-keeps task _ _ old.board new.board r.marked.set) r.unlent)

-- a child for which there is room, of a step that forked
pub record HasChild (k : Kept) (owner future : Name) (child : Option Child) : Type 0 where
  pub is : Child
  pub there : child ≡ Some is
  pub called : is.name ≡ future
  pub room : IsRoomFor k owner is

pub has-child : (k : Kept) (owner future : Name) (went : Stepped) (child : Option Child) → went ≡ stepped.Forked future → IsOfStep child went → HasRoomFor k owner child → HasChild k owner future child
has-child k owner future went None is of room = absurd (subst (λ w. IsOfStep None w) is of)
has-child k owner future went (Some child) is of room = record { is = child; there = refl; called = subst (λ w. IsOfStep (Some child) w) is of; room = room }

-- the child is of the future, and of the attempt of that unit
pub forked-so : (old new : Shared) (owner task future : Name) (child : Child) (found : Given) → child.name ≡ future → child.owner ≡ owner → HasForkedTask old child.owner task child.name new found → HasForkedTask old owner task future new found
forked-so old new owner task future child found is_name is_owner r =
    subst (λ n. HasForkedTask old owner task n new found) is_name (subst (λ o. HasForkedTask old o task child.name new found) is_owner r)
