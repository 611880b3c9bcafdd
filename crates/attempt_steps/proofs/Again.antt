-- What follows what is the same but for room, of tasks.
use Rattle.std.proofs.Common.{◌≡◌, ◌∙◌, Bool, cond, refl, sym, ap}
use Rattle.std.specs.Option.{option_and_then}
use Rattle.std.specs.Prelude.{None, Option, Some, is_some, not, ◌&&◌, ◌||◌}
use Rattle.ref_store.specs.declared.version.Version.{Version}
use Rattle.ref_store.specs.Store.{versions_of}
use Rattle.ref_store.specs.Version.{newest}
use Rattle.shared_world.specs.declared.given.Given.{Given}
use Rattle.shared_world.specs.declared.given.Given.TheVariants as given
use Rattle.shared_world.specs.Dependence as kept
use Rattle.shared_world.specs.Dependence.{DependsIn}
use Rattle.shared_world.specs.Gave.{ended_by, gone_with}
use Rattle.shared_world.specs.rows.Attempts.{AttemptGoes}
use Rattle.shared_world.specs.rows.Undoing.{Aborts, Undoes, piece_left}
use Rattle.shared_world.specs.rows.Actors.{acted, spawned}
use Rattle.shared_world.specs.rows.Commits.{Commits, definite_if, turns_on}
use Rattle.shared_world.specs.rows.Unsettled.{kept_to}
use Rattle.actor_mails.specs.Mails.{mail_at}
use Rattle.shared_world.specs.rows.Pieces.{ClaimsEnd, IsSet, but_gone, task_gone}
use Rattle.shared_world.specs.rows.Tasks.{AfterStep, EndGives, Forked, IsMarkedTask, Missing, RootGives, StepGives, WaitsForTurn, conflicts, valid, waits}
use Rattle.shared_world.specs.Shared.{Shared, claimed}
use Rattle.task_fork_join.specs.Attempt.{Attempt}
use Rattle.task_fork_join.specs.declared.stepped.Stepped.{Stepped}
use Rattle.task_fork_join.specs.declared.stepped.Stepped.TheVariants as stepped
use Rattle.task_fork_join.specs.declared.task_end.TaskEnd.{TaskEnd}
use Rattle.task_fork_join.specs.declared.task_end.TaskEnd.TheVariants as end
use Rattle.unit_table.specs.Board.{Board, SamePieces, lent_at, piece_at}
use Rattle.unit_table.specs.declared.mark.Mark.{Mark}
use Rattle.unit_table.specs.declared.piece.Piece.{Piece}
use Rattle.unit_table.specs.declared.piece.Piece.TheVariants as piece
use Rattle.unit_table.specs.declared.unit.Unit.{Unit}
use Rattle.unit_table.specs.Piece.{actor_in, beside}
use Rattle.value_core.specs.Named.{Name, named, same_name}

module _ (base : Shared) (b : Board) (same : SamePieces base.board b) (lent : (q : Name) → lent_at b q ≡ lent_at base.board q) where
  abbrev mid : Shared
  mid = record base { board = b }

  set-again : (name : Name) (p : Piece) (m : Mark) (new : Board) → IsSet name p m b new → IsSet name p m base.board new
  set-again name p m new set = record { here = set.here; others = λ other ne. set.others other ne ∙ ap (beside name m) (same other) }

  marked-again : (task : Name) (m : Mark) (new : Shared) → IsMarkedTask mid task m new → IsMarkedTask base task m new
  marked-again task m new row = record { set = record { here = row.set.here; others = λ other ne. row.set.others other ne ∙ ap (beside task m) (same other) }; others = row.others }

  forked-again : (u task child : Name) (new : Shared) → Forked mid u task child new → Forked base u task child new
  forked-again u task child new row = record {
    none = sym (same child) ∙ row.none;
    board = row.board;
    put = record { here = row.put.here; others = λ other ne. row.put.others other ne ∙ same other };
    steps = row.steps;
  }

  goes-again : (u : Name) (y : Unit) (tree : Attempt) (new : Shared) → AttemptGoes mid u y tree new → AttemptGoes base u y tree new
  goes-again u y tree new row = record {
    attempts = row.attempts;
    tasks = record { here = row.tasks.here; others = λ other ne. row.tasks.others other ne ∙ ap (λ p. cond (is_some (named other tree.tasks)) (task_gone p) p) (same other) };
  }

  -- what hangs on the root is the same
  hangs-there : (root n : Name) → DependsIn mid root n → DependsIn base root n
  hangs-there root n (kept.itself same_root) = kept.itself same_root
  hangs-there root n (kept.turn a actor m on there took depends called rest) = kept.turn a actor m on (ap (option_and_then actor_in) (sym (same a)) ∙ there) took depends called (hangs-there root on rest)
  hangs-there root n (kept.attempt v tree there called rest) = kept.attempt v tree there called (hangs-there root v rest)

  hangs-here : (root n : Name) → DependsIn base root n → DependsIn mid root n
  hangs-here root n (kept.itself same_root) = kept.itself same_root
  hangs-here root n (kept.turn a actor m on there took depends called rest) = kept.turn a actor m on (ap (option_and_then actor_in) (same a) ∙ there) took depends called (hangs-here root on rest)
  hangs-here root n (kept.attempt v tree there called rest) = kept.attempt v tree there called (hangs-here root v rest)

  left-again : (gone : Name → Bool) (new : Shared) (n : Name) (found : Option Piece) → piece_left mid gone new n found ≡ piece_left base gone new n found
  left-again gone new n None = refl
  left-again gone new n (Some (piece.Unit x)) = refl
  left-again gone new n (Some (piece.Task m)) = refl
  left-again gone new n (Some (piece.Actor a)) = refl

  undoes-again : (u : Name) (x : Unit) (tree : Attempt) (new : Shared) → Undoes mid u x tree new → Undoes base u x tree new
  undoes-again u x tree new row = record {
    gone = row.gone;
    are = record { all = λ n hangs. row.are.all n (hangs-here tree.root n hangs); only = λ n is. hangs-there tree.root n (row.are.only n is) };
    pieces = record {
      unit = row.pieces.unit;
      stands = row.pieces.stands;
      here = row.pieces.here;
      others = λ n other. row.pieces.others n other ∙ left-again row.gone new n (piece_at b n) ∙ ap (piece_left base row.gone new n) (same n);
    };
    attempts = row.attempts;
    aheads = row.aheads;
    taken = row.taken;
    mails = row.mails;
    versions = row.versions;
    others = row.others;
  }

  aborts-again : (u : Name) (x : Unit) (tree : Attempt) (ref : Name) (version : _) (found : Given) (new : Shared) → Aborts mid u x tree ref version found new → Aborts base u x tree ref version found new
  aborts-again u x tree ref version found new row = record { found_is = row.found_is; undoes = undoes-again u x tree new row.undoes }

  commits-again : (u : Name) (x : Unit) (tree : Attempt) (v : _) (found : Given) (new : Shared) → Commits mid u x tree v found new → Commits base u x tree v found new
  commits-again u x tree v found new row = record {
    found_is = row.found_is;
    log = row.log;
    done = row.done;
    unit = row.unit;
    stands = row.stands;
    board = row.board;
    goes = goes-again u row.unit tree (record new { board = row.board }) row.goes;
    acts = record {
      none = λ a actor made. sym (same a) ∙ row.acts.none a actor made;
      pieces = λ q.
          row.acts.pieces q
          ∙ ap (λ claim. acted (is_some (named q base.taken)) (spawned row.log.log.effects q) (kept_to base u tree q) (mail_at new.mails q) (definite_if (turns_on base tree.root q) (is_some claim) (piece_at row.board q))) (lent q);
    };
    sends = record { taken = row.sends.taken; mails = row.sends.mails };
    versions = row.versions;
    others = row.others;
  }

  waits-again : (u task : Name) (found : Given) (new : Shared) → WaitsForTurn mid u task found new → WaitsForTurn base u task found new
  waits-again u task found new row = record { ahead = row.ahead; leads = row.leads; found_is = row.found_is; marked = marked-again task _ new row.marked }

  pub root-again : (u : Name) (x : Unit) (task : Name) (tree : Attempt) (ended : TaskEnd) (found : Given) (new : Shared) → RootGives mid u x task tree ended found new → RootGives base u x task tree ended found new
  root-again u x task tree ended found new (waits row) = waits (waits-again u task found new row)
  root-again u x task tree ended found new (valid level all row) = valid level all (by ended row)
    where
      by : (e : TaskEnd) → EndGives mid u x tree e found new → EndGives base u x tree e found new
      by (end.Value v) r = commits-again u x tree v found new r
      by (end.Fault code at) r = record { found_is = r.found_is; pieces = λ q. r.pieces q ∙ same q; others = r.others }
      by end.Spent r = record { found_is = r.found_is; pieces = λ q. r.pieces q ∙ same q; others = r.others }
  root-again u x task tree ended found new (conflicts level row) = conflicts level (record {
    conflict = row.conflict;
    first = row.first;
    ref = row.ref;
    ref_is = row.ref_is;
    aborts = aborts-again u x tree row.ref row.conflict.version found new row.aborts;
  })

  step-again : (u : Name) (x : Unit) (task : Name) (tree : Attempt) (went : Stepped) (found : Given) (new : Shared) → StepGives mid u x task tree went found new → StepGives base u x task tree went found new
  step-again u x task tree stepped.Now found new row = (row.0, marked-again task _ new row.1)
  step-again u x task tree (stepped.Forked child) found new row = (row.0, forked-again u task child new row.1)
  step-again u x task tree (stepped.WaitJoin future) found new row = (row.0, marked-again task _ new row.1)
  step-again u x task tree (stepped.NotInSnapshot ref) found new row = on (newest (versions_of base.versions ref)) row
    where
      on : (v : Option Version) → Missing mid u x task tree ref v found new → Missing base u x task tree ref v found new
      on None r = waits-again u task found new r
      on (Some version) r = aborts-again u x tree ref version.number found new r
  step-again u x task tree stepped.Finished found new row = (row.0, marked-again task _ new row.1)

  pub after-again : (u : Name) (x : Unit) (task : Name) (tree : Attempt) (went : Stepped) (ended : Option TaskEnd) (found : Given) (new : Shared) → AfterStep mid u x task tree went ended found new → AfterStep base u x task tree went ended found new
  after-again u x task tree went None found new row = step-again u x task tree went found new row
  after-again u x task tree went (Some e) found new row = root-again u x task tree e found new row

-- the claims that end
ended-again : (found : Given) (old between new : Board) (q : Name) → is_some (piece_at between q) ≡ is_some (piece_at old q) → ended_by found between new q ≡ ended_by found old new q
ended-again (given.Aborted unit ref version) old between new q same = refl
ended-again (given.Settled entry) old between new q same = ap (λ c. c && not (is_some (piece_at new q))) same
ended-again given.Held old between new q same = ap (λ c. c && not (is_some (piece_at new q))) same
ended-again given.Local old between new q same = ap (λ c. c && not (is_some (piece_at new q))) same
ended-again (given.Began snapshot) old between new q same = ap (λ c. c && not (is_some (piece_at new q))) same
ended-again (given.Waiting on) old between new q same = ap (λ c. c && not (is_some (piece_at new q))) same
ended-again given.Stale old between new q same = ap (λ c. c && not (is_some (piece_at new q))) same

pub gone-again : (found : Given) (old mid new : Shared) (task : Name) → ((q : Name) → is_some (piece_at mid.board q) ≡ is_some (piece_at old.board q)) → ((t : _) → claimed mid t ≡ claimed old t) → ClaimsEnd (gone_with found mid.board new.board task) mid new
    → ClaimsEnd (gone_with found old.board new.board task) old new
gone-again found old mid new task same claims ends going ticket = ends going ticket ∙ ap (but_gone (gone_with found mid.board new.board task)) (claims ticket) ∙ on (claimed old ticket)
  where
    on : (o : Option Name) → but_gone (gone_with found mid.board new.board task) o ≡ but_gone (gone_with found old.board new.board task) o
    on None = refl
    on (Some q) = ap (λ c. cond (same_name q task || c) None (Some q)) (ended-again found old.board mid.board new.board q (same q))
