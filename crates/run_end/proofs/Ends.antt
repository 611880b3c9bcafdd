-- How one thread ends a run.
use Rattle.std.proofs.Common.{◌≡◌, ◌∙◌, Bool, true, false, cond, suc, length, List, [], refl, sym, ap, ap₂, subst}
use Rattle.std.specs.declared.cmp.Ordering.{Ordering}
use Rattle.std.specs.declared.cmp.Ordering.TheVariants.{Equal, Greater, Less}
use Rattle.std.specs.Option.{option_and_then, option_map}
use Rattle.std.specs.Ordering.{is_gt}
use Rattle.std.specs.Prelude.{Err, IsSome, None, Ok, OnErr, OnOk, Option, Result, Some, not, ◌↔◌, if◌then◌else◌}
use Rattle.attempts_gone.proofs.Dropped.{trying-unfinished}
use Rattle.run_end.proofs.Finished.{open-not-over, over-set}
use Rattle.run_end.proofs.Level.{none-comes}
use Rattle.run_end.proofs.Turns.{turns-given, turns-itself, turns-none, turns-then}
use Rattle.lent_pieces.proofs.Lending.{pieces-stand}
use Rattle.run_end.specs.Finishing.{AreEnding, GoesOn, IsEnded, LentAfter, NoneOut, NoneTried}
use Rattle.world_reset.specs.Plan.{IsNextOr}
use Rattle.world_reset.specs.Putting.{NoneMoreOut}
use Rattle.run_end.specs.InTurn.{GoesInTurn, IsInTurn, IsLevel}
use Rattle.lent_pieces.specs.Giving as giving
use Rattle.lent_pieces.specs.Giving.{IsOpenUnit, PieceGave}
use Rattle.world_steps.specs.Kept.{IsSameBut}
use Rattle.run_end.specs.Over.{IsOverWith}
use Rattle.attempt_steps.specs.Tasks.{IsWanting}
use Rattle.attempts_gone.specs.Dropping.{HasAttempt}
use Rattle.ref_store.proofs.StoreLaws.{above_pruned}
use Rattle.ref_store.specs.declared.version.Version.{Version}
use Rattle.serial_model.specs.declared.end.End.{End}
use Rattle.serial_model.specs.declared.entry.Entry.{Entry}
use Rattle.serial_model.specs.Step.{next_of}
use Rattle.shared_world.proofs.Few.{few-pruned, few-same, few-still, gave-actor-few, gave-task-few, gave-unit-few, resets-keep-few}
use Rattle.shared_world.proofs.Gone.{seen-as}
use Rattle.shared_world.proofs.MarkedReset.{resets-mark}
use Rattle.shared_world.proofs.Resetting.{resets-stand}
use Rattle.shared_world.proofs.Kept.{task-gave, unit-gave}
use Rattle.shared_world.proofs.Later.{gave-actor-appends, gave-task-appends, gave-unit-appends}
use Rattle.shared_world.proofs.Live.{state-there, unit-piece}
use Rattle.shared_world.proofs.MarkedTasks.{marked-task}
use Rattle.shared_world.proofs.MarkedTurns.{marked-turn}
use Rattle.shared_world.proofs.MarkedUnits.{marked-unit}
use Rattle.shared_world.proofs.Marks.{marked-same, pieces-marks}
use Rattle.shared_world.proofs.Over.{now}
use Rattle.shared_world.proofs.Turns.{actor-gave}
use Rattle.shared_world.proofs.Versions.{now-kept}
use Rattle.shared_world.specs.declared.given.Given.{Given}
use Rattle.shared_world.specs.declared.given.Given.TheVariants as given
use Rattle.shared_world.specs.Few.{KeepsFew}
use Rattle.shared_world.specs.Marks.{HasMarks}
use Rattle.shared_world.specs.rows.Attempts.{ArePrunedFor}
use Rattle.shared_world.specs.rows.Pieces.{ClaimsEnd, but_gone}
use Rattle.shared_world.specs.rows.Resetting.{Resets}
use Rattle.shared_world.specs.Seen.{AttemptSeen, live_with}
use Rattle.shared_world.specs.Shared.{Shared, claimed, finished_by, is_going, unit_state, work_in}
use Rattle.shared_world.specs.Stands.{Stands}
use Rattle.task_fork_join.specs.Attempt.{Attempt}
use Rattle.unit_table.specs.Board.{Board, IsMarked, IsNextAfter, IsUnlent, LentAreReady, but_for, is_unfinished, lent_to, mark_at, marks_ready, piece_at, unit_at}
use Rattle.unit_table.specs.declared.mark.Mark.{Mark}
use Rattle.unit_table.specs.declared.mark.Mark.TheVariants as mark
use Rattle.unit_table.specs.declared.mark.Work.{Work}
use Rattle.unit_table.specs.declared.piece.Piece.{Piece}
use Rattle.unit_table.specs.declared.piece.Piece.TheVariants as piece
use Rattle.unit_table.specs.declared.unit.Unit.{Unit}
use Rattle.unit_table.specs.Piece.{goes_on, mark_in, marked, says_finished}
use Rattle.value_core.proofs.Names.{after_cmp-IsAntisymmetric}
use Rattle.value_core.proofs.NamedLaws.{same_name-equal, same_name-itself}
use Rattle.value_core.specs.declared.ticket.Ticket.{Ticket}
use Rattle.value_core.specs.Name.{after_cmp}
use Rattle.value_core.specs.Named.{Name, Named, named, same_name}
use Rattle.value_core.specs.NameSet.{holds_at}
use Rattle.world_model.specs.StandsFor.{AttemptStands}
use Rattle.world_model.specs.World as world

-- ---- what goes on
-- where the same runs ahead and is taken
pub level-same : (old new : Shared) → new.aheads ≡ old.aheads → new.taken ≡ old.taken → IsLevel old → IsLevel new
level-same old new aheads taken level = record { aheads = λ u. ap (named u) aheads ∙ level.aheads u; taken = λ a. ap (named a) taken ∙ level.taken a }

pub goes-itself : (s : Shared) → Stands s → GoesOn s s
goes-itself s st = record { stands = st; marks = λ marks. marks; few = λ few. few; turns = turns-itself s; claims = λ none. none; level = λ level. level }

pub goes-then : (first mid last : Shared) → GoesOn first mid → GoesOn mid last → GoesOn first last
goes-then first mid last a b = record { stands = b.stands; marks = λ marks. b.marks (a.marks marks); few = λ few. b.few (a.few few); turns = turns-then first mid last a.turns b.turns; claims = λ none. b.claims (a.claims none); level = λ level. b.level (a.level level) }

-- once the run has ended no claim is out
pub out-none : (s : Shared) (t : Ticket) → (is_going s.end ≡ true → claimed s t ≡ None) → claimed s t ≡ None
out-none s t when = on (is_going s.end) refl
  where
    on : (g : Bool) → is_going s.end ≡ g → (if g then lent_to s.board t else None) ≡ None
    on true e = sym (ap (λ g. if g then lent_to s.board t else None) e) ∙ when e
    on false e = refl

ends-none : (gone : Name → Bool) (old new : Shared) → ClaimsEnd gone old new → NoneOut old → NoneOut new
ends-none gone old new ends none t = out-none new t (λ going. ends going t ∙ ap (but_gone gone) (none t))

-- where nothing changes but room
pub same-goes : (old new : Shared) → Stands old → IsSameBut old new → GoesOn old new
same-goes old new st is = record {
  stands = pieces-stand old new st is.pieces is.rest;
  marks = pieces-marks old new is.pieces is.rest;
  few = few-same old new (ap (λ (s : Shared). s.versions) is.rest) (ap (λ (s : Shared). s.attempts) is.rest);
  turns = turns-none old new (ap (λ (s : Shared). s.setup) is.rest) (ap (λ (s : Shared). s.history) is.rest);
  claims = λ none t. ap₂ (λ (end : Option End) found. if is_going end then found else None) (ap (λ (s : Shared). s.end) is.rest) (is.claims.to t) ∙ none t;
  level = level-same old new (ap (λ (s : Shared). s.aheads) is.rest) (ap (λ (s : Shared). s.taken) is.rest);
}

-- ---- a piece that takes a step
pub gave-goes : (old new : Shared) (name : Name) (found : Given) (st : Stands old) → old.end ≡ None → IsOpenUnit old.board name → ((e : Entry) → found ≡ given.Settled e → IsInTurn (now old st) e) → PieceGave old name found new → GoesOn old new
gave-goes old new name found st going unfinished turn (giving.unit g) = record {
  stands = unit-gave old st going name unfinished found new g;
  marks = λ marks on_going. marked-unit old st (marks (ap is_going going)) name g.unit
      (record { going = going; there = state-there old.board name g.unit g.there; unfinished = unfinished g.unit g.there; level = g.level }) g.there found new on_going (next_of old.setup (unit_state g.unit)) refl g.gives;
  few = gave-unit-few old name found new g;
  turns = turns-given old new st found (gave-unit-appends old name found new g) turn;
  claims = ends-none _ old new g.claims;
  level = λ level. none-comes old level name found new (giving.unit g);
}
gave-goes old new name found st going unfinished turn (giving.task g) = record {
  stands = task-gave old st going name found new g;
  marks = λ marks on_going. marked-task old st (marks (ap is_going going)) going name found new on_going g;
  few = gave-task-few old name found new g;
  turns = turns-given old new st found (gave-task-appends old name found new g) turn;
  claims = ends-none _ old new g.claims;
  level = λ level. none-comes old level name found new (giving.task g);
}
gave-goes old new name found st going unfinished turn (giving.actor g) = record {
  stands = actor-gave old st going name found new g;
  marks = λ marks on_going. marked-turn old st (marks (ap is_going going)) (ap is_going going) name found new g on_going;
  few = gave-actor-few old name found new g;
  turns = turns-given old new st found (gave-actor-appends old name found new g) turn;
  claims = ends-none _ old new g.claims;
  level = λ level. none-comes old level name found new (giving.actor g);
}

-- a piece for whose step there was no memory
pub wanting-goes : (old new : Shared) (name : Name) → old.end ≡ None → IsWanting old name new → GoesOn old new
wanting-goes old new name going is = record {
  stands = is.stands;
  marks = is.marks;
  few = few-still old new (ap (λ (s : Shared). s.versions) is.rest) is.no_fewer;
  turns = turns-none old new (ap (λ (s : Shared). s.setup) is.rest) (ap (λ (s : Shared). s.history) is.rest);
  claims = λ none t. out-none new t (λ on_going. ap (λ g. if g then lent_to new.board t else None) on_going ∙ still-none none t);
  level = level-same old new (ap (λ (s : Shared). s.aheads) is.rest) (ap (λ (s : Shared). s.taken) is.rest);
}
  where
    not-lent : NoneOut old → (t : Ticket) → lent_to old.board t ≡ None
    not-lent none t = sym (ap (λ (end : Option End). if is_going end then lent_to old.board t else None) going) ∙ none t

    still-none : NoneOut old → (t : Ticket) → lent_to new.board t ≡ None
    still-none none t = is.claims t (λ some. let no : None ≡ Some name = sym (not-lent none t) ∙ some in cc) ∙ not-lent none t

-- ---- attempts that are undone
-- a unit that has an attempt is there
pub tried-has : (s : Shared) → Stands s → s.end ≡ None → (u : Name) → IsSome (named u s.attempts) → HasAttempt s u
tried-has s st going u some = on (named u s.attempts) refl some
  where
    there : (tree : Attempt) → named u s.attempts ≡ Some tree → (x : Option Unit) → unit_at s.board u ≡ x → HasAttempt s u
    there tree is (Some x) at = record { unit = x; there = at; tree = tree; attempt = is }
    there tree is None at =
        let seen = seen-as s st (ap is_going going) u tree is in
        absurd (subst (λ found. AttemptStands s.setup u None found) seen.there
        (subst (λ found. AttemptStands s.setup u found (st.world.attempts u)) (st.seen.units u ∙ ap (λ found. option_map (live_with (named u s.aheads)) (option_map unit_state found)) at) (st.is_world.stands.attempts u)))

    on : (found : Option Attempt) → named u s.attempts ≡ found → IsSome found → HasAttempt s u
    on None is e = cc
    on (Some tree) is e = there tree is (unit_at s.board u) refl

-- ---- back to where the history left everything
module _ (old new : Shared) (st : Stands old) where
  pub reset-goes : Resets old new → NoneMoreOut old.board new.board → GoesOn old new
  reset-goes r out = record {
    stands = resets-stand old new st r;
    marks = λ marks. resets-mark old new st marks r;
    few = λ few. resets-keep-few old new r;
    turns = turns-none old new (ap (λ (s : Shared). s.setup) r.others) (ap (λ (s : Shared). s.history) r.others);
    claims = λ none t. out-none new t (λ on_going. ap (λ g. if g then lent_to new.board t else None) on_going ∙ out t (sym (ap (λ g. if g then lent_to old.board t else None) (sym (ap (λ (s : Shared). is_going s.end) r.others) ∙ on_going)) ∙ none t));
    level = λ level. record { aheads = r.aheads; taken = r.taken };
  }

  -- or for want of memory nothing has changed but room
  pub reset-or-same : {X E : Type 0} (result : Result X E) → OnOk result (Resets old new) → OnOk result (NoneMoreOut old.board new.board) → OnErr result (IsSameBut old new) → GoesOn old new
  reset-or-same (Ok x) r out same = reset-goes r out
  reset-or-same (Err e) r out same = same-goes old new st same

-- ---- the end
-- a unit with no value is not finished
open-still : (s : Shared) (u : Name) (x : Unit) → unit_at s.board u ≡ Some x → finished_by x.mark ≡ None → is_unfinished s.board u ≡ true
open-still s u x there none = ap (holds_at goes_on) (unit-piece s.board u x there) ∙ on x.mark none
  where
    on : (m : Mark) → finished_by m ≡ None → not (says_finished m) ≡ true
    on (mark.Ready w) e = refl
    on (mark.Waiting w) e = refl
    on mark.Resting e = refl
    on (mark.Finished v) e = cc
    on mark.Dropped e = refl

module _ (s : Shared) (st : Stands s) where
  -- where the run is over with no end, none is set
  pub not-over-going : ((end : End) → IsOverWith s end ↔ (None ≡ Some end)) → s.end ≡ None
  not-over-going never = on s.end refl
    where
      on : (end : Option End) → s.end ≡ end → end ≡ None
      on None is = refl
      on (Some end) is = let no : None ≡ Some end = (never end).0 ((over-set s st end is end).1 refl) in cc

  -- where it is over and no end is set no attempt is there
  pub over-none-tried : (end : End) → IsOverWith s end → s.end ≡ None → NoneTried s.attempts
  over-none-tried end over going u = on (named u s.attempts) refl
    where
      on : (found : Option Attempt) → named u s.attempts ≡ found → found ≡ None
      on None is = refl
      on (Some tree) is =
          let has = tried-has s st going u (subst IsSome (sym is) refl) in
          let unfinished = open-still s u has.unit has.there (trying-unfinished s st going u has.unit tree has.there is) in
          let no : None ≡ Some end = (open-not-over s st u going unfinished end).0 over in
          cc

  -- where no attempt is there, or the run has ended, the attempts may be cleared
  module _ (none : s.end ≡ None → NoneTried s.attempts) where
    going-none : is_going s.end ≡ true → NoneTried s.attempts
    going-none is = on s.end refl is
      where
        on : (end : Option End) → s.end ≡ end → is_going end ≡ true → NoneTried s.attempts
        on None e true_so = none e
        on (Some end) e true_so = cc

    -- and the versions pruned that were read by them alone
    module _ (versions : Named (List Version)) (pruned : ArePrunedFor [] s.versions versions) where
      unseen : (tried : Option world.Attempt) → AttemptSeen s.versions None tried → AttemptSeen versions None tried
      unseen None is = is
      unseen (Some tried) is = is

      pub cleared-stands : Stands (record s { attempts = []; versions = versions })
      cleared-stands = record {
        formed = st.formed;
        world = st.world;
        is_world = st.is_world;
        seen = record {
          history = st.seen.history;
          refs = λ r. st.seen.refs r ∙ sym (now-kept [] s.versions versions pruned r);
          units = st.seen.units;
          actors = st.seen.actors;
          taken = st.seen.taken;
          mails = st.seen.mails;
          attempts = λ going u. unseen (st.world.attempts u) (subst (λ found. AttemptSeen s.versions found (st.world.attempts u)) (going-none going u) (st.seen.attempts going u));
          bytes = st.seen.bytes;
          made = st.seen.made;
          end = st.seen.end;
        };
        machines = st.machines;
        attempts = λ going u tree there. cc;
        numbers = above_pruned pruned.live s.versions versions pruned.pruned (suc (length s.history)) st.numbers;
        aheads = st.aheads;
      }

      -- and so are their marks
      pub cleared-marks : HasMarks s → HasMarks (record s { attempts = []; versions = versions })
      cleared-marks marks going = marked-same s (record s { attempts = []; versions = versions }) (record { setup = refl; attempts = λ v. sym (going-none going v); owners = refl; aheads = refl; taken = refl; pieces = λ q. refl; mails = λ a. refl }) (marks going)

      pub cleared-few : KeepsFew (record s { attempts = []; versions = versions })
      cleared-few = few-pruned (record s { attempts = []; versions = versions }) s.versions pruned

-- ---- claims that end
-- the mark that is there is put anew
pub marked-ends : (name : Name) (work : Work) (old new : Board) → option_and_then work_in (mark_at old name) ≡ Some work → IsMarked name (mark.Ready work) old new → IsUnlent name old new → IsEnded name old new
marked-ends name work old new ready is unlent = record { pieces = λ q. on q (same_name q name) refl; claims = unlent.to }
  where
    ready-so : (m : Mark) → work_in m ≡ Some work → m ≡ mark.Ready work
    ready-so (mark.Ready w) e = let same : w ≡ work = cc in ap (λ k. mark.Ready k) same
    ready-so (mark.Waiting w) e = cc
    ready-so mark.Resting e = cc
    ready-so (mark.Finished v) e = cc
    ready-so mark.Dropped e = cc

    anew : (found : Option Piece) → option_and_then work_in (option_map mark_in found) ≡ Some work → option_and_then (marked (mark.Ready work)) found ≡ found
    anew None e = cc
    anew (Some (piece.Unit x)) e = ap (λ m. Some (piece.Unit (record x { mark = m }))) (sym (ready-so x.mark e))
    anew (Some (piece.Task m)) e = ap (λ k. Some (piece.Task k)) (sym (ready-so m e))
    anew (Some (piece.Actor a)) e = ap (λ m. Some (piece.Actor (record a { mark = m }))) (sym (ready-so a.mark e))

    on : (q : Name) (c : Bool) → same_name q name ≡ c → piece_at new q ≡ piece_at old q
    on q true e = let same : q ≡ name = same_name-equal q name e in ap (piece_at new) same ∙ is.here ∙ anew (piece_at old name) ready ∙ ap (piece_at old) (sym same)
    on q false e = is.others q (λ same. let no : true ≡ false = sym (same_name-itself name) ∙ ap (λ n. same_name n name) (sym same) ∙ e in cc)

-- what is not ready is not lent
pub unready-ends : (name : Name) (b : Board) → option_and_then work_in (mark_at b name) ≡ None → LentAreReady b → IsEnded name b b
unready-ends name b none ready = record { pieces = λ q. refl; claims = λ t. on t (lent_to b t) refl }
  where
    no-work : (found : Option Piece) → option_and_then work_in (option_map mark_in found) ≡ None → marks_ready found ≡ false
    no-work None e = refl
    no-work (Some p) e = of (mark_in p) e
      where
        of : (m : Mark) → work_in m ≡ None → marks_ready (Some (piece.Task m)) ≡ false
        of (mark.Ready w) e = cc
        of (mark.Waiting w) e = refl
        of mark.Resting e = refl
        of (mark.Finished v) e = refl
        of mark.Dropped e = refl

    stays : (t : Ticket) (q : Name) → lent_to b t ≡ Some q → (c : Bool) → same_name q name ≡ c → Some q ≡ cond c None (Some q)
    stays t q is true e =
        let no : true ≡ false = sym (ready t q is) ∙ ap (λ n. marks_ready (piece_at b n)) (same_name-equal q name e) ∙ no-work (piece_at b name) none in cc
    stays t q is false e = refl

    on : (t : Ticket) (found : Option Name) → lent_to b t ≡ found → found ≡ but_for name found
    on t None is = refl
    on t (Some q) is = stays t q is (same_name q name) refl

ready-there : (found : Option Piece) → marks_ready found ≡ true → IsSome found
ready-there None e = cc
ready-there (Some p) e = refl

-- the walk has passed one piece more
pub passed-one : (passed : Option Name) (next : Name) (old new : Board) → IsNextAfter old passed next → LentAreReady old → IsEnded next old new → LentAfter passed old → LentAfter (Some next) new
passed-one passed next old new is ready ended after t q lent = by (lent_to old t) refl (sym (ended.claims t) ∙ lent)
  where
    behind : same_name q next ≡ false → (o : Ordering) → after_cmp next q ≡ o → is_gt o ≡ false → o ≡ Less
    behind other Less e least = refl
    behind other Equal e least = let bad : true ≡ false = sym (same_name-itself next) ∙ ap (λ n. same_name n next) (after_cmp-IsAntisymmetric next q e) ∙ other in cc
    behind other Greater e least = cc

    comes : lent_to old t ≡ Some q → same_name q next ≡ false → after_cmp next q ≡ Less
    comes at other = behind other (after_cmp next q) refl (is.first q (after t q at) (ready-there (piece_at old q) (ready t q at)))

    among : (k : Name) → lent_to old t ≡ Some k → (c : Bool) → same_name k next ≡ c → cond c None (Some k) ≡ Some q → after_cmp next q ≡ Less
    among k at true e left = cc
    among k at false e left =
        let same : k ≡ q = cc in
        comes (at ∙ ap (λ n. Some n) same) (sym (ap (λ n. same_name n next) same) ∙ e)

    by : (found : Option Name) → lent_to old t ≡ found → but_for next found ≡ Some q → after_cmp next q ≡ Less
    by None at left = cc
    by (Some k) at left = among k at (same_name k next) refl left

-- where nothing is behind, nothing is lent
pub none-behind : (passed : Option Name) (b : Board) → IsNextOr b passed None → LentAreReady b → LentAfter passed b → (t : Ticket) → lent_to b t ≡ None
none-behind passed b none ready after t = on (lent_to b t) refl
  where
    on : (found : Option Name) → lent_to b t ≡ found → found ≡ None
    on None is = refl
    on (Some q) is = let no : true ≡ false = sym (ready t q is) ∙ ap marks_ready (none q (after t q is)) in cc

pub ending-itself : (b : Board) → AreEnding b b
ending-itself b = record { pieces = λ q. refl; claims = λ t none. none }

pub ending-then : (first old new : Board) (name : Name) → AreEnding first old → IsEnded name old new → AreEnding first new
ending-then first old new name are ended = record {
  pieces = λ q. ended.pieces q ∙ are.pieces q;
  claims = λ t none. ended.claims t ∙ ap (but_for name) (are.claims t none);
}

-- what is kept goes on, where claims end
pub ending-goes : (s : Shared) (b : Board) → Stands s → AreEnding s.board b → GoesOn s (record s { board = b })
ending-goes s b st are = record {
  stands = pieces-stand s (record s { board = b }) st are.pieces refl;
  marks = pieces-marks s (record s { board = b }) are.pieces refl;
  few = λ few. few;
  turns = turns-none s (record s { board = b }) refl refl;
  claims = λ none t. on t (is_going s.end) (none t);
  level = λ level. record { aheads = level.aheads; taken = level.taken };
}
  where
    on : (t : Ticket) (g : Bool) → (if g then lent_to s.board t else None) ≡ None → (if g then lent_to b t else None) ≡ None
    on t true none = are.claims t none
    on t false none = refl

-- once the run has ended no claim is out
pub ended-out : (s : Shared) (end : End) → s.end ≡ Some end → NoneOut s
ended-out s end is t = out-none s t (λ going. let no : true ≡ false = sym going ∙ ap is_going is in cc)

-- attempts that are cleared change no history
pub cleared-turns : (first mid : Shared) (attempts : Named Attempt) (versions : Named (List Version)) → GoesInTurn first mid → GoesInTurn first (record mid { attempts = attempts; versions = versions })
cleared-turns first mid attempts versions a = record { setup = a.setup; more = a.more; history = a.history; in_turn = a.in_turn }

-- where nothing is lent no claim is out
pub lent-none-out : (s : Shared) → ((t : Ticket) → lent_to s.board t ≡ None) → NoneOut s
lent-none-out s none t = out-none s t (λ going. ap (λ g. if g then lent_to s.board t else None) going ∙ none t)
