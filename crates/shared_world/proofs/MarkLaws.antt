-- What holds of the marks of every world as it is kept.
use Rattle.std.proofs.Common.{◌≡◌, ◌∙◌, Bool, true, false, refl, sym, ap, subst}
use Rattle.std.specs.Option.{option_and_then}
use Rattle.std.specs.Prelude.{◌&&◌, List, [], ◌∷◌, Option, None, Some}
use Rattle.actor_mailbox.specs.declared.message.Message.{Message}
use Rattle.actor_mails.specs.Mails.{mail_at}
use Rattle.piece_table.specs.Table.{is_free}
use Rattle.serial_model.specs.State.{Setup, main_name}
use Rattle.serial_model.specs.Step.{next_of}
use Rattle.shared_world.proofs.Besides.{apart-of}
use Rattle.shared_world.proofs.Live.{going, state-there, unfinished}
use Rattle.shared_world.proofs.MarkedAheads.{marked-lead, marked-tentative}
use Rattle.shared_world.proofs.MarkedTasks.{marked-task}
use Rattle.shared_world.proofs.MarkedTurns.{marked-turn}
use Rattle.shared_world.proofs.MarkedUnits.{marked-unit}
use Rattle.shared_world.proofs.Marks.{pieces-marks}
use Rattle.shared_world.specs.declared.given.Given.{Given}
use Rattle.shared_world.specs.Gave as gave
use Rattle.shared_world.specs.Gave.{Gave}
use Rattle.shared_world.specs.HeldUp as held
use Rattle.shared_world.specs.HeldUp.{IsHeldUp}
use Rattle.shared_world.specs.Marks.{AreMarked, HasMarks, IsTaskPiece, TaskSays, UnitSays}
use Rattle.shared_world.specs.Opening.{IsOpening}
use Rattle.shared_world.specs.Returned.{Returned}
use Rattle.shared_world.specs.rows.Actors.{actor_mark, has_turn}
use Rattle.shared_world.specs.Shared.{Shared, is_going, ready, unit_state}
use Rattle.shared_world.specs.Stands.{Stands}
use Rattle.task_fork_join.specs.Attempt.{end_at}
use Rattle.task_fork_join.specs.declared.task_end.TaskEnd.{TaskEnd}
use Rattle.unit_table.specs.Board.{lent_at, piece_at, unit_at}
use Rattle.unit_table.specs.declared.mark.Mark.{Mark}
use Rattle.unit_table.specs.declared.mark.Mark.TheVariants as mark
use Rattle.unit_table.specs.declared.mark.WaitOn.TheVariants as wait
use Rattle.unit_table.specs.declared.piece.Actor.{Actor}
use Rattle.unit_table.specs.declared.piece.Piece.{Piece}
use Rattle.unit_table.specs.declared.piece.Piece.TheVariants as piece
use Rattle.unit_table.specs.declared.unit.Unit.{Unit as Doing}
use Rattle.unit_table.specs.Piece.{mark_in, says_ready, unit_in}
use Rattle.value_core.proofs.NamedLaws.{same_name-equal}
use Rattle.value_core.specs.declared.ticket.Ticket.{Ticket}
use Rattle.value_core.specs.Named.{Name, named, same_name}

pub gave-marks : (old new : Shared) (r : Returned) (found : Given) → Stands old → HasMarks old → Gave old r found new → HasMarks new
gave-marks old new r found st marks (gave.stale none is same) on_going = pieces-marks old new same.pieces same.rest marks on_going
gave-marks old new r found st marks (gave.unit name live g) on_going = marked-unit old st (marks (ap is_going unended)) name g.unit
    (record { going = unended; there = state-there old.board name g.unit g.there; unfinished = unfinished old r name g.unit live g.there; level = g.level }) g.there found new on_going (next_of old.setup (unit_state g.unit)) refl g.gives
  where
    unended : old.end ≡ None
    unended = going old r name live
gave-marks old new r found st marks (gave.task name live g) on_going = let unended = going old r name live in marked-task old st (marks (ap is_going unended)) unended name found new on_going g
gave-marks old new r found st marks (gave.actor name live g) on_going = let so = ap is_going (going old r name live) in marked-turn old st (marks so) so name found new g on_going
gave-marks old new r found st marks (gave.lead name live g) on_going = let unended = going old r name live in marked-lead old st (marks (ap is_going unended)) unended name r.work found new on_going g
gave-marks old new r found st marks (gave.tentative name live g) on_going = let so = ap is_going (going old r name live) in marked-tentative old st (marks so) so name found new g

-- main alone can go on, and nothing else is there
pub opening-marks : (setup : Setup) (s : Shared) → IsOpening setup s → HasMarks s
opening-marks setup s is on_going = record {
  units = λ u x there. unit u x (same_name u main_name) refl there;
  tasks = λ n m there. task n m (same_name n main_name) refl there;
  actors = λ a x there. absurd (actor a x (same_name a main_name) refl there);
  pieces = λ u tree there n t among. let no : None ≡ Some tree = sym (ap (λ (k : Shared). named u k.attempts) is.rest) ∙ there in cc;
}
  where
    unit : (u : Name) (x : Doing) (c : Bool) → same_name u main_name ≡ c → unit_at s.board u ≡ Some x → UnitSays s u x x.mark
    unit u x true e there =
        let both : Some is.main ≡ Some x = sym (ap (unit_at s.board) (same_name-equal u main_name e) ∙ ap (option_and_then unit_in) is.put.here) ∙ there in
        let same : is.main ≡ x = cc in
        subst (λ m. UnitSays s u x m) (sym is.begins.mark ∙ ap (λ (k : Doing). k.mark) same) (ap (λ (k : Shared). named u k.attempts) is.rest)
    unit u x false e there = let no : None ≡ Some x = sym (ap (option_and_then unit_in) (is.put.others u (apart-of u main_name e) ∙ is.nothing u)) ∙ there in cc

    task : (n : Name) (m : Mark) (c : Bool) → same_name n main_name ≡ c → piece_at s.board n ≡ Some (piece.Task m) → IsTaskPiece s n m
    task n m true e there = let no : Some (piece.Unit is.main) ≡ Some (piece.Task m) = sym (ap (piece_at s.board) (same_name-equal n main_name e) ∙ is.put.here) ∙ there in cc
    task n m false e there = let no : None ≡ Some (piece.Task m) = sym (is.put.others n (apart-of n main_name e) ∙ is.nothing n) ∙ there in cc

    actor : (a : Name) (x : Actor) (c : Bool) → same_name a main_name ≡ c → piece_at s.board a ≡ Some (piece.Actor x) → ⊥
    actor a x true e there = let no : Some (piece.Unit is.main) ≡ Some (piece.Actor x) = sym (ap (piece_at s.board) (same_name-equal a main_name e) ∙ is.put.here) ∙ there in cc
    actor a x false e there = let no : None ≡ Some (piece.Actor x) = sym (is.put.others a (apart-of a main_name e) ∙ is.nothing a) ∙ there in cc

-- a piece with which nothing can be done
pub others-are-ready : (s : Shared) (name : Name) (p : Piece) → HasMarks s → is_going s.end ≡ true → piece_at s.board name ≡ Some p → ready s name ≡ false → IsHeldUp s name p
others-are-ready s name p marks on_going there not_ready = by (lent_at s.board name) refl
  where
    marked : AreMarked s
    marked = marks on_going

    says : is_free (lent_at s.board name) ≡ true → says_ready (mark_in p) ≡ false
    says free = both (says_ready (mark_in p)) refl
      where
        is : ready s name ≡ (says_ready (mark_in p) && is_free (lent_at s.board name))
        is = ap (λ g. g && (Rattle.unit_table.specs.Board.marks_ready (piece_at s.board name) && is_free (lent_at s.board name))) on_going
            ∙ ap (λ found. Rattle.unit_table.specs.Board.marks_ready found && is_free (lent_at s.board name)) there

        both : (c : Bool) → says_ready (mark_in p) ≡ c → says_ready (mark_in p) ≡ false
        both false e = e
        both true e = let no : true ≡ false = sym (is ∙ ap (λ c. c && is_free (lent_at s.board name)) e ∙ free) ∙ not_ready in cc

    unit : (x : Doing) (m : Mark) → p ≡ piece.Unit x → x.mark ≡ m → says_ready m ≡ false → UnitSays s name x m → IsHeldUp s name p
    unit x (mark.Ready w) is e not_so says = cc
    unit x (mark.Waiting (wait.Finish f)) is e not_so says = held.unit x f is says
    unit x (mark.Waiting (wait.Definite t)) is e not_so says = held.tentative x is says.1
    unit x mark.Resting is e not_so says = absurd says
    unit x (mark.Finished v) is e not_so says = held.finished v (ap mark_in is ∙ e)
    unit x mark.Dropped is e not_so says = absurd says

    task : (m : Mark) → p ≡ piece.Task m → says_ready m ≡ false → (is : IsTaskPiece s name m) → TaskSays s is.owner is.tree.tasks is.task m → IsHeldUp s name p
    task (mark.Ready w) is not_so piece says = cc
    task (mark.Waiting (wait.Finish f)) is not_so piece says = held.task f piece is says
    task (mark.Waiting (wait.Definite t)) is not_so piece says = held.hangs t piece is says
    task mark.Resting is not_so piece says = absurd says
    task (mark.Finished v) is not_so piece says = held.finished v (ap mark_in is)
    task mark.Dropped is not_so piece says = absurd says

    actor : (a : Actor) (busy : Bool) (mail : List Message) → p ≡ piece.Actor a → has_turn s.taken name a.state ≡ busy → mail_at s.mails name ≡ mail → says_ready (actor_mark busy mail) ≡ false → IsHeldUp s name p
    actor a true mail is busy here not_so = held.busy a is busy
    actor a false [] is busy here not_so = held.no_mail a is here
    actor a false (m ∷ ms) is busy here not_so = cc

    on : (q : Piece) → p ≡ q → says_ready (mark_in q) ≡ false → piece_at s.board name ≡ Some q → IsHeldUp s name p
    on (piece.Unit x) is not_so at = unit x x.mark is refl not_so (marked.units name x (ap (option_and_then unit_in) at))
    on (piece.Task m) is not_so at = by-end (end_at of.tree) refl
      where
        of : IsTaskPiece s name m
        of = marked.tasks name m at

        by-end : (o : Option TaskEnd) → end_at of.tree ≡ o → IsHeldUp s name p
        by-end None e = task m is not_so of (of.says e)
        by-end (Some ended) e = held.over m of is (λ unended. let no : None ≡ Some ended = sym unended ∙ e in cc)
    on (piece.Actor a) is not_so at = actor a (has_turn s.taken name a.state) (mail_at s.mails name) is refl refl (sym (ap says_ready (marked.actors name a at)) ∙ not_so)

    by : (o : Option Ticket) → lent_at s.board name ≡ o → IsHeldUp s name p
    by (Some claim) e = held.lent claim e
    by None e = on p refl (says (ap is_free e)) there
