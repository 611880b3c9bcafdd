-- Attempts that begin.
use Rattle.std.proofs.Common.{◌≡◌, ◌∙◌, Bool, true, false, List, length, le_trans, refl, sym, ap, subst}
use Rattle.std.specs.Option.{option_and_then, option_map}
use Rattle.std.specs.Prelude.{Err, None, Ok, Result, Some}
use Rattle.std.specs.declared.alloc.AllocError.{AllocError}
use Rattle.core_syntax.specs.declared.node_id.NodeId.{NodeId}
use Rattle.eval_step.specs.Evaluation.{Evaluation}
use Rattle.world_steps.proofs.Forking.{same-unit}
use Rattle.world_steps.proofs.Settling.{claims-end, row-for, unlent-after}
use Rattle.attempt_names.specs.declared.trying.Trying.{Trying}
use Rattle.attempt_names.specs.Trying.{AreTryingNames}
use Rattle.world_steps.specs.declared.kept.Kept.{Kept}
use Rattle.world_steps.specs.Kept.{IsSameBut, IsUnitOf, shared_of}
use Rattle.world_steps.specs.Rows.{BeginsOr, Comes, HasBegun}
use Rattle.world_steps.specs.Moved.{IsMoved}
use Rattle.world_steps.specs.Trying.{HasRoot, HasTried}
use Rattle.serial_model.specs.Step.{next_made}
use Rattle.serial_model.specs.declared.halt.Halt.TheVariants as halt
use Rattle.serial_model.specs.declared.request.Request.TheVariants as request
use Rattle.shared_world.specs.declared.given.Given.{Given}
use Rattle.shared_world.specs.declared.given.Given.TheVariants as given
use Rattle.shared_world.specs.rows.Attempts.{BeginsMarked, IsFreshAttempt}
use Rattle.shared_world.specs.rows.Leading.{mark_ahead}
use Rattle.shared_world.specs.rows.Pieces.{IsSet}
use Rattle.shared_world.specs.rows.Units.{Tries}
use Rattle.shared_world.specs.Shared.{Shared, actor_of, becoming_of, finished_by, unit_state}
use Rattle.shared_world.specs.Stands.{IsMachine, Stands}
use Rattle.task_fork_join.specs.Attempt.{Attempt}
use Rattle.unit_table.specs.Board.{Board, CanWait, IsPutAt, piece_at, unit_at}
use Rattle.unit_table.specs.declared.mark.Mark.TheVariants as mark
use Rattle.unit_table.specs.declared.mark.WaitOn.TheVariants as wait
use Rattle.unit_table.specs.declared.mark.Work.TheVariants as work
use Rattle.unit_table.specs.declared.piece.Piece.TheVariants as piece
use Rattle.unit_table.specs.declared.unit.Unit.{Unit}
use Rattle.unit_table.specs.Piece.{says_dropped, unit_in}
use Rattle.value_core.specs.declared.value.Value.{Value}
use Rattle.value_core.specs.Named.{Name, made_by, with_named}
use Rattle.value_core.specs.Place.{Spot}

-- a fresh attempt is one of what is the same but for its pieces
pub fresh-again : (old : Shared) (board : Board) (u : Name) (x : Unit) (body : NodeId) (values : List Value) (at : Spot) (tree : Attempt)
    → IsFreshAttempt (record old { board = board }) u x body values at tree → IsFreshAttempt old u x body values at tree
fresh-again old board u x body values at tree is = record { machine = is.machine; root_machine = is.root_machine; new = is.new }

-- a unit of that mark is not finished
settles-open : (settles : Bool) (f : Name) → finished_by (mark_ahead settles (mark.Waiting (wait.Finish f))) ≡ None
settles-open true f = refl
settles-open false f = refl

-- the unit has begun an attempt
pub begin-came : (old new : Shared) (k : Kept) (name : Name) (moved : Evaluation) (body : NodeId) (values : List Value) (at : Spot) (settles : Bool) (t : Trying) (found : Given) → Stands old → (is : IsUnitOf old name moved)
    → HasTried old k name body values at t → HasRoot (shared_of k) name moved t settles new found → HasBegun old name body values at settles new found
begin-came old new k name moved body values at settles t found st is tried root = record {
  free = tried.free;
  row = row-for old.board name (λ (x : Unit). BeginsMarked old name x (mark_ahead settles (mark.Waiting (wait.Finish (next_made name (unit_state x))))) body values at found new) is.unit is.there begins;
  claims = claims-end name old new (ap (λ (s : Shared). s.end) others) (unlent-after name old.board root.board new.board (record {
    lent = λ n. root.kept.lent n ∙ tried.same.claims.lent n;
    to = λ c. root.kept.to c ∙ tried.same.claims.to c;
    later = λ slot. let a = tried.same.claims.later slot in let b = root.kept.later slot in le_trans a b;
  }) moves.unlent);
}
  where
    there : unit_at k.units name ≡ Some is.unit
    there = ap (option_and_then unit_in) (tried.same.pieces name) ∙ is.there

    names : AreTryingNames name is.unit.made (length k.history.items) t
    names = tried.room.names is.unit there

    length_is : length k.history.items ≡ length old.history
    length_is = ap (λ (s : Shared). length s.history) tried.same.rest

    moves : IsMoved name is.unit moved is.unit.made (mark_ahead settles (mark.Waiting (wait.Finish t.wait))) root.board new.board
    moves = root.moves is.unit there

    machine_of : IsMachine old.setup moved
    machine_of = let kept = st.machines name is.unit is.there in record { inside = is.same.task.inside ∙ kept.inside; fuel = is.same.task.fuel ∙ kept.fuel; of = is.of }

    k_is : shared_of k ≡ record old { board = k.units; attempts = k.attempts.entries }
    k_is = ap (λ (s : Shared). record s { attempts = k.attempts.entries }) tried.same.rest

    others : new ≡ record old { attempts = new.attempts; owners = new.owners; board = new.board }
    others =
        root.others ∙ ap (λ (s : Shared). record s { owners = with_named (shared_of k).owners t.root t.owner; board = new.board }) k_is
        ∙ ap (λ a. record old { attempts = a; owners = with_named (shared_of k).owners t.root t.owner; board = new.board }) (sym (ap (λ (s : Shared). s.attempts) root.others))
        ∙ ap (λ o. record old { attempts = new.attempts; owners = o; board = new.board }) (sym (ap (λ (s : Shared). s.owners) root.others))

    begins : BeginsMarked old name is.unit (mark_ahead settles (mark.Waiting (wait.Finish (next_made name (unit_state is.unit))))) body values at found new
    begins = record {
      found_is = root.found_is ∙ ap given.Began (names.snapshot_is ∙ length_is);
      tree = tried.tree;
      fresh = tried.fresh is.unit is.there;
      none = sym (tried.same.pieces _) ∙ subst (λ n. piece_at k.units n ≡ None) names.root tried.room.none;
      board = root.board;
      root = subst (λ n. IsPutAt n (Some (piece.Task (mark.Ready work.Eval))) old.board root.board) names.root (record { here = root.put.here; others = λ other ne. root.put.others other ne ∙ tried.same.pieces other });
      waits = record {
        unit = record is.unit { machine = moved; mark = mark_ahead settles (mark.Waiting (wait.Finish t.wait)) };
        stands = record {
          state = λ i. record { actor = actor_of is.unit.kind; body = is.same.task.body i; values = is.same.task.values i; answers = is.same.answers i; made = is.unit.made; becomes = option_map becoming_of is.unit.becomes; finished = (settles-open settles t.wait ∙ sym is.unfinished) i };
          machine = machine_of;
          mark = ap (λ n. mark_ahead settles (mark.Waiting (wait.Finish n))) names.wait;
        };
        set = subst (λ n. IsSet name (piece.Unit (record is.unit { machine = moved; mark = mark_ahead settles (mark.Waiting (wait.Finish t.wait)) })) (mark_ahead settles (mark.Waiting (wait.Finish n))) root.board new.board) names.wait moves.set;
      };
      attempts = ap (λ (s : Shared). s.attempts) root.others ∙ tried.attempts;
      owners = ap (λ (s : Shared). s.owners) root.others ∙ ap (λ (s : Shared). with_named s.owners t.root t.owner) k_is ∙ ap (λ n. with_named old.owners n t.owner) names.root ∙ ap (with_named old.owners (made_by name is.unit.made)) names.owner;
      others = others;
    }

-- where it holds nothing, it waits for the root
pub begins-came : (old new : Shared) (name : Name) (body : NodeId) (values : List Value) (at : Spot) (result : Result Given AllocError) → BeginsOr old name body values at false new result → Comes old name (halt.Ask (request.Dosync body values) at) new result
begins-came old new name body values at (Err e) r = r
begins-came old new name body values at (Ok found) r = record { row = λ x there. subst (λ a. Tries old name x body values at a found new) (sym r.free) (r.row x there); claims = r.claims }

-- the mark is none that a piece is dropped by, and what is waited for has a place
pub settles-stays : (settles : Bool) (f : Name) → says_dropped (mark_ahead settles (mark.Waiting (wait.Finish f))) ≡ false
settles-stays true f = refl
settles-stays false f = refl

pub settles-waits : (b : Board) (settles : Bool) (f : Name) → CanWait b (mark.Waiting (wait.Finish f)) → CanWait b (mark_ahead settles (mark.Waiting (wait.Finish f)))
settles-waits b true f can = tt
settles-waits b false f can = can

-- the unit stands still, where its attempt is there
pub tried-unit : (old : Shared) (k : Kept) (name : Name) (moved : Evaluation) → IsSameBut old (record (shared_of k) { attempts = old.attempts }) → IsUnitOf old name moved → IsUnitOf (shared_of k) name moved
tried-unit old k name moved same is =
    let still = same-unit old (record (shared_of k) { attempts = old.attempts }) name moved same is in record { unit = still.unit; there = still.there; same = still.same; of = still.of; unfinished = still.unfinished }
