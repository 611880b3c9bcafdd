-- Messages that are settled.
use Rattle.std.proofs.Common.{◌≡◌, ◌∙◌, ◌∷◌, Bool, true, false, inl, inr, List, refl, sym, ap, subst}
use Rattle.std.specs.Option.{IsSome, option_and_then, option_map}
use Rattle.std.specs.Prelude.{Option, None, Some, is_some}
use Rattle.actor_mailbox.specs.declared.message.Message.{Message}
use Rattle.actor_mailbox.specs.Messages.{definite}
use Rattle.actor_mails.specs.Mails.{Mail, IsMailed, mail_at}
use Rattle.ahead_settling.proofs.First.{IsStill, first-claims, first-left, still-same, there-still, waiters-again}
use Rattle.ahead_settling.proofs.Wakes.{waiters-put}
use Rattle.ahead_settling.specs.First.{FirstSettled, IsOpen}
use Rattle.ahead_settling.specs.Leaving.{LeavesFirst, WaitersAmong}
use Rattle.message_settling.specs.Settling.{MarksSettled, IsBegunTurn}
use Rattle.shared_world.specs.rows.Commits.{hangs_on}
use Rattle.serial_model.specs.declared.entry.Entry.TheVariants.{Run}
use Rattle.serial_model.specs.declared.request.Request.{Request}
use Rattle.serial_model.specs.declared.request.Request.TheVariants as request
use Rattle.message_settling.proofs.Definite.{hangs-not, hangs-so}
use Rattle.shared_world.proofs.Live.{unit-piece}
use Rattle.shared_world.specs.Ahead.{Ahead}
use Rattle.shared_world.specs.declared.given.Given.{Given}
use Rattle.shared_world.specs.rows.Actors.{roused_unless}
use Rattle.shared_world.specs.rows.Leading as rows
use Rattle.shared_world.specs.rows.Leading.{IsChanged, LeadSettles, SendsHeld, left_after, mark_settles, settles_now}
use Rattle.shared_world.specs.Shared.{Shared, finished_by, unit_state}
use Rattle.unit_table.specs.Board.{Board, IsPutAt, IsUnlent, SameClaims, lent_at, piece_at, unit_at}
use Rattle.unit_table.specs.declared.mark.Mark.{Mark}
use Rattle.unit_table.specs.declared.mark.Mark.TheVariants as mark
use Rattle.unit_table.specs.declared.mark.WaitOn.TheVariants as wait
use Rattle.unit_table.specs.declared.mark.Work.TheVariants as work
use Rattle.unit_table.specs.declared.piece.Piece.{Piece}
use Rattle.unit_table.specs.declared.piece.Piece.TheVariants as piece
use Rattle.unit_table.specs.declared.unit.Unit.{Unit}
use Rattle.unit_table.specs.Piece.{unit_in}
use Rattle.value_core.proofs.NamedLaws.{same_or_not}
use Rattle.value_core.specs.declared.value.Value.{Value}
use Rattle.value_core.specs.Named.{Name, Named, named, same_name}
use Rattle.world_model.specs.Message.{settle_or_put, settled}
use Rattle.world_steps.proofs.Acting.{roused-units}

-- a unit that is settled so stands where it did
settled-finished : (lent : Bool) (m : Mark) → finished_by (mark_settles lent m) ≡ finished_by m
settled-finished true (mark.Waiting w) = refl
settled-finished false (mark.Waiting w) = refl
settled-finished true (mark.Ready work.Eval) = refl
settled-finished false (mark.Ready work.Eval) = refl
settled-finished true (mark.Ready work.Settle) = refl
settled-finished false (mark.Ready work.Settle) = refl
settled-finished true (mark.Ready work.Begin) = refl
settled-finished false (mark.Ready work.Begin) = refl
settled-finished true mark.Resting = refl
settled-finished false mark.Resting = refl
settled-finished true (mark.Finished v) = refl
settled-finished false (mark.Finished v) = refl
settled-finished true mark.Dropped = refl
settled-finished false mark.Dropped = refl

still-settled : (old new : Board) (turn u : Name) → MarksSettled turn old new → (x : Unit) → unit_at old u ≡ Some x → IsStill new u x
still-settled old new turn u put x there = elim (same_or_not u turn) [
  | inl same ↦
      let here : piece_at old turn ≡ Some (piece.Unit x) = unit-piece old turn x (ap (unit_at old) (sym same) ∙ there) in
      let lent = is_some (lent_at old turn) in
      record {
        unit = record x { mark = mark_settles lent x.mark };
        there = ap (unit_at new) same ∙ ap (option_and_then unit_in) (put.here ∙ ap (option_map (settles_now lent)) here);
        state = λ i. record (unit_state x) { finished = settled-finished lent x.mark i };
        machine = refl;
      }
  | inr apart ↦ still-same new u x (ap (option_and_then unit_in) (put.others u apart) ∙ there)
]

-- ---- the rows
-- the message that a turn took is settled
pub taken-first : (old prep new : Shared) (u to turn : Name) (args : List Value) (taken : Named Message) (board : Board) (found : Given) → IsOpen old u → prep ≡ old → IsBegunTurn old.board to turn → hangs_on u (named to old.taken) ≡ true
    → ((m : Message) → named to prep.taken ≡ Some m → IsChanged to (Some (definite m)) prep.taken taken) → MarksSettled turn prep.board board → SameClaims prep.board board
    → LeavesFirst (record prep { board = board; taken = taken }) u new found → IsUnlent u board new.board → new.end ≡ prep.end → FirstSettled old u (request.Send to args) new found
taken-first old prep new u to turn args taken board found opened prep_is at waits changed put claims leaves unlent same_end = record {
  row = λ x h rest there leading held. (base, sends, row_left x h rest there leading held);
  claims = first-claims old base before new u found opened refl refl end_is kept at_base leaves unlent still;
}
  where
    base : Shared
    base = record old { board = board; taken = taken }

    before : Shared
    before = record prep { board = board; taken = taken }

    at_base : before ≡ base
    at_base = ap (λ (s : Shared). record s { board = board; taken = taken }) prep_is

    end_is : new.end ≡ old.end
    end_is = same_end ∙ ap (λ (s : Shared). s.end) prep_is

    put_old : MarksSettled turn old.board board
    put_old = subst (λ (s : Shared). MarksSettled turn s.board board) prep_is put

    kept : SameClaims old.board board
    kept = subst (λ (s : Shared). SameClaims s.board board) prep_is claims

    still : (x : Unit) → unit_at old.board u ≡ Some x → IsStill board u x
    still = still-settled old.board board turn u put_old

    hung : (m : Message) × (named to old.taken ≡ Some m) × (m.depends ≡ Some u)
    hung = hangs-so u (named to old.taken) waits

    changed_old : IsChanged to (Some (definite hung.0)) old.taken taken
    changed_old = subst (λ (s : Shared). IsChanged to (Some (definite hung.0)) s.taken taken) prep_is (changed hung.0 (ap (λ (s : Shared). named to s.taken) prep_is ∙ hung.1))

    sends : SendsHeld old u to args base
    sends = rows.taken hung.0 at.actor hung.1 hung.2 at.there changed_old
        (subst (λ n. IsPutAt n (option_map (settles_now (is_some (lent_at old.board n))) (piece_at old.board n)) old.board board) at.called put_old) refl

    row_left : (x : Unit) (h : Ahead) (rest : List Request) → unit_at old.board u ≡ Some x → named u old.aheads ≡ Some h → h.held ≡ request.Send to args ∷ rest → LeadSettles base u x (left_after h (request.Send to args) rest) (Run u) found new
    row_left = first-left old base before new u found opened refl refl end_is kept at_base leaves unlent still (request.Send to args)

-- the message is settled in the mail, or is the last of that
pub mailed-first : (old prep new : Shared) (u to : Name) (args : List Value) (mails : Mail) (board : Board) (found : Given) → IsOpen old u → prep ≡ old → hangs_on u (named to old.taken) ≡ false
    → IsMailed to (settle_or_put (same_name u) (settled u args) (mail_at prep.mails to)) prep.mails mails → IsPutAt to (roused_unless (is_some (named to prep.taken)) (piece_at prep.board to)) prep.board board → SameClaims prep.board board
    → LeavesFirst (record prep { board = board; mails = mails }) u new found → IsUnlent u board new.board → new.end ≡ prep.end → FirstSettled old u (request.Send to args) new found
mailed-first old prep new u to args mails board found opened prep_is waits mailed put claims leaves unlent same_end = record {
  row = λ x h rest there leading held. (base, sends, row_left x h rest there leading held);
  claims = first-claims old base before new u found opened refl refl end_is kept at_base leaves unlent still;
}
  where
    base : Shared
    base = record old { board = board; mails = mails }

    before : Shared
    before = record prep { board = board; mails = mails }

    at_base : before ≡ base
    at_base = ap (λ (s : Shared). record s { board = board; mails = mails }) prep_is

    end_is : new.end ≡ old.end
    end_is = same_end ∙ ap (λ (s : Shared). s.end) prep_is

    mailed_old : IsMailed to (settle_or_put (same_name u) (settled u args) (mail_at old.mails to)) old.mails mails
    mailed_old = subst (λ (s : Shared). IsMailed to (settle_or_put (same_name u) (settled u args) (mail_at s.mails to)) s.mails mails) prep_is mailed

    put_old : IsPutAt to (roused_unless (is_some (named to old.taken)) (piece_at old.board to)) old.board board
    put_old = subst (λ (s : Shared). IsPutAt to (roused_unless (is_some (named to s.taken)) (piece_at s.board to)) s.board board) prep_is put

    kept : SameClaims old.board board
    kept = subst (λ (s : Shared). SameClaims s.board board) prep_is claims

    still : (x : Unit) → unit_at old.board u ≡ Some x → IsStill board u x
    still x there = still-same board u x (roused-units (is_some (named to old.taken)) old.board board to put_old u ∙ there)

    sends : SendsHeld old u to args base
    sends = rows.mailed (hangs-not u (named to old.taken) waits) mailed_old put_old refl

    row_left : (x : Unit) (h : Ahead) (rest : List Request) → unit_at old.board u ≡ Some x → named u old.aheads ≡ Some h → h.held ≡ request.Send to args ∷ rest → LeadSettles base u x (left_after h (request.Send to args) rest) (Run u) found new
    row_left = first-left old base before new u found opened refl refl end_is kept at_base leaves unlent still (request.Send to args)

-- ---- what waits for the turn are tasks of its attempt still
settled-task : (l : Bool) (found : Option Piece) (m : Mark) → option_map (settles_now l) found ≡ Some (piece.Task m) → found ≡ Some (piece.Task m)
settled-task l None m is = cc
settled-task l (Some (piece.Unit x)) m is = cc
settled-task l (Some (piece.Task k)) m is = is
settled-task l (Some (piece.Actor a)) m is = cc

roused-task : (b : Bool) (found : Option Piece) (m : Mark) → roused_unless b found ≡ Some (piece.Task m) → found ≡ Some (piece.Task m)
roused-task true found m is = is
roused-task false None m is = cc
roused-task false (Some (piece.Unit x)) m is = cc
roused-task false (Some (piece.Task k)) m is = is
roused-task false (Some (piece.Actor a)) m is = cc

pub taken-there : (old prep : Shared) (u turn : Name) (board : Board) → IsOpen old u → prep ≡ old → MarksSettled turn prep.board board → IsSome (unit_at board u)
taken-there old prep u turn board opened prep_is put = there-still old u board opened (still-settled old.board board turn u (subst (λ (s : Shared). MarksSettled turn s.board board) prep_is put))

pub taken-waiters : (old prep : Shared) (u turn : Name) (board : Board) → IsOpen old u → prep ≡ old → MarksSettled turn prep.board board → WaitersAmong board u (named u prep.attempts)
taken-waiters old prep u turn board opened prep_is put =
    waiters-put u turn _ (named u prep.attempts) prep.board board (settled-task (is_some (lent_at prep.board turn)) (piece_at prep.board turn) (mark.Waiting (wait.Definite u))) put (waiters-again old prep u opened prep_is)

pub mailed-there : (old prep : Shared) (u to : Name) (begun : Bool) (board : Board) → IsOpen old u → prep ≡ old → IsPutAt to (roused_unless begun (piece_at prep.board to)) prep.board board → IsSome (unit_at board u)
mailed-there old prep u to begun board opened prep_is put =
    subst IsSome (sym (roused-units begun old.board board to (subst (λ (s : Shared). IsPutAt to (roused_unless begun (piece_at s.board to)) s.board board) prep_is put) u)) opened.there

pub mailed-waiters : (old prep : Shared) (u to : Name) (begun : Bool) (board : Board) → IsOpen old u → prep ≡ old → IsPutAt to (roused_unless begun (piece_at prep.board to)) prep.board board → WaitersAmong board u (named u prep.attempts)
mailed-waiters old prep u to begun board opened prep_is put =
    waiters-put u to _ (named u prep.attempts) prep.board board (roused-task begun (piece_at prep.board to) (mark.Waiting (wait.Definite u))) put (waiters-again old prep u opened prep_is)
