-- What the pieces are to the meaning.
use Rattle.std.proofs.Common.{◌≡◌, ◌∙◌, Bool, true, false, cond, refl, sym, ap, subst}
use Rattle.std.specs.Option.{option_and_then, option_map}
use Rattle.std.specs.Prelude.{Option, None, Some}
use Rattle.eval_step.specs.Evaluation.{Evaluation}
use Rattle.serial_model.specs.State.{UnitState}
use Rattle.shared_world.specs.rows.Actors.{roused, roused_unless}
use Rattle.shared_world.specs.rows.Pieces.{IsSet, task_gone}
use Rattle.shared_world.specs.Shared.{finished_by, state_at, unit_state}
use Rattle.unit_table.specs.Board.{Board, IsPutAt, SamePieces, piece_at, unit_at}
use Rattle.unit_table.specs.declared.mark.Mark.{Mark}
use Rattle.unit_table.specs.declared.mark.Mark.TheVariants as mark
use Rattle.unit_table.specs.declared.mark.Work.TheVariants as work
use Rattle.unit_table.specs.declared.piece.Piece.{Piece}
use Rattle.unit_table.specs.declared.piece.Piece.TheVariants as piece
use Rattle.unit_table.specs.declared.unit.Unit.{Unit}
use Rattle.unit_table.specs.Piece.{awaited, beside, is_for, says_finished, unit_in, with_mark, woken}
use Rattle.value_core.proofs.NamedLaws.{same_name-equal, same_name-itself}
use Rattle.value_core.specs.Named.{Name, same_name}

-- a piece, as the meaning has it
abbrev pub state_of : Option Piece → Option UnitState
state_of found = option_map unit_state (option_and_then unit_in found)

-- the same stands under each name, as far as the meaning sees it
abbrev pub SameStates : Board → Board → Type 0
SameStates old new = (q : Name) → state_at new q ≡ state_at old q

waiting-none : (name : Name) (m : Mark) → is_for name (awaited m) ≡ true → finished_by m ≡ None
waiting-none name (mark.Ready w) e = refl
waiting-none name (mark.Waiting on) e = refl
waiting-none name mark.Resting e = refl
waiting-none name (mark.Finished v) e = cc
waiting-none name mark.Dropped e = refl

-- a piece that is woken is the same to the meaning
woken-same : (name : Name) (p : Piece) → state_of (Some (woken name p)) ≡ state_of (Some p)
woken-same name (piece.Task m) = on (is_for name (awaited m))
  where
    on : (c : Bool) → state_of (Some (cond c (piece.Task (mark.Ready work.Settle)) (piece.Task m))) ≡ None
    on true = refl
    on false = refl
woken-same name (piece.Actor a) = on (is_for name (awaited a.mark))
  where
    on : (c : Bool) → state_of (Some (cond c (with_mark (piece.Actor a) (mark.Ready work.Settle)) (piece.Actor a))) ≡ None
    on true = refl
    on false = refl
woken-same name (piece.Unit x) = on (is_for name (awaited x.mark)) refl
  where
    on : (c : Bool) → is_for name (awaited x.mark) ≡ c → state_of (Some (cond c (piece.Unit (record x { mark = mark.Ready work.Settle })) (piece.Unit x))) ≡ Some (unit_state x)
    on true e = ap (λ f. Some (record (unit_state x) { finished = f })) (sym (waiting-none name x.mark e))
    on false e = refl

pub beside-same : (name : Name) (m : Mark) (found : Option Piece) → state_of (beside name m found) ≡ state_of found
beside-same name m None = on (says_finished m)
  where
    on : (c : Bool) → state_of (cond c (option_map (woken name) None) None) ≡ None
    on true = refl
    on false = refl
beside-same name m (Some p) = on (says_finished m)
  where
    on : (c : Bool) → state_of (cond c (Some (woken name p)) (Some p)) ≡ state_of (Some p)
    on true = woken-same name p
    on false = refl

-- pieces that stay are the same to the meaning
pub same-pieces : (old new : Board) → SamePieces old new → SameStates old new
same-pieces old new same q = ap state_of (same q)

-- a unit that is set
pub unit-set : (u : Name) (y : Unit) (m : Mark) (old new : Board) → IsSet u (piece.Unit y) m old new → (q : Name) → state_at new q ≡ cond (same_name q u) (Some (unit_state y)) (state_at old q)
unit-set u y m old new set q = on (same_name q u) refl
  where
    on : (c : Bool) → same_name q u ≡ c → state_at new q ≡ cond c (Some (unit_state y)) (state_at old q)
    on true e = ap (state_at new) (same_name-equal q u e) ∙ ap state_of set.here
    on false e = ap state_of (set.others q (λ same. let no : true ≡ false = sym (same_name-itself u) ∙ ap (λ n. same_name n u) (sym same) ∙ e in cc)) ∙ beside-same u m (piece_at old q)

-- a unit that is put
pub unit-put : (u : Name) (y : Unit) (old new : Board) → IsPutAt u (Some (piece.Unit y)) old new → (q : Name) → state_at new q ≡ cond (same_name q u) (Some (unit_state y)) (state_at old q)
unit-put u y old new put q = on (same_name q u) refl
  where
    on : (c : Bool) → same_name q u ≡ c → state_at new q ≡ cond c (Some (unit_state y)) (state_at old q)
    on true e = ap (state_at new) (same_name-equal q u e) ∙ ap state_of put.here
    on false e = ap state_of (put.others q (λ same. let no : true ≡ false = sym (same_name-itself u) ∙ ap (λ n. same_name n u) (sym same) ∙ e in cc))

-- a task that is put where no unit stands
pub task-put : (t : Name) (m : Mark) (old new : Board) → state_at old t ≡ None → IsPutAt t (Some (piece.Task m)) old new → SameStates old new
task-put t m old new none put q = on (same_name q t) refl
  where
    on : (c : Bool) → same_name q t ≡ c → state_at new q ≡ state_at old q
    on true e = let is : q ≡ t = same_name-equal q t e in ap (state_at new) is ∙ ap state_of put.here ∙ sym (ap (state_at old) is ∙ none)
    on false e = ap state_of (put.others q (λ same. let no : true ≡ false = sym (same_name-itself t) ∙ ap (λ n. same_name n t) (sym same) ∙ e in cc))

-- a task that has another mark
pub task-set : (t : Name) (m : Mark) (old new : Board) → state_at old t ≡ None → IsSet t (piece.Task m) m old new → SameStates old new
task-set t m old new none set q = on (same_name q t) refl
  where
    on : (c : Bool) → same_name q t ≡ c → state_at new q ≡ state_at old q
    on true e = let is : q ≡ t = same_name-equal q t e in ap (state_at new) is ∙ ap state_of set.here ∙ sym (ap (state_at old) is ∙ none)
    on false e = ap state_of (set.others q (λ same. let no : true ≡ false = sym (same_name-itself t) ∙ ap (λ n. same_name n t) (sym same) ∙ e in cc)) ∙ beside-same t m (piece_at old q)

-- tasks that go are nothing to the meaning
pub gone-same : (found : Option Piece) (c : Bool) → state_of (cond c (task_gone found) found) ≡ state_of found
gone-same found false = refl
gone-same None true = refl
gone-same (Some (piece.Unit x)) true = refl
gone-same (Some (piece.Task m)) true = refl
gone-same (Some (piece.Actor a)) true = refl

-- the machine of a unit is the same, woken or not
pub beside-machine : (P : Evaluation → Type 0) (name : Name) (m : Mark) (found : Option Piece) (z : Unit) → option_and_then unit_in (beside name m found) ≡ Some z
    → ((x : Unit) → option_and_then unit_in found ≡ Some x → P x.machine) → P z.machine
beside-machine P name m None z is all = on (says_finished m) is
  where
    on : (c : Bool) → option_and_then unit_in (cond c (option_map (woken name) None) None) ≡ Some z → P z.machine
    on true e = cc
    on false e = cc
beside-machine P name m (Some (piece.Task t)) z is all = on (says_finished m) is
  where
    woke : (c : Bool) → option_and_then unit_in (Some (cond c (piece.Task (mark.Ready work.Settle)) (piece.Task t))) ≡ Some z → P z.machine
    woke true e = cc
    woke false e = cc

    on : (c : Bool) → option_and_then unit_in (cond c (Some (woken name (piece.Task t))) (Some (piece.Task t))) ≡ Some z → P z.machine
    on true e = woke (is_for name (awaited t)) e
    on false e = cc
beside-machine P name m (Some (piece.Actor a)) z is all = on (says_finished m) is
  where
    woke : (c : Bool) → option_and_then unit_in (Some (cond c (with_mark (piece.Actor a) (mark.Ready work.Settle)) (piece.Actor a))) ≡ Some z → P z.machine
    woke true e = cc
    woke false e = cc

    on : (c : Bool) → option_and_then unit_in (cond c (Some (woken name (piece.Actor a))) (Some (piece.Actor a))) ≡ Some z → P z.machine
    on true e = woke (is_for name (awaited a.mark)) e
    on false e = cc
beside-machine P name m (Some (piece.Unit x)) z is all = on (says_finished m) is
  where
    same : (y : Unit) → y.machine ≡ x.machine → Some y ≡ Some z → P z.machine
    same y e is = let so : y ≡ z = cc in subst P (sym e ∙ ap (λ (k : Unit). k.machine) so) (all x refl)

    woke : (c : Bool) → option_and_then unit_in (Some (cond c (piece.Unit (record x { mark = mark.Ready work.Settle })) (piece.Unit x))) ≡ Some z → P z.machine
    woke true e = same (record x { mark = mark.Ready work.Settle }) refl e
    woke false e = same x refl e

    on : (c : Bool) → option_and_then unit_in (cond c (Some (woken name (piece.Unit x))) (Some (piece.Unit x))) ≡ Some z → P z.machine
    on true e = woke (is_for name (awaited x.mark)) e
    on false e = same x refl e

-- what holds of the machines of the units
abbrev pub EachMachine : (Evaluation → Type 0) → Board → Type 0
EachMachine P b = (q : Name) (x : Unit) → unit_at b q ≡ Some x → P x.machine

pub machines-set : (P : Evaluation → Type 0) (u : Name) (y : Unit) (m : Mark) (old new : Board) → P y.machine → IsSet u (piece.Unit y) m old new → EachMachine P old → EachMachine P new
machines-set P u y m old new is set all q z there = on (same_name q u) refl
  where
    on : (c : Bool) → same_name q u ≡ c → P z.machine
    on true e =
        let here : Some z ≡ Some y = sym there ∙ ap (unit_at new) (same_name-equal q u e) ∙ ap (option_and_then unit_in) set.here in
        let same : y ≡ z = cc in subst (λ (k : Unit). P k.machine) same is
    on false e = beside-machine P u m (piece_at old q) z (sym (ap (option_and_then unit_in) (set.others q (λ same. let no : true ≡ false = sym (same_name-itself u) ∙ ap (λ n. same_name n u) (sym same) ∙ e in cc))) ∙ there) (all q)

pub machines-put : (P : Evaluation → Type 0) (u : Name) (p : Option Piece) (old new : Board) → ((z : Unit) → option_and_then unit_in p ≡ Some z → P z.machine) → IsPutAt u p old new → EachMachine P old → EachMachine P new
machines-put P u p old new is put all q z there = on (same_name q u) refl
  where
    on : (c : Bool) → same_name q u ≡ c → P z.machine
    on true e = is z (sym (ap (unit_at new) (same_name-equal q u e) ∙ ap (option_and_then unit_in) put.here) ∙ there)
    on false e = all q z (sym (ap (option_and_then unit_in) (put.others q (λ same. let no : true ≡ false = sym (same_name-itself u) ∙ ap (λ n. same_name n u) (sym same) ∙ e in cc))) ∙ there)

pub machines-same : (P : Evaluation → Type 0) (old new : Board) → SamePieces old new → EachMachine P old → EachMachine P new
machines-same P old new same all q z there = all q z (sym (ap (option_and_then unit_in) (same q)) ∙ there)

pub tasks-set : (P : Evaluation → Type 0) (t : Name) (m : Mark) (old new : Board) → IsSet t (piece.Task m) m old new → EachMachine P old → EachMachine P new
tasks-set P t m old new set all q z there = on (same_name q t) refl
  where
    on : (c : Bool) → same_name q t ≡ c → P z.machine
    on true e = let no : None ≡ Some z = sym (ap (unit_at new) (same_name-equal q t e) ∙ ap (option_and_then unit_in) set.here) ∙ there in cc
    on false e = beside-machine P t m (piece_at old q) z (sym (ap (option_and_then unit_in) (set.others q (λ same. let no : true ≡ false = sym (same_name-itself t) ∙ ap (λ n. same_name n t) (sym same) ∙ e in cc))) ∙ there) (all q)

-- what is put is no other unit to the meaning
pub states-put : (n : Name) (p : Option Piece) (old new : Board) → state_of p ≡ state_at old n → IsPutAt n p old new → SameStates old new
states-put n p old new was put q = on (same_name q n) refl
  where
    on : (c : Bool) → same_name q n ≡ c → state_at new q ≡ state_at old q
    on true e = let is : q ≡ n = same_name-equal q n e in ap (state_at new) is ∙ ap state_of put.here ∙ was ∙ sym (ap (state_at old) is)
    on false e = ap state_of (put.others q (λ same. let no : true ≡ false = sym (same_name-itself n) ∙ ap (λ k. same_name k n) (sym same) ∙ e in cc))

-- an actor that has mail now is nothing to units
pub roused-unit : (found : Option Piece) → option_and_then unit_in (option_map roused found) ≡ option_and_then unit_in found
roused-unit None = refl
roused-unit (Some (piece.Unit x)) = refl
roused-unit (Some (piece.Task m)) = refl
roused-unit (Some (piece.Actor a)) = refl

-- whether it is roused or not
pub roused-is : (c : Bool) (found : Option Piece) → option_and_then unit_in (roused_unless c found) ≡ option_and_then unit_in found
roused-is true found = refl
roused-is false found = roused-unit found

pub roused-state : (c : Bool) (found : Option Piece) → option_map unit_state (option_and_then unit_in (roused_unless c found)) ≡ option_map unit_state (option_and_then unit_in found)
roused-state c found = ap (option_map unit_state) (roused-is c found)
