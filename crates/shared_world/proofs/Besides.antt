-- What stood there of which something stands beside a piece that was set.
use Rattle.std.proofs.Common.{◌≡◌, ◌∙◌, ◌⊎◌, Bool, true, false, cond, inl, inr, refl, sym, ap}
use Rattle.std.specs.Option.{option_and_then, option_map}
use Rattle.std.specs.Prelude.{Option, None, Some}
use Rattle.unit_table.specs.declared.mark.Mark.{Mark}
use Rattle.unit_table.specs.declared.mark.Mark.TheVariants as mark
use Rattle.unit_table.specs.declared.mark.WaitOn.TheVariants as wait
use Rattle.unit_table.specs.declared.mark.Work.TheVariants as work
use Rattle.unit_table.specs.declared.piece.Actor.{Actor}
use Rattle.unit_table.specs.declared.piece.Piece.{Piece}
use Rattle.unit_table.specs.declared.piece.Piece.TheVariants as piece
use Rattle.unit_table.specs.declared.unit.Unit.{Unit}
use Rattle.unit_table.specs.Piece.{awaited, beside, is_for, says_finished, unit_in, woken}
use Rattle.value_core.proofs.NamedLaws.{same_name-equal, same_name-itself}
use Rattle.value_core.specs.Named.{Name, same_name}

-- names that are not the same
pub apart-of : (q u : Name) → same_name q u ≡ false → q ≡ u → ⊥
apart-of q u e same = let no : true ≡ false = sym (same_name-itself u) ∙ ap (λ n. same_name n u) (sym same) ∙ e in cc

-- the mark of what waits for that name
pub waits-mark : (name : Name) (m : Mark) → is_for name (awaited m) ≡ true → m ≡ mark.Waiting (wait.Finish name)
waits-mark name (mark.Ready w) e = cc
waits-mark name (mark.Waiting (wait.Finish q)) e = ap (λ n. mark.Waiting (wait.Finish n)) (same_name-equal q name e)
waits-mark name (mark.Waiting (wait.Definite t)) e = cc
waits-mark name mark.Resting e = cc
waits-mark name (mark.Finished v) e = cc
waits-mark name mark.Dropped e = cc

pub waits-not : (name : Name) (m : Mark) → is_for name (awaited m) ≡ false → m ≡ mark.Waiting (wait.Finish name) → ⊥
waits-not name m e is = let no : true ≡ false = sym (ap (λ k. is_for name (awaited k)) is ∙ same_name-itself name) ∙ e in cc

-- The mark is as it was, and where it waits for that name, that is not finished; or it waited for it, which is finished, and is
-- ready to settle.
abbrev pub IsWas : Name → Mark → Mark → Mark → Type 0
IsWas name m was is = ((is ≡ was) × (was ≡ mark.Waiting (wait.Finish name) → says_finished m ≡ false)) ⊎ ((was ≡ mark.Waiting (wait.Finish name)) × (is ≡ mark.Ready work.Settle) × (says_finished m ≡ true))

-- the unit that stood there
pub record WasUnit (name : Name) (m : Mark) (found : Option Piece) (z : Unit) : Type 0 where
  pub unit : Unit
  pub there : found ≡ Some (piece.Unit unit)
  pub same : z ≡ record unit { mark = z.mark }
  pub was : IsWas name m unit.mark z.mark

pub was-unit : (name : Name) (m : Mark) (found : Option Piece) (z : Unit) → option_and_then unit_in (beside name m found) ≡ Some z → WasUnit name m found z
was-unit name m None z e = none (says_finished m) e
  where
    none : (c : Bool) → option_and_then unit_in (cond c (option_map (woken name) None) None) ≡ Some z → WasUnit name m None z
    none true e = cc
    none false e = cc
was-unit name m (Some (piece.Task k)) z e = none (says_finished m) (is_for name (awaited k)) e
  where
    none : (c d : Bool) → option_and_then unit_in (cond c (Some (cond d (piece.Task (mark.Ready work.Settle)) (piece.Task k))) (Some (piece.Task k))) ≡ Some z → WasUnit name m (Some (piece.Task k)) z
    none true true e = cc
    none true false e = cc
    none false d e = cc
was-unit name m (Some (piece.Actor a)) z e = none (says_finished m) (is_for name (awaited a.mark)) e
  where
    none : (c d : Bool) → option_and_then unit_in (cond c (Some (cond d (piece.Actor (record a { mark = mark.Ready work.Settle })) (piece.Actor a))) (Some (piece.Actor a))) ≡ Some z → WasUnit name m (Some (piece.Actor a)) z
    none true true e = cc
    none true false e = cc
    none false d e = cc
was-unit name m (Some (piece.Unit x)) z e = on (says_finished m) (is_for name (awaited x.mark)) refl refl e
  where
    stays : x ≡ z → (x.mark ≡ mark.Waiting (wait.Finish name) → says_finished m ≡ false) → WasUnit name m (Some (piece.Unit x)) z
    stays is why = record { unit = x; there = refl; same = sym is ∙ ap (λ (k : Unit). record x { mark = k.mark }) is; was = inl (ap (λ (k : Unit). k.mark) (sym is), why) }

    on : (c d : Bool) → says_finished m ≡ c → is_for name (awaited x.mark) ≡ d
        → option_and_then unit_in (cond c (Some (cond d (piece.Unit (record x { mark = mark.Ready work.Settle })) (piece.Unit x))) (Some (piece.Unit x))) ≡ Some z → WasUnit name m (Some (piece.Unit x)) z
    on true true f w e = let is : record x { mark = mark.Ready work.Settle } ≡ z = cc in record {
      unit = x;
      there = refl;
      same = sym is ∙ ap (λ (k : Unit). record x { mark = k.mark }) is;
      was = inr (waits-mark name x.mark w, ap (λ (k : Unit). k.mark) (sym is), f);
    }
    on true false f w e = stays (let is : x ≡ z = cc in is) (λ waits. absurd (waits-not name x.mark w waits))
    on false d f w e = stays (let is : x ≡ z = cc in is) (λ waits. f)

-- the task that stood there
pub record WasTask (name : Name) (m : Mark) (found : Option Piece) (k : Mark) : Type 0 where
  pub mark : Mark
  pub there : found ≡ Some (piece.Task mark)
  pub was : IsWas name m mark k

pub was-task : (name : Name) (m : Mark) (found : Option Piece) (k : Mark) → beside name m found ≡ Some (piece.Task k) → WasTask name m found k
was-task name m None k e = none (says_finished m) e
  where
    none : (c : Bool) → cond c (option_map (woken name) None) None ≡ Some (piece.Task k) → WasTask name m None k
    none true e = cc
    none false e = cc
was-task name m (Some (piece.Unit x)) k e = none (says_finished m) (is_for name (awaited x.mark)) e
  where
    none : (c d : Bool) → cond c (Some (cond d (piece.Unit (record x { mark = mark.Ready work.Settle })) (piece.Unit x))) (Some (piece.Unit x)) ≡ Some (piece.Task k) → WasTask name m (Some (piece.Unit x)) k
    none true true e = cc
    none true false e = cc
    none false d e = cc
was-task name m (Some (piece.Actor a)) k e = none (says_finished m) (is_for name (awaited a.mark)) e
  where
    none : (c d : Bool) → cond c (Some (cond d (piece.Actor (record a { mark = mark.Ready work.Settle })) (piece.Actor a))) (Some (piece.Actor a)) ≡ Some (piece.Task k) → WasTask name m (Some (piece.Actor a)) k
    none true true e = cc
    none true false e = cc
    none false d e = cc
was-task name m (Some (piece.Task j)) k e = on (says_finished m) (is_for name (awaited j)) refl refl e
  where
    on : (c d : Bool) → says_finished m ≡ c → is_for name (awaited j) ≡ d → cond c (Some (cond d (piece.Task (mark.Ready work.Settle)) (piece.Task j))) (Some (piece.Task j)) ≡ Some (piece.Task k) → WasTask name m (Some (piece.Task j)) k
    on true true f w e = record { mark = j; there = refl; was = inr (waits-mark name j w, (let is : k ≡ mark.Ready work.Settle = cc in is), f) }
    on true false f w e = record { mark = j; there = refl; was = inl ((let is : k ≡ j = cc in is), (λ waits. absurd (waits-not name j w waits))) }
    on false d f w e = record { mark = j; there = refl; was = inl ((let is : k ≡ j = cc in is), (λ waits. f)) }

-- an actor that waits for no finish stood there as it is
pub was-actor : (name : Name) (m : Mark) (found : Option Piece) (z : Actor) → ((x : Actor) → found ≡ Some (piece.Actor x) → is_for name (awaited x.mark) ≡ false) → beside name m found ≡ Some (piece.Actor z) → found ≡ Some (piece.Actor z)
was-actor name m None z plain e = none (says_finished m) e
  where
    none : (c : Bool) → cond c (option_map (woken name) None) None ≡ Some (piece.Actor z) → None ≡ Some (piece.Actor z)
    none true e = e
    none false e = e
was-actor name m (Some (piece.Unit x)) z plain e = none (says_finished m) (is_for name (awaited x.mark)) e
  where
    none : (c d : Bool) → cond c (Some (cond d (piece.Unit (record x { mark = mark.Ready work.Settle })) (piece.Unit x))) (Some (piece.Unit x)) ≡ Some (piece.Actor z) → Some (piece.Unit x) ≡ Some (piece.Actor z)
    none true true e = cc
    none true false e = e
    none false d e = e
was-actor name m (Some (piece.Task k)) z plain e = none (says_finished m) (is_for name (awaited k)) e
  where
    none : (c d : Bool) → cond c (Some (cond d (piece.Task (mark.Ready work.Settle)) (piece.Task k))) (Some (piece.Task k)) ≡ Some (piece.Actor z) → Some (piece.Task k) ≡ Some (piece.Actor z)
    none true true e = cc
    none true false e = e
    none false d e = e
was-actor name m (Some (piece.Actor a)) z plain e = on (says_finished m) (is_for name (awaited a.mark)) (plain a refl) e
  where
    on : (c d : Bool) → d ≡ false → cond c (Some (cond d (piece.Actor (record a { mark = mark.Ready work.Settle })) (piece.Actor a))) (Some (piece.Actor a)) ≡ Some (piece.Actor z) → Some (piece.Actor a) ≡ Some (piece.Actor z)
    on true true apart e = cc
    on true false apart e = e
    on false d apart e = e

-- a task that stood beside it is one still
pub task-beside : (name : Name) (m : Mark) (found : Option Piece) (j : Mark) → found ≡ Some (piece.Task j) → (k : Mark) × (beside name m found ≡ Some (piece.Task k))
task-beside name m found j is = on (says_finished m) (is_for name (awaited j)) refl refl
  where
    on : (c d : Bool) → says_finished m ≡ c → is_for name (awaited j) ≡ d → (k : Mark) × (beside name m found ≡ Some (piece.Task k))
    on true true f w = (mark.Ready work.Settle, ap (beside name m) is ∙ ap (λ c. cond c (Some (cond (is_for name (awaited j)) (piece.Task (mark.Ready work.Settle)) (piece.Task j))) (Some (piece.Task j))) f ∙ ap (λ d. Some (cond d (piece.Task (mark.Ready work.Settle)) (piece.Task j))) w)
    on true false f w = (j, ap (beside name m) is ∙ ap (λ c. cond c (Some (cond (is_for name (awaited j)) (piece.Task (mark.Ready work.Settle)) (piece.Task j))) (Some (piece.Task j))) f ∙ ap (λ d. Some (cond d (piece.Task (mark.Ready work.Settle)) (piece.Task j))) w)
    on false d f w = (j, ap (beside name m) is ∙ ap (λ c. cond c (Some (cond (is_for name (awaited j)) (piece.Task (mark.Ready work.Settle)) (piece.Task j))) (Some (piece.Task j))) f)
