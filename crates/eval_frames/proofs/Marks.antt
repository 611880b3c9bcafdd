-- Marks of the values of a frame.
use Rattle.std.proofs.Common.{◌≡◌, ℕ, zero, suc, Bool, List, [], ◌∷◌, ◌++◌, length, take, set, sym, subst, arith, rules}
use Rattle.std.specs.Prelude.{Some, IsTrue, Result, Ok, Err, OnOk, OnErr}
use Rattle.std.specs.List.{slice_get}
use Rattle.std.proofs.lemmas.Option.{none-some, same_Some}
use Rattle.value_core.specs.Depth.{depth_of}
use Rattle.value_core.specs.declared.value.Value.{Value, the_lemmas}
use Rattle.value_core.specs.declared.value.Value.TheVariants as value
use Rattle.value_ops.specs.Depths.{IsShallow, FirstIsShallow}
use Rattle.serial_model.specs.Operation.{local_value}
use Rattle.eval_frames.specs.Known.{AreMarks}

depth_of-Nil : depth_of value.Nil ≡ 1
depth_of-Nil = search (rules, the_lemmas)

pub nil-shallow : IsShallow value.Nil
nil-shallow = let e = depth_of-Nil in omega (arith, e)

pub marks-grow : (marks : List Bool) (values : List Value) (v : Value) → AreMarks marks values → AreMarks marks (values ++ v ∷ [])
marks-grow [] values v are = tt
marks-grow (mark ∷ marks) [] v are = absurd are
marks-grow (mark ∷ marks) (w ∷ values) v are = (are.0, marks-grow marks values v are.1)

pub marks-push : (marks : List Bool) (values : List Value) (mark : Bool) (v : Value) → AreMarks marks values → length marks ≡ length values → (IsTrue mark → IsShallow v)
    → AreMarks (marks ++ mark ∷ []) (values ++ v ∷ [])
marks-push [] [] mark v are same shallow = (shallow, tt)
marks-push [] (w ∷ values) mark v are same shallow = absurd (omega arith)
marks-push (m ∷ marks) [] mark v are same shallow = absurd are
marks-push (m ∷ marks) (w ∷ values) mark v are same shallow = (are.0, marks-push marks values mark v are.1 (omega arith) shallow)

pub marks-take : (n : ℕ) (marks : List Bool) (values : List Value) → AreMarks marks values → AreMarks (take n marks) (take n values)
marks-take zero [] values are = tt
marks-take (suc n) [] values are = tt
marks-take zero (mark ∷ marks) values are = tt
marks-take (suc n) (mark ∷ marks) [] are = absurd are
marks-take (suc n) (mark ∷ marks) (v ∷ values) are = (are.0, marks-take n marks values are.1)

-- nil is shallow, so that it may stand at each place
pub marks-nil : (marks : List Bool) (values : List Value) (place : ℕ) → AreMarks marks values → AreMarks marks (set values place value.Nil)
marks-nil [] values place are = tt
marks-nil (mark ∷ marks) [] place are = absurd are
marks-nil (mark ∷ marks) (v ∷ values) zero are = ((λ yes. nil-shallow), are.1)
marks-nil (mark ∷ marks) (v ∷ values) (suc place) are = (are.0, marks-nil marks values place are.1)

pub marks-at : (marks : List Bool) (values : List Value) (place : ℕ) (mark : Bool) → AreMarks marks values → slice_get marks place ≡ Some mark → IsTrue mark → IsShallow (local_value values place)
marks-at [] values place mark are found holds = absurd (none-some mark found)
marks-at (m ∷ marks) [] place mark are found holds = absurd are
marks-at (m ∷ marks) (v ∷ values) zero mark are found holds = are.0 (subst IsTrue (sym (same_Some m mark found)) holds)
marks-at (m ∷ marks) (v ∷ values) (suc place) mark are found holds = marks-at marks values place mark are.1 found holds

pub first-shallow : (values : List Value) → IsShallow (local_value values 0) → FirstIsShallow values
first-shallow [] shallow = tt
first-shallow (v ∷ values) shallow = shallow

-- where there is memory for it a mark is appended, and else the marks stay
pub marks-pushed : {X E S : Type 0} (r : Result X E) (old new : S) (items : S → List Bool) (values : List Value) (mark : Bool) (v : Value)
    → OnOk r (items new ≡ items old ++ mark ∷ []) → OnErr r (new ≡ old) → AreMarks (items old) values → length (items old) ≡ length values → (IsTrue mark → IsShallow v)
    → AreMarks (items new) (values ++ v ∷ [])
marks-pushed (Ok x) old new items values mark v ok err are same shallow =
    subst (λ (l : List Bool). AreMarks l (values ++ v ∷ [])) (sym ok) (marks-push (items old) values mark v are same shallow)
marks-pushed (Err e) old new items values mark v ok err are same shallow =
    subst (λ (s : _). AreMarks (items s) (values ++ v ∷ [])) (sym err) (marks-grow (items old) values v are)
