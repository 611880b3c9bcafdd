-- Two values are the same exactly where they are one tree.
use Rattle.std.proofs.Common.{◌≡◌, Bool, true, false, ◌&&◌, refl, sym, ap, ◌∙◌}
use Rattle.std.proofs.lemmas.Bool.{eqb-true}
use Rattle.std.proofs.lemmas.Cmp.{nat_eq_equiv}
use base.Stored.{Gv, gnil, gnum, gcons}
use Rattle.value_core.specs.declared.value.Value.{Value}
use Rattle.value_core.specs.contracts.value.Value as value
use Rattle.value_core.specs.primitives.Equality.{same_code, same_value}

both : (a b : Bool) → a ≡ true → b ≡ true → (a && b) ≡ true
both true b p q = q
both false b p q = p

left : (a b : Bool) → (a && b) ≡ true → a ≡ true
left true b e = refl
left false b e = e

right : (a b : Bool) → (a && b) ≡ true → b ≡ true
right true b e = e
right false b e = cc

code_itself : (a : Gv) → same_code a a ≡ true
unfolding same_code
code_itself gnil = refl
code_itself (gnum n) = nat_eq_equiv.refl n
code_itself (gcons a b) = both _ _ (code_itself a) (code_itself b)

codes_are : (a b : Gv) → same_code a b ≡ true → a ≡ b
unfolding same_code
codes_are gnil gnil e = refl
codes_are gnil (gnum n) e = cc
codes_are gnil (gcons c d) e = cc
codes_are (gnum m) gnil e = cc
codes_are (gnum m) (gnum n) e = ap gnum (eqb-true m n e)
codes_are (gnum m) (gcons c d) e = cc
codes_are (gcons a b) gnil e = cc
codes_are (gcons a b) (gnum n) e = cc
codes_are (gcons a b) (gcons c d) e = λ i. gcons (codes_are a c (left _ _ e) i) (codes_are b d (right _ _ e) i)

pub same_value_is : (v w : Value) → same_value v w ≡ true → v ≡ w
unfolding same_value
same_value_is v w e = (value.the_row).coded.inj v w (codes_are _ _ e)

pub same_value_itself : (v w : Value) → v ≡ w → same_value v w ≡ true
unfolding same_value
same_value_itself v w e = ap (λ u. same_code ((value.the_row).coded.code v) ((value.the_row).coded.code u)) (sym e) ∙ code_itself _

-- what a call answers that is true exactly where the two are one tree
pub same_answer : (v w : Value) (b : Bool) → (b ≡ true → v ≡ w) → (v ≡ w → b ≡ true) → b ≡ same_value v w
same_answer v w b to back = same_bool b (same_value v w) (λ e. same_value_itself v w (to e)) (λ e. back (same_value_is v w e))
  where
    same_bool : (a b : Bool) → (a ≡ true → b ≡ true) → (b ≡ true → a ≡ true) → a ≡ b
    same_bool true b f g = sym (f refl)
    same_bool false true f g = g refl
    same_bool false false f g = refl
