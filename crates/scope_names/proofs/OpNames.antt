-- The primitive that has a word is the one that the table of words gives.
use Rattle.std.proofs.Common.{◌≡◌, ◌≢◌, ℕ, List, [], ◌∷◌, Option, None, Some, MatchOption, refl, sym, ap, ◌∙◌}
use Rattle.std.specs.Str.{bytes_eq}
use Rattle.std.proofs.lemmas.Bool.{false_from_ne_true}
use Rattle.std.proofs.lemmas.Slice.Eq.{bytes_eq-Decides}
use Rattle.value_core.specs.declared.op.Op.{Op}
use Rattle.value_core.specs.declared.op.Op.TheVariants as op
use Rattle.value_core.specs.primitives.Words.{op_word}
use Rattle.scope_names.specs.Ops.{all_ops, first_op, op_of}

pub op_of_word : (o : Op) → op_of (op_word o) ≡ Some o
unfolding op_of
op_of_word op.Add = refl
op_of_word op.Multiply = refl
op_of_word op.Subtract = refl
op_of_word op.Inc = refl
op_of_word op.Dec = refl
op_of_word op.Max = refl
op_of_word op.Min = refl
op_of_word op.Quot = refl
op_of_word op.Rem = refl
op_of_word op.Mod = refl
op_of_word op.Below = refl
op_of_word op.AtMost = refl
op_of_word op.Above = refl
op_of_word op.AtLeast = refl
op_of_word op.Same = refl
op_of_word op.NotSame = refl
op_of_word op.Not = refl
op_of_word op.IsZero = refl
op_of_word op.IsPositive = refl
op_of_word op.IsNegative = refl
op_of_word op.IsNil = refl
op_of_word op.IsSome = refl
op_of_word op.IsInt = refl
op_of_word op.IsString = refl
op_of_word op.IsKeyword = refl
op_of_word op.IsBoolean = refl
op_of_word op.IsVector = refl
op_of_word op.IsMap = refl
op_of_word op.Vector = refl
op_of_word op.Count = refl
op_of_word op.Get = refl
op_of_word op.Nth = refl
op_of_word op.Conj = refl
op_of_word op.Assoc = refl
op_of_word op.Dissoc = refl
op_of_word op.Contains = refl
op_of_word op.Keys = refl
op_of_word op.Vals = refl
op_of_word op.First = refl
op_of_word op.Last = refl
op_of_word op.Rest = refl
op_of_word op.IsEmpty = refl
op_of_word op.Subvec = refl
op_of_word op.Into = refl
op_of_word op.Str = refl

first_none : (os : List Op) (word : List ℕ) → ((o : Op) → op_word o ≢ word) → first_op os word ≡ None
first_none [] word none = refl
first_none (o ∷ os) word none = rw (false_from_ne_true (bytes_eq (op_word o) word) (λ e. none o ((bytes_eq-Decides (op_word o) word).0 e))) (first_none os word none)

pub op_named_as : (r : Option Op) (word : List ℕ) → MatchOption r ((o : Op) → op_word o ≢ word) (λ o. op_word o ≡ word) → r ≡ op_of word
unfolding op_of
op_named_as None word none = sym (first_none all_ops word none)
op_named_as (Some o) word is = sym (op_of_word o) ∙ ap op_of is
