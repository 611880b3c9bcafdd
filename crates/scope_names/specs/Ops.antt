-- The primitive that has a word.
use Rattle.std.specs.Prelude.{ℕ, if◌then◌else◌, List, [], ◌∷◌, Option, None, Some}
use Rattle.std.specs.Str.{bytes_eq}
use Rattle.value_core.specs.declared.op.Op.{Op}
use Rattle.value_core.specs.declared.op.Op.TheVariants as op
use Rattle.value_core.specs.primitives.Words.{op_word}

abbrev pub all_ops : List Op
all_ops =
    op.Add ∷ op.Multiply ∷ op.Subtract ∷ op.Inc ∷ op.Dec ∷ op.Max ∷ op.Min ∷ op.Quot ∷ op.Rem ∷ op.Mod
    ∷ op.Below ∷ op.AtMost ∷ op.Above ∷ op.AtLeast ∷ op.Same ∷ op.NotSame ∷ op.Not
    ∷ op.IsZero ∷ op.IsPositive ∷ op.IsNegative ∷ op.IsNil ∷ op.IsSome ∷ op.IsInt ∷ op.IsString ∷ op.IsKeyword
    ∷ op.IsBoolean ∷ op.IsVector ∷ op.IsMap ∷ op.Vector ∷ op.Count ∷ op.Get ∷ op.Nth ∷ op.Conj ∷ op.Assoc ∷ op.Dissoc
    ∷ op.Contains ∷ op.Keys ∷ op.Vals ∷ op.First ∷ op.Last ∷ op.Rest ∷ op.IsEmpty ∷ op.Subvec ∷ op.Into ∷ op.Str ∷ []

abbrev pub first_op : List Op → List ℕ → Option Op
first_op [] word = None
first_op (o ∷ os) word = if bytes_eq (op_word o) word then Some o else first_op os word

-- the primitive that has this word, where there is one
unfoldable pub op_of : List ℕ → Option Op
op_of word = first_op all_ops word
