-- Each primitive has its place in the table.
use Rattle.std.proofs.Common.{◌≡◌, ◌≢◌, ℕ, ◌<◌, List, refl, ap, ◌∙◌, lit<, get_or}
use Rattle.value_core.specs.declared.op.Op.{Op}
use Rattle.value_core.specs.declared.op.Op.TheVariants as op
use Rattle.value_ops.specs.declared.words.TheConstants.{ALL}
use Rattle.value_core.specs.primitives.Words.{op_word}

pub place_of : Op → ℕ
place_of op.Add = 0
place_of op.Multiply = 1
place_of op.Subtract = 2
place_of op.Inc = 3
place_of op.Dec = 4
place_of op.Max = 5
place_of op.Min = 6
place_of op.Quot = 7
place_of op.Rem = 8
place_of op.Mod = 9
place_of op.Below = 10
place_of op.AtMost = 11
place_of op.Above = 12
place_of op.AtLeast = 13
place_of op.Same = 14
place_of op.NotSame = 15
place_of op.Not = 16
place_of op.IsZero = 17
place_of op.IsPositive = 18
place_of op.IsNegative = 19
place_of op.IsNil = 20
place_of op.IsSome = 21
place_of op.IsInt = 22
place_of op.IsString = 23
place_of op.IsKeyword = 24
place_of op.IsBoolean = 25
place_of op.IsVector = 26
place_of op.IsMap = 27
place_of op.Vector = 28
place_of op.Count = 29
place_of op.Get = 30
place_of op.Nth = 31
place_of op.Conj = 32
place_of op.Assoc = 33
place_of op.Dissoc = 34
place_of op.Contains = 35
place_of op.Keys = 36
place_of op.Vals = 37
place_of op.First = 38
place_of op.Last = 39
place_of op.Rest = 40
place_of op.IsEmpty = 41
place_of op.Subvec = 42
place_of op.Into = 43
place_of op.Str = 44

pub place_in_range : (o : Op) → place_of o < 45
unfolding place_of
place_in_range op.Add = lit< tt
place_in_range op.Multiply = lit< tt
place_in_range op.Subtract = lit< tt
place_in_range op.Inc = lit< tt
place_in_range op.Dec = lit< tt
place_in_range op.Max = lit< tt
place_in_range op.Min = lit< tt
place_in_range op.Quot = lit< tt
place_in_range op.Rem = lit< tt
place_in_range op.Mod = lit< tt
place_in_range op.Below = lit< tt
place_in_range op.AtMost = lit< tt
place_in_range op.Above = lit< tt
place_in_range op.AtLeast = lit< tt
place_in_range op.Same = lit< tt
place_in_range op.NotSame = lit< tt
place_in_range op.Not = lit< tt
place_in_range op.IsZero = lit< tt
place_in_range op.IsPositive = lit< tt
place_in_range op.IsNegative = lit< tt
place_in_range op.IsNil = lit< tt
place_in_range op.IsSome = lit< tt
place_in_range op.IsInt = lit< tt
place_in_range op.IsString = lit< tt
place_in_range op.IsKeyword = lit< tt
place_in_range op.IsBoolean = lit< tt
place_in_range op.IsVector = lit< tt
place_in_range op.IsMap = lit< tt
place_in_range op.Vector = lit< tt
place_in_range op.Count = lit< tt
place_in_range op.Get = lit< tt
place_in_range op.Nth = lit< tt
place_in_range op.Conj = lit< tt
place_in_range op.Assoc = lit< tt
place_in_range op.Dissoc = lit< tt
place_in_range op.Contains = lit< tt
place_in_range op.Keys = lit< tt
place_in_range op.Vals = lit< tt
place_in_range op.First = lit< tt
place_in_range op.Last = lit< tt
place_in_range op.Rest = lit< tt
place_in_range op.IsEmpty = lit< tt
place_in_range op.Subvec = lit< tt
place_in_range op.Into = lit< tt
place_in_range op.Str = lit< tt

pub at_place : (o d : Op) → get_or ALL (place_of o) d ≡ o
unfolding place_of
at_place op.Add d = refl
at_place op.Multiply d = refl
at_place op.Subtract d = refl
at_place op.Inc d = refl
at_place op.Dec d = refl
at_place op.Max d = refl
at_place op.Min d = refl
at_place op.Quot d = refl
at_place op.Rem d = refl
at_place op.Mod d = refl
at_place op.Below d = refl
at_place op.AtMost d = refl
at_place op.Above d = refl
at_place op.AtLeast d = refl
at_place op.Same d = refl
at_place op.NotSame d = refl
at_place op.Not d = refl
at_place op.IsZero d = refl
at_place op.IsPositive d = refl
at_place op.IsNegative d = refl
at_place op.IsNil d = refl
at_place op.IsSome d = refl
at_place op.IsInt d = refl
at_place op.IsString d = refl
at_place op.IsKeyword d = refl
at_place op.IsBoolean d = refl
at_place op.IsVector d = refl
at_place op.IsMap d = refl
at_place op.Vector d = refl
at_place op.Count d = refl
at_place op.Get d = refl
at_place op.Nth d = refl
at_place op.Conj d = refl
at_place op.Assoc d = refl
at_place op.Dissoc d = refl
at_place op.Contains d = refl
at_place op.Keys d = refl
at_place op.Vals d = refl
at_place op.First d = refl
at_place op.Last d = refl
at_place op.Rest d = refl
at_place op.IsEmpty d = refl
at_place op.Subvec d = refl
at_place op.Into d = refl
at_place op.Str d = refl

-- where no place of the table has the word, no primitive has it
pub no_op : (word : List ℕ) → ((k : ℕ) (d : Op) → k < 45 → op_word (get_or ALL k d) ≢ word) → (o : Op) → op_word o ≢ word
no_op word none o e = none (place_of o) o (place_in_range o) (ap op_word (at_place o o) ∙ e)
