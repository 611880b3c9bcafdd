-- Two words with a mark between them.
use Rattle.std.proofs.Common.{◌≡◌, ℕ, true, List, ◌∷◌, ◌++◌, sym, subst, ◌∙◌}
use Rattle.trace_text.specs.Cut.{IsCut, is_without}
use Rattle.trace_text.proofs.Cuts.{cut_once, not_without}

-- a word of the first kind, the mark, and a word of the second kind
pub record IsPair (mark : ℕ) (First Second : List ℕ → Type 0) (bytes : List ℕ) : Type 0 where
  pub left : List ℕ
  pub right : List ℕ
  pub first : First left
  pub second : Second right
  pub joined : bytes ≡ left ++ mark ∷ right

-- no word of the kind has the mark
abbrev pub NeverHas : ℕ → (List ℕ → Type 0) → Type 0
NeverHas mark Kind = (word : List ℕ) → Kind word → is_without mark word ≡ true

pub no_pair_uncut : {First Second : List ℕ → Type 0} (mark : ℕ) (bytes : List ℕ) → is_without mark bytes ≡ true → ¬ (IsPair mark First Second bytes)
no_pair_uncut mark bytes without pair = not_without mark pair.left pair.right (subst (λ xs. is_without mark xs ≡ true) pair.joined without)

parts_are : {First Second : List ℕ → Type 0} (mark : ℕ) (bytes before after : List ℕ) → NeverHas mark First → IsCut mark bytes before after → (pair : IsPair mark First Second bytes) → (pair.left ≡ before) × (pair.right ≡ after)
parts_are mark bytes before after never cut pair = cut_once mark pair.left pair.right before after (never pair.left pair.first) cut.first (sym pair.joined ∙ cut.joined)

pub no_pair_first : {First Second : List ℕ → Type 0} (mark : ℕ) (bytes before after : List ℕ) → NeverHas mark First → IsCut mark bytes before after → ¬ (First before) → ¬ (IsPair mark First Second bytes)
no_pair_first {First = First} mark bytes before after never cut other pair = other (subst First (parts_are mark bytes before after never cut pair).0 pair.first)

pub no_pair_second : {First Second : List ℕ → Type 0} (mark : ℕ) (bytes before after : List ℕ) → NeverHas mark First → IsCut mark bytes before after → ¬ (Second after) → ¬ (IsPair mark First Second bytes)
no_pair_second {Second = Second} mark bytes before after never cut other pair = other (subst Second (parts_are mark bytes before after never cut pair).1 pair.second)
