-- Lists of words of 64 bits, and a level of such words that says which words of the level below are not zero.
use Rattle.std.specs.Prelude.{◌≡◌, ◌≢◌, ℕ, ◌*◌, ◌/◌, ◌%◌, ◌^◌, ◌<◌, ◌≤◌, ◌==◌, Bool, List, length, map, slice_index_or}
use Rattle.std.specs.Int.{bit_at}
use Rattle.std.specs.List.{range_with_len}

-- a word of the list; past its end zero
abbrev pub word : List ℕ → ℕ → ℕ
word words index = slice_index_or words index 0

-- a bit of the list, counted through its words
abbrev pub bit : List ℕ → ℕ → ℕ
bit words at = bit_at (word words (at / 64)) (at % 64)

-- the bit has this value now, and every other bit and word is as it was
pub record Writes (old new : List ℕ) (at value : ℕ) : Type 0 where
  pub changed : bit new at ≡ value
  pub others : (other : ℕ) → other ≢ at → bit new other ≡ bit old other
  pub words : (index : ℕ) → index ≢ at / 64 → word new index ≡ word old index
  pub len : length new ≡ length old

-- the first word that is not zero
pub record IsFirstWord (words : List ℕ) (index : ℕ) : Type 0 where
  pub some : 0 < word words index
  pub none : (before : ℕ) → before < index → word words before ≡ 0

-- the first bit that is set
pub record IsFirstBit (words : List ℕ) (at : ℕ) : Type 0 where
  pub some : bit words at ≡ 1
  pub none : (before : ℕ) → before < at → bit words before ≡ 0

-- no bit is set
abbrev pub IsZero : List ℕ → Type 0
IsZero words = (index : ℕ) → word words index ≡ 0

-- the level above has a bit for each word below, set where that word is not zero
pub record Marks (low high : List ℕ) : Type 0 where
  pub none : (index : ℕ) → word low index ≡ 0 → bit high index ≡ 0
  pub some : (index : ℕ) → 0 < word low index → bit high index ≡ 1
  pub room : length low ≤ 64 * length high

-- three levels, whose bits can be counted by a machine word
pub record AreLevels (low mid top : List ℕ) : Type 0 where
  pub low_mid : Marks low mid
  pub mid_top : Marks mid top
  pub fits_low : length low ≤ 2 ^ 58
  pub fits_mid : length mid ≤ 2 ^ 58
  pub fits_top : length top ≤ 2 ^ 58

-- which slots have a bit that is set
abbrev pub members : List ℕ → List Bool
members words = map (λ at. bit words at == 1) (range_with_len 0 (64 * length words))
