-- Bits of words.
use Rattle.std.proofs.Common.{◌≡◌, ◌≢◌, ℕ, zero, suc, ◌+◌, ◌*◌, ◌/◌, ◌%◌, ◌<◌, ◌≤◌, ◌==◌, Bool, false, List, length, get_or, set, sym, ap, subst, ◌∙◌, inl, inr, arith, length-set, zero-add, Result, Ok, Err, OnOk}
use Rattle.std.proofs.lemmas.Bool.{cases_eq, cases_lt}
use Rattle.std.proofs.lemmas.List.{get_or-set_same, get_or-set_other, get_or_past}
use Rattle.std.proofs.lemmas.Nat.Bits.{bit_at-zero}
use Rattle.std.specs.Int.{bit_at}
use Rattle.slot_set.specs.Words.{word, bit, Writes, IsFirstWord, IsFirstBit, IsZero, Marks, AreLevels, members}
use Rattle.slot_set.specs.SlotSet.{IsLeast}
use Rattle.std.proofs.lemmas.List.FromFn.{length-map-range_with_len, get_or-map-range_with_len, fill_by_all}

-- a number with a bit is not zero
pub nonzero_from_bit : (v k : ℕ) → bit_at v k ≡ 1 → 0 < v
nonzero_from_bit zero k e = absurd (omega (arith, e, bit_at-zero k))
nonzero_from_bit (suc v) k e = omega arith

pub word_written : (ws : List ℕ) (at v : ℕ) → at < 64 * length ws → word (set ws (at / 64) v) (at / 64) ≡ v
word_written ws at v within = get_or-set_same ws (at / 64) v 0 (omega arith)

-- a write of a word that changes one of its bits
pub Writes-set : (ws : List ℕ) (at v value : ℕ) → at < 64 * length ws → bit_at v (at % 64) ≡ value → ((i : ℕ) → i < 64 → i ≢ at % 64 → bit_at v i ≡ bit_at (word ws (at / 64)) i) → Writes ws (set ws (at / 64) v) at value
Writes-set ws at v value within is keeps =
    let written = word_written ws at v within in
    record {
      changed = ap (λ x. bit_at x (at % 64)) written ∙ is;
      others = λ i differs. elim (cases_eq (i / 64) (at / 64)) [
        | inl same ↦ subst (λ w. bit_at (word (set ws (at / 64) v) w) (i % 64) ≡ bit_at (word ws w) (i % 64)) (sym same) (ap (λ x. bit_at x (i % 64)) written ∙ keeps (i % 64) (omega arith) (λ e. differs (omega (arith, same, e))))
        | inr other ↦ ap (λ x. bit_at x (i % 64)) (get_or-set_other ws (at / 64) (i / 64) v 0 other)
      ];
      words = λ w other. get_or-set_other ws (at / 64) w v 0 other;
      len = length-set ws (at / 64) v;
    }

-- a word that is not zero is one of the list
pub word_within : (ws : List ℕ) (w : ℕ) → 0 < word ws w → w < length ws
word_within ws w some = elim (cases_lt w (length ws)) [
  | inl below ↦ below
  | inr past ↦ absurd (omega (arith, some, get_or_past ws w 0 (omega arith)))
]

pub bit_of_zero : (ws : List ℕ) (i : ℕ) → word ws (i / 64) ≡ 0 → bit ws i ≡ 0
bit_of_zero ws i none = ap (λ x. bit_at x (i % 64)) none ∙ bit_at-zero (i % 64)

-- the first bit of the first word that has one is the first of all
pub IsFirstBit-word : (ws : List ℕ) (w place : ℕ) → IsFirstWord ws w → place < 64 → bit_at (word ws w) place ≡ 1 → ((j : ℕ) → j < place → bit_at (word ws w) j ≡ 0) → IsFirstBit ws (w * 64 + place)
IsFirstBit-word ws w place first within is least =
    let quotient : (w * 64 + place) / 64 ≡ w = omega arith in
    let rest : (w * 64 + place) % 64 ≡ place = omega arith in
    record {
      some = rw (quotient, rest) is;
      none = λ j below. elim (cases_eq (j / 64) w) [
        | inl same ↦ ap (λ x. bit_at (word ws x) (j % 64)) same ∙ least (j % 64) (omega (arith, same, below))
        | inr other ↦ bit_of_zero ws j (first.none (j / 64) (omega (arith, other, below)))
      ];
    }

module _ (low high : List ℕ) (marks : Marks low high) where
  -- the first bit of a level names the first word of the level below
  pub IsFirstWord-below : (w : ℕ) → IsFirstBit high w → IsFirstWord low w
  IsFirstWord-below w first = record {
    some = elim (cases_eq (word low w) 0) [
      | inl zero_then ↦ absurd (omega (arith, first.some, marks.none w zero_then))
      | inr other ↦ omega arith
    ];
    none = λ j below. elim (cases_eq (word low j) 0) [
      | inl zero_then ↦ zero_then
      | inr other ↦ absurd (omega (arith, first.none j below, marks.some j (omega arith)))
    ];
  }

  -- where a level is zero, so is the one below
  pub IsZero-below : IsZero high → IsZero low
  IsZero-below all w = elim (cases_eq (word low w) 0) [
    | inl zero_then ↦ zero_then
    | inr other ↦ absurd (omega (arith, bit_of_zero high w (all (w / 64)), marks.some w (omega arith)))
  ]

  -- a bit is set in both levels
  pub Marks-set : (at : ℕ) (low_2 high_2 : List ℕ) (value : ℕ) → Writes low low_2 at value → 0 < word low_2 (at / 64) → Writes high high_2 (at / 64) 1 → Marks low_2 high_2
  Marks-set at low_2 high_2 value writes some above = record {
    none = λ w zero_then. elim (cases_eq w (at / 64)) [
      | inl same ↦ absurd (omega (arith, some, subst (λ x. word low_2 x ≡ 0) same zero_then))
      | inr other ↦ above.others w other ∙ marks.none w (sym (writes.words w other) ∙ zero_then)
    ];
    some = λ w more. elim (cases_eq w (at / 64)) [
      | inl same ↦ ap (bit high_2) same ∙ above.changed
      | inr other ↦ above.others w other ∙ marks.some w (omega (arith, more, writes.words w other))
    ];
    room = omega (arith, marks.room, writes.len, above.len);
  }

  -- the last bit of a word is cleared, and so is the one above
  pub Marks-clear : (at : ℕ) (low_2 high_2 : List ℕ) → Writes low low_2 at 0 → word low_2 (at / 64) ≡ 0 → Writes high high_2 (at / 64) 0 → Marks low_2 high_2
  Marks-clear at low_2 high_2 writes now above = record {
    none = λ w zero_then. elim (cases_eq w (at / 64)) [
      | inl same ↦ ap (bit high_2) same ∙ above.changed
      | inr other ↦ above.others w other ∙ marks.none w (sym (writes.words w other) ∙ zero_then)
    ];
    some = λ w more. elim (cases_eq w (at / 64)) [
      | inl same ↦ absurd (omega (arith, more, ap (word low_2) same, now))
      | inr other ↦ above.others w other ∙ marks.some w (omega (arith, more, writes.words w other))
    ];
    room = omega (arith, marks.room, writes.len, above.len);
  }

  -- a word that stays above zero needs no change above
  pub Marks-keep : (at : ℕ) (low_2 : List ℕ) → Writes low low_2 at 0 → 0 < word low (at / 64) → 0 < word low_2 (at / 64) → Marks low_2 high
  Marks-keep at low_2 writes before after = record {
    none = λ w zero_then. elim (cases_eq w (at / 64)) [
      | inl same ↦ absurd (omega (arith, after, subst (λ x. word low_2 x ≡ 0) same zero_then))
      | inr other ↦ marks.none w (sym (writes.words w other) ∙ zero_then)
    ];
    some = λ w more. elim (cases_eq w (at / 64)) [
      | inl same ↦ ap (bit high) same ∙ marks.some (at / 64) before
      | inr other ↦ marks.some w (omega (arith, more, writes.words w other))
    ];
    room = omega (arith, marks.room, writes.len);
  }

  -- both levels grow by zeros
  pub Marks-grow : (low_2 high_2 : List ℕ) → ((w : ℕ) → word low_2 w ≡ word low w) → ((w : ℕ) → word high_2 w ≡ word high w) → length low_2 ≤ 64 * length high_2 → Marks low_2 high_2
  Marks-grow low_2 high_2 same same_above room = record {
    none = λ w zero_then. ap (λ x. bit_at x (w % 64)) (same_above (w / 64)) ∙ marks.none w (sym (same w) ∙ zero_then);
    some = λ w more. ap (λ x. bit_at x (w % 64)) (same_above (w / 64)) ∙ marks.some w (omega (arith, more, same w));
    room = room;
  }

pub length-members : (ws : List ℕ) → length (members ws) ≡ 64 * length ws
length-members ws = length-map-range_with_len (λ i. bit ws i == 1) 0 (64 * length ws)

pub members-read : (ws : List ℕ) (i : ℕ) → get_or (members ws) i false ≡ (bit ws i == 1)
members-read ws i = elim (cases_lt i (64 * length ws)) [
  | inl below ↦ get_or-map-range_with_len (λ j. bit ws j == 1) 0 (64 * length ws) i i false below (zero-add i)
  | inr past ↦ get_or_past (members ws) i false (omega (arith, past, length-members ws))
      ∙ ap (λ x. x == 1) (sym (bit_of_zero ws i (get_or_past ws (i / 64) 0 (omega (arith, past)))))
]

pub members-write : (old new : List ℕ) (at value : ℕ) (b : Bool) → Writes old new at value → at < 64 * length old → (value == 1) ≡ b → members new ≡ set (members old) at b
members-write old new at value b writes within is =
    sym (fill_by_all (λ i. bit new i == 1) (set (members old) at b) (64 * length new) false (omega (arith, length-set (members old) at b, length-members old, writes.len)) (λ k below. elim (cases_eq k at) [
      | inl same ↦ ap (λ j. get_or (set (members old) at b) j false) same ∙ get_or-set_same (members old) at b false (omega (arith, within, length-members old)) ∙ sym is ∙ ap (λ x. x == 1) (sym writes.changed) ∙ ap (λ j. bit new j == 1) (sym same)
      | inr other ↦ get_or-set_other (members old) at k b false other ∙ members-read old k ∙ ap (λ x. x == 1) (sym (writes.others k other))
    ]))

pub members-same : (old new : List ℕ) → ((w : ℕ) → word new w ≡ word old w) → (i : ℕ) → get_or (members new) i false ≡ get_or (members old) i false
members-same old new same i = members-read new i ∙ ap (λ x. bit_at x (i % 64) == 1) (same (i / 64)) ∙ sym (members-read old i)

pub IsLeast-members : (ws : List ℕ) (i : ℕ) → IsFirstBit ws i → i < 64 * length ws → IsLeast (members ws) i
IsLeast-members ws i first within = record {
  within = omega (arith, within, length-members ws);
  member = members-read ws i ∙ ap (λ x. x == 1) first.some;
  least = λ other below. members-read ws other ∙ ap (λ x. x == 1) (first.none other below);
}

pub no-members : (ws : List ℕ) → IsZero ws → (i : ℕ) → get_or (members ws) i false ≡ false
no-members ws all i = members-read ws i ∙ ap (λ x. x == 1) (bit_of_zero ws i (all (i / 64)))

module _ (low mid top : List ℕ) (levels : AreLevels low mid top) where
  pub AreLevels-set : (at : ℕ) (low_2 mid_2 top_2 : List ℕ) → Writes low low_2 at 1 → 0 < word low_2 (at / 64) → Writes mid mid_2 (at / 64) 1 → 0 < word mid_2 (at / 64 / 64) → Writes top top_2 (at / 64 / 64) 1 → AreLevels low_2 mid_2 top_2
  AreLevels-set at low_2 mid_2 top_2 w s w_2 s_2 w_3 = record {
    low_mid = Marks-set low mid levels.low_mid at low_2 mid_2 1 w s w_2;
    mid_top = Marks-set mid top levels.mid_top (at / 64) mid_2 top_2 1 w_2 s_2 w_3;
    fits_low = omega (arith, levels.fits_low, w.len);
    fits_mid = omega (arith, levels.fits_mid, w_2.len);
    fits_top = omega (arith, levels.fits_top, w_3.len);
  }

  pub AreLevels-clear_all : (at : ℕ) (low_2 mid_2 top_2 : List ℕ) → Writes low low_2 at 0 → word low_2 (at / 64) ≡ 0 → Writes mid mid_2 (at / 64) 0 → word mid_2 (at / 64 / 64) ≡ 0 → Writes top top_2 (at / 64 / 64) 0 → AreLevels low_2 mid_2 top_2
  AreLevels-clear_all at low_2 mid_2 top_2 w s w_2 s_2 w_3 = record {
    low_mid = Marks-clear low mid levels.low_mid at low_2 mid_2 w s w_2;
    mid_top = Marks-clear mid top levels.mid_top (at / 64) mid_2 top_2 w_2 s_2 w_3;
    fits_low = omega (arith, levels.fits_low, w.len);
    fits_mid = omega (arith, levels.fits_mid, w_2.len);
    fits_top = omega (arith, levels.fits_top, w_3.len);
  }

  pub AreLevels-clear_two : (at : ℕ) (low_2 mid_2 : List ℕ) → Writes low low_2 at 0 → word low_2 (at / 64) ≡ 0 → Writes mid mid_2 (at / 64) 0 → 0 < word mid (at / 64 / 64) → 0 < word mid_2 (at / 64 / 64) → AreLevels low_2 mid_2 top
  AreLevels-clear_two at low_2 mid_2 w s w_2 before after = record {
    low_mid = Marks-clear low mid levels.low_mid at low_2 mid_2 w s w_2;
    mid_top = Marks-keep mid top levels.mid_top (at / 64) mid_2 w_2 before after;
    fits_low = omega (arith, levels.fits_low, w.len);
    fits_mid = omega (arith, levels.fits_mid, w_2.len);
    fits_top = levels.fits_top;
  }

  pub AreLevels-clear_one : (at : ℕ) (low_2 : List ℕ) → Writes low low_2 at 0 → 0 < word low (at / 64) → 0 < word low_2 (at / 64) → AreLevels low_2 mid top
  AreLevels-clear_one at low_2 w before after = record {
    low_mid = Marks-keep low mid levels.low_mid at low_2 w before after;
    mid_top = levels.mid_top;
    fits_low = omega (arith, levels.fits_low, w.len);
    fits_mid = levels.fits_mid;
    fits_top = levels.fits_top;
  }

pub OnOk-map : {A E P Q : Type 0} (r : Result A E) → OnOk r P → (P → Q) → OnOk r Q
OnOk-map (Ok _) p f = f p
OnOk-map (Err _) p f = tt
