-- The text of a program that is made is a source.
use Rattle.std.proofs.Common.{◌≡◌, ◌<◌, ◌≤◌, ℕ, ◌*◌, ◌^◌, true, List, [], ◌∷◌, ◌++◌, map, length, refl, ap, subst, ◌∙◌, arith, length-append}
use Rattle.std.specs.Prelude.{codes, flat_map}
use Rattle.std.specs.List.{range_with_len, list_all}
use Rattle.std.specs.Str.{IsUtf8}
use Rattle.std.proofs.lemmas.Bool.{and_parts}
use Rattle.std.proofs.lemmas.Fmt.{length-decimal-le}
use Rattle.std.proofs.lemmas.Grind.{flat_map-append}
use Rattle.std.proofs.lemmas.List.FromFn.{length-range_with_len}
use Rattle.value_core.specs.Place.{Spot}
use Rattle.program_maker.specs.MadeText.{transfer, transfer_line, common_lines, counter_line, teller_line, line_of, made_text}
use Rattle.sexpr_reader.specs.declared.form.Form.{Form}
use Rattle.sexpr_reader.specs.Cursor.{start, next_spot}
use Rattle.sexpr_reader.specs.Forms.{AreForms}
use Rattle.sexpr_reader.specs.Forms.{Spells}
use Rattle.sexpr_reader.specs.Grammar.{IsSource}
use Rattle.sexpr_reader.specs.Limits.{source_limit}
use Rattle.sexpr_reader.specs.Places.{without_places}
use Rattle.sexpr_reader.specs.Spelling.{spelling}
use Rattle.sexpr_reader.proofs.Found.{cursor}
use Rattle.sexpr_reader.proofs.FormTexts.{Lines, lines_again, more_lines}
use Rattle.sexpr_reader.proofs.SpelledTexts.{AreTexts, lines_text}
use Rattle.made_programs.proofs.Trees.{Tree, fits, form_of, reads, text_is, text_of, utf8}
use Rattle.made_programs.proofs.MadeTrees.{made_texts, made_trees, transfer_tree, teller_small, from_small, to_small, amount_small}

-- some forms, one on each line
spelled_as : (ts : List Tree) → spelling (map form_of ts) ≡ flat_map line_of (map text_of ts)
spelled_as [] = refl
spelled_as (t ∷ ts) =
    ap (λ x. (x ++ codes "\n") ++ spelling (map form_of ts)) (text_is t) ∙ ap (λ x. (text_of t ++ codes "\n") ++ x) (spelled_as ts)

texts : (ts : List Tree) → AreTexts (map form_of ts)
texts [] = tt
texts (t ∷ ts) = (utf8 t, texts ts)

lines : (ts : List Tree) → list_all (fits 0) ts ≡ true → (at : Spot) → Lines (map form_of ts) at
lines [] fit at = lines_again {c = cursor at []} {d = cursor at []} {fs = []} AreForms.none at
lines (t ∷ ts) fit at =
    let both = and_parts (fits 0 t) (list_all (fits 0) ts) fit in
    let r = reads 0 t both.0 at (10 ∷ spelling (map form_of ts)) refl in
    more_lines (form_of t) (map form_of ts) at r (lines ts both.1 (next_spot r.behind 10))

-- all of them nest little
transfers_fit : (number : ℕ) (indices : List ℕ) → list_all (fits 0) (map (transfer_tree number) indices) ≡ true
transfers_fit number [] = refl
transfers_fit number (index ∷ indices) = transfers_fit number indices

all_fit : (number size : ℕ) (small : size < 2 ^ 63) → list_all (fits 0) (made_trees number size small) ≡ true
all_fit number size small = transfers_fit number (range_with_len 0 size)

-- they are not long
transfer_length : (number index : ℕ) → length (line_of (transfer_line (transfer number index))) ≤ 30
transfer_length number index =
    let t = transfer number index in
    let teller = length-decimal-le 1 t.teller (omega arith) (omega (arith, teller_small number index)) (omega (arith, teller_small number index)) in
    let from = length-decimal-le 2 t.from (omega arith) (omega (arith, from_small number index)) (omega (arith, from_small number index)) in
    let to = length-decimal-le 2 t.to (omega arith) (omega (arith, to_small number index)) (omega (arith, to_small number index)) in
    let amount = length-decimal-le 2 t.amount (omega arith) (omega (arith, amount_small number index)) (omega (arith, amount_small number index)) in
    simp (length-append) (omega (arith, teller, from, to, amount))

transfers_length : (number : ℕ) (indices : List ℕ) → length (flat_map line_of (map (λ index. transfer_line (transfer number index)) indices)) ≤ 30 * length indices
transfers_length number [] = omega arith
transfers_length number (index ∷ indices) =
    let line = line_of (transfer_line (transfer number index)) in
    let others = flat_map line_of (map (λ index. transfer_line (transfer number index)) indices) in
    omega (arith, length-append line others, transfer_length number index, transfers_length number indices)

common_length : length (flat_map line_of common_lines) ≡ 472
common_length = refl

counter_length : (size : ℕ) → size ≤ 10000 → length (line_of (counter_line size)) ≤ 100
counter_length size small = let digits = length-decimal-le 5 size (omega arith) (omega (arith, small)) (omega (arith, small)) in simp (length-append) (omega (arith, digits))

abbrev AreTellers : List ℕ → Type 0
AreTellers [] = Unit {0}
AreTellers (teller ∷ tellers) = (teller < 8) × AreTellers tellers

tellers_length : (tellers : List ℕ) → AreTellers tellers → length (flat_map line_of (map teller_line tellers)) ≤ 60 * length tellers
tellers_length [] h = omega arith
tellers_length (teller ∷ tellers) h =
    let digits = length-decimal-le 1 teller (omega arith) (omega (arith, h.0)) (omega (arith, h.0)) in
    let line : length (line_of (teller_line teller)) ≤ 60 = simp (length-append) (omega (arith, digits)) in
    omega (arith, length-append (line_of (teller_line teller)) (flat_map line_of (map teller_line tellers)), line, tellers_length tellers h.1)

eight : AreTellers (range_with_len 0 8)
eight = (omega arith, (omega arith, (omega arith, (omega arith, (omega arith, (omega arith, (omega arith, (omega arith, tt))))))))

made_length : (number size : ℕ) → size ≤ 10000 → length (made_text number size) ≤ source_limit
made_length number size small =
    let definitions = common_lines ++ counter_line size ∷ map teller_line (range_with_len 0 8) in
    let transfers = map (λ index. transfer_line (transfer number index)) (range_with_len 0 size) in
    let tellers = flat_map line_of (map teller_line (range_with_len 0 8)) in
    let first : length (flat_map line_of definitions) ≤ 2000 =
    omega (
      arith,
      ap length (flat_map-append line_of common_lines (counter_line size ∷ map teller_line (range_with_len 0 8))),
      length-append (flat_map line_of common_lines) (line_of (counter_line size) ++ tellers),
      length-append (line_of (counter_line size)) tellers,
      common_length,
      counter_length size small,
      tellers_length (range_with_len 0 8) eight,
    ) in
    omega (
      arith,
      ap length (flat_map-append line_of definitions transfers),
      length-append (flat_map line_of definitions) (flat_map line_of transfers),
      first,
      transfers_length number (range_with_len 0 size),
      length-range_with_len 0 size,
    )

-- the text is that of the forms
made_text_is : (number size : ℕ) (small : size < 2 ^ 63) → spelling (map form_of (made_trees number size small)) ≡ made_text number size
made_text_is number size small = spelled_as (made_trees number size small) ∙ ap (flat_map line_of) (made_texts number size small)

-- it spells them again, places aside
pub record Made (number size : ℕ) (small : size < 2 ^ 63) : Type 0 where
  pub forms : List Form
  pub source : IsSource (made_text number size) forms
  pub same : map without_places forms ≡ map without_places (map form_of (made_trees number size small))

pub made_source : (number size : ℕ) → size ≤ 10000 → (small : size < 2 ^ 63) → Made number size small
made_source number size few small =
    let trees = made_trees number size small in
    let found = lines trees (all_fit number size small) start in
    let is = made_text_is number size small in
    record {
      forms = found.again;
      source = record {
        within = made_length number size few;
        text = subst IsUtf8 is (lines_text (map form_of trees) (texts trees));
        spelled = subst (λ text. Spells (cursor start text) found.again) is found.spells;
      };
      same = found.same;
    }
