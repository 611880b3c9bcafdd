-- A text with one more line.
use Rattle.std.proofs.Common.{◌≡◌, ℕ, ◌+◌, List, ◌++◌, ◌∷◌, [], ◌∙◌, map, flat_map, sym, ap, append_assoc, arith}
use Rattle.std.specs.List.{range_with_len}
use Rattle.std.proofs.lemmas.List.{flat_map_more}
use Rattle.std.proofs.lemmas.List.FromFn.{map-range_with_len_more}
use Rattle.program_maker.specs.MadeText.{line_of}

-- the line at the index comes after those before it
pub lines_more : (line : ℕ → List ℕ) (first : List (List ℕ)) (text : List ℕ) (index : ℕ) → (text ++ flat_map line_of (first ++ map line (range_with_len 0 index))) ++ line_of (line index) ≡ text ++ flat_map line_of (first ++ map line (range_with_len 0 (index + 1)))
lines_more line first text index =
    flat_map_more line_of text (first ++ map line (range_with_len 0 index)) (line index)
    ∙ ap (λ lines. text ++ flat_map line_of lines)
    (append_assoc first (map line (range_with_len 0 index)) (line index ∷ [])
    ∙ ap (λ lines. first ++ lines) (sym (map-range_with_len_more line 0 index index (omega arith))))
