-- The lines of bytes.
use Rattle.std.proofs.Common.{◌≡◌, ◌≢◌, ℕ, true, false, cond, List, [], ◌∷◌, ◌++◌, take, refl, sym, ap, subst, ◌∙◌, append_assoc}
use Rattle.std.specs.List.{flat_map, onto_first}
use Rattle.std.specs.Prelude.{codes}
use Rattle.serial_model.specs.Trace.{line_of, lines_of}
use Rattle.trace_text.specs.Cut.{IsCut, is_mark, is_without}
use Rattle.trace_text.proofs.Cuts.{cut_once, not_without, without_parts}

-- the pieces, one after the other
abbrev pub joined : List (List ℕ) → List ℕ
joined pieces = flat_map (λ piece. piece) pieces

joined_onto : (byte : ℕ) (pieces : List (List ℕ)) → joined (onto_first byte pieces) ≡ byte ∷ joined pieces
joined_onto byte [] = refl
joined_onto byte (piece ∷ pieces) = refl

-- the lines of bytes make them up
pub joined_lines : (bytes : List ℕ) → joined (lines_of bytes) ≡ bytes
joined_lines [] = refl
joined_lines (byte ∷ bytes) =
    elim (is_mark 10 byte) as (λ t. joined (cond t ((byte ∷ []) ∷ lines_of bytes) (onto_first byte (lines_of bytes))) ≡ byte ∷ bytes) [
      | true ↦ ap (λ t. byte ∷ t) (joined_lines bytes)
      | false ↦ joined_onto byte (lines_of bytes) ∙ ap (λ t. byte ∷ t) (joined_lines bytes)
    ]

-- a text up to its first line feed is the first line
pub lines_of_cut : (text rest : List ℕ) → is_without 10 text ≡ true → lines_of (text ++ 10 ∷ rest) ≡ line_of text ∷ lines_of rest
lines_of_cut [] rest w = refl
lines_of_cut (byte ∷ text) rest w =
    let parts = without_parts (is_mark 10 byte) (is_without 10 text) w in
    ap (λ t. cond t ((byte ∷ []) ∷ lines_of (text ++ 10 ∷ rest)) (onto_first byte (lines_of (text ++ 10 ∷ rest)))) parts.0
    ∙ ap (onto_first byte) (lines_of_cut text rest parts.1)

pub lines_first : (text rest : List ℕ) → is_without 10 text ≡ true → lines_of (line_of text ++ rest) ≡ line_of text ∷ lines_of rest
lines_first text rest w = ap lines_of (append_assoc text (codes "\n") rest) ∙ lines_of_cut text rest w

-- the first line and what follows it
pub first_line : (bytes line : List ℕ) → take 1 (lines_of bytes) ≡ line ∷ [] → (rest : List ℕ) × (bytes ≡ line ++ rest)
first_line bytes line e = of_lines (lines_of bytes) (joined_lines bytes) e
  where
    of_lines : (ls : List (List ℕ)) → joined ls ≡ bytes → take 1 ls ≡ line ∷ [] → (rest : List ℕ) × (bytes ≡ line ++ rest)
    of_lines [] whole e = cc
    of_lines (l ∷ ls) whole e = let same : l ≡ line = cc in (joined ls, sym whole ∙ ap (λ t. t ++ joined ls) same)

pub no_lead : (rest text : List ℕ) → is_without 10 rest ≡ true → take 1 (lines_of rest) ≢ line_of text ∷ []
no_lead rest text w e =
    let found = first_line rest (line_of text) e in
    not_without 10 text found.0 (subst (λ t. is_without 10 t ≡ true) (found.1 ∙ append_assoc text (codes "\n") found.0) w)

pub lead_is : (rest line after text : List ℕ) → IsCut 10 rest line after → is_without 10 text ≡ true → take 1 (lines_of rest) ≡ line_of text ∷ [] → line ≡ text
lead_is rest line after text cut w e =
    let found = first_line rest (line_of text) e in
    (cut_once 10 line after text found.0 cut.first w (sym cut.joined ∙ found.1 ∙ append_assoc text (codes "\n") found.0)).0

-- bytes of no lines are none
pub no_lines : (bytes : List ℕ) → take 1 (lines_of bytes) ≡ [] → bytes ≡ []
no_lines bytes e = of_lines (lines_of bytes) (joined_lines bytes) e
  where
    of_lines : (ls : List (List ℕ)) → joined ls ≡ bytes → take 1 ls ≡ [] → bytes ≡ []
    of_lines [] whole e = sym whole
    of_lines (l ∷ ls) whole e = cc
