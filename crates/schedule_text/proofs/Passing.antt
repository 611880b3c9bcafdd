-- What is known of bytes whose first lines are read, and what they are refused or taken for.
use Rattle.std.proofs.Common.{◌≡◌, ◌≢◌, ℕ, suc, ◌+◌, ◌-◌, ◌≤◌, true, List, [], ◌∷◌, ◌++◌, length, take, map, All, refl, sym, ap, subst, ◌∙◌, arith, append_assoc, append-nil, inl}
use Rattle.std.proofs.lemmas.List.{map-append}
use Rattle.std.proofs.lemmas.List.Elements.{All-nil, All-push}
use Rattle.serial_model.specs.declared.trace.LineKind.TheVariants.{BadLine}
use Rattle.serial_model.specs.Trace.{line_of, lines_of}
use Rattle.schedule_text.specs.declared.line.Line.{Line}
use Rattle.schedule_text.specs.declared.line.Line.TheVariants.{Back, Go, Hold, Turn}
use Rattle.schedule_text.specs.Schedule.{FitsUpTo, IsLine, IsTextOfLine, IsTextOfSchedule, line_text, schedule_limit, schedule_refusal, text_of}
use Rattle.schedule_text.proofs.Shapes.{IsNoLine}
use Rattle.trace_text.specs.Cut.{IsCut, is_without}
use Rattle.trace_text.proofs.Digits.{name_without}
use Rattle.trace_text.proofs.LinesOf.{joined, joined_lines, lead_is, lines_first, lines_of_cut, no_lead, no_lines}

-- ---- the lines of a schedule
-- a line with the line feed that ends it
abbrev pub whole_line : Line → List ℕ
whole_line line = line_of (line_text line)

-- a line has no line feed but the one that ends it
pub one_line : (line : Line) → IsLine line → is_without 10 (line_text line) ≡ true
one_line (Go name) is = name_without 10 name (inl (omega arith)) refl is
one_line (Hold name) is = name_without 10 name (inl (omega arith)) refl is
one_line (Back name) is = name_without 10 name (inl (omega arith)) refl is
one_line (Turn name) is = name_without 10 name (inl (omega arith)) refl is

pub lines_of_text : (lines : List Line) → All IsLine lines → lines_of (text_of lines) ≡ map whole_line lines
lines_of_text [] each = refl
lines_of_text (line ∷ lines) each =
    lines_first (line_text line) (text_of lines) (one_line line (each 0 line (omega arith)))
    ∙ ap (λ t. whole_line line ∷ t) (lines_of_text lines (λ k d lt. each (suc k) d (omega arith)))

-- ---- what is read so far: these lines
pub record Passed (bytes : List ℕ) (lines : List Line) (rest : List ℕ) : Type 0 where
  pub each : All IsLine lines
  pub lines_so : lines_of bytes ≡ map whole_line lines ++ lines_of rest

pub passed_none : (bytes : List ℕ) → Passed bytes [] bytes
passed_none bytes = record { each = All-nil IsLine; lines_so = refl }

pub passed_more : (bytes : List ℕ) (lines : List Line) (rest text after : List ℕ) (line : Line)
    → Passed bytes lines rest → IsCut 10 rest text after → IsTextOfLine line text → Passed bytes (lines ++ line ∷ []) after
passed_more bytes lines rest text after line passed cut is = record {
  each = All-push IsLine lines line passed.each is.is_line;
  lines_so = passed.lines_so
      ∙ ap (λ ls. map whole_line lines ++ ls) (ap lines_of cut.joined ∙ lines_of_cut text after cut.first ∙ ap (λ t. line_of t ∷ lines_of after) (sym is.spelled))
      ∙ sym (append_assoc (map whole_line lines) (whole_line line ∷ []) (lines_of after))
      ∙ ap (λ ls. ls ++ lines_of after) (sym (map-append whole_line lines (line ∷ [])));
}

-- the bytes are a schedule's text where nothing stands after the lines
pub taken : (bytes : List ℕ) (lines : List Line) (rest : List ℕ) → length bytes ≤ schedule_limit → Passed bytes lines rest → rest ≡ [] → IsTextOfSchedule lines bytes
taken bytes lines rest short passed none =
    let same : lines_of bytes ≡ lines_of (text_of lines) =
    passed.lines_so ∙ ap (λ t. map whole_line lines ++ lines_of t) none ∙ append-nil (map whole_line lines) ∙ sym (lines_of_text lines passed.each) in
    record {
      each = passed.each;
      spelled = sym (joined_lines (text_of lines)) ∙ ap joined (sym same) ∙ joined_lines bytes;
      short = short;
    }

-- ---- refusals
-- there are bytes, and no line that a schedule may have leads them
pub record NoLineLeads (rest : List ℕ) : Type 0 where
  pub some : rest ≢ []
  pub no_line : (line : Line) → IsLine line → take 1 (lines_of rest) ≢ whole_line line ∷ []

not_empty : (before after : List ℕ) → before ++ 10 ∷ after ≢ []
not_empty [] after e = cc
not_empty (byte ∷ before) after e = cc

pub none_leads : (rest text after : List ℕ) → IsCut 10 rest text after → IsNoLine text → NoLineLeads rest
none_leads rest text after cut none = record {
  some = λ e. not_empty text after (sym cut.joined ∙ e);
  no_line = λ line is e. none line (record { is_line = is; spelled = sym (lead_is rest text after (line_text line) cut (one_line line is) e) });
}

pub none_leads_uncut : (rest : List ℕ) → rest ≢ [] → is_without 10 rest ≡ true → NoLineLeads rest
none_leads_uncut rest some without = record { some = some; no_line = λ line is. no_lead rest (line_text line) without }

never : (lines others : List Line) (rest : List ℕ) → NoLineLeads rest → All IsLine others
    → take (suc (length lines)) (map whole_line lines ++ lines_of rest) ≢ take (suc (length lines)) (map whole_line others)
never [] [] rest none each e = none.some (no_lines rest e)
never [] (other ∷ others) rest none each e = none.no_line other (each 0 other (omega arith)) e
never (line ∷ lines) [] rest none each e = cc
never (line ∷ lines) (other ∷ others) rest none each e =
    let later : take (suc (length lines)) (map whole_line lines ++ lines_of rest) ≡ take (suc (length lines)) (map whole_line others) = cc in
    never lines others rest none (λ k d lt. each (suc k) d (omega arith)) later

same_front : (lines : List Line) (more : List (List ℕ)) → take (length lines) (map whole_line lines ++ more) ≡ take (length lines) (map whole_line lines)
same_front [] more = refl
same_front (line ∷ lines) more = ap (λ ls. whole_line line ∷ ls) (same_front lines more)

pub refused_here : (bytes : List ℕ) (lines : List Line) (rest : List ℕ) (number : ℕ) → length bytes ≤ schedule_limit → Passed bytes lines rest → NoLineLeads rest → number ≡ 1 + length lines
    → schedule_refusal bytes BadLine number
refused_here bytes lines rest number short passed none at =
    let before : number - 1 ≡ length lines = omega arith in
    let here : number ≡ suc (length lines) = omega arith in
    (short, subst (λ n. FitsUpTo n bytes) (sym before) fits, λ is. never_fits (subst (λ n. FitsUpTo n bytes) here is))
  where
    fits : FitsUpTo (length lines) bytes
    fits = record {
      lines = lines;
      each = passed.each;
      alike = ap (take (length lines)) passed.lines_so ∙ same_front lines (lines_of rest) ∙ ap (take (length lines)) (sym (lines_of_text lines passed.each));
    }

    never_fits : ¬ (FitsUpTo (suc (length lines)) bytes)
    never_fits is = never lines is.lines rest none is.each (sym (ap (take (suc (length lines))) passed.lines_so) ∙ is.alike ∙ ap (take (suc (length lines))) (lines_of_text is.lines is.each))
