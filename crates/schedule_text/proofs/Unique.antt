-- A text is that of one schedule, and has one refusal, at most.
use Rattle.std.proofs.Common.{◌≡◌, ℕ, suc, ◌-◌, ◌<◌, ◌≤◌, List, [], ◌∷◌, take, map, All, refl, sym, ap, ◌∙◌, arith, get_or}
use Rattle.std.proofs.lemmas.List.{take-take}
use Rattle.value_core.specs.Name.{name_text}
use Rattle.serial_model.specs.declared.trace.LineKind.{LineKind}
use Rattle.serial_model.specs.declared.trace.LineKind.TheVariants.{BadLine, TooLong}
use Rattle.serial_model.specs.Trace.{lines_of}
use Rattle.schedule_text.specs.declared.line.Line.{Line}
use Rattle.schedule_text.specs.declared.line.Line.TheVariants.{Back, Go, Hold, Turn}
use Rattle.schedule_text.specs.Schedule.{FitsUpTo, IsLine, IsTextOfSchedule, line_text, schedule_refusal, text_of}
use Rattle.schedule_text.proofs.Passing.{lines_of_text, one_line, whole_line}
use Rattle.trace_text.proofs.LineShapes.{apart}
use Rattle.trace_text.proofs.Unique.{one_name, one_text}

one_of : (line other : Line) → IsLine line → IsLine other → line_text line ≡ line_text other → line ≡ other
one_of (Go name) (Go other) p q e = let tails : name_text name ≡ name_text other = cc in ap Go (one_name name other p q tails)
one_of (Go name) (Hold other) p q e = absurd (apart 103 104 refl (ap (λ t. get_or t 0 0) e))
one_of (Go name) (Back other) p q e = absurd (apart 103 98 refl (ap (λ t. get_or t 0 0) e))
one_of (Go name) (Turn other) p q e = absurd (apart 103 116 refl (ap (λ t. get_or t 0 0) e))
one_of (Hold name) (Go other) p q e = absurd (apart 104 103 refl (ap (λ t. get_or t 0 0) e))
one_of (Hold name) (Hold other) p q e = let tails : name_text name ≡ name_text other = cc in ap Hold (one_name name other p q tails)
one_of (Hold name) (Back other) p q e = absurd (apart 104 98 refl (ap (λ t. get_or t 0 0) e))
one_of (Hold name) (Turn other) p q e = absurd (apart 104 116 refl (ap (λ t. get_or t 0 0) e))
one_of (Back name) (Go other) p q e = absurd (apart 98 103 refl (ap (λ t. get_or t 0 0) e))
one_of (Back name) (Hold other) p q e = absurd (apart 98 104 refl (ap (λ t. get_or t 0 0) e))
one_of (Back name) (Back other) p q e = let tails : name_text name ≡ name_text other = cc in ap Back (one_name name other p q tails)
one_of (Back name) (Turn other) p q e = absurd (apart 98 116 refl (ap (λ t. get_or t 0 0) e))
one_of (Turn name) (Go other) p q e = absurd (apart 116 103 refl (ap (λ t. get_or t 0 0) e))
one_of (Turn name) (Hold other) p q e = absurd (apart 116 104 refl (ap (λ t. get_or t 0 0) e))
one_of (Turn name) (Back other) p q e = absurd (apart 116 98 refl (ap (λ t. get_or t 0 0) e))
one_of (Turn name) (Turn other) p q e = let tails : name_text name ≡ name_text other = cc in ap Turn (one_name name other p q tails)

of_lines : (lines others : List Line) → All IsLine lines → All IsLine others → map whole_line lines ≡ map whole_line others → lines ≡ others
of_lines [] [] p q e = refl
of_lines [] (other ∷ others) p q e = absurd (cc)
of_lines (line ∷ lines) [] p q e = absurd (cc)
of_lines (line ∷ lines) (other ∷ others) p q e =
    let first : whole_line line ≡ whole_line other = cc in
    let later : map whole_line lines ≡ map whole_line others = cc in
    let is = p 0 line (omega arith) in
    let other_is = q 0 other (omega arith) in
    let same = one_of line other is other_is (one_text (line_text line) (line_text other) (one_line line is) (one_line other other_is) first) in
    let rest = of_lines lines others (λ k d lt. p (suc k) d (omega arith)) (λ k d lt. q (suc k) d (omega arith)) later in
    λ i. same i ∷ rest i

pub one : (lines others : List Line) → All IsLine lines → All IsLine others → text_of lines ≡ text_of others → lines ≡ others
one lines others p q e = of_lines lines others p q (sym (lines_of_text lines p) ∙ ap lines_of e ∙ lines_of_text others q)

-- ---- refusals
-- a schedule fits its own text at each line
fits_itself : (bytes : List ℕ) (lines : List Line) (count : ℕ) → IsTextOfSchedule lines bytes → FitsUpTo count bytes
fits_itself bytes lines count is = record { lines = lines; each = is.each; alike = ap (λ text. take count (lines_of text)) (sym is.spelled) }

pub not_refused : (bytes : List ℕ) (lines : List Line) (kind : LineKind) (line : ℕ) → IsTextOfSchedule lines bytes → schedule_refusal bytes kind line → ⊥
not_refused bytes lines BadLine line is refused = refused.2 (fits_itself bytes lines line is)
not_refused bytes lines TooLong line is refused = let short = is.short in let long = refused.0 in absurd (omega arith)

-- what fits in its first lines fits in fewer
fits_fewer : (bytes : List ℕ) (few many : ℕ) → few ≤ many → FitsUpTo many bytes → FitsUpTo few bytes
fits_fewer bytes few many le is = record {
  lines = is.lines;
  each = is.each;
  alike = sym (take-take few many (lines_of bytes) le) ∙ ap (take few) is.alike ∙ take-take few many (lines_of (text_of is.lines)) le;
}

no_later : (bytes : List ℕ) (line place : ℕ) → schedule_refusal bytes BadLine line → schedule_refusal bytes BadLine place → ¬ (line < place)
no_later bytes line place p q lt = p.2 (fits_fewer bytes line (place - 1) (omega arith) q.1)

pub one_refusal : (bytes : List ℕ) (kind other : LineKind) (line place : ℕ) → schedule_refusal bytes kind line → schedule_refusal bytes other place → (kind ≡ other) × (line ≡ place)
one_refusal bytes BadLine BadLine line place p q =
    let not_before : ¬ (line < place) = no_later bytes line place p q in
    let not_after : ¬ (place < line) = no_later bytes place line q p in
    (refl, omega arith)
one_refusal bytes BadLine TooLong line place p q = let short = p.0 in let long = q.0 in absurd (omega arith)
one_refusal bytes TooLong BadLine line place p q = let long = p.0 in let short = q.0 in absurd (omega arith)
one_refusal bytes TooLong TooLong line place p q = (refl, p.1 ∙ sym q.1)
