-- A text is that of one trace, and has one refusal, at most.
use Rattle.std.proofs.Common.{◌≡◌, ℕ, suc, true, ◌-◌, ◌<◌, ◌≤◌, List, [], ◌∷◌, ◌++◌, take, All, refl, sym, ap, ◌∙◌, arith, append_assoc, get_or}
use Rattle.std.specs.Fmt.{decimal}
use Rattle.std.specs.Prelude.{codes, ◌==◌, if◌then◌else◌}
use Rattle.std.proofs.lemmas.Fmt.{decimal_injective}
use Rattle.std.proofs.lemmas.List.{take-take}
use Rattle.value_core.specs.FaultCodes.{code_number}
use Rattle.value_core.specs.Name.{name_text}
use Rattle.value_core.specs.Place.{Spot}
use Rattle.value_core.specs.declared.code.Code.{Code}
use Rattle.value_core.specs.declared.code.Code.TheVariants as code
use Rattle.value_core.proofs.Names.{text_once}
use Rattle.serial_model.specs.declared.end.End.{End}
use Rattle.serial_model.specs.declared.end.End.TheVariants.{Done, Fault, Spent, UnitsSpent}
use Rattle.serial_model.specs.declared.entry.Entry.{Entry}
use Rattle.serial_model.specs.declared.entry.Entry.TheVariants.{Run, Take}
use Rattle.serial_model.specs.declared.trace.Trace.{Trace}
use Rattle.serial_model.specs.declared.trace.LineKind.{LineKind}
use Rattle.serial_model.specs.declared.trace.LineKind.TheVariants.{BadLine, TooLong}
use Rattle.serial_model.specs.Limits.{Budget, IsInRange}
use Rattle.serial_model.specs.Trace.{FitsUpTo, IsEnd, IsEntry, IsName, IsPlace, IsTextOfTrace, IsTrace, end_text, entry_text, limits_text, lines_of, place_text, trace_refusal, trace_text}
use Rattle.trace_text.specs.Cut.{is_without}
use Rattle.trace_text.specs.Same.{IsSameTrace}
use Rattle.trace_text.proofs.Cuts.{cut_once}
use Rattle.trace_text.proofs.Feeds.{end_one_line, entry_one_line, limits_one_line}
use Rattle.trace_text.proofs.LineShapes.{apart, three_joined}
use Rattle.trace_text.proofs.Passing.{end_line, entry_line, entry_lines, limits_line, lines_of_trace, not_end_line}
use Rattle.trace_text.proofs.Shapes.{code_small, codes_never_space, names_never_space, code_word, name_word, number_word, place_word, numbers_never_colon, numbers_never_space, place_is, places_never_space}

-- ---- words
pub one_name : (name other : List ℕ) → IsName name → IsName other → name_text name ≡ name_text other → name ≡ other
one_name name other p q e =
    text_once name other (name_text other) (record { not_empty = p.not_empty; in_range = p.in_range; spelled = e }) (record { not_empty = q.not_empty; in_range = q.in_range; spelled = refl })

-- two words that each other words follow
two_words : (a b c d : List ℕ) → is_without 32 a ≡ true → is_without 32 c ≡ true → (a ++ codes " ") ++ b ≡ (c ++ codes " ") ++ d → (a ≡ c) × (b ≡ d)
two_words a b c d p q e = cut_once 32 a b c d p q (sym (append_assoc a (codes " ") b) ∙ e ∙ append_assoc c (codes " ") d)

one_budget : (limits others : Budget) → IsInRange limits → IsInRange others → limits_text limits ≡ limits_text others → limits ≡ others
one_budget limits others p q e =
    let fuel = p.most_fuel in
    let fuels = q.most_fuel in
    let units = p.most_units in
    let unitss = q.most_units in
    let tails : (decimal limits.fuel ++ codes " ") ++ decimal limits.units ≡ (decimal others.fuel ++ codes " ") ++ decimal others.units = cc in
    let words = two_words (decimal limits.fuel) (decimal limits.units) (decimal others.fuel) (decimal others.units)
    (numbers_never_space (decimal limits.fuel) (number_word limits.fuel (omega arith))) (numbers_never_space (decimal others.fuel) (number_word others.fuel (omega arith))) tails in
    let same_fuel : limits.fuel ≡ others.fuel = decimal_injective limits.fuel others.fuel (omega arith) (omega arith) words.0 in
    let same_units : limits.units ≡ others.units = decimal_injective limits.units others.units (omega arith) (omega arith) words.1 in
    λ i. record { fuel = same_fuel i; units = same_units i }

one_place : (at other : Spot) → IsPlace at → IsPlace other → place_text at ≡ place_text other → at ≡ other
one_place at other p q e =
    let line = p.small_line in
    let lines = q.small_line in
    let column = p.small_column in
    let columns = q.small_column in
    let words = cut_once 58 (decimal at.line) (decimal at.column) (decimal other.line) (decimal other.column)
    (numbers_never_colon (decimal at.line) (number_word at.line line)) (numbers_never_colon (decimal other.line) (number_word other.line lines)) (sym (place_is at) ∙ e ∙ place_is other) in
    let same_line : at.line ≡ other.line = decimal_injective at.line other.line (omega arith) (omega arith) words.0 in
    let same_column : at.column ≡ other.column = decimal_injective at.column other.column (omega arith) (omega arith) words.1 in
    λ i. record { line = same_line i; column = same_column i }

-- the fault code at a position
abbrev pub code_at : ℕ → Code
code_at n =
    if n == 1 then code.WrongType
    else (if n == 2 then code.DivideByZero
    else (if n == 3 then code.Overflow
    else (if n == 4 then code.Index
    else (if n == 5 then code.NoTransaction
    else (if n == 6 then code.NoTurn
    else (if n == 7 then code.FutureEscapes
    else (if n == 8 then code.ForkTooDeep
    else (if n == 9 then code.TooDeep
    else code.MessageArity))))))))

pub code_at_number : (failed : Code) → code_at (code_number failed) ≡ failed
code_at_number code.WrongType = refl
code_at_number code.DivideByZero = refl
code_at_number code.Overflow = refl
code_at_number code.Index = refl
code_at_number code.NoTransaction = refl
code_at_number code.NoTurn = refl
code_at_number code.FutureEscapes = refl
code_at_number code.ForkTooDeep = refl
code_at_number code.TooDeep = refl
code_at_number code.MessageArity = refl

one_code : (failed other : Code) → decimal (code_number failed) ≡ decimal (code_number other) → failed ≡ other
one_code failed other e =
    let small = code_small failed in
    let smalls = code_small other in
    sym (code_at_number failed) ∙ ap code_at (decimal_injective (code_number failed) (code_number other) (omega arith) (omega arith) e) ∙ code_at_number other

-- ---- lines
one_entry : (entry other : Entry) → IsEntry entry → IsEntry other → entry_text entry ≡ entry_text other → entry ≡ other
one_entry (Run unit) (Run name) p q e = let tails : name_text unit ≡ name_text name = cc in ap Run (one_name unit name p q tails)
one_entry (Run unit) (Take actor sender) p q e = absurd (apart 114 116 refl (ap (λ t. get_or t 0 0) e))
one_entry (Take actor sender) (Run unit) p q e = absurd (apart 116 114 refl (ap (λ t. get_or t 0 0) e))
one_entry (Take actor sender) (Take name from) p q e =
    let tails : (name_text actor ++ codes " ") ++ name_text sender ≡ (name_text name ++ codes " ") ++ name_text from = cc in
    let words = two_words (name_text actor) (name_text sender) (name_text name) (name_text from) (names_never_space (name_text actor) (name_word actor p.0)) (names_never_space (name_text name) (name_word name q.0)) tails in
    λ i. Take (one_name actor name p.0 q.0 words.0 i) (one_name sender from p.1 q.1 words.1 i)

one_fault : (failed other : Code) (at place : Spot) (unit name : List ℕ) → IsPlace at → IsPlace place → IsName unit → IsName name → end_text (Fault failed at unit) ≡ end_text (Fault other place name) → Fault failed at unit ≡ Fault other place name
one_fault failed other at place unit name p q r s e =
    let tails : (((decimal (code_number failed) ++ codes " ") ++ place_text at) ++ codes " ") ++ name_text unit ≡ (((decimal (code_number other) ++ codes " ") ++ place_text place) ++ codes " ") ++ name_text name = cc in
    let joined = sym (three_joined (decimal (code_number failed)) (place_text at) (name_text unit)) ∙ tails ∙ three_joined (decimal (code_number other)) (place_text place) (name_text name) in
    let first = cut_once 32 (decimal (code_number failed)) (place_text at ++ 32 ∷ name_text unit) (decimal (code_number other)) (place_text place ++ 32 ∷ name_text name)
    (codes_never_space (decimal (code_number failed)) (code_word failed)) (codes_never_space (decimal (code_number other)) (code_word other)) joined in
    let second = cut_once 32 (place_text at) (name_text unit) (place_text place) (name_text name) (places_never_space (place_text at) (place_word at p)) (places_never_space (place_text place) (place_word place q)) first.1 in
    let same_code = one_code failed other first.0 in
    let same_place = one_place at place p q second.0 in
    let same_name = one_name unit name r s second.1 in
    λ i. Fault (same_code i) (same_place i) (same_name i)

one_end : (end other : End) → IsEnd end → IsEnd other → end_text end ≡ end_text other → end ≡ other
one_end Done Done p q e = refl
one_end Done (Fault other place name) p q e = absurd (apart 100 102 refl (ap (λ t. get_or t 4 0) e))
one_end Done (Spent name) p q e = absurd (apart 100 115 refl (ap (λ t. get_or t 4 0) e))
one_end Done UnitsSpent p q e = absurd (apart 100 117 refl (ap (λ t. get_or t 4 0) e))
one_end (Fault failed at unit) Done p q e = absurd (apart 102 100 refl (ap (λ t. get_or t 4 0) e))
one_end (Fault failed at unit) (Fault other place name) p q e = one_fault failed other at place unit name p.0 q.0 p.1 q.1 e
one_end (Fault failed at unit) (Spent name) p q e = absurd (apart 102 115 refl (ap (λ t. get_or t 4 0) e))
one_end (Fault failed at unit) UnitsSpent p q e = absurd (apart 102 117 refl (ap (λ t. get_or t 4 0) e))
one_end (Spent unit) Done p q e = absurd (apart 115 100 refl (ap (λ t. get_or t 4 0) e))
one_end (Spent unit) (Fault other place name) p q e = absurd (apart 115 102 refl (ap (λ t. get_or t 4 0) e))
one_end (Spent unit) (Spent name) p q e = let tails : name_text unit ≡ name_text name = cc in ap Spent (one_name unit name p q tails)
one_end (Spent unit) UnitsSpent p q e = absurd (apart 115 117 refl (ap (λ t. get_or t 4 0) e))
one_end UnitsSpent Done p q e = absurd (apart 117 100 refl (ap (λ t. get_or t 4 0) e))
one_end UnitsSpent (Fault other place name) p q e = absurd (apart 117 102 refl (ap (λ t. get_or t 4 0) e))
one_end UnitsSpent (Spent name) p q e = absurd (apart 117 115 refl (ap (λ t. get_or t 4 0) e))
one_end UnitsSpent UnitsSpent p q e = refl

-- a line is that of one text
pub one_text : (text other : List ℕ) → is_without 10 text ≡ true → is_without 10 other ≡ true → text ++ codes "\n" ≡ other ++ codes "\n" → text ≡ other
one_text text other p q e = (cut_once 10 text [] other [] p q e).0

one_body : (entries others : List Entry) (end other : End) → All IsEntry entries → All IsEntry others → IsEnd end → IsEnd other
    → entry_lines entries ++ end_line end ∷ [] ≡ entry_lines others ++ end_line other ∷ [] → (entries ≡ others) × (end ≡ other)
one_body [] [] end other p q r s e =
    let lines : end_line end ≡ end_line other = cc in
    (refl, one_end end other r s (one_text (end_text end) (end_text other) (end_one_line end r) (end_one_line other s) lines))
one_body [] (y ∷ others) end other p q r s e = let lines : entry_line y ≡ end_line end = cc in absurd (not_end_line y end lines)
one_body (x ∷ entries) [] end other p q r s e = let lines : entry_line x ≡ end_line other = cc in absurd (not_end_line x other lines)
one_body (x ∷ entries) (y ∷ others) end other p q r s e =
    let lines : entry_line x ≡ entry_line y = cc in
    let later : entry_lines entries ++ end_line end ∷ [] ≡ entry_lines others ++ end_line other ∷ [] = cc in
    let is_x = p 0 x (omega arith) in
    let is_y = q 0 y (omega arith) in
    let first = one_entry x y is_x is_y (one_text (entry_text x) (entry_text y) (entry_one_line x is_x) (entry_one_line y is_y) lines) in
    let rest = one_body entries others end other (λ k d lt. p (suc k) d (omega arith)) (λ k d lt. q (suc k) d (omega arith)) r s later in
    ((λ i. first i ∷ rest.0 i), rest.1)

pub one_trace_of : (t u : Trace) → IsTrace t → IsTrace u → trace_text t ≡ trace_text u → IsSameTrace t u
one_trace_of t u p q e =
    let same = sym (lines_of_trace t p) ∙ ap lines_of e ∙ lines_of_trace u q in
    let limits : limits_line t.limits ≡ limits_line u.limits = cc in
    let body : entry_lines t.history.items ++ end_line t.end ∷ [] ≡ entry_lines u.history.items ++ end_line u.end ∷ [] = cc in
    let found = one_body t.history.items u.history.items t.end u.end p.entries q.entries p.end q.end body in
    record {
      limits = one_budget t.limits u.limits p.limits q.limits (one_text (limits_text t.limits) (limits_text u.limits) (limits_one_line t.limits p.limits) (limits_one_line u.limits q.limits) limits);
      entries = found.0;
      end = found.1;
    }

-- ---- refusals
-- a trace fits its own text at each line
fits_itself : (bytes : List ℕ) (t : Trace) (count : ℕ) → IsTextOfTrace t bytes → FitsUpTo count bytes
fits_itself bytes t count is = record { trace = t; is_trace = is.is_trace; alike = ap (λ text. take count (lines_of text)) (sym is.spelled) }

pub not_refused : (bytes : List ℕ) (t : Trace) (kind : LineKind) (line : ℕ) → IsTextOfTrace t bytes → trace_refusal bytes kind line → ⊥
not_refused bytes t BadLine line is refused = refused.2 (fits_itself bytes t line is)
not_refused bytes t TooLong line is refused = let short = is.short in let long = refused.0 in absurd (omega arith)

-- what fits in its first lines fits in fewer
fits_fewer : (bytes : List ℕ) (few many : ℕ) → few ≤ many → FitsUpTo many bytes → FitsUpTo few bytes
fits_fewer bytes few many le is = record {
  trace = is.trace;
  is_trace = is.is_trace;
  alike = sym (take-take few many (lines_of bytes) le) ∙ ap (take few) is.alike ∙ take-take few many (lines_of (trace_text is.trace)) le;
}

no_later : (bytes : List ℕ) (line place : ℕ) → trace_refusal bytes BadLine line → trace_refusal bytes BadLine place → ¬ (line < place)
no_later bytes line place p q lt = p.2 (fits_fewer bytes line (place - 1) (omega arith) q.1)

same_line : (bytes : List ℕ) (line place : ℕ) → trace_refusal bytes BadLine line → trace_refusal bytes BadLine place → line ≡ place
same_line bytes line place p q =
    let not_before : ¬ (line < place) = no_later bytes line place p q in
    let not_after : ¬ (place < line) = no_later bytes place line q p in
    omega arith

pub one_refusal : (bytes : List ℕ) (kind other : LineKind) (line place : ℕ) → trace_refusal bytes kind line → trace_refusal bytes other place → (kind ≡ other) × (line ≡ place)
one_refusal bytes BadLine BadLine line place p q = (refl, same_line bytes line place p q)
one_refusal bytes BadLine TooLong line place p q = let short = p.0 in let long = q.0 in absurd (omega arith)
one_refusal bytes TooLong BadLine line place p q = let long = p.0 in let short = q.0 in absurd (omega arith)
one_refusal bytes TooLong TooLong line place p q = (refl, p.1 ∙ sym q.1)
