-- Each text is a schedule's or is refused.
use Rattle.std.proofs.Common.{◌≡◌, ℕ, zero, suc, ◌+◌, ◌<◌, ◌≤◌, true, List, [], ◌∷◌, ◌++◌, length, refl, arith, ◌⊎◌, inl, inr, sym, ap, subst}
use Rattle.std.specs.Prelude.{codes}
use Rattle.serial_model.specs.declared.trace.LineKind.{LineKind}
use Rattle.serial_model.specs.declared.trace.LineKind.TheVariants.{BadLine, TooLong}
use Rattle.schedule_text.specs.declared.line.Line.{Line}
use Rattle.schedule_text.specs.declared.line.Line.TheVariants.{Back, Go, Hold, Turn}
use Rattle.schedule_text.specs.Schedule.{IsTextOfLine, IsTextOfSchedule, schedule_limit, schedule_refusal}
use Rattle.schedule_text.proofs.Passing.{Passed, none_leads, none_leads_uncut, passed_more, passed_none, refused_here, taken}
use Rattle.schedule_text.proofs.Shapes.{IsNoLine, is_named, no_back, no_go, no_hold, no_other, no_turn}
use Rattle.trace_text.specs.Cut.{is_without}
use Rattle.trace_text.proofs.Cuts.{length_cut}
use Rattle.trace_text.proofs.Deciding.{Begins, Either, Parts, begins, is_cut, is_less, is_name, is_same}
use Rattle.trace_text.proofs.Shapes.{IsNameWord}

-- the bytes are some schedule's text, or they are refused
abbrev pub Settled : List ℕ → Type 0
Settled bytes = ((lines : List Line) × IsTextOfSchedule lines bytes) ⊎ ((kind : LineKind) × (line : ℕ) × schedule_refusal bytes kind line)

-- ---- a line
-- the text is a line's, or no line's
pub data Found (text : List ℕ) : Type 0 where
  a_line : (line : Line) → IsTextOfLine line text → Found text
  none : IsNoLine text → Found text

go_of : (word : List ℕ) → Either (IsNameWord word) → Found (codes "go " ++ word)
go_of word (inl w) = a_line (Go w.name) (record { is_line = is_named w.name word w.is; spelled = ap (λ t. codes "go " ++ t) w.is.spelled })
go_of word (inr other) = none (no_go word (λ name is. other (record { name = name; is = is })))

hold_of : (word : List ℕ) → Either (IsNameWord word) → Found (codes "hold " ++ word)
hold_of word (inl w) = a_line (Hold w.name) (record { is_line = is_named w.name word w.is; spelled = ap (λ t. codes "hold " ++ t) w.is.spelled })
hold_of word (inr other) = none (no_hold word (λ name is. other (record { name = name; is = is })))

back_of : (word : List ℕ) → Either (IsNameWord word) → Found (codes "back " ++ word)
back_of word (inl w) = a_line (Back w.name) (record { is_line = is_named w.name word w.is; spelled = ap (λ t. codes "back " ++ t) w.is.spelled })
back_of word (inr other) = none (no_back word (λ name is. other (record { name = name; is = is })))

turn_of : (word : List ℕ) → Either (IsNameWord word) → Found (codes "turn " ++ word)
turn_of word (inl w) = a_line (Turn w.name) (record { is_line = is_named w.name word w.is; spelled = ap (λ t. codes "turn " ++ t) w.is.spelled })
turn_of word (inr other) = none (no_turn word (λ name is. other (record { name = name; is = is })))

line_from : (text : List ℕ) → Either (Begins (codes "go ") text) → Either (Begins (codes "hold ") text) → Either (Begins (codes "back ") text) → Either (Begins (codes "turn ") text) → Found text
line_from text (inl go) hold back turn = subst Found (sym go.joined) (go_of go.rest (is_name go.rest))
line_from text (inr not_go) (inl hold) back turn = subst Found (sym hold.joined) (hold_of hold.rest (is_name hold.rest))
line_from text (inr not_go) (inr not_hold) (inl back) turn = subst Found (sym back.joined) (back_of back.rest (is_name back.rest))
line_from text (inr not_go) (inr not_hold) (inr not_back) (inl turn) = subst Found (sym turn.joined) (turn_of turn.rest (is_name turn.rest))
line_from text (inr not_go) (inr not_hold) (inr not_back) (inr not_turn) = none (no_other text (record {
  not_go = λ rest e. not_go (record { rest = rest; joined = e });
  not_hold = λ rest e. not_hold (record { rest = rest; joined = e });
  not_back = λ rest e. not_back (record { rest = rest; joined = e });
  not_turn = λ rest e. not_turn (record { rest = rest; joined = e });
}))

is_line : (text : List ℕ) → Found text
is_line text = line_from text (begins (codes "go ") text) (begins (codes "hold ") text) (begins (codes "back ") text) (begins (codes "turn ") text)

-- ---- all lines
-- what is known of the bytes whose first lines are read, where the rest is so long at most
abbrev Rest : ℕ → List ℕ → Type 0
Rest bound bytes = (lines : List Line) (rest : List ℕ) → length rest < bound → Passed bytes lines rest → Settled bytes

one_more : (bound : ℕ) (bytes : List ℕ) (lines : List Line) (rest : List ℕ) (parts : Parts 10 rest) → length bytes ≤ schedule_limit → Rest bound bytes → length rest < suc bound → Passed bytes lines rest
    → Found parts.before → Settled bytes
one_more bound bytes lines rest parts short later within passed (a_line line is) =
    later (lines ++ line ∷ []) parts.after (let less = length_cut 10 rest parts.before parts.after parts.cut in omega arith) (passed_more bytes lines rest parts.before parts.after line passed parts.cut is)
one_more bound bytes lines rest parts short later within passed (none no_line) =
    inr (BadLine, 1 + length lines, refused_here bytes lines rest (1 + length lines) short passed (none_leads rest parts.before parts.after parts.cut no_line) refl)

last : (bytes : List ℕ) (lines : List Line) (rest : List ℕ) → length bytes ≤ schedule_limit → Passed bytes lines rest → is_without 10 rest ≡ true → Either (rest ≡ []) → Settled bytes
last bytes lines rest short passed without (inl over) = inl (lines, taken bytes lines rest short passed over)
last bytes lines rest short passed without (inr some) =
    inr (BadLine, 1 + length lines, refused_here bytes lines rest (1 + length lines) short passed (none_leads_uncut rest some without) refl)

cut_line : (bound : ℕ) (bytes : List ℕ) (lines : List Line) (rest : List ℕ) → length bytes ≤ schedule_limit → Rest bound bytes → length rest < suc bound → Passed bytes lines rest
    → Parts 10 rest ⊎ (is_without 10 rest ≡ true) → Settled bytes
cut_line bound bytes lines rest short later within passed (inl parts) = one_more bound bytes lines rest parts short later within passed (is_line parts.before)
cut_line bound bytes lines rest short later within passed (inr without) = last bytes lines rest short passed without (is_same rest [])

lines_from : (bound : ℕ) (bytes : List ℕ) → length bytes ≤ schedule_limit → Rest bound bytes
lines_from zero bytes short lines rest within passed = absurd (omega arith)
lines_from (suc bound) bytes short lines rest within passed = cut_line bound bytes lines rest short (lines_from bound bytes short) within passed (is_cut 10 rest)

by_length : (bytes : List ℕ) → Either (schedule_limit < length bytes) → Settled bytes
by_length bytes (inl long) = inr (TooLong, 1, (long, refl))
by_length bytes (inr not_long) = lines_from (suc (length bytes)) bytes (omega arith) [] bytes (omega arith) (passed_none bytes)

pub every : (bytes : List ℕ) → Settled bytes
every bytes = by_length bytes (is_less schedule_limit (length bytes))
